-- Where a handler is between two messages: what is known of the history, and the generator of its next words.
use Rattle.rand_pcg.specs.Lcg.{Lcg}

pub record Point (H : Type 0) : Type 0 where
  pub history : H
  pub generator : Lcg
