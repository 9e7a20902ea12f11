-- Where a server is: what its machine knows of the history, and that its next words are drawn from a generator.
use Rattle.std.specs.Prelude.{◌≡◌}
use Rattle.rand_pcg.specs.Lcg.{Lcg}

pub record After {H : Type 0} (knows : H → Type 0) (generator : Lcg) (h : H) (g : Lcg) : Type 0 where
  pub known : knows h
  pub words : generator ≡ g
