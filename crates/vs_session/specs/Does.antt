-- What a machine does with a request: a call of an author at what is known of the history, and what is known after it.
use Rattle.std.specs.Prelude.{ℕ, List}
use Rattle.vs_defs.specs.Request.{Request}
use Rattle.vs_defs.specs.Reply.{Outcome}
use Rattle.vs_connection.specs.Stage.{CallOn}

pub record Does {H : Type 0} (call : CallOn H) (k : ℕ) (knows : H → Type 0) (h : H) (r : Request) (words : List ℕ) (o : Outcome) : Type 0 where
  pub history : H
  pub called : call k h r words o history
  pub known : knows history
