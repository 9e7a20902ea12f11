-- A member that is taken out of a graph and added again.
--     IsOut at old left x                        it is out, and the links are those of the definitions' removal
--     IsReplaced at old new x add level had has      it is added again, by a VADD
use Rattle.std.specs.Prelude.{◌≡◌, ℕ, Bool, IsSomeAnd, is_some}
use Rattle.std.specs.declared.option.Option.{Option}
use Rattle.vs_defs.specs.Request.{Add}
use Rattle.vs_graph.specs.declared.node.Node.{Node}
use Rattle.vs_graph.specs.declared.node.Attr.{Attr}
use Rattle.vs_graph.specs.Good.{IsGood}
use Rattle.vs_graph.specs.Seen.{Seen}
use Rattle.vs_insert.specs.Removed.{RemovesByNames}
use Rattle.vs_unlink.specs.Unlinked.{IsWithout}
use Rattle.vs_set.specs.Grown.{IsGrown, text_of}

pub record IsOut {N : Type 0} (at : N → ℕ → Option Node) (old left : Seen N) (x : ℕ) : Type 0 where
  pub gone : IsWithout (at old.nodes) (at left.nodes) x
  pub removes : RemovesByNames (at old.nodes) (at left.nodes) old.entry left.entry old.m old.dim x
  pub before : IsGood (at old.nodes) old.entry old.m old.dim
  pub m : left.m ≡ old.m
  pub dim : left.dim ≡ old.dim

pub record IsReplaced {N : Type 0} (at : N → ℕ → Option Node) (old new : Seen N) (x : ℕ) (add : Add) (level : ℕ) (had has : Bool) : Type 0 where
  pub left : Seen N
  pub attr : Option Attr
  pub was : IsSomeAnd (at old.nodes x) (λ node. attr ≡ node.attr)
  pub had_is : had ≡ is_some attr
  pub out : IsOut at old left x
  pub grown : IsGrown at left new x add (text_of attr) level has
