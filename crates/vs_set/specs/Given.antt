-- A member that gets another attribute.
--     IsGiven at old new id text had has      whether it had one, and whether it has one now
use Rattle.std.specs.Prelude.{◌≡◌, ◌+◌, ℕ, Bool, List, None, is_some}
use Rattle.std.specs.declared.option.Option.{Option}
use Rattle.vs_defs.specs.Bytes.{Bytes}
use Rattle.vs_defs.specs.PlainStep.{attr_after, with_attr}
use Rattle.vs_graph.specs.declared.node.Node.{Node}
use Rattle.vs_graph.specs.Seen.{Seen}
use Rattle.vs_graph.specs.Standing.{AreIds, member_at, members_of, name_of, wiring_of}
use Rattle.vs_set.specs.Kept.{attribute_count, one_if}

-- for any order of the ids; names and links stay
pub record IsGiven {N : Type 0} (at : N → ℕ → Option Node) (old new : Seen N) (id : ℕ) (text : Option Bytes) (had has : Bool) : Type 0 where
  pub names : (q : ℕ) → name_of (at new.nodes) q ≡ name_of (at old.nodes) q
  pub ids : (all : List ℕ) → AreIds (at old.nodes) all → AreIds (at new.nodes) all
  pub members : (all : List ℕ) → AreIds (at old.nodes) all → members_of (at new.nodes) old.dim all ≡ with_attr (name_of (at old.nodes) id) (attr_after text None) (members_of (at old.nodes) old.dim all)
  pub had_is : had ≡ is_some (member_at (at old.nodes) old.dim id).attr
  pub counted : (all : List ℕ) → AreIds (at old.nodes) all → attribute_count (members_of (at new.nodes) old.dim all) + one_if had ≡ attribute_count (members_of (at old.nodes) old.dim all) + one_if has
  pub wiring : (all : List ℕ) → wiring_of (at new.nodes) new.entry all ≡ wiring_of (at old.nodes) old.entry all
  pub m : new.m ≡ old.m
  pub dim : new.dim ≡ old.dim
