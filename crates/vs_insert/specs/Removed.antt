-- A whole removal by names, and what its first step leaves.
use Rattle.std.specs.Prelude.{ℕ, List, All}
use Rattle.std.specs.declared.option.Option.{Option}
use Rattle.vs_defs.specs.Removal.{Removes}
use Rattle.vs_graph.specs.declared.node.Node.{Node}
use Rattle.vs_graph.specs.Good.{AreLinksGood}
use Rattle.vs_graph.specs.Standing.{AreIds, name_of, set_of, wiring_of}
use Rattle.vs_unlink.specs.declared.Orphan.{Orphan}
use Rattle.vs_unlink.specs.Orphans.{IsLeftAlone, KeepsLinkedBut, ListsByNames}
use Rattle.vs_unlink.specs.Unlinked.{IsWithout, UnlinksByNames}

-- x is out, its former neighbours are paired, and these are left alone
pub record IsUnlinked (at left : ℕ → Option Node) (m dim x : ℕ) (orphans : List Orphan) : Type 0 where
  pub gone : IsWithout at left x
  pub good : AreLinksGood left m dim
  pub alone : All (IsLeftAlone left) orphans
  pub unlinks : UnlinksByNames at left x
  pub named : ListsByNames at left x orphans
  pub kept : KeepsLinkedBut at left x orphans

-- x is removed as the definitions say, whatever the order of the members before and after
abbrev pub RemovesByNames : (at new : ℕ → Option Node) → (entry after : Option ℕ) → (m dim x : ℕ) → Type 0
RemovesByNames at new entry after m dim x =
    (cut : ℕ) (ids all : List ℕ) → AreIds at ids → AreIds new all → Removes (set_of at entry m dim cut ids) (name_of at x) (wiring_of new after all)
