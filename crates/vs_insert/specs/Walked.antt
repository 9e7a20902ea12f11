-- What the turns of some orphans leave, one after the other.
use Rattle.std.specs.Prelude.{◌≡◌, ◌≢◌, ◌<◌, ℕ, List, ◌++◌, length, map, Some, All}
use Rattle.std.specs.declared.option.Option.{Option}
use Rattle.vs_defs.specs.Bytes.{Bytes}
use Rattle.vs_graph.specs.declared.node.Node.{Node}
use Rattle.vs_graph.specs.Good.{links_at, StandsAt, AreLinksGood}
use Rattle.vs_graph.specs.GoodTable.{KeepsLinked}
use Rattle.vs_graph.specs.Standing.{AreIds, name_of, named_links, set_of}
use Rattle.vs_graph.specs.Table.{without}
use Rattle.vs_unlink.specs.declared.Orphan.{Orphan}
use Rattle.vs_unlink.specs.Orphans.{named_orphan}
use Rattle.vs_unlink.specs.Unlinked.{bare, IsWithout}
use Rattle.vs_insert.specs.Walking.{Walking}

-- an orphan has a link where another stands
abbrev pub IsSettled : (left now : ℕ → Option Node) → Orphan → Type 0
IsSettled left now o = (z : ℕ) → z ≢ o.id → StandsAt left o.layer z → 0 < length (links_at now o.layer o.id)

pub record IsWalked (at left now : ℕ → Option Node) (top : Option ℕ) (m dim entry : ℕ) (orphans : List Orphan) : Type 0 where
  pub rest : (id : ℕ) → bare (now id) ≡ bare (left id)
  pub good : AreLinksGood now m dim
  pub kept : (l : ℕ) → KeepsLinked (links_at left l) (links_at now l)
  pub settled : All (IsSettled left now) orphans
  -- the definitions' walk goes on after them
  pub walks : (x cut : ℕ) (ids : List ℕ) (former os : List (ℕ × Bytes)) → AreLinksGood at m dim → AreIds at ids → IsWithout at left x
      → Walking (set_of at top m dim cut ids) (name_of at x) (Some (name_of at entry)) (named_links left (without x ids)) former (named_links left (without x ids)) (map (named_orphan at) orphans ++ os)
      → Walking (set_of at top m dim cut ids) (name_of at x) (Some (name_of at entry)) (named_links left (without x ids)) former (named_links now (without x ids)) os
