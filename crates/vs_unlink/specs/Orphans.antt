-- Members that a removal leaves without a link, layer by layer.
use Rattle.std.specs.Prelude.{◌≡◌, ◌≢◌, ◌<◌, ◌⊎◌, ℕ, Option, ◌+◌, ◌==◌, List, [], ◌++◌, map, filter, length, Contains}
use Rattle.vs_defs.specs.Bytes.{Bytes}
use Rattle.vs_graph.specs.declared.node.Node.{Node}
use Rattle.vs_graph.specs.Bodies.{Bodies}
use Rattle.vs_defs.specs.Removal.{orphans}
use Rattle.vs_graph.specs.Good.{links_at, StandsAt, AreLinksGood}
use Rattle.vs_graph.specs.Standing.{AreIds, name_of, named_links, set_of}
use Rattle.vs_graph.specs.Table.{Table, without}
use Rattle.vs_unlink.specs.declared.Orphan.{Orphan}
use Rattle.vs_unlink.specs.Named.{AreByName}

-- those of the former neighbours that have no link, by name
abbrev pub AreAlone : Bodies → Table → List ℕ → List ℕ → Type 0
AreAlone bodies t former alone = AreByName bodies (filter (λ y. length (t y) == 0) former) alone

abbrev pub at_layer : ℕ → List ℕ → List Orphan
at_layer layer ids = map (λ y. record { layer = layer; id = y }) ids

-- the orphans of the layers below `count` down to one
pub data Lists (bodies : Bodies) (tables : ℕ → Table) (former : ℕ → List ℕ) (count : ℕ) : ℕ → List Orphan → Type 0 where
  none : Lists bodies tables former count count []
  next : (n : ℕ) (os : List Orphan) (ids : List ℕ) → Lists bodies tables former count (n + 1) os → AreAlone bodies (tables n) (former n) ids → Lists bodies tables former count n (os ++ at_layer n ids)

-- one that is left at its layer, and has no link there
pub record IsLeftAlone (now : ℕ → Option Node) (orphan : Orphan) : Type 0 where
  pub stands : StandsAt now orphan.layer orphan.id
  pub free : links_at now orphan.layer orphan.id ≡ []

-- an orphan by its layer and its name in the graph before
abbrev pub named_orphan : (ℕ → Option Node) → Orphan → ℕ × Bytes
named_orphan at orphan = (orphan.layer, name_of at orphan.id)

-- those that are listed are, by layers and names and in their order, the definitions' orphans
abbrev pub ListsByNames : (ℕ → Option Node) → (ℕ → Option Node) → ℕ → List Orphan → Type 0
ListsByNames at new x all =
    (entry : Option ℕ) (m dim cut : ℕ) (ids : List ℕ) → AreLinksGood at m dim → AreIds at ids
    → map (named_orphan at) all ≡ orphans (set_of at entry m dim cut ids) (name_of at x) (named_links new (without x ids))

-- but for x, whoever had a link at a layer has one left there, or is listed
abbrev pub KeepsLinkedBut : (ℕ → Option Node) → (ℕ → Option Node) → ℕ → List Orphan → Type 0
KeepsLinkedBut at new x all =
    (layer y : ℕ) → y ≢ x → 0 < length (links_at at layer y) → (0 < length (links_at new layer y)) ⊎ Contains all (record { layer = layer; id = y })
