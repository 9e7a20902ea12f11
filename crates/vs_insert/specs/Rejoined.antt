-- How one that a removal left alone is joined again.
use Rattle.std.specs.Prelude.{◌≡◌, ◌≢◌, ◌<◌, ◌==◌, ℕ, not, ◌&&◌, is_some, List, [], length, filter, Some}
use Rattle.std.specs.declared.option.Option.{Option}
use Rattle.vs_defs.specs.Removal as rules
use Rattle.vs_graph.specs.declared.node.Node.{Node}
use Rattle.vs_graph.specs.Good.{body_at, links_at, layers_at, most_links, StandsAt, AreLinksGood, IsEntry}
use Rattle.vs_graph.specs.GoodTable.{KeepsLinked}
use Rattle.vs_graph.specs.Bodies.{words_at}
use Rattle.vs_graph.specs.Relinks.{Relinks}
use Rattle.vs_graph.specs.Standing.{AreIds, name_of, named_links, set_of}
use Rattle.vs_graph.specs.Table.{without}
use Rattle.vs_rank.specs.declared.Key.{Key}
use Rattle.vs_link.specs.Linked.{linked, AreChosen}
use Rattle.vs_link.specs.Selected.{selected}
use Rattle.vs_beam.specs.Beam.{IsBeam}
use Rattle.vs_unlink.specs.Unlinked.{IsWithout}
use Rattle.vs_insert.specs.Choosing.{everyone}
use Rattle.vs_insert.specs.Height.{IsHighestBelow}

-- another than the orphan stands at its layer
abbrev pub HasAnother : (ℕ → Option Node) → ℕ → ℕ → Type 0
HasAnother at layer y = (z : ℕ) × (z ≢ y) × StandsAt at layer z

-- what an orphan's joining wants: a member was taken out, the links that are left are good, and y, without a link at a layer where another stands, is one of those left
pub record CanRejoin (at now : ℕ → Option Node) (m dim entry layer y : ℕ) : Type 0 where
  pub without : (x : ℕ) × IsWithout at now x
  pub links : AreLinksGood now m dim
  pub top : IsEntry now (Some entry)
  pub stands : StandsAt now layer y
  pub free : links_at now layer y ≡ []
  pub another : HasAnother now layer y

-- what was found, without those that are gone and without y
abbrev pub others_of : (ℕ → Option Node) → ℕ → List Key → List Key
others_of now y found = filter (λ (key : Key). is_some (now key.id) && not (key.id == y)) found

-- the beam of an orphan y starts at the entry, or where that is y, at the highest of the others
pub record IsStart (now : ℕ → Option Node) (entry y start : ℕ) : Type 0 where
  pub at_entry : entry ≢ y → start ≡ entry
  pub at_highest : entry ≡ y → (count : ℕ) → IsHighestBelow now y count (Some start)

-- whom an orphan is joined to: the choice of what a beam of width 200 found in the graph before
pub record IsOrphansChoice (at now : ℕ → Option Node) (m entry layer y : ℕ) (chosen : List ℕ) : Type 0 where
  pub start : ℕ
  pub starts : IsStart now entry y start
  pub tried : List ℕ
  pub expanded : List ℕ
  pub found : List Key
  pub beam : IsBeam at layer start (words_at (body_at now) y) 200 0 everyone tried expanded found
  pub are : chosen ≡ selected (body_at at) m (others_of now y found)
  pub may : AreChosen (layers_at now) layer m y chosen
  pub some : 0 < length chosen

-- The orphan is joined to its choice. The links stay good, and nobody who had a link is left without one.
pub record IsRejoined (at now new : ℕ → Option Node) (m dim entry layer y : ℕ) : Type 0 where
  pub chosen : List ℕ
  pub choice : IsOrphansChoice at now m entry layer y chosen
  pub joined : Relinks now new layer (linked (body_at now) (most_links m layer) (links_at now layer) y chosen (Some entry))
  pub good : AreLinksGood new m dim
  pub kept : KeepsLinked (links_at now layer) (links_at new layer)
  pub own : 0 < length (links_at new layer y)

-- The same by names, as the definitions say it of the set before and of the links without x. It holds whatever the order of the members.
abbrev pub RejoinsByNames : (at now new : ℕ → Option Node) (top : Option ℕ) (m dim entry layer y : ℕ) → Type 0
RejoinsByNames at now new top m dim entry layer y =
    (x cut : ℕ) (ids : List ℕ) → AreIds at ids → IsWithout at now x
    → rules.Rejoins (set_of at top m dim cut ids) (name_of at x) (Some (name_of at entry)) (named_links now (without x ids)) layer (name_of at y) (named_links new (without x ids))
