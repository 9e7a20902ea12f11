-- Pairs of former neighbours by their places in the order of names. `ranked` has the ids in that order, and `places` the node at each place.
use Rattle.std.specs.Borrow.{Bor}
use Rattle.std.specs.Prelude.{◌≡◌, ◌<◌, ℕ, Bool, false, nat_eq, List, map, length, slice_get, slice_index, unwrap_or, Some, None, Contains}
use Rattle.std.specs.List.{list_any}
use Rattle.std.specs.declared.option.Option.{Option}
use Rattle.vs_graph.specs.declared.node.Node.{Node}
use Rattle.vs_graph.specs.Bodies.{Bodies, gap}
use Rattle.vs_graph.specs.Good.{body_at, links_at}
use Rattle.vs_graph.specs.Table.{Table, is_in}
use Rattle.vs_unlink.specs.declared.Pair.{Pair}
use Rattle.vs_unlink.specs.declared.pairs.Candidate.{Candidate}

abbrev pub pair_at : List ℕ → Candidate → Pair
pair_at ranked c = record { one = slice_index ranked c.one; other = slice_index ranked c.other }

-- both places are there
pub record IsWithin (ranked : List ℕ) (c : Candidate) : Type 0 where
  pub one : c.one < length ranked
  pub other : c.other < length ranked

-- ---- by ids

-- an unlinked pair with its distance, the lesser name first
pub record IsCandidate (bodies : Bodies) (t : Table) (ranked : List ℕ) (c : Candidate) : Type 0 where
  pub order : c.one < c.other
  pub within : c.other < length ranked
  pub dist : c.dist ≡ gap bodies (slice_index ranked c.one) (slice_index ranked c.other)
  pub unlinked : is_in t (slice_index ranked c.one) (slice_index ranked c.other) ≡ false

-- the pairs of all places below one with later ones are there, but for the linked
abbrev pub HasPairsBelow : Table → List ℕ → ℕ → List Pair → Type 0
HasPairsBelow t ranked one pairs =
    (a : ℕ) → a < one → (b : ℕ) → a < b → b < length ranked → is_in t (slice_index ranked a) (slice_index ranked b) ≡ false
    → Contains pairs (record { one = slice_index ranked a; other = slice_index ranked b })

-- ---- by the nodes at the places

abbrev pub some_now : Bor Node → Option Node
some_now node = Some node.now

-- the node at a place of a list, none past its end
abbrev pub node_in : List (Bor Node) → ℕ → Option Node
node_in nodes place = unwrap_or (slice_get (map some_now nodes) place) None

-- whether the node at one place is linked to the id at another
abbrev pub has_link : (ℕ → Option Node) → ℕ → List ℕ → ℕ → ℕ → Bool
has_link places layer ranked a b = list_any (nat_eq (slice_index ranked b)) (links_at places layer a)

pub record IsPlaced (places : ℕ → Option Node) (layer : ℕ) (ranked : List ℕ) (c : Candidate) : Type 0 where
  pub order : c.one < c.other
  pub within : c.other < length ranked
  pub dist : c.dist ≡ gap (body_at places) c.one c.other
  pub unlinked : has_link places layer ranked c.one c.other ≡ false

-- the pairs of a place with the later ones below another are there, but for the linked
abbrev pub HasPlacedOf : (ℕ → Option Node) → ℕ → List ℕ → ℕ → ℕ → List Pair → Type 0
HasPlacedOf places layer ranked a upto pairs =
    (b : ℕ) → a < b → b < upto → has_link places layer ranked a b ≡ false → Contains pairs (record { one = slice_index ranked a; other = slice_index ranked b })

-- the pairs of all places below one are there, but for the linked
abbrev pub HasPlacedBelow : (ℕ → Option Node) → ℕ → List ℕ → ℕ → List Pair → Type 0
HasPlacedBelow places layer ranked one pairs = (a : ℕ) → a < one → HasPlacedOf places layer ranked a (length ranked) pairs
