-- What a removal leaves, over all layers.
use Rattle.std.specs.Prelude.{◌≡◌, ◌≢◌, ◌<◌, ◌≤◌, ℕ, List, [], map, option_map, None, IsSome}
use Rattle.std.specs.declared.option.Option.{Option}
use Rattle.vs_graph.specs.declared.node.Node.{Node}
use Rattle.vs_graph.specs.Good.{links_at, AreLinksGood}
use Rattle.vs_graph.specs.Good.{body_at}
use Rattle.vs_unlink.specs.declared.Pair.{Pair}
use Rattle.vs_unlink.specs.Pairs.{detached, paired, IsPairing}
use Rattle.vs_defs.specs.Removal.{Unlinks}
use Rattle.vs_graph.specs.Standing.{AreIds, name_of, named_links, set_of}
use Rattle.vs_graph.specs.Table.{without}

-- the node without any link
abbrev pub bare_node : Node → Node
bare_node node = record node { links = map (λ (list : List ℕ). []) node.links }

abbrev pub bare : Option Node → Option Node
bare node = option_map bare_node node

-- x is out of the layers below n, and all else is as it was
pub record IsOutBelow (at new : ℕ → Option Node) (x n : ℕ) : Type 0 where
  pub added : ℕ → List Pair
  pub pairs : (l : ℕ) → l < n → IsPairing (body_at at) (detached (links_at at l) x) (links_at at l x) (added l)
  pub below : (l : ℕ) → l < n → links_at new l ≡ paired (detached (links_at at l) x) (added l)
  pub above : (l : ℕ) → n ≤ l → links_at new l ≡ links_at at l
  pub rest : (id : ℕ) → bare (new id) ≡ bare (at id)
  pub good : (m dim : ℕ) → AreLinksGood at m dim → AreLinksGood new m dim

-- x isn't live, its former neighbours are paired at each of its layers, and all else is as it was
pub record IsTakenOut (at new : ℕ → Option Node) (x layers : ℕ) : Type 0 where
  pub gone : new x ≡ None
  pub added : ℕ → List Pair
  pub pairs : (l : ℕ) → l < layers → IsPairing (body_at at) (detached (links_at at l) x) (links_at at l x) (added l)
  pub below : (l id : ℕ) → l < layers → id ≢ x → links_at new l id ≡ paired (detached (links_at at l) x) (added l) id
  pub above : (l id : ℕ) → layers ≤ l → id ≢ x → links_at new l id ≡ links_at at l id
  pub rest : (id : ℕ) → id ≢ x → bare (new id) ≡ bare (at id)
  pub good : (m dim : ℕ) → AreLinksGood at m dim → AreLinksGood new m dim

-- the graph without x, whose other nodes are as they were but for links
pub record IsWithout (at now : ℕ → Option Node) (x : ℕ) : Type 0 where
  pub was : IsSome (at x)
  pub gone : now x ≡ None
  pub others : (q : ℕ) → q ≢ x → bare (now q) ≡ bare (at q)

-- of the set that a graph stands for, in whatever order its members stand, the links by names that are left are those that the definitions leave
abbrev pub UnlinksByNames : (ℕ → Option Node) → (ℕ → Option Node) → ℕ → Type 0
UnlinksByNames at new x =
    (entry : Option ℕ) (m dim cut : ℕ) (ids : List ℕ) → AreLinksGood at m dim → AreIds at ids → Unlinks (set_of at entry m dim cut ids) (name_of at x) (named_links new (without x ids))
