-- What is known of the graph after a member is joined at a layer.
use Rattle.std.proofs.Common.{◌≡◌, ◌≢◌, ℕ, ◌<◌, ◌≤◌, ◌*◌, Bool, true, false, cond, eqb, List, [], length, sym, subst, arith}
use Rattle.std.specs.declared.option.Option.{Option}
use Rattle.vs_graph.specs.declared.node.Node.{Node}
use Rattle.vs_graph.specs.Good.{links_at, most_links, StandsAt, AreLinksGood, body_at, layers_at}
use Rattle.vs_graph.specs.GoodTable.{KeepsLinked}
use Rattle.vs_graph.specs.Relinks.{Relinks}
use Rattle.vs_link.specs.Linked.{linked, target, AreChosen, IsFallback}
use Rattle.vs_link.proofs.Offered.{IsJoinedUp, linked_is}
use Rattle.vs_link.proofs.Targets.{target_is, target_some}
use Rattle.vs_graph.proofs.Goods.{table_from, layers_from, good_after}

pub most_same : (at new : ℕ → Option Node) (layer x : ℕ) (chosen : List ℕ) (fallback : Option ℕ) (most other : ℕ) → most ≡ other → Relinks at new layer (linked (body_at at) most (links_at at layer) x chosen fallback)
    → Relinks at new layer (linked (body_at at) other (links_at at layer) x chosen fallback)
most_same at new layer x chosen fallback most other e r = subst (λ k. Relinks at new layer (linked (body_at at) k (links_at at layer) x chosen fallback)) e r

most_by : (m layer k : ℕ) (b : Bool) → k ≤ m → k ≤ cond b (2 * m) m
most_by m layer k true h = omega arith
most_by m layer k false h = h

pub most_above : (m layer k : ℕ) → k ≤ m → k ≤ most_links m layer
most_above m layer k h = most_by m layer k (eqb layer 0) h

module _ (at new : ℕ → Option Node) (m dim layer x : ℕ) (chosen : List ℕ) (fallback : Option ℕ) (good : AreLinksGood at m dim) (low : 4 ≤ m) (stands : StandsAt at layer x) (free : links_at at layer x ≡ [])
    (are : AreChosen (layers_at at) layer m x chosen) (may : chosen ≡ [] → IsFallback (layers_at at) layer x fallback) where
  pub joined_up : IsJoinedUp (body_at at) (layers_at at) layer (most_links m layer) x (links_at at layer) (linked (body_at at) (most_links m layer) (links_at at layer) x chosen fallback) (target chosen fallback)
  joined_up =
      let wide : AreChosen (layers_at at) layer (most_links m layer) x chosen = record { stand = are.stand; once = are.once; few = most_above m layer (length chosen) are.few } in
      linked_is (body_at at) (layers_at at) layer (most_links m layer) x (links_at at layer) chosen fallback (most_above m layer 2 (omega arith)) (table_from at m dim layer good) free (layers_from m dim layer (at x) (good.nodes x) stands) wide
      (target_is (layers_at at) layer m x chosen fallback are may)

  module _ (r : Relinks at new layer (linked (body_at at) (most_links m layer) (links_at at layer) x chosen fallback)) where
    pub good_whole : AreLinksGood new m dim
    good_whole = good_after at new m dim layer (linked (body_at at) (most_links m layer) (links_at at layer) x chosen fallback) r joined_up.good good

    pub kept_whole : KeepsLinked (links_at at layer) (links_at new layer)
    kept_whole = subst (KeepsLinked (links_at at layer)) (sym r.links) joined_up.kept

    pub own_whole : (y : ℕ) → y ≢ x → StandsAt at layer y → 0 < length (links_at new layer x)
    own_whole y ne h = subst (λ u. 0 < length (u x)) (sym r.links) (joined_up.own (target_some (layers_at at) layer x y chosen fallback may ne (layers_from m dim layer (at y) (good.nodes y) h)))
