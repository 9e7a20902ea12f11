-- Where the loops of a removal stand, and what is known of the graph after it.
use Rattle.std.proofs.Common.{◌≡◌, ℕ, ◌<◌, ◌≤◌, ◌+◌, true, List, [], length, get_or, take, sym, ap, ◌∙◌, subst}
use Rattle.std.specs.Prelude.{IsSome, fold, nat_eq}
use Rattle.std.specs.List.{list_any}
use Rattle.std.specs.declared.option.Option.{Option}
use Rattle.std.proofs.lemmas.List.{take_all}
use Rattle.std.proofs.lemmas.List.Sums.{fold_more}
use Rattle.vs_graph.specs.declared.node.Node.{Node}
use Rattle.vs_graph.specs.Good.{links_at, most_links, AreLinksGood}
use Rattle.vs_graph.specs.Good.{body_at}
use Rattle.vs_graph.specs.Bodies.{AreAlike}
use Rattle.vs_graph.specs.Table.{Table, put, leave, add, joined}
use Rattle.vs_graph.specs.GoodTable.{IsGoodTable}
use Rattle.vs_graph.specs.Good.{layers_at}
use Rattle.vs_graph.specs.Relinks.{Relinks}
use Rattle.vs_graph.proofs.Relinking.{relinks_then, leaves_then, adds_then, same_bodies, stands_now}
use Rattle.vs_graph.proofs.Goods.{table_from, alike_from, good_after}
use Rattle.vs_graph.proofs.NodeLaws.{live_from_layers}
use Rattle.vs_laws.proofs.Lists.{in_at}
use Rattle.vs_graph.proofs.Standing.{differ_by}
use Rattle.vs_unlink.specs.declared.Pair.{Pair}
use Rattle.vs_unlink.specs.Pairs.{detached, paired, Differ, IsPairing}
use Rattle.vs_unlink.proofs.Detached.{detached_is}
use Rattle.vs_unlink.proofs.Paired.{paired_good}

-- one more neighbour no longer links to x
pub left_more : (at now new : ℕ → Option Node) (layer x : ℕ) (ys : List ℕ) (i : ℕ) → i < length ys → Relinks at now layer (fold (λ u y. leave u y x) (links_at at layer) (take i ys))
    → Relinks now new layer (leave (links_at now layer) (get_or ys i 0) x) → Relinks at new layer (fold (λ u y. leave u y x) (links_at at layer) (take (i + 1) ys))
left_more at now new layer x ys i h r step =
    subst (Relinks at new layer) (sym (fold_more (λ u y. leave u y x) (links_at at layer) ys i 0 h)) (leaves_then at now new layer _ (get_or ys i 0) x r step)

pub detached_all : (at now new : ℕ → Option Node) (layer most x : ℕ) (ys : List ℕ) (i : ℕ) → IsGoodTable (layers_at at) layer most (links_at at layer) → ys ≡ links_at at layer x → length ys ≤ i
    → Relinks at now layer (fold (λ u y. leave u y x) (links_at at layer) (take i ys)) → Relinks now new layer (put (links_at now layer) x []) → Relinks at new layer (detached (links_at at layer) x)
detached_all at now new layer most x ys i good same h r step =
    let t = links_at at layer in
    let u = fold (λ v y. leave v y x) t (take i ys) in
    let all : u ≡ fold (λ v y. leave v y x) t (t x) = ap (fold (λ v y. leave v y x) t) (take_all i ys h ∙ same) in
    subst (Relinks at new layer) (ap (λ v. put v x []) all ∙ detached_is (layers_at at) layer most t x good) (relinks_then at now new layer u (put u x []) r (subst (λ v. Relinks now new layer (put v x [])) r.links step))

pub neighbour_stands : (at now : ℕ → Option Node) (layer most x : ℕ) (t : Table) (ys : List ℕ) (i : ℕ) → i < length ys → IsGoodTable (layers_at at) layer most (links_at at layer) → ys ≡ links_at at layer x → Relinks at now layer t
    → layer < layers_at now (get_or ys i 0)
neighbour_stands at now layer most x t ys i h good same r =
    stands_now at now layer t (get_or ys i 0) r (good.stand x (get_or ys i 0) (subst (λ l. list_any (nat_eq (get_or ys i 0)) l ≡ true) same (in_at ys i 0 h)))

-- one more pair is joined
pub joined_more : (at now mid new : ℕ → Option Node) (layer : ℕ) (ps : List Pair) (i : ℕ) (d : Pair) → i < length ps → Relinks at now layer (paired (links_at at layer) (take i ps))
    → Relinks now mid layer (add (links_at now layer) (get_or ps i d).other (get_or ps i d).one) → Relinks mid new layer (add (links_at mid layer) (get_or ps i d).one (get_or ps i d).other)
    → Relinks at new layer (paired (links_at at layer) (take (i + 1) ps))
joined_more at now mid new layer ps i d h r one two =
    subst (Relinks at new layer) (sym (fold_more (λ u (p : Pair). joined u p.one p.other) (links_at at layer) ps i d h))
    (adds_then at mid new layer _ (get_or ps i d).one (get_or ps i d).other (adds_then at now mid layer _ (get_or ps i d).other (get_or ps i d).one r one) two)

-- ---- names

module _ (at : ℕ → Option Node) (m dim layer x : ℕ) (good : AreLinksGood at m dim) where
  table : IsGoodTable (layers_at at) layer (most_links m layer) (links_at at layer)
  table = table_from at m dim layer good

  former_stands : (y : ℕ) → list_any (nat_eq y) (links_at at layer x) ≡ true → layer < layers_at at y
  former_stands y h = table.stand x y h

  pub former_differ : Differ (body_at at) (links_at at layer x)
  former_differ a b ha hb e = differ_by a b (at a) (at b) (live_from_layers at layer a (former_stands a ha)) (live_from_layers at layer b (former_stands b hb)) (good.names a b) e

  module _ (mid : ℕ → Option Node) (r : Relinks at mid layer (detached (links_at at layer) x)) (ids : List ℕ) (same : ids ≡ links_at at layer x) where
    pub mid_alike : dim ≤ 32768 → AreAlike (body_at mid)
    mid_alike small = subst AreAlike (sym (same_bodies at mid layer (detached (links_at at layer) x) r)) (alike_from at m dim small good)

    pub mid_stands : (y : ℕ) → list_any (nat_eq y) ids ≡ true → layer < layers_at mid y
    mid_stands y h = stands_now at mid layer (detached (links_at at layer) x) y r (former_stands y (subst (λ l. list_any (nat_eq y) l ≡ true) same h))

    pub mid_live : (k d : ℕ) → k < length ids → IsSome (mid (get_or ids k d))
    mid_live k d h = live_from_layers mid layer (get_or ids k d) (mid_stands (get_or ids k d) (in_at ids k d h))

    pub mid_differ : Differ (body_at mid) ids
    mid_differ = subst (λ b. Differ b ids) (sym (same_bodies at mid layer (detached (links_at at layer) x) r)) (subst (Differ (body_at at)) (sym same) former_differ)

    module _ (added : List Pair) (p : IsPairing (body_at mid) (links_at mid layer) ids added) where
      pub added_stand : (k : ℕ) (d : Pair) → k < length added → (layer < layers_at mid (get_or added k d).one) × (layer < layers_at mid (get_or added k d).other)
      added_stand k d h = let o = p.are_open k d h in (mid_stands (get_or added k d).one o.one, mid_stands (get_or added k d).other o.other)

      pub pairing_at : IsPairing (body_at at) (detached (links_at at layer) x) (links_at at layer x) added
      pairing_at =
          subst (λ b. IsPairing b (detached (links_at at layer) x) (links_at at layer x) added) (same_bodies at mid layer (detached (links_at at layer) x) r)
          (subst (λ u. IsPairing (body_at mid) u (links_at at layer x) added) r.links (subst (λ l. IsPairing (body_at mid) (links_at mid layer) l added) same p))

      pub taken_out : (new : ℕ → Option Node) → Relinks mid new layer (paired (links_at mid layer) added) → Relinks at new layer (paired (detached (links_at at layer) x) added)
      taken_out new step = relinks_then at mid new layer _ (paired (detached (links_at at layer) x) added) r (subst (λ u. Relinks mid new layer (paired u added)) r.links step)

-- the good graph after it
pub good_taken : (at new : ℕ → Option Node) (m dim layer x : ℕ) (added : List Pair) → AreLinksGood at m dim → IsPairing (body_at at) (detached (links_at at layer) x) (links_at at layer x) added
    → Relinks at new layer (paired (detached (links_at at layer) x) added) → AreLinksGood new m dim
good_taken at new m dim layer x added good p r =
    good_after at new m dim layer (paired (detached (links_at at layer) x) added) r (paired_good (body_at at) (layers_at at) layer (most_links m layer) (links_at at layer) x added (table_from at m dim layer good) p) good
