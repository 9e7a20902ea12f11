-- What a descent keeps from one layer to the next.
use Rattle.std.proofs.Common.{◌≡◌, ℕ, ◌+◌, ◌*◌, ◌/◌, ◌<◌, ◌≤◌, ◌⊎◌, inl, inr, cond, eqb, List, [], length, get_or, set, sym, ap, ◌∙◌, subst, arith}
use Rattle.std.specs.Prelude.{slice_index, slice_set, ◌==◌, if◌then◌else◌, Some, None, IsSome, IfSome, IsSomeAnd}
use Rattle.std.specs.Option.{option_map_or}
use Rattle.std.specs.declared.option.Option.{Option}
use Rattle.std.proofs.lemmas.Bool.{cases_eq, ne_eqb, cond-false, false≢true}
use Rattle.std.proofs.lemmas.Bool.Decides.{nat_tests}
use Rattle.std.proofs.lemmas.List.{get_or-set_same, get_or-set_other}
use Rattle.std.proofs.Math.Nat.{add-mul, mul-le-mul_right}
use Rattle.vs_graph.specs.declared.node.Node.{Node}
use Rattle.vs_graph.specs.Good.{IsLinked, StandsAt, IsGoodNode, AreLinksGood, links_of, links_at}
use Rattle.vs_defs.specs.Words.{FitsDimension, words_ham}
use Rattle.vs_bits.proofs.Distances.{words_ham-le}
use Rattle.vs_beam.specs.Beam.{far_at, HasWords, Walks, stays, goes, IsStop, before_layer, level_at}
use Rattle.vs_beam.proofs.Turns.{one_more_times}

words_of : (o : Option Node) (layer m dim count : ℕ) → IfSome o (IsGoodNode m dim) → IsSomeAnd o (λ node. layer ≤ node.level) → count ≡ (dim + 63) / 64 → IsSomeAnd o (λ node. length node.body.bits ≡ count)
words_of None layer m dim count g s e = absurd s
words_of (Some node) layer m dim count g s e = g.words.count ∙ sym e

pub stands_words : (at : ℕ → Option Node) (m dim count layer w : ℕ) → AreLinksGood at m dim → count ≡ (dim + 63) / 64 → StandsAt at layer w → HasWords at count w
stands_words at m dim count layer w good e stands = words_of (at w) layer m dim count (good.nodes w) stands e

near_of : (o : Option Node) (m dim : ℕ) (query : List ℕ) → IsSome o → IfSome o (IsGoodNode m dim) → FitsDimension dim query → words_ham query (option_map_or (λ node. node.body.bits) o []) ≤ dim
near_of None m dim query s g q = absurd (false≢true s)
near_of (Some node) m dim query s g q = words_ham-le dim query node.body.bits q g.words

-- no distance is greater than the dimension
pub near_at : (at : ℕ → Option Node) (m dim : ℕ) (query : List ℕ) (id : ℕ) → IsSome (at id) → AreLinksGood at m dim → FitsDimension dim query → far_at at query id ≤ dim
near_at at m dim query id some good fits = near_of (at id) m dim query some (good.nodes id) fits

stands_of : (o : Option Node) (j k : ℕ) → j ≤ k → IsSomeAnd o (λ node. k ≤ node.level) → IsSomeAnd o (λ node. j ≤ node.level)
stands_of None j k h s = absurd s
stands_of (Some node) j k h s = omega (arith, h, s)

pub stands_below : (at : ℕ → Option Node) (id j k : ℕ) → j ≤ k → StandsAt at k id → StandsAt at j id
stands_below at id j k h s = stands_of (at id) j k h s

few_of : (o : Option Node) (layer m dim : ℕ) → 1 ≤ layer → IfSome o (IsGoodNode m dim) → length (option_map_or (λ node. links_of node layer) o []) ≤ m
few_of None layer m dim h g = omega arith
few_of (Some node) layer m dim h g = subst (λ n. length (links_of node layer) ≤ n) (cond-false (eqb layer 0) (2 * m) m (ne_eqb layer 0 (λ e. omega (arith, e, h)))) (g.few layer)

pub few_links : (at : ℕ → Option Node) (m dim layer : ℕ) → AreLinksGood at m dim → 1 ≤ layer → (id : ℕ) → length (links_at at layer id) ≤ m
few_links at m dim layer good h id = few_of (at id) layer m dim h (good.nodes id)

low_of : (o : Option Node) (m dim : ℕ) → IfSome o (IsGoodNode m dim) → option_map_or (λ node. node.level) o 0 ≤ 15
low_of None m dim g = omega arith
low_of (Some node) m dim g = g.level

pub level_low : (at : ℕ → Option Node) (m dim id : ℕ) → AreLinksGood at m dim → level_at at id ≤ 15
level_low at m dim id good = low_of (at id) m dim (good.nodes id)

pub walks_stand : (at : ℕ → Option Node) (query : List ℕ) (layer a b : ℕ) → ((v w : ℕ) → IsLinked at layer v w → StandsAt at layer w) → Walks at query layer a b → StandsAt at layer a → StandsAt at layer b
walks_stand at query layer a b stand (stays id) h = h
walks_stand at query layer a b stand (goes x y z link near rest) h = walks_stand at query layer y z stand rest (stand x y link)

same_test : (k top : ℕ) → (k == top) ≡ (k + 1 == top + 1)
same_test k top = grind (arith, nat_tests)

module _ (at : ℕ → Option Node) (query stops : List ℕ) (entry top layer here id : ℕ) where
  -- one more layer has its stop
  pub stops_more : length stops ≡ 16 → layer < 16 → layer ≤ top → here ≡ (if layer + 1 == top + 1 then entry else slice_index stops (layer + 1)) → IsStop at query layer here id
      → ((k : ℕ) → layer + 1 ≤ k → k ≤ top → IsStop at query k (before_layer entry top stops k) (slice_index stops k))
      → (k : ℕ) → layer ≤ k → k ≤ top → IsStop at query k (before_layer entry top (slice_set stops layer id) k) (slice_index (slice_set stops layer id) k)
  stops_more long within under from new old k low high =
      let above : get_or (set stops layer id) (k + 1) 0 ≡ get_or stops (k + 1) 0 = get_or-set_other stops layer (k + 1) id 0 (λ e. omega (arith, e, low)) in
      elim (cases_eq k layer) [
        | inl e ↦
            let there : get_or (set stops layer id) k 0 ≡ id = ap (λ n. get_or (set stops layer id) n 0) e ∙ get_or-set_same stops layer id 0 (omega (arith, within, long)) in
            let before : before_layer entry top (slice_set stops layer id) k ≡ here =
            ap (λ n. cond (eqb k top) entry n) above ∙ ap (λ b. cond b entry (get_or stops (k + 1) 0)) (same_test k top) ∙ ap (λ n. cond (eqb (n + 1) (top + 1)) entry (get_or stops (n + 1) 0)) e ∙ sym from in
            subst (λ n. IsStop at query n (before_layer entry top (slice_set stops layer id) k) (get_or (set stops layer id) k 0)) (sym e) (rw (before, there) new)
        | inr ne ↦
            let there : get_or (set stops layer id) k 0 ≡ get_or stops k 0 = get_or-set_other stops layer k id 0 ne in
            let before : before_layer entry top (slice_set stops layer id) k ≡ before_layer entry top stops k = ap (λ n. cond (eqb k top) entry n) above in
            rw (before, there) (old k (omega (arith, low, ne)) high)
      ]

  pub outside_more : layer ≤ top → ((k : ℕ) → (k < layer + 1) ⊎ (top < k) → slice_index stops k ≡ 0)
      → (k : ℕ) → (k < layer) ⊎ (top < k) → slice_index (slice_set stops layer id) k ≡ 0
  outside_more under old k (inl h) = get_or-set_other stops layer k id 0 (λ e. omega (arith, e, h)) ∙ old k (inl (omega (arith, h)))
  outside_more under old k (inr h) = get_or-set_other stops layer k id 0 (λ e. omega (arith, e, h, under)) ∙ old k (inr h)

  pub here_more : length stops ≡ 16 → layer < 16 → layer ≤ top → id ≡ (if layer == top + 1 then entry else slice_index (slice_set stops layer id) layer)
  here_more long within under =
      sym (get_or-set_same stops layer id 0 (omega (arith, within, long))) ∙ sym (cond-false (eqb layer (top + 1)) entry (get_or (set stops layer id) layer 0) (ne_eqb layer (top + 1) (λ e. omega (arith, e, under))))

-- the cost of one more layer
pub told_more : (before after a b k limit n : ℕ) → after + b * k ≤ before + (a + 1) * k → before + a * k ≤ limit + n * k → after + b * k ≤ limit + (n + 1) * k
told_more before after a b k limit n cost old = omega (arith, cost, old, one_more_times a k, one_more_times n k)

-- the cost of all
pub told_all : (after start dist dim b k n : ℕ) → after + b * k ≤ start + 1 + dist * k + n * k → dist ≤ dim → n ≤ 15 → after ≤ start + 1 + (15 + dim) * k
told_all after start dist dim b k n cost far few =
    let one : dist * k ≤ dim * k = mul-le-mul_right k far in
    let two : n * k ≤ 15 * k = mul-le-mul_right k few in
    omega (arith, cost, one, two, add-mul 15 dim k)
