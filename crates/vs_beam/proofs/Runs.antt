-- The steps of a whole search.
use Rattle.std.proofs.Common.{◌≡◌, ℕ, ◌+◌, ◌*◌, ◌^◌, ◌<◌, ◌≤◌, ◌==◌, cond, inl, inr, Bool, List, [], ◌∷◌, ◌++◌, length, refl, sym, ap, ◌∙◌, subst, arith}
use Rattle.std.specs.Prelude.{Contains, All, true, false, Some, None, IfSome}
use Rattle.std.specs.declared.option.Option.{Option}
use Rattle.std.specs.Option.{option_map_or}
use Rattle.std.proofs.lemmas.List.Elements.{All-nil, All-append, All-weaker, Contains-push_cases}
use Rattle.std.proofs.lemmas.List.Sums.{sum_by_push}
use Rattle.std.proofs.lemmas.List.Sorted.{IsPermutation-append_left, length_permutation}
use Rattle.vs_graph.specs.declared.node.Node.{Node}
use Rattle.vs_graph.specs.Good.{IsLinked, IsGoodNode, IsGood, links_of, links_at}
use Rattle.vs_slot.specs.Marks.{Marks}
use Rattle.vs_rank.specs.declared.Key.{Key}
use Rattle.vs_rank.specs.Ranked.{key_lt, is_beyond}
use Rattle.vs_rank.specs.Tests.{Attribute}
use Rattle.vs_beam.specs.declared.search.Search.{Search}
use Rattle.vs_beam.specs.Beam.{IsSpent, IsClose, IsBeam, key_at}
use Rattle.vs_beam.specs.Searching.{IsSearchOf, AreFoundOf, IsSearch, AreFound, IsAdvanced, IsExpanded, IsOver, IsSameSearch, IsWhole, size_left, expansion_cost}
use Rattle.vs_beam.proofs.Steps.{LiesBeyond, beyond_last, beyond_too, not_before, advances, advances_found, closed_at, expanded_once}
use Rattle.vs_beam.proofs.Visits.{none_waits}

links_few : (o : Option Node) (m dim layer : ℕ) → IfSome o (IsGoodNode m dim) → m ≤ 256 → length (option_map_or (λ node. links_of node layer) o []) < 2 ^ 32
links_few None m dim layer good few = omega arith
links_few (Some node) m dim layer good few = at_most (layer == 0) (good.few layer)
  where
    at_most : (b : Bool) → length (links_of node layer) ≤ cond b (2 * m) m → length (links_of node layer) < 2 ^ 32
    at_most true h = omega (arith, h, few)
    at_most false h = omega (arith, h, few)

-- a good graph's links at a layer are counted in 32 bits
pub short_links : (at : ℕ → Option Node) (entry : Option ℕ) (m dim layer id : ℕ) → IsGood at entry m dim → length (links_at at layer id) < 2 ^ 32
short_links at entry m dim layer id good = links_few (at id) m dim layer (good.links.nodes id) good.m_high

pub whole_expanded : (at : ℕ → Option Node) (layer : ℕ) (old mid new : Search) (id : ℕ) → IsWhole at layer old → IsAdvanced old mid id → IsExpanded at layer mid new id → (IsSpent new.effort new.tried → ⊥) → IsWhole at layer new
whole_expanded at layer old mid new id whole a e room v w has link =
    let expanded : new.expanded ≡ old.expanded ++ id ∷ [] = e.expanded ∙ a.expanded in
    elim (Contains-push_cases old.expanded id v (subst (λ l. Contains l v) expanded has)) [
      | inl was ↦ e.more w (subst (λ l. Contains l w) (sym a.tried) (whole v w was link))
      | inr is ↦ e.whole room w (subst (λ n. IsLinked at layer n w) (sym is) link)
    ]

module _ (at : ℕ → Option Node) (layer : ℕ) (query : List ℕ) where
  -- with nothing that waits
  pub left_only : (s : Search) (marks : Marks) → (h : IsSearch at layer query s marks) → IsSearchOf at layer query s.from s.effort s.tried s.expanded (s.frontier.keys ++ h.refused) marks.marked
  left_only s marks h = subst (λ l. IsSearchOf at layer query s.from s.effort s.tried s.expanded (l ++ (s.frontier.keys ++ h.refused)) marks.marked) (none_waits (key_at at query) s.tried) h.search

  pub search_advanced : (old new : Search) (marks : Marks) (id : ℕ) → IsSearch at layer query old marks → IsAdvanced old new id → IsSearch at layer query new marks
  search_advanced old new marks id h a =
      let taken = IsPermutation-append_left h.refused old.frontier.keys (a.key ∷ new.frontier.keys) a.taken in
      let next = advances at layer query old.from old.effort old.tried old.expanded (old.frontier.keys ++ h.refused) (new.frontier.keys ++ h.refused) marks.marked a.key (left_only old marks h) taken in
      let expanded : new.expanded ≡ old.expanded ++ a.key.id ∷ [] = a.expanded ∙ ap (λ n. old.expanded ++ n ∷ []) (sym a.key_id) in
      record {
        refused = h.refused;
        beyond = rw a.best h.beyond;
        search = rw (none_waits (key_at at query) new.tried, a.same.from, a.same.effort, a.tried, expanded) next;
      }

module _ (at : ℕ → Option Node) (layer : ℕ) (query : List ℕ) (passes : Attribute → Bool) where
  pub found_advanced : (old new : Search) (marks : Marks) (id : ℕ) → IsSearch at layer query old marks → AreFound at layer query passes old → IsAdvanced old new id → IsWhole at layer old
      → AreFound at layer query passes new
  found_advanced old new marks id h f a whole =
      let taken = IsPermutation-append_left h.refused old.frontier.keys (a.key ∷ new.frontier.keys) a.taken in
      let later = All-weaker (λ other. is_beyond old.best other ≡ true) (λ other. key_lt other a.key ≡ false) (λ other beyond. not_before old.best a.key other a.near beyond) h.refused h.beyond in
      let least = All-append (λ other. key_lt other a.key ≡ false) old.frontier.keys h.refused a.least later in
      let next = advances_found at layer query passes old.from old.effort old.best.most old.tried old.expanded old.best.keys (old.frontier.keys ++ h.refused) (new.frontier.keys ++ h.refused) marks.marked old.best a.key
      (left_only at layer query old marks h) f refl refl taken least a.near whole in
      let expanded : new.expanded ≡ old.expanded ++ a.key.id ∷ [] = a.expanded ∙ ap (λ n. old.expanded ++ n ∷ []) (sym a.key_id) in
      rw (a.same.from, a.tried, expanded, a.best) next

  beam_from : (start effort width : ℕ) (tried expanded : List ℕ) (found left : List Key) (bits : List Bool)
      → IsSearchOf at layer query start effort tried expanded left bits
      → AreFoundOf at layer query passes start width tried expanded found
      → ((IsSpent effort tried → ⊥) → (v w : ℕ) → Contains tried v → IsClose at query width tried found v → IsLinked at layer v w → Contains tried w)
      → IsBeam at layer start query width effort passes tried expanded found
  beam_from start effort width tried expanded found left bits h f closed = record {
    start_first = h.start_first;
    once = h.once;
    stand = h.stand;
    reached = h.reached;
    best = f.best;
    few = h.few;
    closed = closed;
    expanded_once = expanded_once at layer query tried expanded _ h.once h.split;
    known = h.known;
    order = f.order;
  }

  -- what the frontier has is beyond the best, and so is what was left out of it
  left_beyond : (old new : Search) (refused : List Key) → IsOver old new → All (λ key. is_beyond old.best key ≡ true) refused → All (LiesBeyond old.best old.best.keys) (old.frontier.keys ++ refused)
  left_beyond old new refused over beyond =
      let later = All-weaker (λ other. is_beyond old.best other ≡ true) (LiesBeyond old.best old.best.keys) (λ other is. beyond_last old.best old.best.keys other refl is) refused beyond in
      All-append (LiesBeyond old.best old.best.keys) old.frontier.keys refused
      (elim (over.far) [
        | inl none ↦ rw none (All-nil (LiesBeyond old.best old.best.keys))
        | inr far ↦ All-weaker (λ other. key_lt other far.0 ≡ false) (LiesBeyond old.best old.best.keys) (λ other least. beyond_too old.best far.0 other far.2 least) old.frontier.keys far.1
      ])
      later

  pub beam_over : (first old new : Search) (marks : Marks) → IsSearch at layer query old marks → AreFound at layer query passes old → IsSameSearch first old → IsOver old new → IsWhole at layer old
      → IsBeam at layer first.from query first.best.most first.effort passes new.tried new.expanded new.best.keys
  beam_over first old new marks h f same over whole =
      let left = left_only at layer query old marks h in
      let all = beam_from old.from old.effort old.best.most old.tried old.expanded old.best.keys (old.frontier.keys ++ h.refused) marks.marked left f
      (λ room v w has close link. closed_at at layer query passes old.from old.effort old.best.most old.tried old.expanded old.best.keys (old.frontier.keys ++ h.refused) marks.marked old.best left f.best refl
      (left_beyond old new h.refused over h.beyond) whole v w has close link) in
      rw (over.tried, over.expanded, over.best, ← same.from, ← same.effort, ← same.most) all

  pub beam_spent : (first s : Search) (marks : Marks) → IsSearch at layer query s marks → AreFound at layer query passes s → IsSameSearch first s → IsSpent s.effort s.tried
      → IsBeam at layer first.from query first.best.most first.effort passes s.tried s.expanded s.best.keys
  beam_spent first s marks h f same spent =
      let all = beam_from s.from s.effort s.best.most s.tried s.expanded s.best.keys (s.frontier.keys ++ h.refused) marks.marked (left_only at layer query s marks h) f (λ room v w has close link. absurd (room spent)) in
      rw (← same.from, ← same.effort, ← same.most) all

pub size_advanced : (old new : Search) (marks : Marks) (id : ℕ) → IsAdvanced old new id → size_left new marks + 1 ≡ size_left old marks
size_advanced old new marks id a =
    let one : length old.frontier.keys ≡ length new.frontier.keys + 1 = omega (arith, length_permutation _ _ a.taken) in
    omega (arith, one)

pub cost_expanded : (at : ℕ → Option Node) (layer : ℕ) (old mid new : Search) (id : ℕ) → IsAdvanced old mid id → IsExpanded at layer mid new id
    → expansion_cost at layer new.expanded ≡ expansion_cost at layer old.expanded + (1 + length (links_at at layer id))
cost_expanded at layer old mid new id a e =
    let expanded : new.expanded ≡ old.expanded ++ id ∷ [] = e.expanded ∙ a.expanded in
    ap (expansion_cost at layer) expanded ∙ sum_by_push (λ id. 1 + length (links_at at layer id)) old.expanded id
