-- The same of searches as the functions see them.
use Rattle.std.proofs.Common.{◌≡◌, ℕ, suc, ◌+◌, ◌<◌, ◌≤◌, inl, inr, Bool, true, false, not, cond, List, [], ◌∷◌, ◌++◌, length, map, take, drop, get_or, refl, sym, ap, ◌∙◌, subst, arith, rules, append_assoc}
use Rattle.std.specs.Prelude.{Contains, All, count_by, slice_set, Some, None, IsSome, IsSomeAnd}
use Rattle.std.specs.List.Sorted.{IsPermutation}
use Rattle.std.specs.declared.option.Option.{Option}
use Rattle.std.proofs.Math.Seq.{drop-length, drop-cons}
use Rattle.std.proofs.lemmas.List.{map-append, length_push, take_more, take-append-le, drop-append-le}
use Rattle.std.proofs.lemmas.List.Elements.{All-nil, All-cons, All-push, All-weaker, Contains-push, Contains-append_left, Contains-get_or}
use Rattle.std.proofs.lemmas.List.Sums.{sum_by-set}
use Rattle.std.proofs.lemmas.List.Sorted.{IsPermutation-refl, IsPermutation-sym, IsPermutation-trans, IsPermutation-middle, IsPermutation-append_left, IsPermutation-append_right, length_permutation}
use Rattle.vs_graph.specs.declared.node.Node.{Node}
use Rattle.vs_graph.specs.Good.{IsLinked, StandsAt}
use Rattle.vs_slot.specs.Marks.{Marks, IsEmptied}
use Rattle.vs_beam.specs.declared.search.Search.{Search}
use Rattle.vs_rank.specs.declared.Key.{Key}
use Rattle.vs_rank.specs.Ranked.{is_beyond}
use Rattle.vs_rank.specs.Tests.{Attribute}
use Rattle.vs_beam.specs.Beam.{IsSpent, HasWords, key_at}
use Rattle.vs_beam.specs.Searching.{IsSearchAt, AreFoundAt, IsWeighed, IsOffered, IsVisited, IsSameSearch, HasKept, unmarked}
use Rattle.vs_beam.proofs.Steps.{tries, moves, tries_found, starts, starts_found}

-- ---- what is left, in three parts: those that wait to be offered, the frontier, what was left out of it

wait_push : (waiting rest : List Key) (key : Key) → IsPermutation (key ∷ (waiting ++ rest)) ((waiting ++ key ∷ []) ++ rest)
wait_push waiting rest key =
    subst (λ l. IsPermutation (key ∷ (waiting ++ rest)) l) (sym (append_assoc waiting (key ∷ []) rest)) (IsPermutation-sym _ _ (IsPermutation-middle waiting key rest))

to_frontier : (waiting frontier more refused : List Key) (key : Key) → IsPermutation (key ∷ frontier) more
    → IsPermutation (key ∷ (waiting ++ (frontier ++ refused))) (waiting ++ (more ++ refused))
to_frontier waiting frontier more refused key pushed =
    IsPermutation-trans _ _ _ (IsPermutation-sym _ _ (IsPermutation-middle waiting key (frontier ++ refused)))
    (IsPermutation-append_right waiting (key ∷ (frontier ++ refused)) (more ++ refused) (IsPermutation-append_left refused (key ∷ frontier) more pushed))

to_refused : (waiting frontier refused : List Key) (key : Key)
    → IsPermutation (key ∷ (waiting ++ (frontier ++ refused))) (waiting ++ (frontier ++ key ∷ refused))
to_refused waiting frontier refused key =
    IsPermutation-trans _ _ _ (IsPermutation-sym _ _ (IsPermutation-middle waiting key (frontier ++ refused)))
    (IsPermutation-append_right waiting (key ∷ (frontier ++ refused)) (frontier ++ key ∷ refused) (IsPermutation-sym _ _ (IsPermutation-middle frontier key refused)))

pub tried_more : (old new : Search) (before after : Marks) (id : ℕ) → IsVisited old new before after id → (w : ℕ) → Contains old.tried w → Contains new.tried w
tried_more old new before after id v w has =
    elim (v.cases) [
      | inl p ↦ rw p.tried has
      | inr t ↦ rw t.tried (Contains-append_left old.tried (id ∷ []) w has)
    ]

pub long_visited : (old new : Search) (before after : Marks) (id : ℕ) → IsVisited old new before after id → (length old.tried ≤ length new.tried) × (length new.tried ≤ length old.tried + 1)
long_visited old new before after id v =
    elim (v.cases) [
      | inl p ↦ rw p.tried (omega arith, omega arith)
      | inr t ↦ rw t.tried (omega (arith, length_push old.tried id), omega (arith, length_push old.tried id))
    ]

-- where as many were tried as may be, they stay
spent_stays : (old new : Search) (before after : Marks) (id : ℕ) → IsVisited old new before after id → IsSpent old.effort old.tried → IsSpent new.effort new.tried
spent_stays old new before after id v spent =
    elim (v.cases) [
      | inl p ↦ rw (v.same.effort, p.tried) spent
      | inr t ↦ absurd (t.room spent)
    ]

pub room_before : (old new : Search) (before after : Marks) (id : ℕ) → IsVisited old new before after id → (IsSpent new.effort new.tried → ⊥) → IsSpent old.effort old.tried → ⊥
room_before old new before after id v room spent = room (spent_stays old new before after id v spent)

pub live_visited : (at : ℕ → Option Node) (query : List ℕ) (old new : Search) (before after : Marks) (id start : ℕ) → IsVisited old new before after id → start ≤ length old.tried
    → HasWords at (length query) id → All (HasWords at (length query)) (drop start old.tried) → All (HasWords at (length query)) (drop start new.tried)
live_visited at query old new before after id start v within live h =
    elim (v.cases) [
      | inl p ↦ rw p.tried h
      | inr t ↦ rw (t.tried, drop-append-le start old.tried (id ∷ []) within) (All-push (HasWords at (length query)) (drop start old.tried) id h live)
    ]

module _ (at : ℕ → Option Node) (layer : ℕ) (query : List ℕ) where
  pub tried_there : (old new : Search) (before after : Marks) (id start : ℕ) → IsSearchAt at layer query old before start → IsVisited old new before after id → (IsSpent new.effort new.tried → ⊥)
      → Contains new.tried id
  tried_there old new before after id start h v room =
      elim (v.cases) [
        | inl p ↦ elim (p.why) [
          | inl spent ↦ absurd (room_before old new before after id v room spent)
          | inr marked ↦ rw p.tried (h.search.marked id marked)
        ]
        | inr t ↦ rw t.tried (Contains-push old.tried id)
      ]

  pub search_visited : (old new : Search) (before after : Marks) (id start : ℕ)
      → IsSearchAt at layer query old before start → IsVisited old new before after id
      → start ≤ length old.tried → id < length before.marked → StandsAt at layer id → (v : ℕ) × Contains old.expanded v × IsLinked at layer v id
      → IsSearchAt at layer query new after start
  search_visited old new before after id start h v within fits stands linked =
      elim (v.cases) [
        | inl p ↦ record {
          refused = h.refused;
          beyond = rw v.best h.beyond;
          search = rw (v.same.from, v.same.effort, v.expanded, v.frontier, p.tried, p.marked) h.search;
        }
        | inr t ↦
            let rest = old.frontier.keys ++ h.refused in
            let waiting = map (key_at at query) (drop start old.tried) in
            let one_more : map (key_at at query) (drop start (old.tried ++ id ∷ [])) ≡ waiting ++ key_at at query id ∷ [] =
            ap (map (key_at at query)) (drop-append-le start old.tried (id ∷ []) within) ∙ map-append (key_at at query) (drop start old.tried) (id ∷ []) in
            let pushed : IsPermutation (key_at at query id ∷ (waiting ++ rest)) (map (key_at at query) (drop start (old.tried ++ id ∷ [])) ++ rest) =
            subst (λ l. IsPermutation (key_at at query id ∷ (waiting ++ rest)) (l ++ rest)) (sym one_more) (wait_push waiting rest (key_at at query id)) in
            let next = tries at layer query old.from old.effort old.tried old.expanded (waiting ++ rest) (map (key_at at query) (drop start (old.tried ++ id ∷ [])) ++ rest) before.marked id h.search pushed fits t.fresh stands linked t.room in
            record {
              refused = h.refused;
              beyond = rw v.best h.beyond;
              search = rw (v.same.from, v.same.effort, v.expanded, v.frontier, t.tried, t.marked) next;
            }
      ]

  pub search_weighed : (old new : Search) (marks : Marks) (id place : ℕ)
      → IsSearchAt at layer query old marks place → IsWeighed at query old new id → place < length old.tried → get_or old.tried place 0 ≡ id
      → IsSearchAt at layer query new marks (place + 1)
  search_weighed old new marks id place h w below is =
      let key = key_at at query id in
      let waiting = map (key_at at query) (drop (place + 1) old.tried) in
      let first : drop place old.tried ≡ id ∷ drop (place + 1) old.tried = drop-cons old.tried place 0 below ∙ (λ t. is t ∷ drop (next_place t) old.tried) in
      let was = rw first at h.search in
      let still = All-weaker (λ other. is_beyond old.best other ≡ true) (λ other. is_beyond new.best other ≡ true) w.beyond h.refused h.beyond in
      elim (w.placed) [
        | inl p ↦ record {
          refused = h.refused;
          beyond = still;
          search = rw (w.kept.same.from, w.kept.same.effort, w.kept.tried, w.kept.expanded)
              (moves at layer query old.from old.effort old.tried old.expanded _ (waiting ++ (new.frontier.keys ++ h.refused)) marks.marked was
              (to_frontier waiting old.frontier.keys new.frontier.keys h.refused key p));
        }
        | inr p ↦ record {
          refused = key ∷ h.refused;
          beyond = All-cons (λ other. is_beyond new.best other ≡ true) key h.refused p.1 still;
          search = rw (w.kept.same.from, w.kept.same.effort, w.kept.tried, w.kept.expanded, p.0)
              (moves at layer query old.from old.effort old.tried old.expanded _ (waiting ++ (old.frontier.keys ++ key ∷ h.refused)) marks.marked was
              (to_refused waiting old.frontier.keys h.refused key));
        }
      ]
    where
      next_place : suc place ≡ place + 1
      next_place = omega arith

  pub search_started : (s : Search) (marks after : Marks) (start : ℕ)
      → s.from ≡ start → s.tried ≡ start ∷ [] → s.expanded ≡ [] → s.frontier.keys ≡ []
      → after ≡ record { epoch = marks.epoch; marked = slice_set marks.marked start true }
      → start < length marks.marked → IsEmptied marks → StandsAt at layer start
      → IsSearchAt at layer query s after 0
  search_started s marks after start from tried expanded frontier is fits empty stands = record {
    refused = [];
    beyond = All-nil (λ other. is_beyond s.best other ≡ true);
    search = rw (is, from, tried, expanded, frontier) (starts at layer query start s.effort (key_at at query start ∷ []) marks.marked (IsPermutation-refl _) fits empty stands);
  }

module _ (at : ℕ → Option Node) (layer : ℕ) (query : List ℕ) (passes : Attribute → Bool) where
  pub found_visited : (old new : Search) (before after : Marks) (id start : ℕ)
      → AreFoundAt at layer query passes old start → IsVisited old new before after id → start ≤ length old.tried → AreFoundAt at layer query passes new start
  found_visited old new before after id start h v within = rw (v.same.from, v.best, v.expanded, front) h
    where
      front : take start new.tried ≡ take start old.tried
      front =
          elim (v.cases) [
            | inl p ↦ ap (take start) p.tried
            | inr t ↦ ap (take start) t.tried ∙ take-append-le start old.tried (id ∷ []) within
          ]

  pub found_weighed : (old new : Search) (id place : ℕ)
      → AreFoundAt at layer query passes old place → IsWeighed at query old new id → IsOffered at query passes old new id → place < length old.tried → get_or old.tried place 0 ≡ id
      → AreFoundAt at layer query passes new (place + 1)
  found_weighed old new id place h w offered below is =
      let one_more : take (place + 1) new.tried ≡ take place old.tried ++ id ∷ [] = ap (take (place + 1)) w.kept.tried ∙ take_more old.tried place 0 below ∙ ap (λ x. take place old.tried ++ x ∷ []) is in
      rw (w.kept.same.from, w.kept.same.most, w.kept.expanded, one_more, offered) (tries_found at layer query passes old.from old.best.most (take place old.tried) old.expanded old.best.keys id h)

  pub found_started : (s : Search) (start : ℕ) → s.from ≡ start → s.expanded ≡ [] → s.best.keys ≡ [] → 0 < s.best.most → AreFoundAt at layer query passes s 0
  found_started s start from expanded best wide = rw (from, expanded, best) (starts_found at layer query passes start s.best.most wide)

one_marked : (bits : List Bool) (id : ℕ) → id < length bits → get_or bits id false ≡ false → count_by not (slice_set bits id true) + 1 ≡ count_by not bits
one_marked bits id fits fresh =
    let f = λ (b : Bool). cond (not b) 1 0 in
    let all = sum_by-set f bits id true false fits in
    let here : f (get_or bits id false) ≡ 1 = ap f fresh in
    omega (arith, all, here)

pub marks_visited : (old new : Search) (before after : Marks) (id : ℕ) → IsVisited old new before after id → id < length before.marked
    → unmarked after + length new.tried ≡ unmarked before + length old.tried
marks_visited old new before after id v fits =
    elim (v.cases) [
      | inl p ↦ rw (p.tried, p.marked) refl
      | inr t ↦
          let fewer = one_marked before.marked id fits t.fresh in
          rw (t.tried, t.marked) (omega (arith, fewer, length_push old.tried id))
    ]

pub same_trans : (one two three : Search) → IsSameSearch one two → IsSameSearch two three → IsSameSearch one three
same_trans one two three p q = record { from = q.from ∙ p.from; effort = q.effort ∙ p.effort; most = q.most ∙ p.most }

pub some_and : {X : Type 0} (o : Option X) (P : X → Type 0) → IsSomeAnd o P → IsSome o
some_and None P h = absurd h
some_and (Some x) P h = search rules

pub link_at : (items links : List ℕ) (k : ℕ) → items ≡ links → k < length items → Contains links (get_or items k 0)
link_at items links k e h = subst (λ xs. Contains xs (get_or items k 0)) e (Contains-get_or items k 0 h)

pub link_was_at : (items links : List ℕ) (w : ℕ) → items ≡ links → Contains links w → Contains items w
link_was_at items links w e has = subst (λ xs. Contains xs w) (sym e) has

-- the frontier takes one key at most
pub frontier_grown : (at : ℕ → Option Node) (query : List ℕ) (old new : Search) (id : ℕ) → IsWeighed at query old new id → length new.frontier.keys ≤ length old.frontier.keys + 1
frontier_grown at query old new id w =
    elim (w.placed) [
      | inl p ↦ omega (arith, length_permutation _ _ p)
      | inr p ↦ omega (arith, ap length p.0)
    ]

pub kept_trans : (one two three : Search) → HasKept one two → HasKept two three → HasKept one three
kept_trans one two three p q = record { same = same_trans one two three p.same q.same; tried = q.tried ∙ p.tried; expanded = q.expanded ∙ p.expanded }

-- nothing waits where all were offered
pub none_waits : (f : ℕ → Key) (tried : List ℕ) → map f (drop (length tried) tried) ≡ []
none_waits f tried = ap (map f) (drop-length tried)
