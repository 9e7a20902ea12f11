-- Each kind of step keeps the rule.
use Rattle.std.proofs.Common.{◌≡◌, ◌≢◌, ℕ, zero, suc, ◌+◌, ◌-◌, ◌%◌, ◌^◌, ◌<◌, ◌≤◌, min, List, [], ◌∷◌, ◌++◌, set, refl, sym, ap, ◌∙◌, subst, ⊎_elim, arith, lt_of_not-le}
use Rattle.std.specs.Prelude.{slice_set, slice_index}
use mathlib.Core.Option.{some, some-injective, some-ne-none}
use native.Mathlib.Decide.{dec_le}
use lib.ListN.{get_elem?}
use Rattle.atomic_table.specs.Table.{Me, Act, keeps, Valid, stepped, carried_after, Allows, Splits, Joins, opening}
use Rattle.atomic_table.proofs.Lists.{at_set, at_snoc, set_again}
use Rattle.vs_tickets.specs.declared.View.{View}
use Rattle.vs_tickets.specs.Rule.{share, all_parts, dealt_from, dealt, gathered, total, Fits, Kept, Drawn, Learned}

total_set : (f : View → ℕ) (views : List View) (i : ℕ) (v w : View) → get_elem? views i ≡ some v → total f (set views i w) + f v ≡ total f views + f w
total_set f [] i v w e = absurd (some-ne-none v (sym e))
total_set f (x ∷ xs) zero v w e = let same : f x ≡ f v = ap f (some-injective x v e) in omega arith
total_set f (x ∷ xs) (suc i) v w e = let r = total_set f xs i v w e in omega arith

total_push : (f : View → ℕ) (views : List View) (w : View) → total f (views ++ w ∷ []) ≡ total f views + f w
total_push f [] w = omega arith
total_push f (x ∷ xs) w = let r = total_push f xs w in omega arith

-- one is no more than all
total_one : (f : View → ℕ) (views : List View) (i : ℕ) (v : View) → get_elem? views i ≡ some v → f v ≤ total f views
total_one f [] i v e = absurd (some-ne-none v (sym e))
total_one f (x ∷ xs) zero v e = let same : f x ≡ f v = ap f (some-injective x v e) in omega arith
total_one f (x ∷ xs) (suc i) v e = let r = total_one f xs i v e in omega arith

-- two are no more than all
total_below : (f g : View → ℕ) (views : List View) → ((i : ℕ) (v : View) → get_elem? views i ≡ some v → f v ≤ g v) → total f views ≤ total g views
total_below f g [] h = omega arith
total_below f g (x ∷ xs) h = let r = total_below f g xs (λ i v e. h (suc i) v e) in let a = h 0 x refl in omega arith

-- where the others have no part, and f is 0 of who has none, f of all is f of the one
total_none : (f : View → ℕ) (views : List View) → total (λ u. u.parts) views ≡ 0 → ((i : ℕ) (u : View) → get_elem? views i ≡ some u → u.parts ≡ 0 → f u ≡ 0) → total f views ≡ 0
total_none f [] e h = refl
total_none f (x ∷ xs) e h = let a = h 0 x refl (omega arith) in let r = total_none f xs (omega arith) (λ i u at. h (suc i) u at) in omega arith

total_whole : (f : View → ℕ) (views : List View) (i : ℕ) (v : View) → get_elem? views i ≡ some v → total (λ u. u.parts) views ≡ v.parts → ((j : ℕ) (u : View) → get_elem? views j ≡ some u → u.parts ≡ 0 → f u ≡ 0) → total f views ≡ f v
total_whole f [] i v e p h = absurd (some-ne-none v (sym e))
total_whole f (x ∷ xs) zero v e p h =
    let parts : x.parts ≡ v.parts = ap (λ (u : View). u.parts) (some-injective x v e) in
    let same : f x ≡ f v = ap f (some-injective x v e) in
    let r = total_none f xs (omega arith) (λ i u at. h (suc i) u at) in omega arith
total_whole f (x ∷ xs) (suc i) v e p h =
    let one = total_one (λ u. u.parts) xs i v e in
    let none = h 0 x refl (omega arith) in
    let r = total_whole f xs i v e (omega arith) (λ j u at. h (suc j) u at) in omega arith

fits_set : (limit : ℕ) (views : List View) (i : ℕ) (w : View) → ((j : ℕ) (u : View) → get_elem? views j ≡ some u → Fits limit u) → Fits limit w → (j : ℕ) (u : View) → get_elem? (set views i w) j ≡ some u → Fits limit u
fits_set limit views i w others mine j u e = ⊎_elim (λ (t : (j ≡ i) × (w ≡ u)). subst (Fits limit) t.1 mine) (λ (t : (j ≢ i) × (get_elem? views j ≡ some u)). others j u t.1) (at_set views i j w u e)

fits_push : (limit : ℕ) (views : List View) (w : View) → ((j : ℕ) (u : View) → get_elem? views j ≡ some u → Fits limit u) → Fits limit w → (j : ℕ) (u : View) → get_elem? (views ++ w ∷ []) j ≡ some u → Fits limit u
fits_push limit views w others mine j u e = ⊎_elim (λ t. others j u t) (λ (same : w ≡ u). subst (Fits limit) same mine) (at_snoc views w u j e)

pub begins : (limit : ℕ) → Kept limit (opening (0 ∷ []) [] (share all_parts 0 0 limit))
begins limit = record { drawn = 0; words_are = refl; parts = refl; below = omega arith; past = omega arith; fits = one }
  where
    one : (by : ℕ) (v : View) → get_elem? (share all_parts 0 0 limit ∷ []) by ≡ some v → Fits limit v
    one zero v e = subst (Fits limit) (some-injective _ _ e) (record { idle = λ h. absurd (omega arith); few = omega arith; knows = λ _. refl })
    one (suc by) v e = absurd (some-ne-none v (sym e))

pub deals : (limit id : ℕ) (v : View) → v.past + 1 < v.parts → Splits (Kept limit) id v (dealt_from v) (dealt v)
deals limit id v many s k at =
    let views = slice_set s.views id (dealt_from v) in
    let mine = k.fits id v at in
    let p1 = total_set (λ u. u.parts) s.views id v (dealt_from v) at in let p2 = total_push (λ u. u.parts) views (dealt v) in let p = k.parts in
    let s1 = total_set (λ u. u.below) s.views id v (dealt_from v) at in let s2 = total_push (λ u. u.below) views (dealt v) in let q = k.below in
    let o1 = total_set (λ u. u.past) s.views id v (dealt_from v) at in let o2 = total_push (λ u. u.past) views (dealt v) in let o = k.past in
    let knows = mine.knows (omega arith) in
    record {
      drawn = k.drawn;
      words_are = k.words_are;
      parts = omega arith;
      below = s2 ∙ omega arith;
      past = o2 ∙ omega arith;
      fits = fits_push limit views (dealt v) (fits_set limit s.views id (dealt_from v) k.fits (record { idle = λ h. absurd (omega arith); few = omega arith; knows = λ _. knows }))
          (record { idle = λ h. absurd (omega arith); few = omega arith; knows = λ _. knows });
    }

pub gathers : (limit id : ℕ) (v : View) (other : ℕ) (w : View) → 0 < v.parts → v.limit ≡ limit → Joins (Kept limit) id v other w (gathered v w) (share 0 0 0 0)
gathers limit id v other w some_part knows s k at apart there =
    let both = gathered v w in
    let views = slice_set s.views id both in
    let mine = k.fits id v at in
    let was : get_elem? s.views other ≡ some w = ⊎_elim (λ (t : (other ≡ id) × (both ≡ w)). absurd (apart t.0)) (λ (t : (other ≢ id) × (get_elem? s.views other ≡ some w)). t.1) (at_set s.views id other both w there) in
    let theirs = k.fits other w was in
    let few = mine.few in let few' = theirs.few in
    let p1 = total_set (λ u. u.parts) s.views id v both at in let p2 = total_set (λ u. u.parts) views other w (share 0 0 0 0) there in let p = k.parts in
    let s1 = total_set (λ u. u.below) s.views id v both at in let s2 = total_set (λ u. u.below) views other w (share 0 0 0 0) there in let q = k.below in
    let o1 = total_set (λ u. u.past) s.views id v both at in let o2 = total_set (λ u. u.past) views other w (share 0 0 0 0) there in let o = k.past in
    record {
      drawn = k.drawn;
      words_are = k.words_are;
      parts = omega arith;
      below = omega arith;
      past = omega arith;
      fits = fits_set limit views other (share 0 0 0 0) (fits_set limit s.views id both k.fits (record { idle = λ h. absurd (omega arith); few = omega arith; knows = λ _. knows }))
          (record { idle = λ h. (refl, refl); few = omega arith; knows = λ h. absurd (omega arith) });
    }

pub learns : (limit slots id : ℕ) (me : Me ℕ View) → me.0.parts ≡ all_parts → me.0.limit ≡ limit → Allows (Kept limit) slots id me 0 (λ n. n) (Learned me)
learns limit slots id me whole knows s k homes at small =
    let p = k.parts in
    let found : slice_index s.words 0 ≡ k.drawn = ap (λ (ws : List ℕ). slice_index ws 0) k.words_are in
    let below = total_whole (λ u. u.below) s.views id me.0 at (omega arith) (λ j u e h. ((k.fits j u e).idle h).0) in
    let past = total_whole (λ u. u.past) s.views id me.0 at (omega arith) (λ j u e h. ((k.fits j u e).idle h).1) in
    let q = k.below in let o = k.past in (
      me.0,
      keeps,
      tt,
      record {
        drawn = k.drawn;
        words_are = subst (λ (ws : List ℕ). slice_set ws 0 (slice_index ws 0) ≡ k.drawn ∷ []) (sym k.words_are) refl;
        parts = subst (λ vs. total (λ u. u.parts) vs ≡ all_parts) (sym (set_again s.views id me.0 at)) k.parts;
        below = subst (λ vs. total (λ u. u.below) vs ≡ min k.drawn limit) (sym (set_again s.views id me.0 at)) k.below;
        past = subst (λ vs. total (λ u. u.past) vs ≡ k.drawn - limit) (sym (set_again s.views id me.0 at)) k.past;
        fits = fits_set limit s.views id me.0 k.fits (k.fits id me.0 at);
      },
      record { same = refl; below = omega arith; past = omega arith },
    )

pub draws : (limit slots id : ℕ) (me : Me ℕ View) → limit < 2 ^ 32 → me.0.past < me.0.parts → me.0.limit ≡ limit → Allows (Kept limit) slots id me 0 (λ n. (n + 1) % 2 ^ 64) (Drawn me)
draws limit slots id me small_limit more knows s k homes at small = go (dec_le limit k.drawn)
  where
    mine : Fits limit me.0
    mine = k.fits id me.0 at

    found : slice_index s.words 0 ≡ k.drawn
    found = ap (λ (ws : List ℕ). slice_index ws 0) k.words_are

    bounded : k.drawn ≤ limit + all_parts
    bounded = let b = total_below (λ u. u.past) (λ u. u.parts) s.views (λ i v e. (k.fits i v e).few) in let p = k.parts in let o = k.past in omega arith

    words : (slice_index s.words 0 + 1) % 2 ^ 64 ≡ k.drawn + 1
    words = let f = found in let b = bounded in omega arith

    after : slice_set s.words 0 ((slice_index s.words 0 + 1) % 2 ^ 64) ≡ (k.drawn + 1) ∷ []
    after = ap (λ (n : ℕ). slice_set s.words 0 n) words ∙ ap (λ (ws : List ℕ). slice_set ws 0 (k.drawn + 1)) k.words_are

    go : Dec (limit ≤ k.drawn) → (w : View) × (a : Act ℕ) × Valid s.homes me.1 a × Kept limit (stepped s 0 ((slice_index s.words 0 + 1) % 2 ^ 64) id me.1 w a) × Drawn me (slice_index s.words 0) (w, carried_after me.1 a)
    go (yes past) =
        let w = share me.0.parts me.0.below (me.0.past + 1) me.0.limit in
        let p1 = total_set (λ u. u.parts) s.views id me.0 w at in let p = k.parts in
        let s1 = total_set (λ u. u.below) s.views id me.0 w at in let q = k.below in
        let o1 = total_set (λ u. u.past) s.views id me.0 w at in let o = k.past in
        let f = found in (
          w,
          keeps,
          tt,
          record {
            drawn = k.drawn + 1;
            words_are = after;
            parts = omega arith;
            below = omega arith;
            past = omega arith;
            fits = fits_set limit s.views id w k.fits (record { idle = λ h. absurd (omega arith); few = omega arith; knows = λ _. knows });
          },
          record { slots = refl; below = λ h. absurd (omega arith); past = λ _. refl },
        )
    go (no low) =
        let w = share me.0.parts (me.0.below + 1) me.0.past me.0.limit in
        let below = lt_of_not-le low in
        let p1 = total_set (λ u. u.parts) s.views id me.0 w at in let p = k.parts in
        let s1 = total_set (λ u. u.below) s.views id me.0 w at in let q = k.below in
        let o1 = total_set (λ u. u.past) s.views id me.0 w at in let o = k.past in
        let few = mine.few in
        let f = found in (
          w,
          keeps,
          tt,
          record {
            drawn = k.drawn + 1;
            words_are = after;
            parts = omega arith;
            below = omega arith;
            past = omega arith;
            fits = fits_set limit s.views id w k.fits (record { idle = λ h. absurd (omega arith); few = omega arith; knows = λ _. knows });
          },
          record { slots = refl; below = λ _. refl; past = λ h. absurd (omega arith) },
        )
