-- The items at the ids below a bound, as a list: their number, each of them, and the list after a change.
use Rattle.std.proofs.Common.{◌≡◌, ◌≢◌, ℕ, zero, suc, ◌+◌, ◌-◌, ◌<◌, ◌≤◌, false, List, [], ◌∷◌, ◌++◌, length, get_or, set, refl, sym, ap, ◌∙◌, subst, arith, inl, inr, length-set, length-take-le}
use Rattle.std.specs.Prelude.{Some, None, IsSome, option_to_list, slice_get, swap_remove}
use Rattle.std.specs.declared.option.Option.{Option}
use Rattle.std.proofs.lemmas.Bool.{both_ways, cases_eq, cases_lt}
use Rattle.std.proofs.lemmas.List.{same_lists, get_or_append_left, get_or_push, get_or-take, get_or-set_same, get_or-set_other, length_push}
use Rattle.std.proofs.lemmas.Option.{same_Some, slice_get-get_or, slice_get_past}
use Rattle.vs_page.specs.FirstItems.{first, IsFull}

one_more : {X : Type 0} (xs : List X) (o : Option X) → IsSome o → length (xs ++ option_to_list o) ≡ suc (length xs)
one_more xs None h = absurd (both_ways false refl h)
one_more xs (Some x) h = omega (arith, length_push xs x)

pub first_long : {X : Type 0} (at : ℕ → Option X) (n : ℕ) → IsFull at n → length (first at n) ≡ n
first_long at zero full = refl
first_long at (suc n) full = one_more (first at n) (at n) (full n (omega arith)) ∙ ap suc (first_long at n (λ k lt. full k (omega (arith, lt))))

last_is : {X : Type 0} (xs : List X) (o : Option X) (n : ℕ) (d : X) → length xs ≡ n → IsSome o → o ≡ Some (get_or (xs ++ option_to_list o) n d)
last_is xs None n d long h = absurd (both_ways false refl h)
last_is xs (Some x) n d long h = ap Some (sym (get_or_push xs x d n long))

pub first_at : {X : Type 0} (at : ℕ → Option X) (n k : ℕ) (d : X) → IsFull at n → k < n → at k ≡ Some (get_or (first at n) k d)
first_at at zero k d full lt = absurd (omega (arith, lt))
first_at at (suc n) k d full lt =
    let less : IsFull at n = λ j low. full j (omega (arith, low)) in
    let long : length (first at n) ≡ n = first_long at n less in
    elim (cases_lt k n) [
      | inl h ↦ first_at at n k d less h ∙ ap Some (sym (get_or_append_left (first at n) (option_to_list (at n)) d k (omega (arith, h, long))))
      | inr h ↦
          let e : n ≡ k = omega (arith, h, lt) in
          subst (λ j. at j ≡ Some (get_or (first at n ++ option_to_list (at n)) j d)) e (last_is (first at n) (at n) n d long (full n (omega arith)))
    ]

there : {X : Type 0} (at : ℕ → Option X) (n k : ℕ) (o : Option X) → IsFull at n → k < n → at k ≡ o → IsSome o → at k ≡ slice_get (first at n) k
there at n k None full lt e h = absurd (both_ways false refl h)
there at n k (Some x) full lt e h = first_at at n k x full lt ∙ sym (slice_get-get_or (first at n) k x (omega (arith, lt, first_long at n full)))

pub first_there : {X : Type 0} (at : ℕ → Option X) (n k : ℕ) → IsFull at n → k < n → at k ≡ slice_get (first at n) k
first_there at n k full lt = there at n k (at k) full lt refl (full k lt)

pub first_past : {X : Type 0} (at : ℕ → Option X) (n k : ℕ) → IsFull at n → n ≤ k → slice_get (first at n) k ≡ None
first_past at n k full past = slice_get_past (first at n) k (omega (arith, past, first_long at n full))

-- the same items
pub same_first : {X : Type 0} (at at' : ℕ → Option X) (n : ℕ) → ((q : ℕ) → at' q ≡ at q) → first at' n ≡ first at n
same_first at at' n same = λ t. first (λ q. same q t) n

pub same_full : {X : Type 0} (at at' : ℕ → Option X) (n : ℕ) → ((q : ℕ) → at' q ≡ at q) → IsFull at n → IsFull at' n
same_full at at' n same full k lt = subst IsSome (sym (same k)) (full k lt)

-- one more
pub pushed_full : {X : Type 0} (at at' : ℕ → Option X) (n m : ℕ) (x : X) → m ≡ n + 1 → IsFull at n → at' n ≡ Some x → ((q : ℕ) → q ≢ n → at' q ≡ at q) → IsFull at' m
pushed_full at at' n m x more full here others k lt =
    elim (cases_eq k n) [
      | inl e ↦ subst IsSome (sym (ap at' e ∙ here)) refl
      | inr ne ↦ subst IsSome (sym (others k ne)) (full k (omega (arith, lt, more, ne)))
    ]

pub pushed_first : {X : Type 0} (at at' : ℕ → Option X) (n m : ℕ) (x : X) → m ≡ n + 1 → IsFull at n → at' n ≡ Some x → ((q : ℕ) → q ≢ n → at' q ≡ at q) → first at' m ≡ first at n ++ x ∷ []
pushed_first at at' n m x more full here others =
    let full' = pushed_full at at' n m x more full here others in
    let long : length (first at n) ≡ n = first_long at n full in
    let long' : length (first at' m) ≡ m = first_long at' m full' in
    same_lists (first at' m) (first at n ++ x ∷ []) (omega (arith, long, long', more, length_push (first at n) x))
    (λ k d lt.
    let low : k < m = omega (arith, lt, long') in
    same_Some (get_or (first at' m) k d) (get_or (first at n ++ x ∷ []) k d)
    (sym (first_at at' m k d full' low)
    ∙ elim (cases_eq k n) [
      | inl e ↦ ap at' e ∙ here ∙ ap Some (sym (get_or_push (first at n) x d k (long ∙ sym e)))
      | inr ne ↦
          let under : k < n = omega (arith, low, more, ne) in
          others k ne ∙ first_at at n k d full under ∙ ap Some (sym (get_or_append_left (first at n) (x ∷ []) d k (omega (arith, under, long))))
    ]))

-- the last one in the place of another
pub swapped_full : {X : Type 0} (at at' : ℕ → Option X) (n m place : ℕ) → n ≡ m + 1 → IsFull at n → (place ≢ m → at' place ≡ at m) → ((q : ℕ) → q ≢ m → q ≢ place → at' q ≡ at q) → IsFull at' m
swapped_full at at' n m place more full to others k lt =
    elim (cases_eq k place) [
      | inl e ↦ subst IsSome (sym (ap at' e ∙ to (λ q. omega (arith, q, e, lt)))) (full m (omega (arith, more)))
      | inr ne ↦ subst IsSome (sym (others k (λ q. omega (arith, q, lt)) ne)) (full k (omega (arith, lt, more)))
    ]

pub swapped_first : {X : Type 0} (at at' : ℕ → Option X) (n m place : ℕ) (d : X) → n ≡ m + 1 → place < n → IsFull at n → (place ≢ m → at' place ≡ at m) → ((q : ℕ) → q ≢ m → q ≢ place → at' q ≡ at q)
    → first at' m ≡ swap_remove (first at n) place d
swapped_first at at' n m place d more inside full to others =
    let full' = swapped_full at at' n m place more full to others in
    let all = first at n in
    let long : length all ≡ n = first_long at n full in
    let long' : length (first at' m) ≡ m = first_long at' m full' in
    let y = get_or all (length all - 1) d in
    let end : length all - 1 ≡ m = omega (arith, long, more) in
    let last : at m ≡ Some y = first_at at n m d full (omega (arith, more)) ∙ ap (λ k. Some (get_or all k d)) (sym end) in
    let out : length (swap_remove all place d) ≡ length all - 1 = length-take-le (length all - 1) (set all place y) (omega (arith, length-set all place y)) in
    same_lists (first at' m) (swap_remove all place d) (long' ∙ sym end ∙ sym out)
    (λ k e lt.
    let low : k < m = omega (arith, lt, long') in
    let here : get_or (swap_remove all place d) k e ≡ get_or (set all place y) k e = get_or-take (length all - 1) (set all place y) k e (omega (arith, low, end)) in
    same_Some (get_or (first at' m) k e) (get_or (swap_remove all place d) k e)
    (sym (first_at at' m k e full' low)
    ∙ elim (cases_eq k place) [
      | inl is ↦ ap at' is ∙ to (λ q. omega (arith, q, is, low)) ∙ last
          ∙ ap Some (sym (here ∙ ap (λ j. get_or (set all place y) j e) is ∙ get_or-set_same all place y e (omega (arith, inside, long))))
      | inr ne ↦ others k (λ q. omega (arith, q, low)) ne ∙ first_at at n k e full (omega (arith, low, more))
          ∙ ap Some (sym (here ∙ get_or-set_other all place k y e ne))
    ]))
