-- Items in pages after one was put.
use Rattle.std.proofs.Common.{◌≡◌, ◌≢◌, ℕ, zero, suc, ◌+◌, ◌/◌, ◌%◌, ◌<◌, ◌≤◌, ◌==◌, Bool, true, false, refl, List, [], ◌∷◌, length, get_or, set, sym, ap, ◌∙◌, subst, arith, cond, inl, inr, below_more, ◌++◌}
use Rattle.std.specs.Prelude.{Some, None, slice_get, slice_set}
use Rattle.std.specs.declared.option.Option.{Option}
use Rattle.std.proofs.lemmas.List.{get_or-set_same, get_or-set_other, get_or_append_left, get_or_push, get_or_past}
use Rattle.std.proofs.lemmas.Bool.{cases_eq, cases_lt, eqb-true}
use Rattle.std.specs.Prelude.{unwrap_or}
use Rattle.std.specs.Option.{option_or}
use Rattle.vs_page.specs.Changes.{says, shown}
use Rattle.vs_page.specs.declared.page_map.Change.{Change}
use Rattle.vs_page.specs.Tree.{item_at, list_at, at_digits, at_root, page_with, branch_with, root_with}

-- a list with its own item put at its place
pub set_own : {X : Type 0} (xs : List X) (i : ℕ) (x : X) → slice_get xs i ≡ Some x → slice_set xs i x ≡ xs
set_own [] i x h = refl
set_own (y ∷ ys) zero x h = grind arith
set_own (y ∷ ys) (suc i) x h = ap (λ t. y ∷ t) (set_own ys i x h)

pub put_here : {X : Type 0} (root : List (List (List (Option X)))) (b p i : ℕ) (item : Option X) → b < length root → p < length (list_at root b) → i < length (list_at (list_at root b) p)
    → at_digits (root_with root b p i item) b p i ≡ item
put_here root b p i item hb hp hi =
    ap (λ t. item_at (list_at t p) i) (get_or-set_same root b (branch_with (list_at root b) p i item) [] hb)
    ∙ ap (λ t. item_at t i) (get_or-set_same (list_at root b) p (page_with (list_at (list_at root b) p) i item) [] hp)
    ∙ get_or-set_same (list_at (list_at root b) p) i item None hi

-- a list that is made by pushing what another has at each place, in a loop
pub pushed_next : {X : Type 0} (d : X) (xs ys zs : List X) (x : X) (n : ℕ) → ys ≡ xs ++ x ∷ [] → x ≡ get_or zs n d → length xs ≡ n → ((k : ℕ) → k < n → get_or xs k d ≡ get_or zs k d)
    → (k : ℕ) → k < n + 1 → get_or ys k d ≡ get_or zs k d
pushed_next d xs ys zs x n made is long all =
    below_more (λ k. get_or ys k d ≡ get_or zs k d) n
    (λ k h. ap (λ l. get_or l k d) made ∙ get_or_append_left xs (x ∷ []) d k (subst (λ m. k < m) (sym long) h) ∙ all k h)
    (ap (λ l. get_or l n d) made ∙ get_or_push xs x d n long ∙ is)

pub all_places : {X : Type 0} (d : X) (ys zs : List X) (n : ℕ) → length ys ≡ n → length zs ≤ n → ((k : ℕ) → k < n → get_or ys k d ≡ get_or zs k d) → (k : ℕ) → get_or ys k d ≡ get_or zs k d
all_places d ys zs n long few all k =
    elim (cases_lt k n) [
      | inl h ↦ all k h
      | inr h ↦ get_or_past ys k d (omega (arith, long)) ∙ sym (get_or_past zs k d (omega arith))
    ]

-- ---- other ids

put_other : {X : Type 0} (root : List (List (List (Option X)))) (b p i b' p' i' : ℕ) (item : Option X) → b < length root → p < length (list_at root b)
    → (b' ≡ b → p' ≡ p → i' ≡ i → ⊥) → at_digits (root_with root b p i item) b' p' i' ≡ at_digits root b' p' i'
put_other root b p i b' p' i' item hb hp differ =
    let branch = list_at root b in
    let page = list_at branch p in
    elim (cases_eq b' b) [
      | inr nb ↦ ap (λ t. item_at (list_at t p') i') (get_or-set_other root b b' (branch_with branch p i item) [] nb)
      | inl eb ↦
          subst (λ z. at_digits (root_with root b p i item) z p' i' ≡ at_digits root z p' i') (sym eb)
          (ap (λ t. item_at (list_at t p') i') (get_or-set_same root b (branch_with branch p i item) [] hb)
          ∙ elim (cases_eq p' p) [
            | inr np ↦ ap (λ t. item_at t i') (get_or-set_other branch p p' (page_with page i item) [] np)
            | inl ep ↦
                subst (λ z. item_at (list_at (branch_with branch p i item) z) i' ≡ item_at (list_at branch z) i') (sym ep)
                (ap (λ t. item_at t i') (get_or-set_same branch p (page_with page i item) [] hp)
                ∙ get_or-set_other page i i' item None (differ eb ep))
          ])
    ]

digits_fix : (q id : ℕ) → q / 4096 ≡ id / 4096 → q / 16 % 256 ≡ id / 16 % 256 → q % 16 ≡ id % 16 → q ≡ id
digits_fix q id b p i = omega arith

pub put_at_others : {X : Type 0} (root : List (List (List (Option X)))) (id : ℕ) (item : Option X) → id / 4096 < length root → id / 16 % 256 < length (list_at root (id / 4096))
    → (q : ℕ) → q ≢ id → at_root (root_with root (id / 4096) (id / 16 % 256) (id % 16) item) q ≡ at_root root q
put_at_others root id item hb hp q ne =
    put_other root (id / 4096) (id / 16 % 256) (id % 16) (q / 4096) (q / 16 % 256) (q % 16) item hb hp (λ b p i. ne (digits_fix q id b p i))

-- ---- changes that are still to come

cond_step : {X : Type 0} (t : Bool) (x a b : X) (y y' : Option X) → unwrap_or y a ≡ unwrap_or y' b → unwrap_or (cond t (Some x) y) a ≡ unwrap_or (cond t (Some x) y') b
cond_step true x a b y y' h = refl
cond_step false x a b y y' h = h

last_step : {X : Type 0} (t : Bool) (x a b : X) → (t ≡ true → b ≡ x) → (t ≡ false → b ≡ a) → unwrap_or (cond t (Some x) None) a ≡ b
last_step true x a b h k = sym (h refl)
last_step false x a b h k = sym (k refl)

ne_of : (m n : ℕ) → (m == n) ≡ false → n ≢ m
ne_of m n h = λ e. grind arith

pub settled_one : {X : Type 0} (front : List (Change X)) (c : Change X) (q : ℕ) (a b : Option X) → (q ≡ c.id → b ≡ c.item) → (q ≢ c.id → b ≡ a)
    → unwrap_or (says front q) b ≡ unwrap_or (says (front ++ c ∷ []) q) a
settled_one [] c q a b here others = sym (last_step (c.id == q) c.item a b (λ t. here (sym (eqb-true c.id q t))) (λ t. others (ne_of c.id q t)))
settled_one (f ∷ fs) c q a b here others = cond_step (f.id == q) f.item b a (says fs q) (says (fs ++ c ∷ []) q) (settled_one fs c q a b here others)

pub settle_same : {X : Type 0} (late front : List (Change X)) (c : Change X) (root new : List (List (List (Option X)))) → late ≡ front ++ c ∷ []
    → new ≡ root_with root (c.id / 4096) (c.id / 16 % 256) (c.id % 16) c.item
    → c.id / 4096 < length root → c.id / 16 % 256 < length (list_at root (c.id / 4096)) → c.id % 16 < length (list_at (list_at root (c.id / 4096)) (c.id / 16 % 256))
    → (q : ℕ) → shown front new q ≡ shown late root q
settle_same late front c root new split put hb hp hi q =
    settled_one front c q (at_root root q) (at_root new q)
    (λ e. subst (λ z. at_root new z ≡ c.item) (sym e) (ap (λ t. at_root t c.id) put ∙ put_here root (c.id / 4096) (c.id / 16 % 256) (c.id % 16) c.item hb hp hi))
    (λ ne. ap (λ t. at_root t q) put ∙ put_at_others root c.id c.item hb hp q ne)
    ∙ ap (λ l. shown l root q) (sym split)

-- ---- changes after others

first_case : {X : Type 0} (b : Bool) (x : X) (o p : Option X) → cond b (Some x) (option_or o p) ≡ option_or (cond b (Some x) o) p
first_case true x o p = refl
first_case false x o p = refl

first_or : {X : Type 0} (b : Bool) (x a d : X) (o p : Option X) → unwrap_or o a ≡ unwrap_or p d → unwrap_or (cond b (Some x) o) a ≡ unwrap_or (cond b (Some x) p) d
first_or true x a d o p h = refl
first_or false x a d o p h = h

pub says_append : {X : Type 0} (front back : List (Change X)) (q : ℕ) → says (front ++ back) q ≡ option_or (says front q) (says back q)
says_append [] back q = refl
says_append (f ∷ fs) back q = ap (cond (f.id == q) (Some f.item)) (says_append fs back q) ∙ first_case (f.id == q) f.item (says fs q) (says back q)

pub shown_append : {X : Type 0} (front back : List (Change X)) (root : List (List (List (Option X)))) (q : ℕ) → shown (front ++ back) root q ≡ unwrap_or (says front q) (shown back root q)
shown_append [] back root q = refl
shown_append (f ∷ fs) back root q = first_or (f.id == q) f.item (at_root root q) (shown back root q) (says (fs ++ back) q) (says fs q) (shown_append fs back root q)

-- ---- look-ups

pub got_some : {X : Type 0} (xs : List X) (i : ℕ) (x d : X) → Some x ≡ slice_get xs i → get_or xs i d ≡ x
got_some [] i x d h = grind arith
got_some (y ∷ ys) zero x d h = grind arith
got_some (y ∷ ys) (suc i) x d h = got_some ys i x d h

pub got_none : {X : Type 0} (xs : List X) (i : ℕ) (d : X) → None ≡ slice_get xs i → get_or xs i d ≡ d
got_none [] i d h = refl
got_none (y ∷ ys) zero d h = grind arith
got_none (y ∷ ys) (suc i) d h = got_none ys i d h

inside_of : {X : Type 0} (xs : List X) (i : ℕ) (x : X) → slice_get xs i ≡ Some x → i < length xs
inside_of [] i x h = grind arith
inside_of (y ∷ ys) zero x h = omega arith
inside_of (y ∷ ys) (suc i) x h = omega (arith, inside_of ys i x h)

-- another element that means the same
pub set_keeps : {X Y : Type 0} (f : X → Y) (xs : List X) (i : ℕ) (x y d : X) → slice_get xs i ≡ Some x → f y ≡ f x → (p : ℕ) → f (get_or (set xs i y) p d) ≡ f (get_or xs p d)
set_keeps f xs i x y d at same p =
    elim (cases_eq p i) [
      | inr ne ↦ ap f (get_or-set_other xs i p y d ne)
      | inl e ↦
          subst (λ z. f (get_or (set xs i y) z d) ≡ f (get_or xs z d)) (sym e)
          (ap f (get_or-set_same xs i y d (inside_of xs i x at)) ∙ same ∙ ap f (sym (got_some xs i x d (sym at))))
    ]
