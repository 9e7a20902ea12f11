-- The member of a name by its place, and what is told of the member at a place.
--     within, found_there      the place of a name is that of a member, which is the name's
--     found_nowhere            a name without a place is no member
--     has_place                a name that is a member has a place
--     name_there               the name at a place
--     both_there               what follows of the member at a place from two facts of it
--     member_there             the member of a name, with a fact of the member at its place
--     own_name                 where names are once, a member is that of its name
--     answer_there             an answer that is told of the member at a place
--     all_there                what holds of all holds of the member at a place
use Rattle.std.proofs.Common.{◌≡◌, ℕ, zero, suc, ◌<◌, Bool, true, false, List, [], ◌∷◌, Option, Some, None, length, refl, sym, ap, ◌∙◌, subst, inl, inr, position, ltb, get_or, arith, is_some, option_map, IsSomeAnd, All}
use Rattle.std.specs.Prelude.{slice_get, unwrap_or}
use Rattle.std.specs.List.{position_or_len}
use Rattle.std.proofs.lemmas.Bool.{cond-true, cases_Bool, ltb-false, both_ways, false_from_ne_true}
use Rattle.std.proofs.lemmas.Option.{cond_some, none-some, slice_get_past, slice_get_within, get_or_from_slice_get}
use Rattle.std.proofs.lemmas.List.Folds.{find_at}
use Rattle.std.proofs.lemmas.List.Quantifiers.{position-Some}
use Rattle.std.proofs.lemmas.List.Sums.{position_or_len_is}
use Rattle.std.proofs.lemmas.Slice.Eq.{bytes_eq-Decides}
use Rattle.vs_defs.specs.Bytes.{Bytes}
use Rattle.vs_defs.specs.Draws.{name_at}
use Rattle.vs_defs.specs.Store.{Member, names_of, is_of_name, is_member, member_of, no_member, HasNamesOnce}

pub within : (name : Bytes) (members : List Member) (place : ℕ) → position (is_of_name name) members ≡ Some place → place < length members
within name members place e = (position-Some (is_of_name name) members place no_member e).0

pub found_there : (name : Bytes) (members : List Member) (place : ℕ) → position (is_of_name name) members ≡ Some place → member_of name members ≡ slice_get members place
found_there name members place e =
    let n : ℕ = position_or_len (is_of_name name) members in
    let is : n ≡ place = (cond_some (ltb n (length members)) n place e).1 in
    find_at (is_of_name name) members ∙ ap (slice_get members) is

pub found_nowhere : (name : Bytes) (members : List Member) → position (is_of_name name) members ≡ None → member_of name members ≡ None
found_nowhere name members e =
    let n : ℕ = position_or_len (is_of_name name) members in
    elim (cases_Bool (ltb n (length members))) [
      | inl t ↦ absurd (none-some n (sym e ∙ cond-true (ltb n (length members)) (Some n) None t))
      | inr f ↦ find_at (is_of_name name) members ∙ slice_get_past members n (ltb-false n (length members) f)
    ]

pub has_place : (name : Bytes) (members : List Member) → is_member name members ≡ true → position (is_of_name name) members ≡ None → ⊥
has_place name members member none = both_ways (is_member name members) (ap is_some (found_nowhere name members none)) member

pub name_there : (members : List Member) (place : ℕ) (name : Bytes) → IsSomeAnd (slice_get members place) (λ x. name ≡ x.name) → name_at place (names_of members) ≡ name
name_there [] place name h = absurd h
name_there (x ∷ xs) zero name h = sym h
name_there (x ∷ xs) (suc place) name h = name_there xs place name h

pub both_there : (o : Option Member) (P Q R : Member → Type 0) → ((x : Member) → P x → Q x → R x) → IsSomeAnd o P → IsSomeAnd o Q → IsSomeAnd o R
both_there None P Q R f p q = absurd p
both_there (Some x) P Q R f p q = f x p q

pub weaker_there : (o : Option Member) (P Q : Member → Type 0) → ((x : Member) → P x → Q x) → IsSomeAnd o P → IsSomeAnd o Q
weaker_there None P Q f p = absurd p
weaker_there (Some x) P Q f p = f x p

pub some_and : (o : Option Member) (P : Member → Type 0) → IsSomeAnd o P → (x : Member) × (o ≡ Some x) × P x
some_and None P h = absurd h
some_and (Some x) P h = (x, refl, h)

pub member_there : (name : Bytes) (members : List Member) (place : ℕ) (P : Member → Type 0) → position (is_of_name name) members ≡ Some place → IsSomeAnd (slice_get members place) P
    → (x : Member) × (member_of name members ≡ Some x) × (x.name ≡ name) × P x
member_there name members place P e h =
    let at = some_and (slice_get members place) P h in
    let x : Member = at.0 in
    let has : is_of_name name (get_or members place x) ≡ true = (position-Some (is_of_name name) members place x e).1 in
    let here : get_or members place x ≡ x = get_or_from_slice_get members place x x at.1 in
    (x, found_there name members place e ∙ at.1, sym ((bytes_eq-Decides name x.name).0 (ap (is_of_name name) (sym here) ∙ has)), at.2)

-- where names are once, each member is that of its name
pub own_name : (members : List Member) → HasNamesOnce members → (place : ℕ) (x : Member) → slice_get members place ≡ Some x → member_of x.name members ≡ Some x
own_name members once place x e =
    let p : Member → Bool = is_of_name x.name in
    let lt : place < length members = slice_get_within members place x e in
    let here : get_or members place x ≡ x = get_or_from_slice_get members place x x e in
    let others : (k : ℕ) → k < place → p (get_or members k x) ≡ false
    = λ k less. false_from_ne_true (p (get_or members k x)) (λ t. once k place x less lt (sym ((bytes_eq-Decides x.name (get_or members k x).name).0 t) ∙ sym (ap (λ (y : Member). y.name) here))) in
    let own : p (get_or members place x) ≡ true = (bytes_eq-Decides x.name (get_or members place x).name).1 (sym (ap (λ (y : Member). y.name) here)) in
    find_at p members ∙ ap (slice_get members) (position_or_len_is p members place x (omega arith) others (λ _. own)) ∙ e

told_of : {A : Type 0} (absent answer : A) (f : Member → A) (o : Option Member) → IsSomeAnd o (λ x. answer ≡ f x) → answer ≡ unwrap_or (option_map f o) absent
told_of absent answer f None h = absurd h
told_of absent answer f (Some x) h = h

pub answer_there : {A : Type 0} (absent answer : A) (f : Member → A) (name : Bytes) (members : List Member) (place : ℕ) → position (is_of_name name) members ≡ Some place
    → IsSomeAnd (slice_get members place) (λ x. answer ≡ f x) → answer ≡ unwrap_or (option_map f (member_of name members)) absent
answer_there absent answer f name members place e h =
    told_of absent answer f (slice_get members place) h ∙ ap (λ o. unwrap_or (option_map f o) absent) (sym (found_there name members place e))

-- what holds of all members holds of the one at a place
pub all_there : (members : List Member) (place : ℕ) (P Q : Member → Type 0) → All P members → IsSomeAnd (slice_get members place) Q → IsSomeAnd (slice_get members place) (λ x. P x × Q x)
all_there members place P Q all h = by (slice_get members place) refl h where
  by : (o : Option Member) → slice_get members place ≡ o → IsSomeAnd o Q → IsSomeAnd o (λ x. P x × Q x)
  by None e q = absurd q
  by (Some x) e q = (subst P (get_or_from_slice_get members place x x e) (all place x (slice_get_within members place x e)), q)
