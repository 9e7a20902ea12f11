-- What becomes of a set by one change: either its cut is the change's number, or it lasts with the cut that it had.
--     lasts_same, lasts_on     a set lasts from itself, and from one that lasted
--     next_of                  a set of a store after a step, by the set that its key had before
use Rattle.std.proofs.Common.{◌≡◌, ℕ, ◌+◌, Bool, true, false, cond, List, [], ◌∷◌, ◌++◌, refl, sym, ap, ◌∙◌, subst, inl, inr}
use Rattle.std.specs.Prelude.{Option, Some, None, option_map, is_some, ◌⊎◌}
use Rattle.std.specs.Option.{option_or}
use Rattle.std.proofs.lemmas.Bool.{false≢true, cases_Bool}
use Rattle.std.proofs.lemmas.List.Folds.{find-append}
use Rattle.std.proofs.lemmas.Option.{none-some, same_Some}
use Rattle.vs_defs.specs.Bytes.{Bytes, same_name, listed}
use Rattle.vs_defs.specs.Request as request
use Rattle.vs_defs.specs.Request.{Request, Add, Answer}
use Rattle.vs_defs.specs.Store.{Member, Contents, PlainStore, Set, Store, set_of, lookup_set, member_of, is_member, is_of_name, without_member, plain}
use Rattle.vs_defs.specs.PlainStep.{changed, added, added_to, added_member, removed, unless_empty, attributed, with_attr, kept_attr, drop_none, drawn_level}
use Rattle.vs_defs.specs.Step.{Step, Drafted}
use Rattle.vs_defs.proofs.Keys.{kept_set, gone_set, found_with, plain_at}
use Rattle.vs_thread_defs.specs.Laws.{Lasts, shape_of}

pub lasts_same : (x : Contents) → Lasts x x
lasts_same x = record { dim = refl; m = refl; members = λ name there. refl }

some_shape : (o : Option Member) → is_some (shape_of o) ≡ is_some o
some_shape None = refl
some_shape (Some x) = refl

pub lasts_on : (x y z : Contents) → Lasts x y → Lasts y z → Lasts x z
lasts_on x y z first second = record {
  dim = second.dim ∙ first.dim;
  m = second.m ∙ first.m;
  members = λ name there.
      let same = first.members name there in
      let still : is_member name y.members ≡ true
      = sym (some_shape (member_of name y.members)) ∙ ap is_some same ∙ some_shape (member_of name x.members) ∙ there in
      second.members name still ∙ same;
}

-- ---- one set

or_first : {A : Type 0} (o p : Option A) → is_some o ≡ true → option_or o p ≡ o
or_first None p t = absurd (false≢true t)
or_first (Some x) p t = refl

still_first : (name : Bytes) (xs ys : List Member) → is_member name xs ≡ true → member_of name (xs ++ ys) ≡ member_of name xs
still_first name xs ys there = find-append (is_of_name name) xs ys ∙ or_first (member_of name xs) (member_of name ys) there

-- a member with another attribute, where b says so, in front of the rest
attr_by : (name : Bytes) (attr : Option Bytes) (y : Member) (rest others : List Member) (b c : Bool) → same_name name y.name ≡ c → shape_of (member_of name rest) ≡ shape_of (member_of name others)
    → shape_of (member_of name (cond b (record y { attr = attr }) y ∷ rest)) ≡ shape_of (cond c (Some y) (member_of name others))
attr_by name attr y rest others true true e same = ap (λ t. shape_of (cond t (Some (record y { attr = attr })) (member_of name rest))) e
attr_by name attr y rest others true false e same = ap (λ t. shape_of (cond t (Some (record y { attr = attr })) (member_of name rest))) e ∙ same
attr_by name attr y rest others false true e same = ap (λ t. shape_of (cond t (Some y) (member_of name rest))) e
attr_by name attr y rest others false false e same = ap (λ t. shape_of (cond t (Some y) (member_of name rest))) e ∙ same

attr_shape : (n name : Bytes) (attr : Option Bytes) (xs : List Member) → shape_of (member_of n (with_attr name attr xs)) ≡ shape_of (member_of n xs)
attr_shape n name attr [] = refl
attr_shape n name attr (y ∷ ys) = attr_by n attr y (with_attr name attr ys) ys (is_of_name name y) (same_name n y.name) refl (attr_shape n name attr ys)

-- y comes after the n-th change: its cut is n, or it lasts from what was there
abbrev pub Next : ℕ → Option Contents → Contents → Type 0
Next n o y = (y.cut ≡ n) ⊎ ((x : Contents) × (o ≡ Some x) × (y.cut ≡ x.cut) × Lasts x y)

same_next : (n : ℕ) (o : Option Contents) (y : Contents) → o ≡ Some y → Next n o y
same_next n o y e = inr (y, e, refl, lasts_same y)

added_to_next : (add : Add) (level n : ℕ) (x : Contents) (old : Option Member) → Next n (Some x) (added_to add level n x old).0
added_to_next add level n x None =
    inr (x, refl, refl, record { dim = refl; m = refl; members = λ name there. ap shape_of (still_first name x.members (added_member add level None ∷ []) there) })
added_to_next add level n x (Some old) = inl refl

added_next : (add : Add) (level n : ℕ) (o : Option Contents) → Next n o (added add level n o).0
added_next add level n None = inl refl
added_next add level n (Some x) = added_to_next add level n x (member_of add.name x.members)

unless_next : (x : Contents) (members : List Member) (y : Contents) → unless_empty x members ≡ Some y → y.cut ≡ x.cut
unless_next x [] y e = absurd (none-some y e)
unless_next x (z ∷ zs) y e = ap (λ (c : Contents). c.cut) (sym (same_Some (record x { members = z ∷ zs }) y e))

removed_next : (name : Bytes) (n : ℕ) (o : Option Contents) (y : Contents) → drop_none (option_map (removed name n) o) ≡ Some y → Next n o y
removed_next name n None y e = absurd (none-some y e)
removed_next name n (Some x) y e = inl (unless_next (record x { cut = n }) (without_member name x.members) y e)

attributed_next : (name text : Bytes) (n : ℕ) (o : Option Contents) (y : Contents) → option_map (attributed name text) o ≡ Some y → Next n o y
attributed_next name text n None y e = absurd (none-some y e)
attributed_next name text n (Some x) y e =
    subst (Next n (Some x)) (same_Some (attributed name text x) y e)
    (inr (x, refl, refl, record { dim = refl; m = refl; members = λ k there. attr_shape k name (kept_attr text) x.members }))

-- ---- one change of a store

module _ (s : PlainStore) (words : List ℕ) (k : Bytes) (y : Contents) where
  abbrev n : ℕ
  n = s.changes + 1

  at_key : (key : Bytes) (x : Option Contents) → ((o : Option Contents) → o ≡ set_of key s → x ≡ Some y → Next n o y) → ((k ≡ key) × (x ≡ Some y)) ⊎ (set_of k s ≡ Some y) → Next n (set_of k s) y
  at_key key x f (inl h) = f (set_of k s) (ap (λ j. set_of j s) h.0) h.1
  at_key key x f (inr e) = same_next n (set_of k s) y e

  change_next : (r : Request) → lookup_set k (changed s r words).0 ≡ Some y → Next n (set_of k s) y
  change_next (request.Vadd add) e =
      let x : Contents = (added add (drawn_level words) n (set_of add.key s)).0 in
      at_key add.key (Some x) (λ o is h. subst (λ p. Next n p y) (sym is) (subst (Next n (set_of add.key s)) (same_Some x y h) (added_next add (drawn_level words) n (set_of add.key s))))
      (found_with add.key k (Some x) s.sets y e)
  change_next (request.Vrem key name) e =
      at_key key (drop_none (option_map (removed name n) (set_of key s))) (λ o is h. subst (λ p. Next n p y) (sym is) (removed_next name n (set_of key s) y h))
      (found_with key k (drop_none (option_map (removed name n) (set_of key s))) s.sets y e)
  change_next (request.Vsetattr key name text) e =
      at_key key (option_map (attributed name text) (set_of key s)) (λ o is h. subst (λ p. Next n p y) (sym is) (attributed_next name text n (set_of key s) y h))
      (found_with key k (option_map (attributed name text) (set_of key s)) s.sets y e)
  change_next (request.Del keys) e = elim (cases_Bool (listed k keys)) [
    | inl t ↦ absurd (none-some y (sym (gone_set (λ key. listed key keys) k s.sets t) ∙ e))
    | inr f ↦ same_next n (set_of k s) y (sym (kept_set (λ key. listed key keys) k s.sets f) ∙ e)
  ]
  change_next (request.Ping text) e = same_next n (set_of k s) y e
  change_next request.Quit e = same_next n (set_of k s) y e
  change_next (request.Exists keys) e = same_next n (set_of k s) y e
  change_next (request.Vsim search) e = same_next n (set_of k s) y e
  change_next (request.Vcard key) e = same_next n (set_of k s) y e
  change_next (request.Vdim key) e = same_next n (set_of k s) y e
  change_next (request.Vemb key name) e = same_next n (set_of k s) y e
  change_next (request.Vlinks key name scores) e = same_next n (set_of k s) y e
  change_next (request.Vinfo key) e = same_next n (set_of k s) y e
  change_next (request.Vgetattr key name) e = same_next n (set_of k s) y e
  change_next (request.Vrandmember key count) e = same_next n (set_of k s) y e
  change_next (request.Vismember key name) e = same_next n (set_of k s) y e

-- the set whose contents these are
with_links : (o : Option Set) (x : Contents) → option_map (λ y. y.contents) o ≡ Some x → (was : Set) × (o ≡ Some was) × (was.contents ≡ x)
with_links None x e = absurd (none-some x e)
with_links (Some was) x e = (was, refl, same_Some was.contents x e)

-- the same for a set of a store, over one step
abbrev pub NextSet : ℕ → Option Set → Set → Type 0
NextSet n o y = (y.contents.cut ≡ n) ⊎ ((x : Set) × (o ≡ Some x) × (y.contents.cut ≡ x.contents.cut) × Lasts x.contents y.contents)

pub next_of : (old new : Store Set) (r : Request) (words : List ℕ) (a : Answer) (d : Option Drafted) → Step old r words a new d → (k : Bytes) (y : Set) → set_of k new ≡ Some y
    → NextSet (old.changes + 1) (set_of k old) y
next_of old new r words a d step k y is =
    let plainly : lookup_set k (changed (plain old) r words).0 ≡ Some y.contents
    = sym (step.contents.sets k) ∙ plain_at k new.sets ∙ ap (option_map (λ (x : Set). x.contents)) is in
    elim (change_next (plain old) words k y.contents r plainly) [
      | inl e ↦ inl e
      | inr h ↦
          let was = with_links (set_of k old) h.0 (sym (plain_at k old.sets) ∙ h.1) in
          inr (was.0, was.1, h.2 ∙ ap (λ (c : Contents). c.cut) (sym was.2), subst (λ c. Lasts c y.contents) (sym was.2) h.3)
    ]
