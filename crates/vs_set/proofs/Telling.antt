-- What rows of words tell of the members, after a change of both.
--     rows_put           one row is put, and the others stay
--     rows_pushed, rows_behind      a row is put behind the last member, who comes or doesn't
--     rows_replaced, rows_removed, rows_given      a member is replaced, removed, or gets another attribute
--     rows_same, rows_none      a copy of the rows, and no members
--     told               the words that are told at a member's place
use Rattle.std.proofs.Common.{◌≡◌, ◌≢◌, ℕ, zero, suc, ◌<◌, ◌+◌, ◌-◌, Bool, true, false, not, cond, List, [], ◌∷◌, ◌++◌, length, set, refl, sym, ap, ◌∙◌, subst, arith, inl, inr, get_or, length-take-le}
use Rattle.std.specs.Prelude.{Some, None, IfSome, IsSomeAnd, slice_get, swap_remove, position, nat_lt}
use Rattle.std.specs.declared.option.Option.{Option}
use Rattle.std.specs.List.{position_or_len}
use Rattle.std.proofs.lemmas.Bool.{cases_eq}
use Rattle.std.proofs.lemmas.List.{length-map, length-set, length_push, get_or_append_left, get_or_push, get_or-set_same, get_or-set_other, get_or-take}
use Rattle.std.proofs.lemmas.Option.{cond_some, slice_get-get_or}
use Rattle.vs_defs.specs.Bytes.{Bytes}
use Rattle.vs_defs.specs.Store.{Member, is_of_name, no_member, with_replaced}
use Rattle.vs_defs.specs.PlainStep.{with_attr}
use Rattle.vs_page.specs.Rows.{IsPut}
use Rattle.vs_truth.specs.Nearest.{KeepsBits}
use Rattle.vs_set.specs.Kept.{AreRowsOf}

-- what is told is what was said
if_said : (now said : Option (List ℕ)) (P : List ℕ → Type 0) → IfSome now (λ row. said ≡ Some row) → IfSome said P → IfSome now P
if_said None said P e h = tt
if_said (Some row) said P e h = subst (λ o. IfSome o P) e h

pub rows_put : (old new : ℕ → Option (List ℕ)) (ms later : List Member) (n : ℕ) (said : Option (List ℕ)) → AreRowsOf old ms → IsPut old new n said
    → ((k : ℕ) → k < length later → k ≢ n → (k < length ms) × ((get_or later k no_member).bits ≡ (get_or ms k no_member).bits))
    → (n < length later → IfSome said (λ words. KeepsBits (get_or later n no_member).bits words)) → AreRowsOf new later
rows_put old new ms later n said are put others there k low = elim (cases_eq k n) [
  | inl is ↦
      if_said (new k) said (λ words. KeepsBits (get_or later k no_member).bits words) (subst (λ q. IfSome (new q) (λ row. said ≡ Some row)) (sym is) put.there)
      (subst (λ q. IfSome said (λ words. KeepsBits (get_or later q no_member).bits words)) (sym is) (there (subst (λ q. q < length later) is low)))
  | inr ne ↦
      let o = others k low ne in
      if_said (new k) (old k) (λ words. KeepsBits (get_or later k no_member).bits words) (put.others k ne)
      (subst (λ b. IfSome (old k) (λ words. KeepsBits b words)) (sym o.1) (are k o.0))
]

module _ (old new : ℕ → Option (List ℕ)) (ms : List Member) (are : AreRowsOf old ms) where
  -- what is told behind the last member says nothing of the members
  pub rows_behind : (n : ℕ) (said : Option (List ℕ)) → n ≡ length ms → IsPut old new n said → AreRowsOf new ms
  rows_behind n said last put =
      rows_put old new ms ms n said are put (λ k low ne. (low, refl)) (λ low. absurd (omega (arith, low, last)))

  pub rows_pushed : (x : Member) (n : ℕ) (words : List ℕ) → n ≡ length ms → IsPut old new n (Some words) → KeepsBits x.bits words → AreRowsOf new (ms ++ x ∷ [])
  rows_pushed x n words last put keeps =
      rows_put old new ms (ms ++ x ∷ []) n (Some words) are put
      (λ k low ne.
      let under : k < length ms = omega (arith, low, ne, last, length_push ms x) in
      (under, ap (λ (y : Member). y.bits) (get_or_append_left ms (x ∷ []) no_member k under)))
      (λ low. subst (λ (y : Member). KeepsBits y.bits words) (sym (get_or_push ms x no_member n (sym last))) keeps)

  pub rows_set : (x : Member) (n : ℕ) (words : List ℕ) → IsPut old new n (Some words) → KeepsBits x.bits words → AreRowsOf new (set ms n x)
  rows_set x n words put keeps =
      let long : length (set ms n x) ≡ length ms = length-set ms n x in
      rows_put old new ms (set ms n x) n (Some words) are put
      (λ k low ne. (omega (arith, low, long), ap (λ (y : Member). y.bits) (get_or-set_other ms n k x no_member ne)))
      (λ low. subst (λ (y : Member). KeepsBits y.bits words) (sym (get_or-set_same ms n x no_member (omega (arith, low, long)))) keeps)

  pub rows_removed : (n last : ℕ) → n < length ms → last + 1 ≡ length ms → IsPut old new n (old last) → AreRowsOf new (swap_remove ms n no_member)
  rows_removed n last within end put =
      let z : Member = get_or ms (length ms - 1) no_member in
      let long : length (set ms n z) ≡ length ms = length-set ms n z in
      let left : length (swap_remove ms n no_member) ≡ length ms - 1 = length-take-le (length ms - 1) (set ms n z) (omega (arith, long)) in
      let is : length ms - 1 ≡ last = omega (arith, end) in
      rows_put old new ms (swap_remove ms n no_member) n (old last) are put
      (λ k low ne.
      let under : k < length ms - 1 = omega (arith, low, left) in (
        omega (arith, under),
        ap (λ (y : Member). y.bits) (get_or-take (length ms - 1) (set ms n z) k no_member under ∙ get_or-set_other ms n k z no_member ne),
      ))
      (λ low.
      let under : n < length ms - 1 = omega (arith, low, left) in
      let here : get_or (swap_remove ms n no_member) n no_member ≡ get_or ms last no_member
      = get_or-take (length ms - 1) (set ms n z) n no_member under ∙ get_or-set_same ms n z no_member within ∙ ap (λ k. get_or ms k no_member) is in
      subst (λ (y : Member). IfSome (old last) (λ words. KeepsBits y.bits words)) (sym here) (are last (omega (arith, end))))

-- ---- a member in the place of another

set_at_name : (x : Member) (ms : List Member) → with_replaced x ms ≡ set ms (position_or_len (is_of_name x.name) ms) x
set_at_name x [] = refl
set_at_name x (y ∷ ys) = by (is_of_name x.name y) (set_at_name x ys) where
  by : (b : Bool) → with_replaced x ys ≡ set ys (position_or_len (is_of_name x.name) ys) x → cond b (x ∷ ys) (y ∷ with_replaced x ys) ≡ set (y ∷ ys) (cond (not b) (1 + position_or_len (is_of_name x.name) ys) 0) x
  by true rest = refl
  by false rest =
      let next : suc (position_or_len (is_of_name x.name) ys) ≡ 1 + position_or_len (is_of_name x.name) ys = omega arith in
      ap (λ l. y ∷ l) rest ∙ ap (λ k. set (y ∷ ys) k x) next

place_some : (p : Member → Bool) (ms : List Member) (n : ℕ) → position p ms ≡ Some n → position_or_len p ms ≡ n
place_some p ms n h = (cond_some (nat_lt (position_or_len p ms) (length ms)) (position_or_len p ms) n h).1

pub rows_replaced : (old new : ℕ → Option (List ℕ)) (ms : List Member) (are : AreRowsOf old ms) (x : Member) (n : ℕ) (words : List ℕ) → position (is_of_name x.name) ms ≡ Some n → IsPut old new n (Some words)
    → KeepsBits x.bits words → AreRowsOf new (with_replaced x ms)
rows_replaced old new ms are x n words place put keeps =
    subst (AreRowsOf new) (sym (set_at_name x ms ∙ ap (λ k. set ms k x) (place_some (is_of_name x.name) ms n place))) (rows_set old new ms are x n words put keeps)

-- ---- the same bits

bits_given : (name : Bytes) (attr : Option Bytes) (ms : List Member) (k : ℕ) → (get_or (with_attr name attr ms) k no_member).bits ≡ (get_or ms k no_member).bits
bits_given name attr [] k = refl
bits_given name attr (y ∷ ys) (suc k) = bits_given name attr ys k
bits_given name attr (y ∷ ys) zero = by (is_of_name name y) where
  by : (b : Bool) → (cond b (record y { attr = attr }) y).bits ≡ y.bits
  by true = refl
  by false = refl

pub rows_given : (rows : ℕ → Option (List ℕ)) (name : Bytes) (attr : Option Bytes) (ms : List Member) → AreRowsOf rows ms → AreRowsOf rows (with_attr name attr ms)
rows_given rows name attr ms are k low =
    subst (λ b. IfSome (rows k) (λ words. KeepsBits b words)) (sym (bits_given name attr ms k))
    (are k (omega (arith, low, length-map ms (λ (y : Member). cond (is_of_name name y) (record y { attr = attr }) y))))

pub rows_same : (old new : ℕ → Option (List ℕ)) (ms : List Member) → AreRowsOf old ms → ((k : ℕ) → new k ≡ old k) → AreRowsOf new ms
rows_same old new ms are same k low = subst (λ o. IfSome o (λ words. KeepsBits (get_or ms k no_member).bits words)) (sym (same k)) (are k low)

pub rows_none : (rows : ℕ → Option (List ℕ)) → AreRowsOf rows []
rows_none rows k low = absurd (omega (arith, low))

-- ---- what is told

pub told : (rows : ℕ → Option (List ℕ)) (ms : List Member) (k : ℕ) (words : List ℕ) → AreRowsOf rows ms → k < length ms → rows k ≡ Some words → IsSomeAnd (slice_get ms k) (λ member. KeepsBits member.bits words)
told rows ms k words are low is =
    subst (λ o. IsSomeAnd o (λ member. KeepsBits member.bits words)) (sym (slice_get-get_or ms k no_member low))
    (subst (λ o. IfSome o (λ w. KeepsBits (get_or ms k no_member).bits w)) is (are k low))
