-- Rows in chunks of 256.
--     row_here, row_there      a row that is written, and the others of its chunk
--     put_chunk, put_nothing   what a store tells after a change of one chunk
--     put_seen                 a store that tells the same tells the same after a change
--     ok_said                  what is said of a result that is no error
use Rattle.std.proofs.Common.{◌≡◌, ◌≢◌, ℕ, ◌<◌, ◌≤◌, ◌+◌, ◌-◌, ◌*◌, ◌/◌, ◌%◌, cond, List, [], ◌++◌, false, Result, Ok, Err, length, take, drop, refl, sym, ap, ◌∙◌, subst, arith, inl, inr, append_assoc, length-append, length-take-le}
use Rattle.std.specs.Prelude.{Some, None, IfSome, OnOk, is_err, nat_le, unwrap_or}
use Rattle.std.specs.declared.option.Option.{Option}
use Rattle.std.specs.Cmp.Derive.{one_truth}
use Rattle.std.proofs.lemmas.Bool.{true≢false, leb-true, le-leb, lt-leb, cases_eq, cases_lt}
use Rattle.std.proofs.lemmas.List.{length-drop, take-append-drop, take-append-le, take_at, drop_at, drop-append-le}
use Rattle.std.proofs.lemmas.Slice.{drop-append-drop}
use Rattle.std.proofs.lemmas.Nat.{mul-le, div-add-mod'}
use Rattle.std.proofs.lemmas.Option.{none-some}
use Rattle.vs_page.specs.Rows.{IsWritten, IsPut, row_in, row_in_chunk, row_of}

-- ---- one chunk

-- both have the row or neither, and the same words there
same_row : (w : ℕ) (xs ys : List ℕ) (q : ℕ) → (q * w + w ≤ length xs → q * w + w ≤ length ys) → (q * w + w ≤ length ys → q * w + w ≤ length xs)
    → take w (drop (q * w) xs) ≡ take w (drop (q * w) ys) → row_in w xs q ≡ row_in w ys q
same_row w xs ys q to back same =
    let test : nat_le (q * w + w) (length xs) ≡ nat_le (q * w + w) (length ys)
    = one_truth (nat_le (q * w + w) (length xs)) (nat_le (q * w + w) (length ys))
    (λ h. le-leb (q * w + w) (length ys) (to (leb-true (q * w + w) (length xs) h)))
    (λ h. le-leb (q * w + w) (length xs) (back (leb-true (q * w + w) (length ys) h))) in
    ap (λ b. cond b (Some (take w (drop (q * w) xs))) None) test ∙ ap (λ l. cond (nat_le (q * w + w) (length ys)) (Some l) None) same

-- a part of the front doesn't depend on what follows
front_part : (front rest : List ℕ) (k n : ℕ) → k + n ≤ length front → take n (drop k (front ++ rest)) ≡ take n (drop k front)
front_part front rest k n h =
    ap (take n) (drop-append-le k front rest (omega (arith, h))) ∙ take-append-le n (drop k front) rest (omega (arith, h, length-drop k front))

-- a row ends before a later one begins
next_row : (w q r : ℕ) → q < r → q * w + w ≤ r * w
next_row w q r h =
    let e : (q + 1) * w ≡ q * w + w = omega arith in
    omega (arith, e, mul-le (q + 1) w r w (omega (arith, h)) (omega arith))

module _ (w r : ℕ) (old new ws : List ℕ) (written : IsWritten old new (r * w) ws) (wide : length ws ≡ w) where
  front_long : length (take (r * w) old) ≡ r * w
  front_long = length-take-le (r * w) old written.within

  head_long : length (take (r * w) old ++ ws) ≡ r * w + w
  head_long = omega (arith, length-append (take (r * w) old) ws, front_long, wide)

  new_long : length new ≡ r * w + w + (length old - (r * w + w))
  new_long = omega (arith, ap length written.words, length-append (take (r * w) old ++ ws) (drop (r * w + length ws) old), head_long, length-drop (r * w + length ws) old, wide)

  split : new ≡ take (r * w) old ++ (ws ++ drop (r * w + length ws) old)
  split = written.words ∙ append_assoc (take (r * w) old) ws (drop (r * w + length ws) old)

  pub row_here : row_in w new r ≡ Some ws
  row_here =
      ap (λ b. cond b (Some (take w (drop (r * w) new))) None) (le-leb (r * w + w) (length new) (omega (arith, new_long)))
      ∙ ap Some
      (ap (λ l. take w (drop (r * w) l)) split ∙ ap (take w) (drop_at (take (r * w) old) (ws ++ drop (r * w + length ws) old) (r * w) front_long)
      ∙ take_at ws (drop (r * w + length ws) old) w wide)

  before : (q : ℕ) → q < r → row_in w new q ≡ row_in w old q
  before q h =
      let low : q * w + w ≤ r * w = next_row w q r h in
      let under : q * w + w ≤ length (take (r * w) old) = omega (arith, low, front_long) in
      same_row w new old q (λ k. omega (arith, low, written.within)) (λ k. omega (arith, low, new_long))
      (ap (λ l. take w (drop (q * w) l)) split ∙ front_part (take (r * w) old) (ws ++ drop (r * w + length ws) old) (q * w) w under
      ∙ sym (front_part (take (r * w) old) (drop (r * w) old) (q * w) w under) ∙ ap (λ l. take w (drop (q * w) l)) (take-append-drop (r * w) old))

  after : (q : ℕ) → r < q → row_in w new q ≡ row_in w old q
  after q h =
      let high : r * w + w ≤ q * w = next_row w r q h in
      same_row w new old q (λ k. omega (arith, k, high, new_long, written.within)) (λ k. omega (arith, k, high, new_long))
      (ap (take w) (ap (drop (q * w)) written.words ∙ drop-append-drop (r * w + length ws) old (take (r * w) old ++ ws) (q * w) (omega (arith, high, wide)) (omega (arith, head_long, wide))))

  pub row_there : (q : ℕ) → q ≢ r → row_in w new q ≡ row_in w old q
  row_there q ne = elim (cases_lt q r) [ inl h ↦ before q h | inr h ↦ after q (omega (arith, h, ne)) ]

-- ---- what is told

if_same : (x y : Option (List ℕ)) → x ≡ y → IfSome x (λ row. y ≡ Some row)
if_same None y e = tt
if_same (Some row) y e = sym e

if_none : (x : Option (List ℕ)) (P : List ℕ → Type 0) → x ≡ None → IfSome x P
if_none None P e = tt
if_none (Some row) P e = absurd (none-some row (sym e))

-- there is no row in a chunk without words
no_row : (w q : ℕ) → 0 < w → row_in w [] q ≡ None
no_row w q h = ap (λ b. cond b (Some (take w (drop (q * w) []))) None) (lt-leb (q * w + w) 0 (omega (arith, h)))

old_row : (w : ℕ) → 0 < w → (o : Option (List ℕ)) (q : ℕ) → row_in w (unwrap_or o []) q ≡ row_in_chunk w o q
old_row w some None q = no_row w q some
old_row w some (Some xs) q = refl

apart : (q place : ℕ) → q ≢ place → q / 256 ≡ place / 256 → q % 256 ≢ place % 256
apart q place ne e f = ne (omega (arith, e, f, div-add-mod' q 256, div-add-mod' place 256))

module _ (w place : ℕ) (old new : ℕ → Option (List ℕ)) (others : (q : ℕ) → q ≢ place / 256 → new q ≡ old q) where
  elsewhere : (q : ℕ) → q / 256 ≢ place / 256 → IfSome (row_of w new q) (λ row. row_of w old q ≡ Some row)
  elsewhere q far = if_same (row_of w new q) (row_of w old q) (ap (λ o. row_in_chunk w o (q % 256)) (others (q / 256) far))

  pub put_nothing : (said : Option (List ℕ)) → new (place / 256) ≡ None → IsPut (row_of w old) (row_of w new) place said
  put_nothing said none = record {
    there = if_none (row_of w new place) (λ row. said ≡ Some row) (ap (λ o. row_in_chunk w o (place % 256)) none);
    others = λ q ne. elim (cases_eq (q / 256) (place / 256)) [
      | inl e ↦ if_none (row_of w new q) (λ row. row_of w old q ≡ Some row) (ap (λ n. row_in_chunk w (new n) (q % 256)) e ∙ ap (λ o. row_in_chunk w o (q % 256)) none)
      | inr far ↦ elsewhere q far
    ];
  }

  put_row : (words chunk : List ℕ) → new (place / 256) ≡ Some chunk → length words ≡ w → 0 < w → IsWritten (unwrap_or (old (place / 256)) []) chunk (place % 256 * w) words
      → IsPut (row_of w old) (row_of w new) place (Some words)
  put_row words chunk has wide some written = record {
    there = subst (λ o. IfSome o (λ row. Some words ≡ Some row))
        (sym (ap (λ o. row_in_chunk w o (place % 256)) has ∙ row_here w (place % 256) (unwrap_or (old (place / 256)) []) chunk words written wide)) refl;
    others = λ q ne. elim (cases_eq (q / 256) (place / 256)) [
      | inl e ↦
          if_same (row_of w new q) (row_of w old q)
          (ap (λ n. row_in_chunk w (new n) (q % 256)) e ∙ ap (λ o. row_in_chunk w o (q % 256)) has
          ∙ row_there w (place % 256) (unwrap_or (old (place / 256)) []) chunk words written wide (q % 256) (apart q place ne e)
          ∙ old_row w some (old (place / 256)) (q % 256) ∙ ap (λ n. row_in_chunk w (old n) (q % 256)) (sym e))
      | inr far ↦ elsewhere q far
    ];
  }

  -- a chunk with the row, or none
  pub put_chunk : (words : List ℕ) (taken chunk : Option (List ℕ)) → taken ≡ old (place / 256) → new (place / 256) ≡ chunk → IfSome chunk (λ c. length words ≡ w) → IfSome chunk (λ c. 0 < w)
      → IfSome chunk (λ c. IsWritten (unwrap_or taken []) c (place % 256 * w) words) → IsPut (row_of w old) (row_of w new) place (Some words)
  put_chunk words taken None was is wide some written = put_nothing (Some words) is
  put_chunk words taken (Some chunk) was is wide some written =
      put_row words chunk is wide some (subst (λ o. IsWritten (unwrap_or o []) chunk (place % 256 * w) words) was written)

-- ---- what rows tell, and what their chunks say

pub put_seen : (old said told new : ℕ → Option (List ℕ)) (place : ℕ) (words : Option (List ℕ)) → ((q : ℕ) → said q ≡ old q) → ((q : ℕ) → new q ≡ told q) → IsPut said told place words → IsPut old new place words
put_seen old said told new place words before after put = record {
  there = subst (λ o. IfSome o (λ row. words ≡ Some row)) (sym (after place)) put.there;
  others = λ q ne. subst (λ o. IfSome (new q) (λ row. o ≡ Some row)) (before q) (subst (λ o. IfSome o (λ row. said q ≡ Some row)) (sym (after q)) (put.others q ne));
}

pub ok_said : {T E : Type 0} (r : Result T E) (P : Type 0) → is_err r ≡ false → OnOk r P → P
ok_said (Ok x) P is said = said
ok_said (Err e) P is said = absurd (true≢false is)
