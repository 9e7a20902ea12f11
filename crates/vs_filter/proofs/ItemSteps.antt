-- One turn of reading the literals of a list.
use Rattle.std.proofs.Common.{◌≡◌, ◌<◌, ◌-◌, ℕ, zero, suc, Bool, true, false, List, [], ◌∷◌, ◌++◌, Ok, Err, refl, ap, sym, ◌∙◌, arith, append_assoc}
use Rattle.std.proofs.lemmas.Bool.{false≢true}
use Rattle.vs_defs.specs.AttributeField.{Single}
use Rattle.vs_defs.specs.FilterText.{Token, Comma, Tokens, Parse, then_parse, literal_at, literals_within, next, rest_of, offset, is_comma, is_close_list, closing, Syntax}

-- these items before what is read
abbrev pub with_items : List Single → Parse (List Single) → Parse (List Single)
with_items before r = then_parse r λ items after. Ok (before ++ items, after)

with_one : (before : List Single) (a : Single) (r : Parse (List Single))
    → with_items before (then_parse r (λ items after. Ok (a ∷ items, after))) ≡ with_items (before ++ a ∷ []) r
with_one before a (Ok p) = ap (λ items. Ok (items, p.1)) (sym (append_assoc before (a ∷ []) p.0))
with_one before a (Err e) = refl

-- what is read behind a literal, by whether a comma follows it, and whether the list's end does
abbrev behind : ℕ → Bool → Bool → Single → Tokens → Parse (List Single)
behind k comma close a more = elim comma [
  | true ↦ then_parse (literals_within k (rest_of more)) λ items after. Ok (a ∷ items, after)
  | false ↦ closing close (a ∷ []) more
]

step : (k : ℕ) (before : List Single) (ts more : Tokens) (a : Single) (comma close : Bool) → 0 < k → literal_at ts ≡ Ok (a, more)
    → is_comma (next more) ≡ comma → is_close_list (next more) ≡ close
    → with_items before (literals_within k ts) ≡ with_items before (behind (k - 1) comma close a more)
step zero before ts more a comma close h e p q = absurd (omega arith)
step (suc k) before ts more a comma close h e p q =
    let less : k ≡ suc k - 1 = omega arith in
    ap (λ r. with_items before (then_parse r λ b after. behind k (is_comma (next after)) (is_close_list (next after)) b after)) e
    ∙ ap (λ v. with_items before (behind k v (is_close_list (next more)) a more)) p
    ∙ ap (λ v. with_items before (behind k comma v a more)) q
    ∙ ap (λ j. with_items before (behind j comma close a more)) less

-- no mark is both
comma_alone : (t : Token) → is_close_list t ≡ true → is_comma t ≡ false
comma_alone Comma e = absurd (false≢true e)
comma_alone t e = refl

pub items_comma : (k : ℕ) (before : List Single) (ts more : Tokens) (a : Single) → 0 < k → literal_at ts ≡ Ok (a, more) → is_comma (next more) ≡ true
    → with_items (before ++ a ∷ []) (literals_within (k - 1) (rest_of more)) ≡ with_items before (literals_within k ts)
items_comma k before ts more a h e p =
    sym (step k before ts more a true (is_close_list (next more)) h e p refl ∙ with_one before a (literals_within (k - 1) (rest_of more)))

pub items_close : (k : ℕ) (before : List Single) (ts more : Tokens) (a : Single) → 0 < k → literal_at ts ≡ Ok (a, more) → is_close_list (next more) ≡ true
    → with_items before (literals_within k ts) ≡ Ok (before ++ a ∷ [], rest_of more)
items_close k before ts more a h e p = step k before ts more a false true h e (comma_alone (next more) p) p

pub items_other : (k : ℕ) (before : List Single) (ts more : Tokens) (a : Single) → 0 < k → literal_at ts ≡ Ok (a, more)
    → is_comma (next more) ≡ false → is_close_list (next more) ≡ false → with_items before (literals_within k ts) ≡ Err (Syntax (offset more))
items_other k before ts more a h e p q = step k before ts more a false false h e p q
