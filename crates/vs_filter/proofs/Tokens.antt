-- One turn of cutting a text into tokens.
use Rattle.std.proofs.Common.{◌≡◌, ◌<◌, ◌-◌, ℕ, zero, suc, Bool, false, true, List, [], ◌∷◌, ◌++◌, length, refl, ap, ap₂, sym, ◌∙◌, arith, append_assoc}
use Rattle.vs_defs.specs.Bytes.{Bytes}
use Rattle.vs_defs.specs.FilterText.{Token, Tokens, Front, tokens_within, token_at, skip_space, is_last}
use Rattle.vs_filter.specs.declared.token.Placed.{Placed}
use Rattle.vs_filter.specs.Seen.{token_seen, tokens_seen}

-- the tokens from the next on, by whether it is the last
abbrev turn : Bool → ℕ → Token → Tokens → Tokens
turn last at token more = elim last [ true ↦ (at, token) ∷ [] | false ↦ (at, token) ∷ more ]

pub turn_last : (k n : ℕ) (text : Bytes) → 0 < k → is_last (token_at (skip_space text)).0 ≡ true
    → tokens_within k n text ≡ (n - length (skip_space text), (token_at (skip_space text)).0) ∷ []
turn_last zero n text h e = absurd (omega arith)
turn_last (suc k) n text h e =
    ap (λ last. turn last (n - length (skip_space text)) (token_at (skip_space text)).0 (tokens_within k n (token_at (skip_space text)).1)) e

pub turn_more : (k n : ℕ) (text : Bytes) → 0 < k → is_last (token_at (skip_space text)).0 ≡ false
    → tokens_within k n text ≡ (n - length (skip_space text), (token_at (skip_space text)).0) ∷ tokens_within (k - 1) n (token_at (skip_space text)).1
turn_more zero n text h e = absurd (omega arith)
turn_more (suc k) n text h e =
    let less : suc k - 1 ≡ k = omega arith in
    ap (λ last. turn last (n - length (skip_space text)) (token_at (skip_space text)).0 (tokens_within k n (token_at (skip_space text)).1)) e
    ∙ ap (λ j. (n - length (skip_space text), (token_at (skip_space text)).0) ∷ tokens_within j n (token_at (skip_space text)).1) (sym less)

tokens_push : (tokens : List Placed) (p : Placed) → tokens_seen (tokens ++ p ∷ []) ≡ tokens_seen tokens ++ (p.at, token_seen p.token) ∷ []
tokens_push [] p = refl
tokens_push (q ∷ tokens) p = ap (λ rest. (q.at, token_seen q.token) ∷ rest) (tokens_push tokens p)

-- the tokens so far, one more and what follows it are the tokens so far and what followed them
module _ (tokens : List Placed) (p : Placed) (k n : ℕ) (text rest after : Bytes)
    (room : 0 < k) (spaced : rest ≡ skip_space text) (front : ◌≡◌ {A = Front} (token_seen p.token, after) (token_at rest)) (at : p.at ≡ n - length rest) where
  placed_is : ◌≡◌ {A = ℕ × Token} (p.at, token_seen p.token) (n - length (skip_space text), (token_at (skip_space text)).0)
  placed_is = ap₂ (λ (a : ℕ) (t : Token). (a, t)) (at ∙ ap (λ r. n - length r) spaced) (ap (λ f. f.0) front ∙ ap (λ r. (token_at r).0) spaced)

  last_is : is_last (token_seen p.token) ≡ is_last (token_at (skip_space text)).0
  last_is = ap (λ (f : Front). is_last f.0) front ∙ ap (λ r. is_last (token_at r).0) spaced

  pub pushed_last : is_last (token_seen p.token) ≡ true → tokens_seen (tokens ++ p ∷ []) ≡ tokens_seen tokens ++ tokens_within k n text
  pushed_last last =
      tokens_push tokens p ∙ ap (λ t. tokens_seen tokens ++ t ∷ []) placed_is
      ∙ ap (λ ts. tokens_seen tokens ++ ts) (sym (turn_last k n text room (sym last_is ∙ last)))

  pub pushed_more : is_last (token_seen p.token) ≡ false
      → tokens_seen (tokens ++ p ∷ []) ++ tokens_within (k - 1) n after ≡ tokens_seen tokens ++ tokens_within k n text
  pushed_more last =
      let behind : after ≡ (token_at (skip_space text)).1 = ap (λ (f : Front). f.1) front ∙ ap (λ r. (token_at r).1) spaced in
      ap (λ ts. ts ++ tokens_within (k - 1) n after) (tokens_push tokens p) ∙ append_assoc (tokens_seen tokens) _ _
      ∙ ap₂ (λ t b. tokens_seen tokens ++ t ∷ tokens_within (k - 1) n b) placed_is behind
      ∙ ap (λ ts. tokens_seen tokens ++ ts) (sym (turn_more k n text room (sym last_is ∙ last)))
