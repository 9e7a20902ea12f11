-- One more component, and one more member's words.
use Rattle.std.proofs.Common.{◌≡◌, ℕ, zero, suc, ◌+◌, ◌*◌, ◌/◌, ◌≤◌, length, subst, sym, List, [], ◌∷◌, ◌++◌, refl, arith, ◌∙◌, ap}
use Rattle.std.proofs.lemmas.List.FromFn.{map-range_with_len_more}
use Rattle.rand_pcg.specs.Lcg.{Lcg}
use Rattle.rand_pcg.specs.Pcg.{pcg32}
use Rattle.vs_session_defs.specs.Words.{drawn, after_draws}
use Rattle.vs_thread_defs.specs.Generator.{component, words_per_member}
use Rattle.vs_gen.specs.Generated.{components}

pub one_more : (words : List ℕ) (n : ℕ) → components words (n + 1) ≡ components words n ++ component words n ∷ []
one_more words n =
    let e : 0 + n ≡ n = omega arith in
    map-range_with_len_more (component words) 0 n n e

pub drawn_on : (a b : ℕ) (g : Lcg) → after_draws b (after_draws a g) ≡ after_draws (a + b) g
drawn_on zero b g =
    let e : b ≡ 0 + b = omega arith in
    ap (λ (k : ℕ). after_draws k g) e
drawn_on (suc a) b g =
    let e : suc (a + b) ≡ suc a + b = omega arith in
    drawn_on a b (pcg32 g).1 ∙ ap (λ (k : ℕ). after_draws k g) e

pub next_member : (i w : ℕ) (g : Lcg) → after_draws w (after_draws (i * w) g) ≡ after_draws ((i + 1) * w) g
next_member i w g =
    let e : i * w + w ≡ (i + 1) * w = omega arith in
    drawn_on (i * w) w g ∙ ap (λ (k : ℕ). after_draws k g) e

pub length_drawn : (n : ℕ) (g : Lcg) → length (drawn n g) ≡ n
length_drawn zero g = refl
length_drawn (suc n) g = ap suc (length_drawn n (pcg32 g).1)

pub covered : (dim : ℕ) (g : Lcg) → dim ≤ 32 * length (drawn (words_per_member dim) g)
covered dim g =
    let e : dim ≤ 32 * ((dim + 31) / 32) = omega arith in
    subst (λ (k : ℕ). dim ≤ 32 * k) (sym (length_drawn (words_per_member dim) g)) e
