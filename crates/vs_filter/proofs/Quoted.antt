-- One step of reading a text in marks.
use Rattle.std.proofs.Common.{◌≡◌, ◌≢◌, ◌==◌, ℕ, Bool, false, true, cond, [], ◌∷◌, ◌++◌, Option, Some, None, option_map, refl, ap, sym, ◌∙◌, append_assoc}
use Rattle.std.proofs.lemmas.Bool.{ne_eqb, eq-eqb}
use Rattle.vs_defs.specs.Bytes.{Bytes}
use Rattle.vs_defs.specs.FilterText.{quoted_at, with_byte}

-- these bytes before what is read
abbrev pub with_bytes : Bytes → Option (Bytes × Bytes) → Option (Bytes × Bytes)
with_bytes before r = option_map (λ p. (before ++ p.0, p.1)) r

with_one : (before : Bytes) (b : ℕ) (r : Option (Bytes × Bytes)) → with_bytes before (with_byte b r) ≡ with_bytes (before ++ b ∷ []) r
with_one before b None = refl
with_one before b (Some p) = ap (λ bytes. Some (bytes, p.1)) (sym (append_assoc before (b ∷ []) p.0))

-- what is read from two bytes on, by whether the first is the mark and whether it is a backslash
abbrev step : Bool → Bool → ℕ → ℕ → ℕ → Bytes → Option (Bytes × Bytes)
step is_mark is_slash mark c d cs = elim is_mark [
  | true ↦ Some ([], d ∷ cs)
  | false ↦ elim is_slash [ true ↦ with_byte d (quoted_at mark cs) | false ↦ with_byte c (quoted_at mark (d ∷ cs)) ]
]

step_is : (x y : Bool) (mark c d : ℕ) (cs : Bytes) → (c == mark) ≡ x → (c == 92) ≡ y → quoted_at mark (c ∷ d ∷ cs) ≡ step x y mark c d cs
step_is x y mark c d cs e f =
    let opened : quoted_at mark (c ∷ d ∷ cs) ≡ step (c == mark) (c == 92) mark c d cs = refl in
    opened ∙ ap (λ v. step v (c == 92) mark c d cs) e ∙ ap (λ v. step x v mark c d cs) f

pub quoted_end : (mark c : ℕ) (cs : Bytes) → c ≡ mark → quoted_at mark (c ∷ cs) ≡ Some ([], cs)
quoted_end mark c [] e = ap (λ v. cond v (Some ([], [])) None) (eq-eqb c mark e)
quoted_end mark c (d ∷ cs) e = step_is true (c == 92) mark c d cs (eq-eqb c mark e) refl

pub quoted_plain : (mark c : ℕ) (before cs : Bytes) → c ≢ mark → c ≢ 92
    → with_bytes before (quoted_at mark (c ∷ cs)) ≡ with_bytes (before ++ c ∷ []) (quoted_at mark cs)
quoted_plain mark c before [] m b = rw (ne_eqb c mark m) refl
quoted_plain mark c before (d ∷ cs) m b =
    ap (with_bytes before) (step_is false false mark c d cs (ne_eqb c mark m) (ne_eqb c 92 b)) ∙ with_one before c (quoted_at mark (d ∷ cs))

pub quoted_escape : (mark c d : ℕ) (before cs : Bytes) → c ≢ mark → c ≡ 92
    → with_bytes before (quoted_at mark (c ∷ d ∷ cs)) ≡ with_bytes (before ++ d ∷ []) (quoted_at mark cs)
quoted_escape mark c d before cs m b =
    ap (with_bytes before) (step_is false true mark c d cs (ne_eqb c mark m) (eq-eqb c 92 b)) ∙ with_one before d (quoted_at mark cs)

pub quoted_cut : (mark c : ℕ) (before : Bytes) → c ≢ mark → with_bytes before (quoted_at mark (c ∷ [])) ≡ None
quoted_cut mark c before m = rw (ne_eqb c mark m) refl
