-- What lines mean, from what their words mean.
use Rattle.std.proofs.Common.{◌≡◌, ◌∙◌, ◌&&◌, ◌==◌, ℕ, ◌≤◌, ◌<◌, Bool, true, false, cond, nat_le, List, [], ◌∷◌, Option, Some, None, option_map, option_and_then, length, codes, refl, ap, sym, subst, arith}
use Rattle.std.proofs.lemmas.Bool.Decides.{nat_tests}
use Rattle.std.proofs.lemmas.Option.{same_Some}
use Rattle.vs_defs.specs.Bytes.{Bytes, same_name}
use Rattle.vs_defs.specs.Decimal.{number_of}
use Rattle.vs_defs.specs.Limits.{max_actors}
use Rattle.vs_defs.specs.ProgramWords.{is_plain_number}
use Rattle.vs_defs.specs.Request as request
use Rattle.vs_defs.specs.Store as store
use Rattle.vs_defs.specs.Store.{usual_limits}
use Rattle.vs_thread_defs.specs.Schedule.{Line, Bad, Begins, begins, line_by, line_words, line_or_bad, number_within, outcome_text, result_text}
use Rattle.vs_command.specs.Outcomes as outcomes
use Rattle.vs_core.specs.Events.{refused_by}
use Rattle.vs_schedule.specs.Lines.{beginning_by, limits_named}

pub nonempty : (line : Bytes) → (length line == 0) ≡ false → 0 < length line
nonempty [] is = cc
nonempty (c ∷ cs) is = omega arith

pub line_of_words : (f : List Bytes → Line) (line : Bytes) (ws : List Bytes) → 0 < length line → line_words line ≡ Some ws → line_by f line ≡ f ws
line_of_words f [] ws some is = absurd (omega (arith, some))
line_of_words f (c ∷ cs) ws some is = ap (λ o. line_or_bad (option_map f o)) is

pub refused_same : (o : Option request.Refusal) → outcome_text (refused_by o) ≡ result_text (outcomes.refused_by o)
refused_same None = refl
refused_same (Some e) = refl

within_by : (least most n m : ℕ) (a b d : Bool) → nat_le least n ≡ b → nat_le n most ≡ d → cond (a && b && d) (Some n) None ≡ Some m → (least ≤ m) × (m ≤ most)
within_by least most n m true true true low high e =
    let same : n ≡ m = same_Some n m e in
    (subst (λ (k : ℕ). least ≤ k) same (grind (arith, nat_tests)), subst (λ (k : ℕ). k ≤ most) same (grind (arith, nat_tests)))
within_by least most n m false b d low high e = cc
within_by least most n m true false d low high e = cc
within_by least most n m true true false low high e = cc

pub within_range : (least most m : ℕ) (w : Bytes) → number_within least most w ≡ Some m → (least ≤ m) × (m ≤ most)
within_range least most m w e = within_by least most (number_of w) m (is_plain_number w) (nat_le least (number_of w)) (nat_le (number_of w) most) refl refl e

parts : (a s k l : Option ℕ)
    → line_or_bad (option_and_then (λ actors. option_and_then (λ set. option_and_then (λ keys. option_map (λ all. Begins actors (record { set = set; keys = keys; all = all; changes = usual_limits.changes })) l) k) s) a)
    ≡ beginning_by a (option_and_then (λ x. option_and_then (λ y. option_map (λ z. record { set = x; keys = y; all = z; changes = usual_limits.changes }) l) k) s)
parts None s k l = refl
parts (Some a) None k l = refl
parts (Some a) (Some s) None l = refl
parts (Some a) (Some s) (Some k) None = refl
parts (Some a) (Some s) (Some k) (Some l) = refl

pub five_begin : (a n s k l : Bytes) → same_name a (codes "actors") ≡ true
    → beginning_by (number_within 1 max_actors n) (limits_named s k l) ≡ begins (a ∷ n ∷ s ∷ k ∷ l ∷ [])
five_begin a n s k l is =
    rw (is, begins) (sym (parts (number_within 1 max_actors n) (number_within 1 usual_limits.set s) (number_within 1 usual_limits.keys k) (number_within 1 usual_limits.all l)))
