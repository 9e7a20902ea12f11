-- Marks by the numbers that are kept for them.
use Rattle.std.proofs.Common.{◌≡◌, ℕ, zero, suc, ◌+◌, ◌<◌, ◌≤◌, ◌==◌, Bool, false, true, List, [], ◌∷◌, length, get_or, map, inl, inr, refl, ap, ◌∙◌, arith}
use Rattle.std.specs.Prelude.{slice_set}
use Rattle.vs_slot.specs.Marks.{Marks}
use Rattle.std.proofs.lemmas.List.{map-set}
use Rattle.std.proofs.lemmas.Bool.{cases_lt, eq-eqb}

-- where no number is the one of the epoch, nothing is marked
pub none_marked : (f : ℕ → Bool) (xs : List ℕ) → ((k : ℕ) → k < length xs → f (get_or xs k 0) ≡ false) → (id : ℕ) → get_or (map f xs) id false ≡ false
none_marked f [] h id = refl
none_marked f (x ∷ xs) h zero = h 0 (omega arith)
none_marked f (x ∷ xs) h (suc id) = none_marked f xs (λ k p. h (suc k) (omega arith)) id

-- to write the epoch at an id marks it
pub view_marked : (epoch id : ℕ) (marks : List ℕ) (seen : Marks) → record { epoch = epoch; marked = map (λ mark. mark == epoch) marks } ≡ seen
    → ◌≡◌ {A = Marks} (record { epoch = epoch; marked = map (λ mark. mark == epoch) (slice_set marks id epoch) }) (record { epoch = seen.epoch; marked = slice_set seen.marked id true })
view_marked epoch id marks seen is =
    let here : map (λ mark. mark == epoch) (slice_set marks id epoch) ≡ slice_set (map (λ mark. mark == epoch) marks) id true = map-set (λ mark. mark == epoch) marks id epoch ∙ ap (λ b. slice_set (map (λ mark. mark == epoch) marks) id b) (eq-eqb epoch epoch refl) in
    ap (λ l. record { epoch = epoch; marked = l }) here ∙ ap (λ (s : Marks). record { epoch = s.epoch; marked = slice_set s.marked id true }) is

-- no number is above the epoch, where it was kept or is the epoch
pub all_low : (old new : List ℕ) (epoch long n : ℕ) → ((k : ℕ) → get_or old k 0 ≤ epoch)
    → ((k d : ℕ) → k < n → k < long → get_or new k d ≡ get_or old k d) → ((k d : ℕ) → long ≤ k → k < n → get_or new k d ≡ epoch)
    → (k : ℕ) → k < n → get_or new k 0 < epoch + 1
all_low old new epoch long n low kept filled k h =
    elim (cases_lt k long) [
      | inl p ↦ let same : get_or new k 0 ≡ get_or old k 0 = kept k 0 h p in omega (arith, same, low k)
      | inr p ↦ let same : get_or new k 0 ≡ epoch = filled k 0 p h in omega arith
    ]
