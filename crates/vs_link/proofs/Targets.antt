-- Of whom a member is joined to by force.
use Rattle.std.proofs.Common.{◌≡◌, ◌≢◌, ℕ, ◌<◌, List, [], ◌∷◌, refl, subst, arith}
use Rattle.std.specs.Prelude.{Some, None, IfSome, IsSome}
use Rattle.std.specs.declared.option.Option.{Option}
use Rattle.std.proofs.lemmas.Option.{none-some, same_Some}
use Rattle.vs_link.specs.Linked.{target, AreChosen, IsFallback}

fallback_may : (layers : ℕ → ℕ) (layer x : ℕ) (fallback : Option ℕ) (y : ℕ) → IsFallback layers layer x fallback → fallback ≡ Some y → (layer < layers y) × (y ≢ x)
fallback_may layers layer x None y may e = absurd (none-some y e)
fallback_may layers layer x (Some z) y may e = subst (λ k. (layer < layers k) × (k ≢ x)) (same_Some z y e) may

pub target_may : (layers : ℕ → ℕ) (layer most x : ℕ) (chosen : List ℕ) (fallback : Option ℕ) (y : ℕ) → AreChosen layers layer most x chosen → (chosen ≡ [] → IsFallback layers layer x fallback) → target chosen fallback ≡ Some y
    → (layer < layers y) × (y ≢ x)
target_may layers layer most x [] fallback y are may e = fallback_may layers layer x fallback y (may refl) e
target_may layers layer most x (z ∷ zs) fallback y are may e = subst (λ k. (layer < layers k) × (k ≢ x)) (same_Some z y e) (are.stand 0 0 (omega arith))

if_some : (o : Option ℕ) (P : ℕ → Type 0) → ((y : ℕ) → o ≡ Some y → P y) → IfSome o P
if_some None P f = tt
if_some (Some y) P f = f y refl

pub target_is : (layers : ℕ → ℕ) (layer most x : ℕ) (chosen : List ℕ) (fallback : Option ℕ) → AreChosen layers layer most x chosen → (chosen ≡ [] → IsFallback layers layer x fallback)
    → IfSome (target chosen fallback) (λ y. (layer < layers y) × (y ≢ x))
target_is layers layer most x chosen fallback are may = if_some (target chosen fallback) (λ y. (layer < layers y) × (y ≢ x)) (λ y e. target_may layers layer most x chosen fallback y are may e)

fallback_some : (layers : ℕ → ℕ) (layer x y : ℕ) (fallback : Option ℕ) → IsFallback layers layer x fallback → y ≢ x → layer < layers y → IsSome fallback
fallback_some layers layer x y None may ne h = absurd (may y ne h)
fallback_some layers layer x y (Some z) may ne h = refl

-- where another stands there is one
pub target_some : (layers : ℕ → ℕ) (layer x y : ℕ) (chosen : List ℕ) (fallback : Option ℕ) → (chosen ≡ [] → IsFallback layers layer x fallback) → y ≢ x → layer < layers y → IsSome (target chosen fallback)
target_some layers layer x y [] fallback may ne h = fallback_some layers layer x y fallback (may refl) ne h
target_some layers layer x y (z ∷ zs) fallback may ne h = refl
