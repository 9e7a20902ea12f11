-- One more drawn word, at the end.
use Rattle.std.proofs.Common.{◌≡◌, ℕ, zero, suc, List, [], ◌∷◌, ◌++◌, refl, ap}
use Rattle.rand_pcg.specs.Lcg.{Lcg}
use Rattle.rand_pcg.specs.Pcg.{pcg32}
use Rattle.vs_session_defs.specs.Words.{drawn, after_draws}

pub drawn_push : (n : ℕ) (g : Lcg) → drawn (suc n) g ≡ drawn n g ++ (pcg32 (after_draws n g)).0 ∷ []
drawn_push zero g = refl
drawn_push (suc n) g = ap (λ (l : List ℕ). (pcg32 g).0 ∷ l) (drawn_push n (pcg32 g).1)

pub after_push : (n : ℕ) (g : Lcg) → after_draws (suc n) g ≡ (pcg32 (after_draws n g)).1
after_push zero g = refl
after_push (suc n) g = after_push n (pcg32 g).1
