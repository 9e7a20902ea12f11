-- Below the lowest layer of a walk down there is none.
use Rattle.std.proofs.Common.{◌≡◌, ℕ, zero, suc, ◌<◌, Bool, true, false, cond, leb, List, [], ◌∷◌, refl, arith}
use Rattle.std.proofs.lemmas.Bool.{leb-true}
use Rattle.vs_defs.specs.Beam.{layers_down}

no_layers_by : (b : Bool) (top low : ℕ) (ls : List ℕ) → leb low top ≡ b → top < low → cond b ls [] ≡ []
no_layers_by true top low ls e h = absurd (omega (arith, leb-true low top e, h))
no_layers_by false top low ls e h = refl

pub no_layers : (top low : ℕ) → top < low → layers_down top low ≡ []
no_layers zero low h = no_layers_by (leb low 0) 0 low (0 ∷ []) refl h
no_layers (suc high) low h = no_layers_by (leb low (suc high)) (suc high) low (suc high ∷ layers_down high low) refl h
