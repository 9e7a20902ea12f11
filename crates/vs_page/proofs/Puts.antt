-- What one or two changes say.
use Rattle.std.proofs.Common.{◌≡◌, ◌≢◌, ℕ, cond, List, ◌∷◌, eq-eqb, ap}
use Rattle.std.specs.Prelude.{Some}
use Rattle.std.proofs.lemmas.Bool.{ne_eqb}
use Rattle.vs_page.specs.declared.page_map.Change.{Change}
use Rattle.vs_page.specs.Changes.{says}

pub says_here : {X : Type 0} (c : Change X) (cs : List (Change X)) (q : ℕ) → c.id ≡ q → says (c ∷ cs) q ≡ Some c.item
says_here c cs q e = ap (λ b. cond b (Some c.item) (says cs q)) (eq-eqb c.id q e)

pub says_else : {X : Type 0} (c : Change X) (cs : List (Change X)) (q : ℕ) → c.id ≢ q → says (c ∷ cs) q ≡ says cs q
says_else c cs q ne = ap (λ b. cond b (Some c.item) (says cs q)) (ne_eqb c.id q ne)
