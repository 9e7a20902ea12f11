-- Links that were closed, one after another.
use Rattle.std.proofs.Common.{◌≡◌, ℕ, ◌+◌, List, [], ◌∷◌, ◌++◌, length, Option, None, Some, IfSome, refl, sym, ap, ◌∙◌, subst, arith, append_assoc, append-nil, length-append}
use Rattle.std.specs.Prelude.{option_map}
use Rattle.vs_server.specs.Counts.{Counted}

pub counted_none : {L : Type 0} (c : Option (List L)) → Counted c c 0
counted_none None = record { all = tt }
counted_none (Some c) = record { all = ([], ap Some (sym (append-nil c)), refl) }

pub counted_one : {L : Type 0} (c : Option (List L)) (b : L) → Counted c (option_map (λ xs. xs ++ b ∷ []) c) 1
counted_one None b = record { all = tt }
counted_one (Some c) b = record { all = (b ∷ [], refl, refl) }

pub counted_more : {L : Type 0} (c c' c'' : Option (List L)) (n m : ℕ) → Counted c c' n → Counted c' c'' m → Counted c c'' (n + m)
counted_more None c' c'' n m s t = record { all = tt }
counted_more (Some c) c' c'' n m s t =
    let u = subst (λ x. IfSome x (λ k. (ends : List _) × (c'' ≡ Some (k ++ ends)) × (length ends ≡ m))) s.all.1 t.all in
    let a = s.all.2 in let b = u.2 in
    record { all = (s.all.0 ++ u.0, u.1 ∙ ap Some (append_assoc c s.all.0 u.0), length-append s.all.0 u.0 ∙ (let x = a in let y = b in omega (arith, a, b))) }
