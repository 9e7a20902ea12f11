-- The passes of a new history, which leave their list from the last to the first.
use Rattle.std.proofs.Common.{◌≡◌, ℕ, zero, suc, ◌+◌, List, [], ◌∷◌, ◌++◌, length, refl, sym, ap, ◌∙◌, subst, arith, length-append}
use Rattle.vs_session_defs.specs.Words.{generator}
use Rattle.vs_pass.specs.Knower.{Knower, newcomers}
use Rattle.vs_server.specs.Chains.{start}
use Rattle.vs_session.specs.Shared.{point_of}

abbrev pub newcomer : ℕ → ℕ → Knower
newcomer seed n = record { number = n; seen = []; stream = generator seed n }

-- two lists with one more each
last_same : {A : Type 0} (xs ys : List A) (x y : A) → xs ++ x ∷ [] ≡ ys ++ y ∷ [] → (xs ≡ ys) × (x ≡ y)
last_same [] [] x y e = (refl, cc)
last_same [] (b ∷ ys) x y e = let no : ⊥ = omega (arith, ap length e, length-append ys (y ∷ [])) in absurd no
last_same (a ∷ xs) [] x y e = let no : ⊥ = omega (arith, ap length e, length-append xs (x ∷ [])) in absurd no
last_same (a ∷ xs) (b ∷ ys) x y e =
    let head : a ≡ b = cc in
    let tail : xs ++ x ∷ [] ≡ ys ++ y ∷ [] = cc in
    let r = last_same xs ys x y tail in
    (ap (λ (h : _). h ∷ xs) head ∙ ap (λ (l : List _). b ∷ l) r.0, r.1)

one_more : (n : ℕ) → n + 1 ≡ suc n
one_more n = omega arith

more : (seed m n : ℕ) → m ≡ n + 1 → newcomers seed m ≡ newcomers seed n ++ newcomer seed n ∷ []
more seed m n e = ap (newcomers seed) (e ∙ one_more n)

-- the last of them was taken
pub popped : (seed m n : ℕ) (items rest : List Knower) (pass : Knower) → items ≡ newcomers seed m → m ≡ n + 1 → items ≡ rest ++ pass ∷ [] → (rest ≡ newcomers seed n) × (pass ≡ newcomer seed n)
popped seed m n items rest pass are e is = last_same rest (newcomers seed n) pass (newcomer seed n) (sym is ∙ are ∙ more seed m n e)

-- there is one
pub some_left : (seed m n : ℕ) (items : List Knower) → items ≡ newcomers seed m → m ≡ n + 1 → items ≡ [] → ⊥
some_left seed m n items are e none =
    let long : length items ≡ length (newcomers seed n ++ newcomer seed n ∷ []) = ap length (are ∙ more seed m n e) in
    omega (arith, long, ap length none, length-append (newcomers seed n) (newcomer seed n ∷ []))

pub begins : (seed n : ℕ) (pass : Knower) → pass ≡ newcomer seed n → point_of pass ≡ start seed pass.number
begins seed n pass e = ap point_of e ∙ ap (start seed) (sym (ap (λ (p : Knower). p.number) e))
