-- One word holds a vector of 64 bits, whatever they are.
use Rattle.std.proofs.Common.{◌≡◌, ◌/◌, ◌%◌, ◌^◌, ◌==◌, ◌≤◌, ℕ, zero, suc, [], ◌∷◌, get_or, refl, sym, ap, ◌∙◌, subst, arith}
use Rattle.std.specs.Prelude.{Some, None, IsSomeAnd}
use Rattle.std.specs.declared.option.Option.{Option}
use Rattle.std.proofs.Math.Nat.{zero-div}
use Rattle.vs_defs.specs.Words.{FitsDimension}
use Rattle.vs_graph.specs.declared.node.Node.{Node}

behind : (w k : ℕ) → 1 ≤ k → get_or (w ∷ []) k 0 ≡ 0
behind w zero h = absurd (omega arith)
behind w (suc k) h = refl

pub one_word_fits : (dim w : ℕ) → dim ≡ 64 → FitsDimension dim (w ∷ [])
one_word_fits dim w e = subst (λ d. FitsDimension d (w ∷ [])) (sym e) (record {
  count = refl;
  unused = λ i h. ap (λ x. x / 2 ^ (i % 64) % 2 == 1) (behind w (i / 64) (omega arith)) ∙ ap (λ x. x % 2 == 1) (zero-div (2 ^ (i % 64)));
})

pub stands_low : (o : Option Node) (P : Node → Type 0) → IsSomeAnd o P → IsSomeAnd o (λ node. 0 ≤ node.level)
stands_low None P h = h
stands_low (Some node) P h = omega arith
