use Rattle.std.proofs.Common.{◌≤◌, ◌*◌, ℕ, List, length, sym, subst, ◌∙◌}
use Rattle.vs_gen.proofs.Components.{covered}
use Rattle.vs_gen.proofs.Generator.next_member.Goals as goal

pub words_by-requires : goal.words_by-requires
words_by-requires c =
    subst (λ (l : List ℕ). c.self.inside.dim ≤ 32 * length l) (sym (c.as_slice.ensures.value ∙ c.in_ok-words.ensures.words)) (covered c.self.inside.dim _)
