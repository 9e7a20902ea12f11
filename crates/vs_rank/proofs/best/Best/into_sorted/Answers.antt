use Rattle.std.proofs.Common.{ap, ◌∙◌, map, arith}
use Rattle.std.proofs.lemmas.List.{take_all}
use Rattle.vs_rank.specs.Ranked.{Least, unpacked}
use Rattle.vs_rank.proofs.Numbers.{sorted_out}
use Rattle.vs_rank.proofs.best.Best.into_sorted.Goals as goal

pub returns : goal.returns
returns c =
    let items = c.deref-number-items.result.now in
    c.loop-number.invariant.keys
    ∙ ap (map unpacked) (take_all c.loop-number.number-index items (omega (arith, c.loop-number-test.false)) ∙ c.deref-number-items.ensures.value)
    ∙ sorted_out c.self.inside.heap c.into_sorted_vec.result.items c.into_sorted_vec.ensures.permutation (c.into_sorted_vec.ensures.sorted c.self.invariant.0)
    ∙ ap (λ (l : Least). l.keys) c.self.view_is
