use Rattle.std.proofs.Common.{ap, ◌∙◌}
use Rattle.vs_truth.specs.Nears.{First}
use Rattle.vs_truth.proofs.Order.{sorted_out}
use Rattle.vs_truth.proofs.nearest_heap.NearestHeap.into_sorted.Goals as goal

pub returns : goal.returns
returns c =
    sorted_out c.self.inside.heap c.into_sorted_vec.result.items c.into_sorted_vec.ensures.permutation (c.into_sorted_vec.ensures.sorted c.self.invariant.0)
    ∙ ap (λ (l : First). l.nears) c.self.view_is
