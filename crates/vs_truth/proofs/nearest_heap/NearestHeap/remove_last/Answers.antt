use Rattle.std.proofs.Common.{◌<◌, ◌-◌, take, length, heap_len, arith, ap, ◌∙◌}
use Rattle.vs_truth.specs.Nears.{First}
use Rattle.vs_truth.proofs.Order.{popped, kept_long}
use Rattle.vs_truth.proofs.nearest_heap.NearestHeap.remove_last.Goals as goal

pub returns-clause-nears : goal.returns-clause-nears
returns-clause-nears c =
    let kept = ap (λ (l : First). take (length l.nears - 1) l.nears) c.self.view_is in
    let long = ap (λ (l : First). length l.nears) c.self.view_is in
    let some : 0 < heap_len c.self.inside.heap = omega (arith, long, kept_long c.self.inside.heap) in
    popped c.self.inside.heap c.pop.new.self c.pop.result c.self.invariant.0 (c.pop.ensures.variant.1 some) c.pop.ensures.permutation c.pop.ensures.heap_order ∙ kept
