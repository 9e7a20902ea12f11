use Rattle.std.proofs.Common.{false, refl, length, arith, ap, ◌∙◌}
use Rattle.vs_defs.specs.Bytes.{place_by}
use Rattle.std.proofs.lemmas.Bool.{both_ways}
use Rattle.vs_truth.specs.Nears.{First, near_of, near_cmp}
use Rattle.vs_truth.proofs.Order.{kept_long, kept_more}
use Rattle.vs_truth.proofs.nearest_heap.NearestHeap.insert.Goals as goal

pub unreachable-requires : goal.unreachable-requires
unreachable-requires c =
    let long = ap (λ (l : First). length l.nears) c.self.view_is in
    let most = ap (λ (l : First). l.most) c.self.view_is in
    both_ways false refl (c.in-Err.ensures.succeeds (omega (arith, long, most, kept_long c.self.inside.heap, c.self.invariant.1, c.self.invariant.2)))

pub invariant_of-self : goal.invariant_of-self
invariant_of-self c =
    let long = ap (λ (l : First). length l.nears) c.self.view_is in
    let most = ap (λ (l : First). l.most) c.self.view_is in (
      c.in-Ok.ensures.heap_order c.self.invariant.0,
      omega (arith, long, most, kept_long c.self.inside.heap, c.in-Ok.ensures.len),
      omega (arith, c.self.invariant.2, c.in-Ok.ensures.capacity),
    )

pub returns-clause-nears : goal.returns-clause-nears
returns-clause-nears c =
    kept_more c.self.inside.heap c.push.new.self c.args.candidate c.in-Ok.ensures.permutation
    ∙ ap (λ (l : First). place_by near_cmp (near_of c.args.candidate) l.nears) c.self.view_is
