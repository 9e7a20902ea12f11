use Rattle.std.proofs.Common.{◌-◌, false, refl, length, sym, ap, ◌∙◌}
use Rattle.std.specs.Prelude.{slice_get}
use Rattle.std.specs.Ordering.{is_gt}
use Rattle.std.specs.Option.{option_map_or}
use Rattle.vs_truth.specs.Nears.{First, near_of, near_cmp}
use Rattle.vs_truth.proofs.Order.{last_is_top}
use Rattle.vs_truth.proofs.nearest_heap.NearestHeap.is_before_last.Goals as goal

pub returns-in-Some : goal.returns-in-Some
returns-in-Some c =
    let last = last_is_top c.self.inside.heap c.in-Some.last.now (c.in-Some.ensures.variant.0 refl) c.in-Some.ensures.lookup (c.in-Some.ensures.greatest c.self.invariant.0) in
    let seen = ap (λ (l : First). slice_get l.nears (length l.nears - 1)) c.self.view_is in
    c.is_gt.ensures ∙ ap is_gt c.cmp.ensures
    ∙ sym (ap (λ o. option_map_or (λ x. is_gt (near_cmp x (near_of c.args.candidate.now))) o false) (sym seen ∙ last))
