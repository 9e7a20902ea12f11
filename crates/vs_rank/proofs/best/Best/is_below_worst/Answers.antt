use Rattle.std.proofs.Common.{false, sym, ap, ◌∙◌, refl}
use Rattle.std.specs.Option.{option_map_or}
use Rattle.vs_rank.specs.Ranked.{Least, key_lt, worst_of, unpacked}
use Rattle.vs_rank.proofs.Numbers.{top_is, lt_packed}
use Rattle.vs_rank.proofs.best.Best.is_below_worst.Goals as goal

pub returns-in-Some : goal.returns-in-Some
returns-in-Some c =
    let heap = c.self.inside.heap in
    let w = c.in-Some.worst.now in
    let some = c.in-Some.ensures.variant.0 refl in
    let worst = top_is heap w some c.in-Some.ensures.lookup (c.in-Some.ensures.greatest c.self.invariant.0) in
    let kept = ap (λ (l : Least). worst_of l.keys) c.self.view_is in
    sym (lt_packed c.packed.result w) ∙ ap (λ k. key_lt k (unpacked w)) c.packed.ensures ∙ sym (ap (λ o. option_map_or (λ worst. key_lt c.args.key worst) o false) (sym kept ∙ worst))
