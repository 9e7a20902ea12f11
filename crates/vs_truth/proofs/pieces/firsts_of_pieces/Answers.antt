use Rattle.std.proofs.Common.{◌≡◌, ◌+◌, ◌-◌, ◌*◌, ◌/◌, ◌≤◌, length, ap, sym, subst, ◌∙◌, arith}
use Rattle.std.specs.Prelude.{All}
use Rattle.std.specs.List.{AllZip, range_with_len}
use Rattle.rayon.specs.Numbers.{nat_range}
use Rattle.rayon.proofs.ListFacts.{IfOk-then, AllZip-weaken}
use Rattle.rayon.proofs.ToStd.{nat_range-All}
use Rattle.vs_truth.proofs.Parts.{IsFirsts}
use Rattle.vs_truth.proofs.pieces.firsts_of_pieces.Goals as goal

pub collect-requires-clause-ready : goal.collect-requires-clause-ready
collect-requires-clause-ready g c κs within =
    let ends = c.into_par_iter.ensures in
    let members = g.M.Members.members c.args.members.now in
    let q = c.args.query.now in
    let n = c.count-count.result in
    let inside = nat_range-All (λ i. (i * 4096 ≤ length members) × All (λ member. length member.bits ≡ length q) members) 0 (n / 4096 + 1) (λ i low high. (omega (arith, c.count-count.ensures), c.requires.fits)) in
    rw (c.map.ensures.base, c.map.ensures.f, c.with_min_len.ensures.base, ends.0, ends.1) (λ k d lt. (inside k d lt, λ y p. tt))

pub returns : goal.returns
returns g c =
    let ends = c.into_par_iter.ensures in
    let members = g.M.Members.members c.args.members.now in
    let q = c.args.query.now in
    let n = c.count-count.result / 4096 + 1 in
    let whole : n - 0 ≡ length members / 4096 + 1 = omega (arith, c.count-count.ensures) in
    IfOk-then c.collect.result _ _ c.collect.ensures (λ v h. λ passes answers.
    let chain = rw (c.map.ensures.base, c.map.ensures.f, c.with_min_len.ensures.base) at h.1 in
    let places = chain.1 ∙ (λ i. nat_range (ends.0 i) (ends.1 i)) ∙ ap (range_with_len 0) whole in
    let all : AllZip (IsFirsts passes q members c.args.most) chain.0 h.0 = AllZip-weaken _ _ (λ i r found. IfOk-then r _ _ found (λ w is. is passes answers)) chain.0 h.0 chain.2 in
    subst (λ l. AllZip (IsFirsts passes q members c.args.most) l v.items) places (subst (λ l. AllZip (IsFirsts passes q members c.args.most) chain.0 l) (sym h.2) all))
