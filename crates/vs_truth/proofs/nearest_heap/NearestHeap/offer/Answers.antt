use Rattle.std.proofs.Common.{◌≡◌, ◌<◌, ◌-◌, true, false, length, refl, sym, ap, ◌∙◌, arith}
use Rattle.std.proofs.lemmas.List.{length-take-le}
use Rattle.vs_defs.specs.Bytes.{place_by}
use Rattle.vs_rank.proofs.Sorted.{offer_more}
use Rattle.vs_truth.specs.Nears.{First, near_of, near_cmp}
use Rattle.vs_truth.proofs.Order.{near_order, kept_long, some_kept, offered_full}
use Rattle.vs_truth.proofs.nearest_heap.NearestHeap.offer.Goals as goal

pub insert-requires : goal.insert-requires
insert-requires c =
    let long = ap (λ (l : First). length l.nears) c.self.view_is in
    let most = ap (λ (l : First). l.most) c.self.view_is in
    omega (arith, long, most, kept_long c.self.inside.heap)

pub insert-requires-then-is_before_last : goal.insert-requires-then-is_before_last
insert-requires-then-is_before_last c =
    let long = ap (λ (l : First). length l.nears) c.self.view_is in
    let most = ap (λ (l : First). l.most) c.self.view_is in
    let nears = c.args.self.now.nears in
    let some : 0 < length nears = some_kept nears (near_of c.args.candidate) (sym c.is_before_last.ensures ∙ c.if-is_before_last.true) in
    let front : length c.remove_last.new.self.nears ≡ length nears - 1 = ap length c.remove_last.ensures.nears ∙ length-take-le (length nears - 1) nears (omega arith) in
    omega (arith, long, most, front, kept_long c.self.inside.heap, c.self.invariant.1, c.remove_last.ensures.most)

pub returns-then-len-self-clause-nears : goal.returns-then-len-self-clause-nears
returns-then-len-self-clause-nears c =
    let long = ap (λ (l : First). length l.nears) c.self.view_is in
    let most = ap (λ (l : First). l.most) c.self.view_is in
    c.insert.ensures.nears
    ∙ offer_more near_cmp near_order c.args.self.now.nears (near_of c.args.candidate) c.args.self.now.most (omega (arith, long, most, kept_long c.self.inside.heap))

pub returns-then-is_before_last-clause-nears : goal.returns-then-is_before_last-clause-nears
returns-then-is_before_last-clause-nears c =
    let full : length c.args.self.now.nears ≡ c.args.self.now.most =
    (let long = ap (λ (l : First). length l.nears) c.self.view_is in
    let most = ap (λ (l : First). l.most) c.self.view_is in
    omega (arith, long, most, kept_long c.self.inside.heap, c.self.invariant.1)) in
    c.insert-then-is_before_last.ensures.nears
    ∙ ap (place_by near_cmp (near_of c.args.candidate)) c.remove_last.ensures.nears
    ∙ sym (offered_full c.self.inside.heap c.args.self.now (near_of c.args.candidate) c.is_before_last.result true _ c.self.view_is refl full c.is_before_last.ensures c.if-is_before_last.true)

pub returns-else-is_before_last-clause-nears : goal.returns-else-is_before_last-clause-nears
returns-else-is_before_last-clause-nears c =
    let full : length c.args.self.now.nears ≡ c.args.self.now.most =
    (let long = ap (λ (l : First). length l.nears) c.self.view_is in
    let most = ap (λ (l : First). l.most) c.self.view_is in
    omega (arith, long, most, kept_long c.self.inside.heap, c.self.invariant.1)) in
    sym (offered_full c.self.inside.heap c.args.self.now (near_of c.args.candidate) c.is_before_last.result false _ c.self.view_is refl full c.is_before_last.ensures c.if-is_before_last.false)
