use Rattle.std.proofs.Common.{◌≡◌, true, false, length, refl, sym, ap, subst, ◌∙◌, heap_items, arith}
use Rattle.vs_rank.specs.Ranked.{Least, key_cmp}
use Rattle.vs_rank.proofs.Keys.{key_order, some_kept}
use Rattle.vs_rank.proofs.Sorted.{Ascends, ascends_sorted, offer_more}
use Rattle.vs_rank.proofs.Numbers.{seen, kept_long, offered_full}
use Rattle.vs_rank.proofs.Beyond.{beyond_after}
use Rattle.vs_rank.proofs.best.Best.offer.Goals as goal

pub insert-requires-clause-place : goal.insert-requires-clause-place
insert-requires-clause-place c =
    let long = ap (λ (l : Least). length l.keys) c.self.view_is in
    let most = ap (λ (l : Least). l.most) c.self.view_is in
    omega (arith, long, most, kept_long c.self.inside.heap)

pub replace_worst-requires : goal.replace_worst-requires
replace_worst-requires c = some_kept c.args.self.now.keys c.args.key (sym c.is_below_worst.ensures ∙ c.if-is_below_worst.true)

pub returns-then-len-self-clause-keys : goal.returns-then-len-self-clause-keys
returns-then-len-self-clause-keys c =
    let long = ap (λ (l : Least). length l.keys) c.self.view_is in
    let most = ap (λ (l : Least). l.most) c.self.view_is in
    c.insert.ensures.keys ∙ offer_more key_cmp key_order c.args.self.now.keys c.args.key c.args.self.now.most (omega (arith, long, most, kept_long c.self.inside.heap))

pub returns-then-len-self-clause-beyond : goal.returns-then-len-self-clause-beyond
returns-then-len-self-clause-beyond c =
    let old = c.args.self.now in
    let heap = c.self.inside.heap in
    let up : Ascends key_cmp old.keys = subst (Ascends key_cmp) (ap (λ (l : Least). l.keys) c.self.view_is) (ascends_sorted key_cmp key_order (seen (heap_items heap))) in
    let long = ap (λ (l : Least). length l.keys) c.self.view_is in
    let most = ap (λ (l : Least). l.most) c.self.view_is in
    λ other. beyond_after old c.insert.new.self c.args.key other up (omega (arith, long, most, kept_long heap, c.self.invariant.1)) c.insert.ensures.most (returns-then-len-self-clause-keys c)

pub returns-then-is_below_worst-clause-keys : goal.returns-then-is_below_worst-clause-keys
returns-then-is_below_worst-clause-keys c =
    let full : length c.args.self.now.keys ≡ c.args.self.now.most =
    (let long = ap (λ (l : Least). length l.keys) c.self.view_is in
    let most = ap (λ (l : Least). l.most) c.self.view_is in
    omega (arith, long, most, kept_long c.self.inside.heap, c.self.invariant.1)) in
    c.replace_worst.ensures.keys
    ∙ sym (offered_full c.self.inside.heap c.args.self.now c.args.key c.is_below_worst.result true _ c.self.view_is refl full c.is_below_worst.ensures c.if-is_below_worst.true)

pub returns-then-is_below_worst-clause-beyond : goal.returns-then-is_below_worst-clause-beyond
returns-then-is_below_worst-clause-beyond c =
    let old = c.args.self.now in
    let heap = c.self.inside.heap in
    let up : Ascends key_cmp old.keys = subst (Ascends key_cmp) (ap (λ (l : Least). l.keys) c.self.view_is) (ascends_sorted key_cmp key_order (seen (heap_items heap))) in
    let long = ap (λ (l : Least). length l.keys) c.self.view_is in
    let most = ap (λ (l : Least). l.most) c.self.view_is in
    λ other. beyond_after old c.replace_worst.new.self c.args.key other up (omega (arith, long, most, kept_long heap, c.self.invariant.1)) c.replace_worst.ensures.most (returns-then-is_below_worst-clause-keys c)

pub returns-else-is_below_worst-clause-keys : goal.returns-else-is_below_worst-clause-keys
returns-else-is_below_worst-clause-keys c =
    let full : length c.args.self.now.keys ≡ c.args.self.now.most =
    (let long = ap (λ (l : Least). length l.keys) c.self.view_is in
    let most = ap (λ (l : Least). l.most) c.self.view_is in
    omega (arith, long, most, kept_long c.self.inside.heap, c.self.invariant.1)) in
    sym (offered_full c.self.inside.heap c.args.self.now c.args.key c.is_below_worst.result false _ c.self.view_is refl full c.is_below_worst.ensures c.if-is_below_worst.false)
