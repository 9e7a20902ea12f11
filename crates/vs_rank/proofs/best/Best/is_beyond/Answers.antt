use Rattle.std.proofs.Common.{◌-◌, heap_len, sym, ap, ◌∙◌, refl, arith}
use Rattle.std.specs.BinaryHeap.{heap_capacity}
use Rattle.vs_rank.specs.Ranked.{Least, is_beyond, key_lt, unpacked}
use Rattle.vs_rank.proofs.Numbers.{top_is, lt_packed, beyond_full, beyond_room}
use Rattle.vs_rank.proofs.best.Best.is_beyond.Goals as goal

pub returns-then-len-self : goal.returns-then-len-self
returns-then-len-self c =
    let heap = c.self.inside.heap in
    let w = c.in-Some.worst.now in
    let worst = top_is heap w (c.in-Some.ensures.variant.0 refl) c.in-Some.ensures.lookup (c.in-Some.ensures.greatest c.self.invariant.0) in
    sym (lt_packed w c.packed.result) ∙ ap (λ k. key_lt (unpacked w) k) c.packed.ensures
    ∙ sym (beyond_full heap c.args.key (unpacked w) c.self.inside.most (heap_capacity heap - heap_len heap) (omega arith) worst) ∙ ap (λ (l : Least). is_beyond l c.args.key) c.self.view_is

pub returns-else-len-self : goal.returns-else-len-self
returns-else-len-self c =
    beyond_room c.self.inside.heap c.args.key c.len.result c.self.inside.most (heap_capacity c.self.inside.heap - heap_len c.self.inside.heap) c.len.ensures (omega arith) ∙ ap (λ (l : Least). is_beyond l c.args.key) c.self.view_is
