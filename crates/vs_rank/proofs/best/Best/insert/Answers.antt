use Rattle.std.proofs.Common.{◌≡◌, length, arith, ap, ◌∙◌}
use Rattle.vs_rank.specs.Ranked.{Least, with_key}
use Rattle.vs_rank.proofs.Numbers.{kept, kept_long, kept_more}
use Rattle.vs_rank.proofs.best.Best.insert.Goals as goal

pub invariant_of-self : goal.invariant_of-self
invariant_of-self c =
    let long : length (kept c.self.inside.heap) ≡ length c.args.self.now.keys = ap (λ (l : Least). length l.keys) c.self.view_is in
    let most : c.self.inside.most ≡ c.args.self.now.most = ap (λ (l : Least). l.most) c.self.view_is in
    (c.in-Ok.ensures.heap_order c.self.invariant.0, omega (arith, kept_long c.self.inside.heap, c.in-Ok.ensures.len), omega (arith, ap (λ (l : Least). l.spare) c.self.view_is, c.requires.room, c.in-Ok.ensures.len), c.self.invariant.3)

pub returns-clause-keys : goal.returns-clause-keys
returns-clause-keys c =
    kept_more c.self.inside.heap c.push.new.self c.packed.result c.args.key c.packed.ensures c.in-Ok.ensures.permutation ∙ ap (λ (l : Least). with_key l.keys c.args.key) c.self.view_is
