use Rattle.std.proofs.Common.{◌-◌, take, length, ap, ◌∙◌}
use Rattle.vs_rank.specs.Ranked.{Least, with_key}
use Rattle.vs_rank.proofs.Numbers.{replaced}
use Rattle.vs_rank.proofs.best.Best.replace_worst.Goals as goal

pub returns-clause-keys : goal.returns-clause-keys
returns-clause-keys c =
    replaced c.self.inside.heap c.replace_top.new.heap c.packed.result c.args.key c.packed.ensures c.self.invariant.0 c.replace_top.ensures.replaced
    ∙ ap (λ (l : Least). with_key (take (length l.keys - 1) l.keys) c.args.key) c.self.view_is
