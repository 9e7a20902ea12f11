use Rattle.std.proofs.Common.{sym, ap, ◌∙◌}
use Rattle.vs_rank.specs.Ranked.{Least, worst_of}
use Rattle.vs_rank.proofs.Numbers.{peeked}
use Rattle.vs_rank.proofs.best.Best.worst.Goals as goal

pub returns : goal.returns
returns c =
    c.key_seen.ensures ∙ sym (peeked c.self.inside.heap c.peek.result c.self.invariant.0 c.peek.ensures.variant c.peek.ensures.lookup c.peek.ensures.greatest) ∙ ap (λ (l : Least). worst_of l.keys) c.self.view_is
