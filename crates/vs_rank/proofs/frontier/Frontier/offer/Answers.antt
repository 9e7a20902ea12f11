use Rattle.std.proofs.Common.{ap}
use Rattle.vs_rank.specs.Ranked.{Queue}
use Rattle.vs_rank.proofs.Order.{offered}
use Rattle.vs_rank.proofs.frontier.Frontier.offer.Goals as goal

pub returns-clause-keys : goal.returns-clause-keys
returns-clause-keys c = offered _ c.args.key _ _ _ c.packed.ensures (ap (λ (q : Queue). q.keys) c.self.view_is) c.in-Ok.ensures.permutation
