use Rattle.std.proofs.Common.{ap}
use Rattle.vs_rank.specs.Ranked.{Queue}
use Rattle.vs_rank.proofs.Order.{taken, all_above}
use Rattle.vs_rank.proofs.frontier.Frontier.pop.Goals as goal
use Rattle.vs_rank.proofs.frontier.Frontier.pop.Goals.{in-Some, in-None}

pub returns-clause-taken : goal.returns-clause-taken
returns-clause-taken c = elim c.match-pop.branch [
  | in-Some w ↦ rw w.result-is (taken _ w.key_of.result _ _ _ w.key_of.ensures (ap (λ (q : Queue). q.keys) c.self.view_is) w.in-Some.ensures.permutation)
  | in-None w ↦ rw w.result-is tt
]

pub returns-clause-least : goal.returns-clause-least
returns-clause-least c = elim c.match-pop.branch [
  | in-Some w ↦ rw w.result-is (all_above _ w.key_of.result _ _ w.key_of.ensures (ap (λ (q : Queue). q.keys) c.self.view_is) (w.in-Some.ensures.heap_order c.self.invariant).1)
  | in-None w ↦ rw w.result-is tt
]
