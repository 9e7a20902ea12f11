use Rattle.std.proofs.Common.{◌≡◌, []}
use Rattle.vs_tickets.specs.Rule.{share}
use Rattle.vs_session.specs.Shared.{point_of}
use Rattle.vs_server.specs.Counts.{Counted}
use Rattle.vs_server.specs.Chains.{Serves, Chained}
use Rattle.vs_server.proofs.worker.Worker.run.Given as goal

abbrev pub invariant-loop : goal.invariant-loop
invariant-loop g l =
    ((goal.iterator-loop g).can_next l.iterator' × (goal.iterator-loop g).is_finite l.iterator')
    × (l.self.ticket.table_id ≡ l.initial.self.ticket.table_id)
    × (l.self.ticket.me ≡ (share 1 l.self.ticket.me.0.below 0 l.limit, []))
    × Counted (g.L.Listener.closed l.initial.self.listener) (g.L.Listener.closed l.self.listener) l.self.ticket.me.0.below
    × (g.L.Listener.faults l.self.listener ≡ g.L.Listener.faults l.initial.self.listener)
    × Chained (λ k s a b t. Serves (λ i. g.L.Input.Source.left i) (λ i. g.L.Input.Source.faults i) (λ o. g.L.Output.Sink.written o) (λ o. g.L.Output.Sink.faults o) g.N.TableName.limits k s a b t) l.initial.self.pass.number l.self.pass.number (point_of l.initial.self.pass) (point_of l.self.pass) (g.L.Listener.given l.initial.self.listener) (g.L.Listener.closed l.initial.self.listener) (g.L.Listener.given l.self.listener) (g.L.Listener.closed l.self.listener)
