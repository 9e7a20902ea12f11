use Rattle.std.proofs.Common.{◌≡◌, ◌+◌, ◌-◌, ◌≤◌, ◌<◌, [], length}
use Rattle.std.specs.Prelude.{All, vec_capacity}
use Rattle.vs_pass.specs.Knower.{newcomers}
use Rattle.vs_session.specs.Shared.{point_of}
use Rattle.vs_tickets.specs.Rule.{share}
use Rattle.vs_server.specs.Chains.{start}
use Rattle.vs_server.specs.Counts.{IsFresh}
use Rattle.vs_server.specs.Ended.{IsParted, GoDown}
use Rattle.vs_server.proofs.workers.deal_all.Given as goal

abbrev pub invariant-loop-listener : goal.invariant-loop-listener
invariant-loop-listener g l =
    (l.all.table_id ≡ l.word.shared.table_id)
    × (l.all.me ≡ (share (4294967296 - length l.workers.items) 0 0 l.initial.all.me.0.limit, []))
    × (vec_capacity l.listeners ≡ vec_capacity l.initial.listeners)
    × (length l.workers.items + length l.listeners.items ≤ vec_capacity l.workers)
    × (length l.workers.items + length l.listeners.items < 4294967296)
    × IsParted (λ h. h.listener) l.listeners.items l.workers.items (l.initial.listeners.items)
    × (l.passes.items ≡ newcomers l.seed (length l.listeners.items))
    × All (λ h. (h.ticket.table_id ≡ l.word.shared.table_id) × IsFresh h.ticket.me l.initial.all.me.0.limit) l.workers.items
    × All (λ h. point_of h.pass ≡ start l.seed h.pass.number) l.workers.items
    × GoDown (λ h. h.pass.number) (length l.initial.listeners.items) l.workers.items
    × (length l.workers.items + length l.listeners.items ≡ length l.initial.listeners.items)

abbrev pub decreases-loop-listener : goal.decreases-loop-listener
decreases-loop-listener g l = length l.listeners.items
