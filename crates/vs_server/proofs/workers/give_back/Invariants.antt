use Rattle.std.proofs.Common.{◌≡◌, ◌+◌, ◌-◌, ◌≤◌, ◌<◌, [], length}
use Rattle.std.specs.Prelude.{All, sum_by, vec_capacity}
use Rattle.vs_tickets.specs.Rule.{share}
use Rattle.vs_server.specs.Ended.{back, IsParted, HaveMet, seen_by}
use Rattle.vs_server.proofs.workers.give_back.Given as goal

abbrev pub invariant-loop-listener : goal.invariant-loop-listener
invariant-loop-listener g l =
    (l.all.table_id ≡ l.word.shared.table_id)
    × (length l.workers.items < 4294967296)
    × All (λ h. (h.ticket.table_id ≡ l.word.shared.table_id) × (h.ticket.me ≡ (share 1 h.ticket.me.0.below h.ticket.me.0.past l.limit, []))) l.workers.items
    × (l.all.me ≡ (share (4294967296 - length l.workers.items) l.all.me.0.below l.all.me.0.past l.limit, []))
    × (l.all.me.0.below + sum_by (λ h. h.ticket.me.0.below) l.workers.items ≡ sum_by (λ h. h.ticket.me.0.below) l.initial.workers.items)
    × (l.all.me.0.past + sum_by (λ h. h.ticket.me.0.past) l.workers.items ≡ sum_by (λ h. h.ticket.me.0.past) l.initial.workers.items)
    × (length l.listeners.items + length l.workers.items ≤ vec_capacity l.listeners)
    × IsParted (λ h. h.listener) l.listeners.items l.workers.items (back (λ h. h.listener) l.initial.workers.items)
    × HaveMet (λ h. h.pass.seen) l.workers.items l.initial.workers.items (seen_by l.last)

abbrev pub decreases-loop-listener : goal.decreases-loop-listener
decreases-loop-listener g l = length l.workers.items
