use Rattle.std.proofs.Common.{◌≡◌, ◌∙◌, sym, ap}
use Rattle.vs_thread_defs.specs.Schedule.{Begins, begins, line_by}
use Rattle.vs_store.specs.Seen.{limits_seen}
use Rattle.vs_schedule.specs.Lines.{beginning_of}
use Rattle.vs_schedule.proofs.Steps.{opens_begun}
use Rattle.vs_schedule.proofs.runner.open.Goals as goal

pub returns-in_ok-new-in-Begins : goal.returns-in_ok-new-in-Begins
returns-in_ok-new-in-Begins c =
    let is : line_by begins c.args.line.now ≡ Begins c.in-Begins.actors (limits_seen c.in-Begins.limits) = sym c.in_ok-read_beginning.ensures.means ∙ ap beginning_of c.in-Begins.is in
    record { carries = opens_begun c.args.line.now c.in_ok-new-in-Begins.field-0 (limits_seen c.in-Begins.limits) c.in-Begins.actors c.in_ok-new-in-Begins.ensures is }
