use Rattle.std.proofs.lemmas.List.Elements.{All-push}
use Rattle.vs_core.specs.Events.{FitsEvent}
use Rattle.vs_core_tests.proofs.events.events.Goals as goal

pub loop-happening-preserved : goal.loop-happening-preserved
loop-happening-preserved g c =
    rw c.in_ok-push.ensures.ok (All-push FitsEvent c.loop-happening.events c.in_ok-event.field-0 c.loop-happening.invariant c.in_ok-event.ensures)
