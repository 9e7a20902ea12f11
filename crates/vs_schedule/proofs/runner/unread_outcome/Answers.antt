use Rattle.std.proofs.Common.{◌∙◌, option_map, ap, sym}
use Rattle.vs_core.specs.Events.{refused_by, unstepped}
use Rattle.vs_schedule.specs.Lines.{unread_by}
use Rattle.vs_schedule.proofs.runner.unread_outcome.Goals as goal

pub returns-in-Some-clause-outcome : goal.returns-in-Some-clause-outcome
returns-in-Some-clause-outcome c cause is = ap (λ o. unread_by o cause) (ap (option_map unstepped) (sym c.in-Some.is) ∙ c.busy.ensures)

pub returns-in-None-clause-outcome : goal.returns-in-None-clause-outcome
returns-in-None-clause-outcome c cause is = ap refused_by is ∙ ap (λ o. unread_by o cause) (ap (option_map unstepped) (sym c.in-None.is) ∙ c.busy.ensures)
