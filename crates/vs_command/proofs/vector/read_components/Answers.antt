use Rattle.vs_bits.specs.Components.{Refuses}
use Rattle.vs_bits.specs.declared.components.ComponentsError.TheVariants.{BadComponent}
use Rattle.vs_command.proofs.Steps.{components_read, component_refused}
use Rattle.vs_command.proofs.vector.read_components.Goals as goal

pub returns-in-Ok-clause-bits : goal.returns-in-Ok-clause-bits
returns-in-Ok-clause-bits c = components_read 4 c.args.components.now c.in-Ok.bits c.in-Ok.ensures.bits

pub returns-in-Err-BadComponent-clause-bits : goal.returns-in-Err-BadComponent-clause-bits
returns-in-Err-BadComponent-clause-bits c =
    let bad : Refuses (BadComponent c.in-Err-BadComponent.place) c.args.components.now = rw c.in-Err-BadComponent.field-0-is at c.in-Err-BadComponent.ensures.refused in
    component_refused 4 c.args.components.now c.in-Err-BadComponent.place bad.0 bad.1
