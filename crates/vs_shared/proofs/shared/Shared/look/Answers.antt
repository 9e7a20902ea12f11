use Rattle.std.proofs.Common.{[], refl}
use Rattle.vs_shared.proofs.shared.Shared.look.Goals as goal

pub returns-in_default-clause-call : goal.returns-in_default-clause-call
returns-in_default-clause-call g c = c.starved.ensures.now _ [] refl
