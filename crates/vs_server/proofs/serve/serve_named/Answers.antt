use Rattle.std.proofs.Common.{[]}
use Rattle.std.proofs.lemmas.List.Elements.{All-nil}
use Rattle.vs_history.proofs.Beginnings.{prefix_self}
use Rattle.vs_server.proofs.Sums.{served_same}
use Rattle.vs_server.proofs.serve.serve_named.Goals as goal

pub returns-in_default-clause-served : goal.returns-in_default-clause-served
returns-in_default-clause-served g c = record { log = []; legal = tt; good = All-nil _; each = served_same _ _ _ _ _ _ _ (λ k. prefix_self []) }

pub returns-in_default-open-clause-served : goal.returns-in_default-open-clause-served
returns-in_default-open-clause-served g c = record { log = []; legal = tt; good = All-nil _; each = served_same _ _ _ _ _ _ _ (λ k. prefix_self []) }

pub returns-in_default-with_capacity-clause-served : goal.returns-in_default-with_capacity-clause-served
returns-in_default-with_capacity-clause-served g c = record { log = []; legal = tt; good = All-nil _; each = served_same _ _ _ _ _ _ _ (λ k. prefix_self []) }
