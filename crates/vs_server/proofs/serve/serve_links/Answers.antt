use Rattle.std.proofs.Common.{[], ◌∙◌, subst}
use Rattle.vs_defs.specs.Store.{Limits}
use Rattle.std.proofs.lemmas.List.Elements.{All-nil}
use Rattle.vs_history.proofs.Beginnings.{prefix_self}
use Rattle.vs_server.specs.Chains.{Serves}
use Rattle.vs_server.specs.Ended.{IsServed}
use Rattle.vs_server.proofs.Sums.{served_same}
use Rattle.vs_server.proofs.serve.serve_links.Goals as goal

pub returns-in-Ok-clause-served : goal.returns-in-Ok-clause-served
returns-in-Ok-clause-served g c =
    subst (λ (l : Limits). IsServed l c.args.seed (Serves g.L.Input.Source.left g.L.Input.Source.faults g.L.Output.Sink.written g.L.Output.Sink.faults l) (λ v. g.L.Listener.given v) (λ v. g.L.Listener.closed v) c.args.listeners.now.items c.serve_named.new.listeners.items)
    (c.in-Ok.ensures ∙ c.usual.ensures) c.serve_named.ensures.served

pub returns-in-Err-clause-served : goal.returns-in-Err-clause-served
returns-in-Err-clause-served g c = record { log = []; legal = tt; good = All-nil _; each = served_same _ _ _ _ _ _ _ (λ k. prefix_self []) }
