use Rattle.std.proofs.Common.{◌∙◌, ap, List, Option}
use Rattle.vs_outside.specs.Links.{with_link}
use Rattle.vs_session.specs.Shared.{point_of}
use Rattle.vs_server.specs.Chains.{Serves}
use Rattle.vs_server.proofs.Chaining.{chained_by, chained_still}
use Rattle.vs_server.proofs.worker.serve_one.Goals as goal

pub returns-in-Link-clause-chained : goal.returns-in-Link-clause-chained
returns-in-Link-clause-chained g c =
    let served = c.serve_connection-end in
    let i = served.ensures.session in
    chained_by (Serves g.L.Input.Source.left g.L.Input.Source.faults g.L.Output.Sink.written g.L.Output.Sink.faults g.N.TableName.limits)
    c.args.pass.now.number served.new.pass.number (point_of c.args.pass.now) (point_of served.new.pass) _ _ _ _ c.in-Link.input c.in-Link.output served.new.source served.new.sink i.4.number
    (c.close.ensures.given ∙ c.in-Link.ensures.given) (c.close.ensures.closed ∙ ap (λ (x : Option (List _)). with_link served.new.source served.new.sink x) c.in-Link.ensures.closed)
    (record {
      end = served.result;
      input = i.0;
      output = i.1;
      taken = i.2;
      put = i.3;
      is_end = i.4.is_end;
      nothing = served.ensures.end;
      read_fault = served.ensures.read_fault;
      write_fault = served.ensures.write_fault;
      complete = served.ensures.complete;
    })

pub returns-in-Failed-clause-chained : goal.returns-in-Failed-clause-chained
returns-in-Failed-clause-chained g c =
    chained_still (Serves g.L.Input.Source.left g.L.Input.Source.faults g.L.Output.Sink.written g.L.Output.Sink.faults g.N.TableName.limits)
    c.args.pass.now.number (point_of c.args.pass.now) _ _ _ _ c.in-Failed.ensures.given c.in-Failed.ensures.closed
