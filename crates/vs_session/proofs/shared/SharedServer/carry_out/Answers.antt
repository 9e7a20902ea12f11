use Rattle.vs_command.specs.Requests.{request_of}
use Rattle.vs_session.proofs.Lending.{passed_by, passed_long}
use Rattle.vs_session.proofs.shared.SharedServer.carry_out.Goals as goal

pub returns-clause-served : goal.returns-clause-served
returns-clause-served g c =
    passed_by g.N.TableName.limits c.args.self.now.pass.now c.call_by.new.pass c.args.self.now.pass.ghost_name c.args.message.now (request_of c.in_ok-request.request) c.call_by.result c.in_ok-request.ensures.request
    c.call_by.ensures.call c.call_by.ensures.memory

pub returns-clause-long : goal.returns-clause-long
returns-clause-long g c =
    passed_long g.N.TableName.limits c.args.self.now.pass.now c.call_by.new.pass c.args.self.now.pass.ghost_name c.args.message.now (request_of c.in_ok-request.request) c.call_by.result c.in_ok-request.ensures.request
    c.call_by.ensures.call
