use Rattle.vs_command.specs.Requests.{request_of}
use Rattle.vs_shared.proofs.Tasks.{now_done}
use Rattle.vs_shared.proofs.now.NowTaskCounted.run.Goals as goal

pub returns : goal.returns
returns c limits number s log held ends known needs =
    let done = c.do_now.ensures in
    now_done limits number s log held c.args.store.now.store ends c.do_now.new.self (request_of c.args.self.request.now) c.args.self.words.now c.do_now.result needs.0 needs.1 done.does done.memory done.scores
