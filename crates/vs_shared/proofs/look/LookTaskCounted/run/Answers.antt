use Rattle.vs_command.specs.Requests.{search_of}
use Rattle.vs_shared.proofs.Tasks.{look_done}
use Rattle.vs_shared.proofs.look.LookTaskCounted.run.Goals as goal

pub returns : goal.returns
returns c limits number s log held ends known needs =
    let looked = c.look_with.ensures in
    look_done limits number s log held c.args.store.now.store ends (search_of c.args.self.search) c.look_with.result needs looked.search looked.set looked.unrefused looked.refused
