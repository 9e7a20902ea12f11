use Rattle.std.proofs.Common.{refl}
use Rattle.vs_set.proofs.Leaving.{is_out}
use Rattle.vs_set.proofs.removing.take_out.Goals as goal

pub returns-clause-out : goal.returns-clause-out
returns-clause-out g c =
    let s = c.args.graph.now in
    is_out g.N.Nodes.at s s c.replace.new.self c.in_ok-edit.edit c.in_ok-edit.entry c.args.id (record { nodes = refl; entry = refl; m = refl; dim = refl }) c.in_ok-replace.ensures.ok c.nodes-nodes.ensures.good
    c.in_ok-edit.ensures.without c.in_ok-edit.ensures.removes
