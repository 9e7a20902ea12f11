use Rattle.std.proofs.Common.{sym, subst}
use Rattle.std.specs.Prelude.{IsSome}
use Rattle.vs_set.proofs.Leaving.{is_out}
use Rattle.vs_set.proofs.replacing.taken_out.Goals as goal

pub without-requires : goal.without-requires
without-requires g c = record { live = subst (λ f. IsSome (f c.args.id)) (sym c.in_ok-left.ensures.nodes) c.requires }

pub returns : goal.returns
returns g c =
    is_out g.N.Nodes.at c.args.graph.now c.in_ok-left.left c.replace.new.self c.in_ok-edit.edit c.in_ok-edit.entry c.args.id c.in_ok-left.ensures c.in_ok-replace.ensures.ok c.nodes-nodes.ensures.good
    c.in_ok-edit.ensures.without c.in_ok-edit.ensures.removes
