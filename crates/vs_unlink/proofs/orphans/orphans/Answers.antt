use Rattle.std.proofs.Common.{sym, subst, arith}
use Rattle.vs_graph.specs.Edits.{overwritten}
use Rattle.vs_graph.specs.Good.{links_at, links_of}
use Rattle.vs_graph.specs.Good.{body_at}
use Rattle.vs_unlink.specs.Orphans.{Lists, none}
use Rattle.vs_unlink.proofs.Listing.{lists_more}
use Rattle.vs_unlink.proofs.orphans.orphans.Goals as goal

pub loop-layer-init : goal.loop-layer-init
loop-layer-init g c =
    let at = overwritten c.args.edit.now (g.N.Nodes.at c.args.base.now) in
    record { listed = subst (Lists (body_at at) (links_at at) (links_of c.args.former.now) c.args.count c.args.count) (sym c.new-all.ensures) none }

pub loop-layer-preserved : goal.loop-layer-preserved
loop-layer-preserved g c =
    let at = overwritten c.args.edit.now (g.N.Nodes.at c.args.base.now) in
    record {
      listed = lists_more (body_at at) (links_at at) (links_of c.args.former.now) c.args.count c.loop-layer.layer c.loop-layer.all c.list_layer.new.orphans (omega arith) c.loop-layer.invariant.listed
          c.in_ok-list_layer.ensures;
    }
