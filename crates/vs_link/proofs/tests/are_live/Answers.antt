use Rattle.std.proofs.Common.{◌∙◌, sym, arith}
use Rattle.vs_graph.specs.Edits.{overwritten}
use Rattle.vs_link.proofs.Chosen.{a_key}
use Rattle.vs_link.proofs.Drafts.{next_live}
use Rattle.vs_link.proofs.tests.are_live.Goals as goal

pub loop-key-preserved : goal.loop-key-preserved
loop-key-preserved g c =
    next_live (overwritten c.args.edit.now (g.N.Nodes.at c.args.base.now)) c.args.keys.now c.loop-key.key-index a_key (omega arith) c.loop-key.invariant (sym c.is_live.ensures ∙ c.if-not-is_live.false)
