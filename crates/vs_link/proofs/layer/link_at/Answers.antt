use Rattle.std.proofs.Common.{get_or, sym, ◌∙◌, subst, arith}
use Rattle.std.proofs.lemmas.List.{take_all}
use Rattle.std.proofs.lemmas.Result.{on_ok_weaker}
use Rattle.vs_graph.specs.Edits.{overwritten}
use Rattle.vs_graph.specs.Good.{links_at, body_at}
use Rattle.vs_graph.specs.Relinks.{Relinks}
use Rattle.vs_graph.proofs.Relinking.{stands_now}
use Rattle.vs_link.specs.Linked.{offered}
use Rattle.vs_link.proofs.Turns.{good_turn, apart_turn, accepted_turn, forced_turn, alone_taken, alone_refused}
use Rattle.vs_link.proofs.Targets.{target_may}
use Rattle.vs_link.proofs.layer.link_at.Goals as goal
use Rattle.vs_link.proofs.layer.link_at.Goals.{then-branch, else-branch}

pub accept-requires-clause-good : goal.accept-requires-clause-good
accept-requires-clause-good g c =
    let base = g.N.Nodes.at c.args.base.now in
    good_turn (overwritten c.args.edit.now base) (overwritten c.loop-y.edit base) c.args.layer c.args.most c.args.x c.args.chosen.now c.requires.good c.requires.free c.requires.x_stands c.requires.chosen c.loop-y.y-index
    c.loop-y.invariant.links (omega arith)

pub accept-requires-clause-y_stands : goal.accept-requires-clause-y_stands
accept-requires-clause-y_stands g c =
    let base = g.N.Nodes.at c.args.base.now in
    stands_now (overwritten c.args.edit.now base) (overwritten c.loop-y.edit base) c.args.layer _ (get_or c.args.chosen.now c.loop-y.y-index 0) c.loop-y.invariant.links (c.requires.chosen.stand c.loop-y.y-index 0 (omega arith)).0

pub accept-requires-clause-apart : goal.accept-requires-clause-apart
accept-requires-clause-apart g c =
    let base = g.N.Nodes.at c.args.base.now in
    apart_turn (overwritten c.args.edit.now base) (overwritten c.loop-y.edit base) c.args.layer c.args.most c.args.x c.args.chosen.now c.requires.good c.requires.free c.requires.x_stands c.requires.chosen c.loop-y.y-index
    c.loop-y.invariant.links (omega arith)

pub loop-y-preserved : goal.loop-y-preserved
loop-y-preserved g c =
    let base = g.N.Nodes.at c.args.base.now in
    record {
      links = accepted_turn (overwritten c.args.edit.now base) (overwritten c.loop-y.edit base) (overwritten c.accept.new.edit base) c.args.layer c.args.most c.args.x (links_at (overwritten c.args.edit.now base) c.args.layer) c.args.chosen.now
          c.loop-y.y-index (omega arith) c.loop-y.invariant.links c.in_ok-accept.ensures.links;
      alone = elim c.if-branch.branch [
        | then-branch w ↦ alone_taken _ _ c.in_ok-accept.field-0 c.loop-y.alone c.if-branch.alone c.in_ok-accept.ensures.taken c.loop-y.invariant.alone w.if-branch.true w.alone-is
        | else-branch w ↦ alone_refused _ _ c.in_ok-accept.field-0 c.loop-y.alone c.if-branch.alone c.in_ok-accept.ensures.taken c.loop-y.invariant.alone w.if-branch.false w.alone-is
      ];
      told = omega (arith, c.in_ok-accept.ensures.told, c.loop-y.invariant.told);
    }

pub force-requires-clause-good : goal.force-requires-clause-good
force-requires-clause-good g c =
    let base = g.N.Nodes.at c.args.base.now in
    good_turn (overwritten c.args.edit.now base) (overwritten c.loop-y.edit base) c.args.layer c.args.most c.args.x c.args.chosen.now c.requires.good c.requires.free c.requires.x_stands c.requires.chosen c.loop-y.y-index
    c.loop-y.invariant.links (omega arith)

pub force-requires-clause-y_stands : goal.force-requires-clause-y_stands
force-requires-clause-y_stands g c =
    let base = g.N.Nodes.at c.args.base.now in
    stands_now (overwritten c.args.edit.now base) (overwritten c.loop-y.edit base) c.args.layer _ c.in-Some.y c.loop-y.invariant.links
    (target_may _ c.args.layer c.args.most c.args.x c.args.chosen.now c.args.fallback c.in-Some.y c.requires.chosen c.requires.fallback (sym c.in-Some.ensures)).0

pub returns-in-Some-clause-links : goal.returns-in-Some-clause-links
returns-in-Some-clause-links g c =
    let base = g.N.Nodes.at c.args.base.now in
    let at = overwritten c.args.edit.now base in
    let now = overwritten c.loop-y.edit base in
    let all : Relinks at now c.args.layer (offered (body_at at) c.args.most (links_at at c.args.layer) c.args.x c.args.chosen.now) =
    subst (λ l. Relinks at now c.args.layer (offered (body_at at) c.args.most (links_at at c.args.layer) c.args.x l)) (take_all c.loop-y.y-index c.args.chosen.now (omega arith)) c.loop-y.invariant.links in
    on_ok_weaker c.force.result
    (forced_turn at now (overwritten c.force.new.edit base) c.args.layer c.args.most c.args.x c.in-Some.y (links_at at c.args.layer) c.args.chosen.now c.args.fallback all (c.loop-y.invariant.alone ∙ c.if-not-alone.false) (sym c.in-Some.ensures))
    c.force.ensures.links
