use Rattle.std.proofs.Common.{◌+◌, ◌<◌, arith}
use Rattle.vs_beam.specs.Beam.{far_at, stays}
use Rattle.vs_beam.proofs.Turns.{falls, stays_at}
use Rattle.vs_beam.proofs.Walked.{walks_on}
use Rattle.vs_beam.proofs.steps_nearer.walk.Goals as goal

pub loop-next-init : goal.loop-next-init
loop-next-init g c = record {
  dist = c.requires.start;
  walked = stays c.args.from.id;
  told = λ most few. omega arith;
}

pub nearer-requires-clause-live : goal.nearer-requires-clause-live
nearer-requires-clause-live g c = λ w link. c.requires.live c.loop-next.here.id w link

pub loop-next-preserved : goal.loop-next-preserved
loop-next-preserved g c =
    let at = g.N.Nodes.at c.args.nodes.now in
    let closer : far_at at c.args.query.now c.in-Some.next.id < far_at at c.args.query.now c.loop-next.here.id = omega (arith, c.in-Some.ensures.found.nearer, c.in-Some.ensures.found.dist, c.loop-next.invariant.dist) in
    record {
      dist = c.in-Some.ensures.found.dist;
      walked = walks_on at c.args.query.now c.args.layer c.args.from.id c.loop-next.here.id c.in-Some.next.id c.loop-next.invariant.walked c.in-Some.ensures.found.link closer;
      told = λ most few. falls c.loop-next.reads c.nearer.new.reads c.loop-next.here.dist c.in-Some.next.dist (most + 1) _ (omega (arith, c.nearer.ensures.told, few c.loop-next.here.id)) c.in-Some.ensures.found.nearer (c.loop-next.invariant.told most few);
    }

pub returns-clause-told : goal.returns-clause-told
returns-clause-told g c = λ most few. stays_at c.loop-next.reads c.nearer.new.reads c.loop-next.here.dist c.args.from.dist (most + 1) c.args.reads.now (omega (arith, c.nearer.ensures.told, few c.loop-next.here.id)) (c.loop-next.invariant.told most few)
