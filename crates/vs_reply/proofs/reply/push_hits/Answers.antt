use Rattle.std.proofs.Common.{◌≤◌, length, flat_map, arith}
use Rattle.vs_defs.specs.Reply.{hit_parts}
use Rattle.vs_command.specs.Answers.{hit_of}
use Rattle.vs_reply.proofs.Arrays.{hits_map, all_parts, part_more}
use Rattle.vs_reply.proofs.reply.push_hits.Goals as goal

pub loop-hit-preserved : goal.loop-hit-preserved
loop-hit-preserved c =
    part_more (λ h. flat_map (λ p. p) (hit_parts c.args.dim c.args.scores c.args.attrs (hit_of h))) _ c.loop-hit.out c.push_hit.new.out c.args.hits.now c.loop-hit.hit-index c.hit-item.result
    c.loop-hit-test.true c.hit-item.is c.loop-hit.invariant c.in_ok-push_hit.ensures

pub returns : goal.returns
returns c =
    let hits = c.args.hits.now in
    let dim = c.args.dim in
    let scores = c.args.scores in
    let attrs = c.args.attrs in
    let le : length hits ≤ c.loop-hit.hit-index = omega arith in
    all_parts (λ h. flat_map (λ p. p) (hit_parts dim scores attrs (hit_of h))) c.args.out.now c.loop-hit.out _ _ c.loop-hit.hit-index hits le
    (hits_map hit_of dim scores attrs c.parts_of_hit.result hits (c.parts_of_hit.ensures.parts dim)) c.loop-hit.invariant
