use Rattle.std.proofs.Common.{◌≤◌, length, arith}
use Rattle.vs_defs.specs.Reply.{bulk}
use Rattle.vs_reply.proofs.Arrays.{array_map, all_parts}
use Rattle.vs_reply.proofs.reply.push_names.Goals as goal

pub returns : goal.returns
returns c =
    let names = c.args.names.now in
    let le : length names ≤ c.loop-name.name-index = omega arith in
    all_parts bulk c.args.out.now c.loop-name.out _ (length names) c.loop-name.name-index names le (array_map bulk names) c.loop-name.invariant
