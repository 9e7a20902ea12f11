use Rattle.std.proofs.Common.{◌≤◌, length, arith}
use Rattle.vs_defs.specs.Reply.{bulk, sign_text}
use Rattle.vs_reply.proofs.Arrays.{array_map, all_parts}
use Rattle.vs_reply.proofs.reply.push_signs.Goals as goal

pub returns : goal.returns
returns c =
    let signs = c.args.signs.now in
    let le : length signs ≤ c.loop-sign.sign-index = omega arith in
    all_parts (λ s. bulk (sign_text s)) c.args.out.now c.loop-sign.out _ (length signs) c.loop-sign.sign-index signs le (array_map (λ s. bulk (sign_text s)) signs) c.loop-sign.invariant
