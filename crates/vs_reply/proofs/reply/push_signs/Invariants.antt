use Rattle.std.proofs.Common.{◌≡◌, ◌++◌, length, take, flat_map}
use Rattle.vs_defs.specs.Reply.{bulk, sign_text}
use Rattle.vs_reply.proofs.Arrays.{head}
use Rattle.vs_reply.proofs.reply.push_signs.Given as goal

abbrev pub invariant-loop-sign : goal.invariant-loop-sign
invariant-loop-sign l = l.out ≡ (l.fn.out ++ head (length l.signs)) ++ flat_map (λ s. bulk (sign_text s)) (take l.sign-index l.signs)
