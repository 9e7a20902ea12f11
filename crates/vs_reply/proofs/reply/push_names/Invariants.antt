use Rattle.std.proofs.Common.{◌≡◌, ◌++◌, length, take, flat_map}
use Rattle.vs_defs.specs.Reply.{bulk}
use Rattle.vs_reply.proofs.Arrays.{head}
use Rattle.vs_reply.proofs.reply.push_names.Given as goal

abbrev pub invariant-loop-name : goal.invariant-loop-name
invariant-loop-name l = l.out ≡ (l.fn.out ++ head (length l.names)) ++ flat_map bulk (take l.name-index l.names)
