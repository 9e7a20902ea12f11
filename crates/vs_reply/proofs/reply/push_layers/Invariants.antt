use Rattle.std.proofs.Common.{◌≡◌, ◌++◌, false, length, take, flat_map}
use Rattle.vs_defs.specs.Reply.{hits_reply}
use Rattle.vs_command.specs.Answers.{hits_of}
use Rattle.vs_reply.proofs.Arrays.{head}
use Rattle.vs_reply.proofs.reply.push_layers.Given as goal

abbrev pub invariant-loop-layer : goal.invariant-loop-layer
invariant-loop-layer l = l.out ≡ (l.fn.out ++ head (length l.layers)) ++ flat_map (λ hits. hits_reply l.dim l.scores false (hits_of hits)) (take l.layer-index l.layers)
