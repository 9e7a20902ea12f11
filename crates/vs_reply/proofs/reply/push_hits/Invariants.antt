use Rattle.std.proofs.Common.{◌≡◌, ◌++◌, take, flat_map}
use Rattle.vs_defs.specs.Reply.{hit_parts}
use Rattle.vs_command.specs.Answers.{hit_of}
use Rattle.vs_reply.proofs.Arrays.{head}
use Rattle.vs_reply.proofs.reply.push_hits.Given as goal

abbrev pub invariant-loop-hit : goal.invariant-loop-hit
invariant-loop-hit l =
    l.out ≡ (l.fn.out ++ head (l.parts)) ++ flat_map (λ h. flat_map (λ p. p) (hit_parts l.dim l.scores l.attrs (hit_of h))) (take l.hit-index l.hits)
