use Rattle.std.proofs.Common.{◌≡◌, ◌++◌, take, flat_map}
use Rattle.vs_generate.proofs.Lines.{spaced}
use Rattle.vs_generate.proofs.printing.push_names.Given as goal

abbrev pub invariant-loop-hit : goal.invariant-loop-hit
invariant-loop-hit l = l.text ≡ (l.fn.text ++ l.word) ++ flat_map spaced (take l.hit-index l.hits)
