use Rattle.std.proofs.Common.{◌≡◌, map, take}
use Rattle.vs_args.proofs.job.texts_of.Given as goal

abbrev pub invariant-loop-word : goal.invariant-loop-word
invariant-loop-word l = map (λ w. w.now) l.texts.items ≡ take l.word-index l.words
