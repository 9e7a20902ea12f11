use Rattle.vs_resp.proofs.spare.Spare.keep.Given as goal

abbrev pub decreases-loop-word : goal.decreases-loop-word
decreases-loop-word l = goal.left-loop-word l
