use Rattle.std.proofs.Common.{◌≡◌, take, map}
use Rattle.vs_unlink.specs.Candidates.{pair_at}
use Rattle.vs_unlink.specs.Pairs.{matched}
use Rattle.vs_unlink.proofs.Marks.{AreMarks}
use Rattle.vs_unlink.proofs.pairs.matching.Given as goal

-- those taken before this one, and who is in them
abbrev pub invariant-loop-candidate : goal.invariant-loop-candidate
invariant-loop-candidate l = record {
  added : l.added ≡ matched (map (pair_at l.ranked) (take l.candidate-index l.found));
  marks : AreMarks l.ranked l.marks.items l.added;
}
