use Rattle.vs_set.proofs.FirstRows.{AreFirst}
use Rattle.vs_set.proofs.snap.Snap.rows.Given as goal

-- the members before this place are rows
abbrev pub invariant-loop-place : goal.invariant-loop-place
invariant-loop-place g l = AreFirst l.self.contents.dim l.rows l.self.contents.members l.place
