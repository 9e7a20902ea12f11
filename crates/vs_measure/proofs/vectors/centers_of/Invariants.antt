use Rattle.std.proofs.Common.{◌≡◌, ◌+◌, ◌/◌, All, length}
use Rattle.vs_measure.proofs.vectors.centers_of.Given as goal

abbrev pub invariant-centers : goal.invariant-centers
invariant-centers l = All (λ center. length center.items ≡ (l.case.dim + 31) / 32) l.centers.items
