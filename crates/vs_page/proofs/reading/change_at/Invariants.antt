use Rattle.std.proofs.Common.{◌≡◌, length}
use Rattle.vs_page.specs.Changes.{says}
use Rattle.vs_page.proofs.reading.change_at.Given as goal

abbrev pub invariant-loop-rest : goal.invariant-loop-rest
invariant-loop-rest g l = says l.rest l.id ≡ says l.changes l.id

abbrev pub decreases-loop-rest : goal.decreases-loop-rest
decreases-loop-rest g l = length l.rest
