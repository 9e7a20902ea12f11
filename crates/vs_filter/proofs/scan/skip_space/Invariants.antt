use Rattle.std.proofs.Common.{◌≡◌, ◌≤◌, length}
use Rattle.vs_defs.specs.FilterText.{skip_space}
use Rattle.vs_filter.proofs.scan.skip_space.Given as goal

abbrev pub invariant-loop-first : goal.invariant-loop-first
invariant-loop-first l = (skip_space l.rest ≡ skip_space l.text) × (length l.rest ≤ length l.text)

abbrev pub decreases-loop-first : goal.decreases-loop-first
decreases-loop-first l = length l.rest
