use Rattle.std.proofs.Common.{◌≡◌, ◌≤◌, length}
use Rattle.vs_defs.specs.FilterText.{quoted_at}
use Rattle.vs_filter.proofs.Quoted.{with_bytes}
use Rattle.vs_filter.proofs.scan.quoted.Given as goal

abbrev pub invariant-loop-first : goal.invariant-loop-first
invariant-loop-first l = record {
  value : with_bytes l.bytes (quoted_at l.mark l.rest) ≡ quoted_at l.mark l.text;
  bound : length l.rest ≤ length l.text;
}

abbrev pub decreases-loop-first : goal.decreases-loop-first
decreases-loop-first l = length l.rest
