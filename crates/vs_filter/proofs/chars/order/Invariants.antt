use Rattle.std.proofs.Common.{◌≡◌, length}
use Rattle.vs_defs.specs.Bytes.{name_cmp}
use Rattle.vs_filter.specs.Values.{chars_seen}
use Rattle.vs_filter.proofs.chars.order.Given as goal

abbrev pub invariant-loop-x : goal.invariant-loop-x
invariant-loop-x l = name_cmp (chars_seen l.a) (chars_seen l.b) ≡ name_cmp (chars_seen l.initial.a) (chars_seen l.initial.b)

abbrev pub decreases-loop-x : goal.decreases-loop-x
decreases-loop-x l = length (chars_seen l.a)
