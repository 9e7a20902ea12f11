use Rattle.std.proofs.Common.{◌≡◌, map}
use Rattle.vs_defs.specs.FilterText.{literals_within}
use Rattle.vs_filter.specs.Seen.{tokens_seen}
use Rattle.vs_filter.specs.Code.{single_seen}
use Rattle.vs_filter.proofs.ItemSteps.{with_items}
use Rattle.vs_filter.proofs.literal.literals.Given as goal

abbrev pub invariant-loop-left : goal.invariant-loop-left
invariant-loop-left l = with_items (map single_seen l.items) (literals_within l.left (tokens_seen l.rest)) ≡ literals_within l.fn.left (tokens_seen l.tokens)

abbrev pub decreases-loop-left : goal.decreases-loop-left
decreases-loop-left l = l.left
