use Rattle.std.proofs.Common.{◌≡◌, ◌++◌, length, map}
use Rattle.vs_page.proofs.Entries.{change_of}
use Rattle.vs_page.proofs.draining.add_mapped.Given as goal

-- what is listed and what is left are all there were
abbrev pub invariant-loop-id : goal.invariant-loop-id
invariant-loop-id g l = l.list.items ++ map change_of l.more.entries ≡ l.fn.list.items ++ map change_of l.fn.more.entries

abbrev pub decreases-loop-id : goal.decreases-loop-id
decreases-loop-id g l = length l.more.entries
