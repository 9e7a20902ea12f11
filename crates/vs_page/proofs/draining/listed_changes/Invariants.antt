use Rattle.std.proofs.Common.{◌≡◌, ℕ, length}
use Rattle.std.specs.Option.{option_or}
use Rattle.vs_graph.specs.Said.{listed}
use Rattle.vs_page.specs.Changes.{says}
use Rattle.vs_page.proofs.draining.listed_changes.Given as goal

-- what is in the new list, and then what is left, say the same as all did
abbrev pub invariant-loop-id : goal.invariant-loop-id
invariant-loop-id l = record {
  beside : length l.ids.items ≡ length l.nodes.items;
  same : (q : ℕ) → option_or (says l.list.items q) (listed l.ids.items l.nodes.items q) ≡ listed l.fn.ids.items l.fn.nodes.items q;
}

abbrev pub decreases-loop-id : goal.decreases-loop-id
decreases-loop-id l = length l.ids.items
