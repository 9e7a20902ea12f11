use Rattle.std.proofs.Common.{◌≤◌, ◌<◌, ℕ, length}
use Rattle.std.specs.Prelude.{◌≢◌, slice_index}
use Rattle.vs_graph.proofs.edit.place_of.Given as goal

-- the id is not at this place or after it
abbrev pub invariant-loop-place : goal.invariant-loop-place
invariant-loop-place l = record {
  within : l.place ≤ length l.ids;
  after : (k : ℕ) → l.place ≤ k → k < length l.ids → slice_index l.ids k ≢ l.id;
}

abbrev pub decreases-loop-place : goal.decreases-loop-place
decreases-loop-place l = l.place
