use Rattle.std.proofs.Common.{◌≡◌, ◌-◌, ◌≤◌, [], ◌++◌, length}
use Rattle.std.specs.Prelude.{replicate}
use Rattle.vs_insert.proofs.choosing.filled.Given as goal

abbrev pub invariant-loop-layer : goal.invariant-loop-layer
invariant-loop-layer l = record {
  from : length l.fn.lists.items ≤ l._layer;
  all : l.all ≡ l.fn.lists.items ++ replicate (l._layer - length l.fn.lists.items) [];
}
