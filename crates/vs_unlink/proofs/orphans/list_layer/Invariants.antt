use Rattle.std.proofs.Common.{◌≡◌, ◌++◌, take}
use Rattle.vs_unlink.specs.Orphans.{at_layer}
use Rattle.vs_unlink.proofs.orphans.list_layer.Given as goal

-- those before this one are put last
abbrev pub invariant-loop-id : goal.invariant-loop-id
invariant-loop-id g l = l.orphans ≡ l.initial.orphans ++ at_layer l.layer (take l.id-index l.id-items)
