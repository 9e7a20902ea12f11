use Rattle.std.proofs.Common.{◌≡◌, take}
use Rattle.vs_insert.specs.Drafts.{ids_of}
use Rattle.vs_insert.proofs.joining.ids.Given as goal

abbrev pub invariant-loop-one : goal.invariant-loop-one
invariant-loop-one l = l.ids ≡ ids_of (take l.one-index l.chosen)
