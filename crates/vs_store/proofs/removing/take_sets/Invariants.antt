use Rattle.std.proofs.Common.{take}
use Rattle.vs_store.specs.Gone.{AreGone, seen}
use Rattle.vs_store.proofs.removing.take_sets.Given as goal

abbrev pub invariant-loop-key : goal.invariant-loop-key
invariant-loop-key l = AreGone (take l.key-index l.keys.items) (seen l.fn.sets.entries) (seen l.sets.entries) l.gone l.members
