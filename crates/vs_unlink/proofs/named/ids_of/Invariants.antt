use Rattle.std.proofs.Common.{◌≡◌, map, take}
use Rattle.vs_unlink.specs.Named.{id_of}
use Rattle.vs_unlink.proofs.named.ids_of.Given as goal

-- the ids of those before this one
abbrev pub invariant-loop-one : goal.invariant-loop-one
invariant-loop-one l = l.ids ≡ map id_of (take l.one-index l.all)
