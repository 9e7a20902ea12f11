use Rattle.std.proofs.Common.{◌≡◌, map, take}
use Rattle.std.specs.Prelude.{IsSomeAnd, slice_get}
use Rattle.vs_defs.specs.Answers.{layer_hits}
use Rattle.vs_defs.specs.Beam.{layers_down}
use Rattle.vs_command.specs.Answers.{hits_of}
use Rattle.vs_query.proofs.layers.layers_at.Given as goal

-- the layers above this one have their hits
abbrev pub invariant-loop-depth : goal.invariant-loop-depth
invariant-loop-depth g l =
    IsSomeAnd (slice_get l.snap.contents.members l.place) (λ x. map hits_of l.layers ≡ map (layer_hits l.snap x.name x.bits) (take l.depth (layers_down l.level 0)))
