use Rattle.std.proofs.Common.{◌≡◌, ◌<◌, ◌≤◌, All, length, map, take, vec_capacity}
use Rattle.vs_defs.specs.Draws.{name_at}
use Rattle.vs_defs.specs.Store.{names_of}
use Rattle.vs_query.proofs.picking.picked_names.Given as goal

-- the names at the places before this one are there, and the room is for all
abbrev pub invariant-loop-place : goal.invariant-loop-place
invariant-loop-place g l = record {
  names : l.names.items ≡ map (λ i. name_at i (names_of l.snap.contents.members)) (take l.place-index l.place-items);
  within : All (λ i. i < length l.snap.contents.members) l.place-items;
  room : length l.place-items ≤ vec_capacity l.names;
}
