use Rattle.std.proofs.Common.{◌≡◌, ◌≤◌, length, map, take, vec_capacity}
use Rattle.vs_command.specs.Answers.{hits_of}
use Rattle.vs_query.specs.Found.{hit_at}
use Rattle.vs_query.proofs.hits.named.Given as goal

-- the hits before this one have their names, and the room is for all
abbrev pub invariant-loop-hit : goal.invariant-loop-hit
invariant-loop-hit g l = record {
  named : hits_of l.named.items ≡ map (hit_at l.attrs l.snap.contents.members) (take l.hit-index l.hits);
  room : length l.hits ≤ vec_capacity l.named;
}
