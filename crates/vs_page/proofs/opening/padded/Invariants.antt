use Rattle.std.proofs.Common.{◌≡◌, ◌<◌, ◌≤◌, ℕ, length, get_or}
use Rattle.std.specs.Vec.{vec_capacity}
use Rattle.vs_page.proofs.opening.padded.Given as goal

-- the places before this one are copied
abbrev pub invariant-loop-place : goal.invariant-loop-place
invariant-loop-place g l = record {
  long : length l.copies.items ≡ l.place;
  room : l.end ≤ vec_capacity l.copies;
  same : (k : ℕ) → k < l.place → get_or l.copies.items k l.blank ≡ get_or l.items k l.blank;
}
