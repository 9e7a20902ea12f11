use Rattle.std.proofs.Common.{◌≡◌, ◌≤◌, length, take}
use Rattle.vs_command.proofs.Displaced.{until, StandFrom}
use Rattle.vs_command.proofs.drawn.picks_once.Given as goal

abbrev pub invariant-loop-turn : goal.invariant-loop-turn
invariant-loop-turn l = record {
  picked : l.picked.items ≡ take l.turn (until l.fn.members l.words l.turn);
  stand : StandFrom l.turn (until l.fn.members l.words l.turn) l.displaced;
  few : length l.words ≤ l.fn.members;
}
