use Rattle.std.proofs.Common.{◌≡◌, ◌≤◌, ◌+◌, ◌-◌, ◌++◌, length}
use Rattle.vs_defs.specs.FilterText.{tokens_within, tokens_of}
use Rattle.vs_filter.specs.Seen.{tokens_seen}
use Rattle.vs_filter.proofs.scan.tokens_of.Given as goal

abbrev pub invariant-loop-turn : goal.invariant-loop-turn
invariant-loop-turn l = record {
  value : tokens_seen l.tokens ++ tokens_within (length l.text + 1 - l.turn) (length l.text) l.rest ≡ tokens_of l.text;
  count : length l.tokens ≡ l.turn;
  bound : length l.rest ≤ length l.text;
}
