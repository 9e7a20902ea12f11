use Rattle.std.proofs.Common.{◌≡◌, ◌≤◌, ◌-◌, length, drop}
use Rattle.vs_command.specs.Options.{AreAddOptionsInBounds}
use Rattle.vs_command.specs.Words.{add_options_seen}
use Rattle.vs_defs.specs.Read.{no_add_options, read_options}
use Rattle.vs_defs.specs.Read.{find_add_option}
use Rattle.vs_command.proofs.vadd.read_add_options.Given as goal

abbrev pub invariant-loop-at : goal.invariant-loop-at
invariant-loop-at l = record {
  rest : read_options find_add_option no_add_options l.start (drop l.start l.words) ≡ read_options find_add_option (add_options_seen l.options) l.at (drop l.at l.words);
  within : l.at ≤ length l.words;
  bounds : AreAddOptionsInBounds (add_options_seen l.options);
}

abbrev pub decreases-loop-at : goal.decreases-loop-at
decreases-loop-at l = length l.words - l.at
