use Rattle.std.proofs.Common.{◌≡◌, ◌≤◌, ◌-◌, length, drop}
use Rattle.vs_command.specs.Options.{AreSimOptionsInBounds}
use Rattle.vs_command.specs.Words.{sim_options_seen}
use Rattle.vs_defs.specs.Read.{find_sim_option, no_sim_options, read_options}
use Rattle.vs_command.proofs.vsim.read_sim_options.Given as goal

abbrev pub invariant-loop-at : goal.invariant-loop-at
invariant-loop-at l = record {
  rest : read_options find_sim_option no_sim_options l.start (drop l.start l.words) ≡ read_options find_sim_option (sim_options_seen l.options) l.at (drop l.at l.words);
  within : l.at ≤ length l.words;
  bounds : AreSimOptionsInBounds (sim_options_seen l.options);
}

abbrev pub decreases-loop-at : goal.decreases-loop-at
decreases-loop-at l = length l.words - l.at
