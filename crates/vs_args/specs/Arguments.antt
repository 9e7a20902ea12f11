-- The program's command line as `clap` sees it: one command with a subcommand for each command that is built.
use Rattle.std.specs.Prelude.{◌^◌, ◌-◌, true, [], ◌∷◌, Some, codes}
use Rattle.clap.specs.Words.{App, Rule, Text, new_app, new_rule, with_rule, with_subcommand}
use Rattle.clap.specs.declared.builder.action.ArgAction.TheVariants.{Set}
use Rattle.clap.specs.declared.builder.value_parser.ValueParser.{ValueParser}
use Rattle.clap.specs.declared.builder.value_parser.ValueParser.TheVariants as parser

-- help and version switched off
abbrev pub plain : Text → App
plain name = record {
  top = record (new_app name).top { disable_help_flag = true; disable_version_flag = true; disable_help_subcommand = true };
  subs = [];
}

-- an option with one value and a default
abbrev pub option : Text → Text → ValueParser → Rule
option name default values = record (new_rule name) { long = Some name; action = Some Set; defaults = default ∷ []; parser = Some values }

abbrev pub seed : Rule
seed = option (codes "seed") (codes "0") (parser.Unsigned 0 (2 ^ 64 - 1))

abbrev pub script : App
script = with_rule (plain (codes "script")) seed

abbrev pub above : App
above = record (plain (codes "vectord")) {
  top = record (plain (codes "vectord")).top { no_binary_name = true; subcommand_required = true };
}

abbrev pub program : App
program = with_subcommand above script.top
