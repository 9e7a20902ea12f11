use Rattle.std.proofs.Common.{◌≡◌, All, length, drop}
use Rattle.vs_defs.specs.Bounds.{IsNameInBounds}
use Rattle.vs_defs.specs.Read.{read_keys}
use Rattle.vs_command.proofs.Steps.{behind}
use Rattle.vs_command.proofs.read.read_keys.Given as goal

abbrev pub invariant-loop-word : goal.invariant-loop-word
invariant-loop-word l = record {
  rest : read_keys l.words ≡ behind l.keys (read_keys (drop l.word-index l.words));
  bounds : All IsNameInBounds l.keys;
  len : length l.keys ≡ l.word-index;
}
