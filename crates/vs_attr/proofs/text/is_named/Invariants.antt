use Rattle.std.proofs.Common.{◌≡◌, drop}
use Rattle.vs_defs.specs.Bytes.{same_name}
use Rattle.vs_defs.specs.AttributeField.{is_named}
use Rattle.vs_attr.specs.Reading.{string_at}
use Rattle.vs_attr.proofs.text.is_named.Given as goal

abbrev pub invariant-loop-byte : goal.invariant-loop-byte
invariant-loop-byte l = same_name (drop l.byte-index l.name) l.text ≡ is_named l.name (string_at l.raw)
