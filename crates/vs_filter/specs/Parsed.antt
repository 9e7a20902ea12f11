-- A reading of the program, seen as one of the definitions.
use Rattle.std.specs.Prelude.{◌≡◌, List, map, Result, Ok, Err}
use denote.Ref.{Bor}
use Rattle.vs_defs.specs.AttributeField.{Single}
use Rattle.vs_defs.specs.Filter as filter
use Rattle.vs_defs.specs.Filter.{Expr}
use Rattle.vs_defs.specs.FilterText.{Parse, Tokens}
use Rattle.vs_filter.specs.declared.code.Literal.{Literal}
use Rattle.vs_filter.specs.declared.code.Instruction.{Instruction}
use Rattle.vs_filter.specs.declared.error.FilterError.{FilterError}
use Rattle.vs_filter.specs.declared.token.Placed.{Placed}
use Rattle.vs_filter.specs.Seen.{tokens_seen}
use Rattle.vs_filter.specs.Rules.{IsFault}
use Rattle.vs_filter.specs.Code.{single_seen, Adds}

abbrev pub IsLiteral : Parse Single → Result (Literal × Bor (List Placed)) FilterError → Type 0
IsLiteral parse (Ok p) = parse ≡ Ok (single_seen p.0, tokens_seen p.1.now)
IsLiteral parse (Err e) = IsFault parse e

abbrev pub IsItems : Parse (List Single) → Result (List Literal × Bor (List Placed)) FilterError → Type 0
IsItems parse (Ok p) = parse ≡ Ok (map single_seen p.0, tokens_seen p.1.now)
IsItems parse (Err e) = IsFault parse e

abbrev pub IsList : Parse Expr → Result (List Literal × Bor (List Placed)) FilterError → Type 0
IsList parse (Ok p) = parse ≡ Ok (filter.Items (map single_seen p.0), tokens_seen p.1.now)
IsList parse (Err e) = IsFault parse e

-- what is read is put on top, and these tokens are left
abbrev pub IsReading : Parse Expr → List Instruction → List Instruction → Tokens → Type 0
IsReading parse before after rest = (e : Expr) × (parse ≡ Ok (e, rest)) × Adds before after e

abbrev pub IsParse : Parse Expr → List Instruction → List Instruction → Result (Bor (List Placed)) FilterError → Type 0
IsParse parse before after (Ok rest) = IsReading parse before after (tokens_seen rest.now)
IsParse parse before after (Err e) = IsFault parse e
