use Rattle.std.proofs.Common.{sym, ◌∙◌}
use Rattle.vs_attr.specs.Seen.{piece_seen}
use Rattle.vs_attr.proofs.Strings.{text_end_next, text_end_here}
use Rattle.vs_attr.proofs.piece.text_end.Goals as goal

pub loop-rest-preserved : goal.loop-rest-preserved
loop-rest-preserved c =
    sym (text_end_next c.loop-rest.text.now (piece_seen c.in-Some.field-0-0, c.in-Some.rest.now) (sym c.in-Some.ensures.value)) ∙ c.loop-rest.invariant

pub returns : goal.returns
returns c = c.without_quote.ensures ∙ sym (text_end_here c.loop-rest.text.now (sym c.in_default.ensures.value)) ∙ c.loop-rest.invariant
