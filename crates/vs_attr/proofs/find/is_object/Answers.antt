use Rattle.std.proofs.Common.{◌≡◌, true, Some, None, ap, sym, ◌∙◌}
use Rattle.std.specs.Str.{is_utf8}
use Rattle.vs_defs.specs.Limits.{max_json_depth}
use Rattle.vs_defs.specs.Numeral.{is_empty}
use Rattle.vs_defs.specs.Json.{mark_at}
use Rattle.vs_attr.proofs.FirstByte.{object_none, object_end, object_cut}
use Rattle.vs_attr.specs.Reading.{value_at, rest_of}
use Rattle.vs_attr.proofs.find.is_object.Goals as goal

pub returns-in_default : goal.returns-in_default
returns-in_default c =
    let u : is_utf8 c.args.text.now ≡ true = cc in
    let m : mark_at 123 c.args.text.now ≡ None = sym c.in_default.ensures.value in
    object_none c.args.text.now u m

pub returns-in-Some-value_end : goal.returns-in-Some-value_end
returns-in-Some-value_end c =
    let u : is_utf8 c.args.text.now ≡ true = cc in
    let m : mark_at 123 c.args.text.now ≡ Some c.in-Some.field-0.now = sym c.in-Some.ensures.value in
    let r : rest_of (value_at max_json_depth c.args.text.now) ≡ Some c.in-Some-value_end.rest.now = sym c.in-Some-value_end.ensures in
    c.is_empty.ensures ∙ ap is_empty c.skip_space.ensures.value
    ∙ object_end c.args.text.now c.in-Some.field-0.now c.in-Some-value_end.rest.now u m r

pub returns-in-None : goal.returns-in-None
returns-in-None c =
    let u : is_utf8 c.args.text.now ≡ true = cc in
    let m : mark_at 123 c.args.text.now ≡ Some c.in-Some.field-0.now = sym c.in-Some.ensures.value in
    object_cut c.args.text.now c.in-Some.field-0.now u m (sym c.in-None.ensures)
