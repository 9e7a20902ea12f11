use Rattle.std.proofs.Common.{◌≡◌, true, ap, ◌∙◌, option_map}
use Rattle.std.specs.Str.{is_utf8}
use Rattle.vs_defs.specs.AttributeField.{option_field, field_of_value}
use Rattle.vs_attr.specs.Fields.{member_found}
use Rattle.vs_attr.proofs.FirstByte.{field_whole, option_field_is}
use Rattle.vs_attr.proofs.find.field.Goals as goal

pub returns-in_err-value : goal.returns-in_err-value
returns-in_err-value c =
    let u : is_utf8 c.args.text.now ≡ true = cc in
    rw c.from_residual.ensures (ap option_field c.in_err-value.ensures.value ∙ field_whole c.args.text.now c.args.name.now u)

pub returns : goal.returns
returns c =
    let u : is_utf8 c.args.text.now ≡ true = cc in
    c.member_value.ensures ∙ ap (option_map field_of_value) c.in_ok-value.ensures.value ∙ option_field_is (member_found c.args.name.now c.args.text.now)
    ∙ field_whole c.args.text.now c.args.name.now u
