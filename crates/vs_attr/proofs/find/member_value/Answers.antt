use Rattle.std.proofs.Common.{sym, ap, ◌∙◌, refl, Some}
use Rattle.vs_attr.specs.Reading.{member_depth}
use Rattle.vs_attr.proofs.FirstByte.{array_inside, list_field, single_field}
use Rattle.vs_attr.proofs.find.member_value.Goals as goal

pub new-requires : goal.new-requires
new-requires c = array_inside c.args.text.now c.in-Some.inside.now (sym c.in-Some.ensures.value) c.requires

pub returns-in-Some : goal.returns-in-Some
returns-in-Some c = rw c.new.ensures (list_field c.args.text.now c.in-Some.inside.now (sym c.in-Some.ensures.value) c.requires)

pub returns-in-None : goal.returns-in-None
returns-in-None c = ap Some c.single.ensures ∙ single_field member_depth c.args.text.now _ refl c.requires (sym c.in-None.ensures.value)
