use Rattle.std.proofs.Common.{rules, ◌≡◌, ◌&&◌, true, [], Some, option_copied, ap, sym, ◌∙◌}
use Rattle.vs_defs.specs.AttributeField.{is_object}
use Rattle.vs_defs.specs.Filter.{is_pass}
use Rattle.vs_defs.specs.FilterText.{passes_filter}
use Rattle.vs_filter.specs.Evaluated.{exec, only_value}
use Rattle.vs_filter.proofs.Meaning.{passes_by}
use Rattle.vs_filter.proofs.filter.Filter.passes.Goals as goal

pub returns-then-is_object : goal.returns-then-is_object
returns-then-is_object c =
    let attribute = c.in-Some.text.now in
    let given : option_copied c.args.attr ≡ Some attribute = search rules in
    let object : is_object attribute ≡ true = search rules in
    let main = passes_by c.self.inside.text c.self.inside.code attribute c.self.invariant in
    c.is_met.ensures ∙ ap (λ is. is_pass (only_value (exec attribute is []))) c.as_slice.ensures
    ∙ ap (λ b. b && is_pass (only_value (exec attribute c.self.inside.code []))) (sym object)
    ∙ main ∙ ap (λ a. passes_filter (Some c.self.inside.text) a) (sym given) ∙ ap (λ w. passes_filter (Some w) (option_copied c.args.attr)) c.self.view_is
