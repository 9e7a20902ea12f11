use Rattle.std.proofs.Common.{◌∙◌, ap}
use Rattle.std.specs.Prelude.{slice_set}
use Rattle.vs_page.proofs.Trees.{set_own}
use Rattle.vs_page.proofs.placing.put_in_root.Goals as goal

pub returns-clause-kept : goal.returns-clause-kept
returns-clause-kept g c = λ h. ap (λ t. slice_set c.args.root.now c.args.branch t) (c.put_in_branch.ensures.kept h) ∙ set_own _ _ _ c.in-Some.ensures.value
