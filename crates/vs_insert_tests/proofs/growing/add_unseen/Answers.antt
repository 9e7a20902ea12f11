use Rattle.std.proofs.Common.{sym, ◌∙◌, subst}
use Rattle.vs_defs.specs.Words.{FitsDimension}
use Rattle.vs_insert.specs.Added.{AreDrafted}
use Rattle.vs_insert_tests.proofs.growing.add_unseen.Goals as goal

pub settle-requires-clause-fits : goal.settle-requires-clause-fits
settle-requires-clause-fits g c =
    subst (λ d. FitsDimension d c.in_ok-draft.draft.body.bits) (c.in_ok-first.ensures.dim ∙ sym c.loop-number.invariant.dim) c.in_ok-draft.ensures.fits

pub settle-requires-clause-drafted : goal.settle-requires-clause-drafted
settle-requires-clause-drafted g c =
    let draft = c.in_ok-draft.draft in
    let first = c.in_ok-first in
    c.loop-number.invariant.kept draft.level draft.chosen
    (subst (λ k. AreDrafted (g.N.Nodes.at c.args.graph.now.nodes) k draft.level draft.chosen) first.ensures.m
    (subst (λ f. AreDrafted f first.first.m draft.level draft.chosen) first.ensures.nodes c.in_ok-draft.ensures.drafted))

pub loop-number-preserved : goal.loop-number-preserved
loop-number-preserved g c = record {
  dim = c.in_ok-settle.ensures.dim ∙ c.loop-number.invariant.dim;
  kept = λ level chosen are. c.in_ok-settle.ensures.kept level chosen (c.loop-number.invariant.kept level chosen are);
}
