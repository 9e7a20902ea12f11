use Rattle.std.proofs.Common.{◌∙◌, ℕ, ◌+◌, codes, sym, ap, ap₂}
use Rattle.vs_defs.specs.Store.{set_of}
use Rattle.vs_generate.proofs.Answered.{links_more}
use Rattle.vs_generate.proofs.linking.links_of_all.Goals as goal

pub loop-number-preserved : goal.loop-number-preserved
loop-number-preserved c = (
  c.in_ok-links.ensures.same ∙ c.loop-number.invariant.0,
  λ x there. c.in-Some.ensures.1 ∙ ap₂ (λ (a b : ℕ). a + b) (c.loop-number.invariant.1 x there) (c.in_ok-links.ensures.links x (ap (set_of (codes "g")) c.loop-number.invariant.0 ∙ there))
      ∙ sym (links_more x c.loop-number.number),
)
