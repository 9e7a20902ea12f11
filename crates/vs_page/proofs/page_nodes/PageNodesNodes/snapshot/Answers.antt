use Rattle.std.proofs.Common.{subst, sym, ◌∙◌}
use Rattle.std.specs.Prelude.{IsSome}
use Rattle.vs_page.proofs.page_nodes.PageNodesNodes.snapshot.Goals as goal

pub invariant_of-result : goal.invariant_of-result
invariant_of-result c = record {
  ends = λ id some. c.args.self.now.ends id (subst IsSome (c.in_ok-try_clone.ensures id) some);
  told = λ id node words has told. c.args.self.now.told id node words (sym (c.in_ok-try_clone.ensures id) ∙ has) (sym (c.in_ok-try_clone-2.ensures id) ∙ told);
}
