use Rattle.std.proofs.Common.{◌≡◌, [], ◌∷◌, sym, ap, subst}
use Rattle.vs_defs.specs.Words.{FitsDimension}
use Rattle.vs_graph.specs.NodeMap.{nodes_of}
use Rattle.vs_graph.specs.Edits.{overwritten}
use Rattle.vs_graph.proofs.Firsts.{whole_words}
use Rattle.vs_link.proofs.Drafts.{still_numbered}
use Rattle.vs_link.proofs.tests.Draft.add.Goals as goal

pub invariant_of-self : goal.invariant_of-self
invariant_of-self c =
    let base = nodes_of c.self.inside.base in
    let name : c.in_ok-new.field-0.name ≡ c.self.inside.next ∷ [] = ap (λ b. b.name) c.in_ok-new.ensures in
    let bits : c.in_ok-new.field-0.bits ≡ c.args.word ∷ [] = ap (λ b. b.bits) c.in_ok-new.ensures in (
      c.in_ok-put_newcomer.ensures.good 4 64 (subst (FitsDimension 64) (sym bits) (whole_words (c.args.word ∷ []))) c.self.invariant.0,
      still_numbered (overwritten c.self.inside.edit base) (overwritten c.put_newcomer.new.edit base) c.self.inside.next _ c.self.invariant.1 c.in_ok-put_newcomer.ensures.put name,
    )
