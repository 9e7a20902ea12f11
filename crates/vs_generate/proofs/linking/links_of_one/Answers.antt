use Rattle.std.proofs.Common.{◌≡◌, ◌-◌, ◌∙◌, List, length, get_or, subst, sym, ap, ap₂}
use Rattle.vs_command.specs.Answers.{answer_of}
use Rattle.vs_command.specs.declared.answer.NamedHit.{NamedHit}
use Rattle.vs_defs.specs.Bounds.{IsNameInBounds}
use Rattle.vs_defs.specs.Bytes.{Bytes}
use Rattle.vs_defs.specs.Request as request
use Rattle.std.specs.Prelude.{false}
use Rattle.vs_thread_defs.specs.Generator.{member_name}
use Rattle.vs_generate.proofs.Answered.{links_by}
use Rattle.vs_generate.proofs.Asks.{key_in_bounds, name_in_bounds}
use Rattle.vs_generate.proofs.linking.links_of_one.Goals as goal

pub ask-requires-clause-bounds : goal.ask-requires-clause-bounds
ask-requires-clause-bounds c =
    (subst IsNameInBounds (sym c.in_ok-key.ensures) key_in_bounds, subst IsNameInBounds (sym c.in_ok-name.ensures) (name_in_bounds c.args.number c.ranges.number.fits))

pub returns-in-len1-up-clause-links : goal.returns-in-len1-up-clause-links
returns-in-len1-up-clause-links c x there =
    let many : c.len.result ≡ length c.lowest-item.result = c.len.ensures in
    many ∙ links_by c.args.store.now (member_name c.args.number) _ _ c.in-Layers.dim c.in-Layers.scores c.in-Layers.layers c.lowest-item.result
    (ap₂ (λ (k n : Bytes). request.Vlinks k n false) c.in_ok-key.ensures c.in_ok-name.ensures) (ap answer_of c.in-Layers.is) c.in_ok-answer.ensures.answers
    (subst (λ (l : List (List NamedHit)). c.lowest-item.result ≡ get_or l (length l - 1) c.lowest-item.result) c.as_slice.ensures c.lowest-item.is) x there
