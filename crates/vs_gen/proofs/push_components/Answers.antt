use Rattle.std.proofs.Common.{List, [], ◌∷◌, ◌++◌, sym, ap, ◌∙◌, append_assoc}
use Rattle.vs_defs.specs.Bytes.{Bytes}
use Rattle.vs_thread_defs.specs.Generator.{component}
use Rattle.vs_gen.specs.Generated.{components}
use Rattle.vs_gen.proofs.Components.{one_more}
use Rattle.vs_gen.proofs.push_components.Goals as goal

pub loop-place-preserved : goal.loop-place-preserved
loop-place-preserved c =
    let old = c.args.list.now in
    let n = c.loop-place.place in
    let done = components c.args.words.now n in
    c.in_ok-push.ensures.ok
    ∙ ap (λ (l : List Bytes). l ++ c.in_ok-component_text.field-0 ∷ []) c.loop-place.invariant
    ∙ ap (λ (t : Bytes). (old ++ done) ++ t ∷ []) c.in_ok-component_text.ensures
    ∙ append_assoc old done (component c.args.words.now n ∷ [])
    ∙ ap (λ (l : List Bytes). old ++ l) (sym (one_more c.args.words.now n))
