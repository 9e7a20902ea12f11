use Rattle.std.proofs.Common.{◌≡◌, ◌<◌, ◌∷◌, [], ◌++◌, length, get_or, take, ap, sym, ◌∙◌, arith}
use Rattle.std.proofs.lemmas.List.{take_more}
use Rattle.std.proofs.lemmas.Option.{get_or_from_slice_get}
use Rattle.vs_query.proofs.vector.signs_of.Goals as goal

pub loop-i-preserved : goal.loop-i-preserved
loop-i-preserved c =
    let bits = c.args.bits.now in
    let i = c.loop-i.i in
    let b = c.bit.result in
    let lt : i < length bits = omega (arith, c.dim-i-end.ensures.value) in
    let is : get_or bits i b ≡ b = get_or_from_slice_get bits i b b c.bit.ensures in
    record {
      signs = c.push_reserved.ensures.items ∙ ap (λ l. l ++ b ∷ []) c.loop-i.invariant.signs ∙ ap (λ x. take i bits ++ x ∷ []) (sym is) ∙ sym (take_more bits i b lt);
      room = omega (arith, c.loop-i.invariant.room, c.push_reserved.ensures.capacity);
    }
