use Rattle.std.proofs.Common.{◌≡◌, ◌+◌, ◌<◌, ◌++◌, ◌∙◌, length, map, sym, ap, subst, arith}
use Rattle.std.specs.Prelude.{IfOk}
use Rattle.std.proofs.lemmas.List.{map-append}
use Rattle.vs_truth.specs.Nears.{near_of}
use Rattle.vs_truth.proofs.Parts.{zip_at, zip_long, together_more, together_all}
use Rattle.vs_truth.proofs.pieces.together.Goals as goal

pub loop-piece-preserved : goal.loop-piece-preserved
loop-piece-preserved c = λ f n every.
    let k = c.loop-piece.piece-index in
    let pieces = c.args.pieces.now in
    let long : length pieces ≡ n = zip_long _ 0 n pieces every in
    let lt : k < length pieces = c.loop-piece-test.true in
    let low : k < n = omega (arith, long, lt) in
    let place : 0 + k ≡ k = omega arith in
    let here = zip_at _ 0 n pieces every k c.piece-item.result lt in
    let found = subst (λ r. IfOk r (λ v. map near_of v.items ≡ f (0 + k))) (sym c.piece-item.is ∙ c.in-Ok.is) here in
    ap (map near_of) (c.in_ok-extend_from_slice-in-Ok.ensures.items ∙ ap (λ l. c.loop-piece.all.items ++ l) c.as_slice.ensures.value)
    ∙ map-append near_of c.loop-piece.all.items c.in-Ok.found.items
    ∙ together_more f n k (map near_of c.loop-piece.all.items) (map near_of c.in-Ok.found.items) low (c.loop-piece.invariant f n every) (found ∙ ap f place)

pub returns : goal.returns
returns c = λ f n every.
    let long : length c.args.pieces.now ≡ n = zip_long _ 0 n c.args.pieces.now every in
    c.loop-piece.invariant f n every ∙ together_all f n c.loop-piece.piece-index (omega (arith, long, c.loop-piece-test.false))
