use Rattle.std.proofs.Common.{◌≡◌, ◌<◌, ◌∙◌, ℕ, [], true, false, length, get_or, below_more, sym, ap, arith}
use Rattle.std.specs.Map.{keys_of}
use Rattle.std.proofs.lemmas.List.{length-map}
use Rattle.vs_defs.specs.Bytes.{Bytes, same_name}
use Rattle.vs_order.proofs.Places.{found_first, found_none, name_here}
use Rattle.vs_order.proofs.order.Order.place_of_name.Goals as goal

pub returns-then-eq : goal.returns-then-eq
returns-then-eq c =
    let es = c.args.self.now in
    let place : ℕ = c.loop-place.place in
    let low : place < length (keys_of es) = omega (arith, c.loop-place-test.true, c.len-place-end.ensures.value, length-map es (λ (e : Bytes × ℕ). e.0)) in
    let is : same_name c.args.name.now (get_or (keys_of es) place []) ≡ true
    = ap (same_name c.args.name.now) (name_here es place c.name_at.result.now c.name_at.ensures) ∙ sym c.eq.ensures ∙ c.if-eq.true in
    sym (found_first c.args.name.now (keys_of es) place low c.loop-place.invariant is)

pub loop-place-preserved : goal.loop-place-preserved
loop-place-preserved c =
    let es = c.args.self.now in
    let place : ℕ = c.loop-place.place in
    below_more (λ k. same_name c.args.name.now (get_or (keys_of es) k []) ≡ false) place c.loop-place.invariant
    (ap (same_name c.args.name.now) (name_here es place c.name_at.result.now c.name_at.ensures) ∙ sym c.eq.ensures ∙ c.if-eq.false)

pub returns : goal.returns
returns c =
    let es = c.args.self.now in
    let place : ℕ = c.loop-place.place in
    let ended : place ≡ length (keys_of es) = omega (arith, c.loop-place-test.false, c.loop-place.auto.place-end, c.len-place-end.ensures.value, length-map es (λ (e : Bytes × ℕ). e.0)) in
    sym (found_none c.args.name.now (keys_of es) place ended c.loop-place.invariant)
