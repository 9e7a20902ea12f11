use Rattle.std.proofs.Common.{◌≡◌, ◌∷◌, [], length, arith, ap, length-append}
use Rattle.vs_page.proofs.Trees.{pushed_next, all_places}
use Rattle.vs_page.proofs.opening.padded.Goals as goal

pub loop-place-preserved : goal.loop-place-preserved
loop-place-preserved g c =
    let made = c.push_reserved.ensures.items in
    record {
      long = omega (arith, ap length made, length-append c.loop-place.copies.items (c.in_ok-copy_or.field-0 ∷ []), c.loop-place.invariant.long);
      room = omega (arith, c.loop-place.invariant.room, c.push_reserved.ensures.capacity);
      same = pushed_next c.args.blank.now c.loop-place.copies.items c.push_reserved.new.self.items c.args.items.now c.in_ok-copy_or.field-0 c.loop-place.place made c.in_ok-copy_or.ensures c.loop-place.invariant.long c.loop-place.invariant.same;
    }

pub returns-clause-same : goal.returns-clause-same
returns-clause-same g c =
    let ended : c.loop-place.place ≡ c.args.end = omega (arith, c.loop-place-test.false, c.loop-place.auto.place-end) in
    all_places c.args.blank.now c.loop-place.copies.items c.args.items.now c.loop-place.place c.loop-place.invariant.long (omega (arith, ended, c.requires)) c.loop-place.invariant.same
