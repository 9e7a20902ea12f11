use Rattle.std.proofs.Common.{◌≡◌, sym, arith, pos, length}
use mir.Syntax.{w64}
use mir.Val.{to_z, of_z}
use Rattle.std.proofs.lemmas.Int.{ints}
use Rattle.vs_store.proofs.Counted.{cards, no_card}
use Rattle.vs_store.proofs.store.Store.cardinality.Goals as goal

pub returns-in-Some-clause-answers : goal.returns-in-Some-clause-answers
returns-in-Some-clause-answers c =
    let value : to_z w64 (of_z w64 c.from.result) ≡ pos (length c.in-Some.set.now.contents.members) = omega (arith, ints, c.from.ensures, c.count.ensures.value, c.count.ensures.few) in
    cards c.args.self.now c.args.key.now c.in-Some.set.now (sym c.in-Some.ensures) (to_z w64 (of_z w64 c.from.result)) value

pub returns-in-None-clause-answers : goal.returns-in-None-clause-answers
returns-in-None-clause-answers c = no_card c.args.self.now c.args.key.now (sym c.in-None.ensures)
