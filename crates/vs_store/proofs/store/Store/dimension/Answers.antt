use Rattle.std.proofs.Common.{◌≡◌, refl, sym, arith, pos, inr}
use mir.Syntax.{w64}
use mir.Val.{to_z, of_z}
use Rattle.std.proofs.lemmas.Int.{ints}
use Rattle.vs_store.proofs.Counted.{dims, no_dim}
use Rattle.vs_store.proofs.store.Store.dimension.Goals as goal

pub returns-in-Some-clause-does : goal.returns-in-Some-clause-does
returns-in-Some-clause-does c =
    let value : to_z w64 (of_z w64 c.from.result) ≡ pos c.in-Some.set.now.contents.dim = omega (arith, ints, c.from.ensures, c.dim.ensures) in
    inr (refl, dims c.args.self.now c.args.key.now c.in-Some.set.now (sym c.in-Some.ensures) (to_z w64 (of_z w64 c.from.result)) value)

pub returns-in-None-clause-does : goal.returns-in-None-clause-does
returns-in-None-clause-does c = (refl, no_dim c.args.self.now c.args.key.now (sym c.in-None.ensures))
