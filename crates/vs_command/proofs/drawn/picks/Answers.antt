use Rattle.std.proofs.Common.{◌<ℤ◌, ◌≤ℤ◌, pos, rules, arith}
use Rattle.std.proofs.lemmas.Int.{ints}
use Rattle.vs_command.proofs.Shuffles.{picked_anew, picked_once, picked_within}
use Rattle.vs_command.proofs.drawn.picks.Goals as goal
use Rattle.vs_command.proofs.drawn.picks.Goals.{then-count-lt0+in_ok-places, else-count-lt0+in_ok-places-2}

pub returns-clause-picks : goal.returns-clause-picks
returns-clause-picks c names e =
    rw c.from_vec.ensures
    (elim c.if-count-lt0.branch [
      | then-count-lt0+in_ok-places w ↦ rw (w.places-is, w.in_ok-places.ensures.picks) (picked_anew c.args.count names c.args.members c.args.words.now e (let h : c.args.count <ℤ pos 0 = omega (arith, ints) in h))
      | else-count-lt0+in_ok-places-2 w ↦ rw (w.places-is, w.in_ok-places-2.ensures) (picked_once c.args.count names c.args.members w.min-picked.result c.args.words.now e (let h : pos 0 ≤ℤ c.args.count = omega (arith, ints) in h) c.requires w.min-picked.ensures)
    ])

pub returns-clause-within : goal.returns-clause-within
returns-clause-within c some =
    rw c.from_vec.ensures
    (elim c.if-count-lt0.branch [
      | then-count-lt0+in_ok-places w ↦ rw w.places-is (w.in_ok-places.ensures.within some)
      | else-count-lt0+in_ok-places-2 w ↦ rw (w.places-is, w.in_ok-places-2.ensures) (search (rules, picked_within))
    ])
