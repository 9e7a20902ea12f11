use Rattle.std.proofs.Common.{◌≡◌, ◌+◌, sym, ap, ◌∙◌, arith}
use Rattle.vs_truth.specs.Nears.{firsts, nears_between}
use Rattle.vs_truth.proofs.Scanned.{firsts_least}
use Rattle.vs_truth.proofs.scan.first_passing.Goals as goal

pub loop-place-preserved : goal.loop-place-preserved
loop-place-preserved g c =
    let members = g.M.Members.members c.args.members.now in
    let q = c.args.query.now in
    let a = c.args.places.start in
    let i = c.loop-place.place in
    let more = c.run_at-run.result.rows in
    let most : c.loop-place.few.most ≡ c.min-room.result = c.loop-place.invariant.most in
    record {
      most = c.offer_run.ensures.most ∙ most;
      begun = omega (arith, c.loop-place.invariant.begun);
      inside = omega (arith, c.loop-place-test.true, c.run_at-run.ensures.few);
      nears = λ passes answers.
          c.offer_run.ensures.offered passes answers a c.loop-place.invariant.begun
          (c.loop-place.invariant.nears passes answers ∙ ap (λ n. firsts n (nears_between passes q members a i)) (sym most))
          ∙ ap (λ n. firsts n (nears_between passes q members a (i + more))) most;
      told = omega (arith, c.loop-place.invariant.begun, c.run_at-run.ensures.told, c.loop-place.invariant.told);
    }

pub returns-clause-nears : goal.returns-clause-nears
returns-clause-nears g c = λ passes answers.
    let members = g.M.Members.members c.args.members.now in
    let q = c.args.query.now in
    let a = c.args.places.start in
    let b = c.args.places.end in
    let end : c.loop-place.place ≡ b = omega (arith, c.loop-place-test.false, c.loop-place.invariant.inside) in
    c.loop-place.invariant.nears passes answers ∙ ap (λ k. firsts c.min-room.result (nears_between passes q members a k)) end
    ∙ ap (λ n. firsts n (nears_between passes q members a b)) c.min-room.ensures
    ∙ firsts_least passes q c.args.most members a b c.requires.forwards c.requires.within
