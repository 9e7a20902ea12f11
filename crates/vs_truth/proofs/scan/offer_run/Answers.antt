use Rattle.std.proofs.Common.{◌≡◌, ◌+◌, ◌<◌, cond, length, get_or, take, sym, ap, ◌∙◌, subst, arith}
use Rattle.vs_defs.specs.Vector.{ham}
use Rattle.vs_defs.specs.Bytes.{place_by}
use Rattle.vs_defs.specs.Store.{no_member}
use Rattle.vs_truth.specs.Nearest.{KeepsBits, row_of_run}
use Rattle.vs_truth.specs.Nears.{near_cmp, firsts, nears_between}
use Rattle.vs_truth.proofs.Scanned.{said_at, same_words, step, distance_is}
use Rattle.vs_truth.proofs.scan.offer_run.Goals as goal

pub distance-dist-requires-clause-same : goal.distance-dist-requires-clause-same
distance-dist-requires-clause-same g c =
    let members = g.M.Members.members c.args.members.now in
    let r = c.loop-row.row in
    let i = c.args.place + r in
    let within : i < length members = omega (arith, c.loop-row-test.true, c.requires.run.within) in
    let member = get_or members i no_member in
    let same : c.row.result.now ≡ row_of_run c.args.run.now r = c.row.ensures in
    let kept : KeepsBits member.bits c.row.result.now = subst (KeepsBits member.bits) (sym same) (said_at (λ m. KeepsBits m.bits (row_of_run c.args.run.now r)) members i no_member within (c.requires.run.each r c.loop-row-test.true)) in
    same_words (length c.args.query.now) (length member.bits) c.words-words.result.now c.row.result.now (c.requires.fits i no_member within) c.words-words.ensures.fits kept.fits

pub overflow_add-place : goal.overflow_add-place
overflow_add-place g c = omega (arith, c.loop-row-test.true, c.requires.last)

pub loop-row-preserved : goal.loop-row-preserved
loop-row-preserved g c =
    let members = g.M.Members.members c.args.members.now in
    let q = c.args.query.now in
    let run = c.args.run.now in
    let r = c.loop-row.row in
    let i = c.args.place + r in
    let inside : r < run.rows = c.loop-row-test.true in
    let within : i < length members = omega (arith, inside, c.requires.run.within) in
    let member = get_or members i no_member in
    let same : c.row.result.now ≡ row_of_run c.args.run.now r = c.row.ensures in
    let kept : KeepsBits member.bits c.row.result.now = subst (KeepsBits member.bits) (sym same) (said_at (λ m. KeepsBits m.bits (row_of_run c.args.run.now r)) members i no_member within (c.requires.run.each r inside)) in
    let far : c.distance-dist.result ≡ ham q member.bits = c.distance-dist.ensures
    ∙ distance_is q member.bits c.words-words.result.now c.row.result.now (c.requires.fits i no_member within) c.words-words.ensures.fits c.words-words.ensures.value kept in
    record {
      most = c.offer_member.ensures.most ∙ c.loop-row.invariant.most;
      inside = omega (arith, inside);
      nears = λ passes answers from low before.
          let offered = said_at (λ m. c.offer_member.new.few.nears ≡ cond (passes m.attr) (take c.loop-row.few.most (place_by near_cmp (record { dist = c.distance-dist.result; name = m.name; place = i }) c.loop-row.few.nears)) c.loop-row.few.nears)
          members i no_member within (c.offer_member.ensures.offered passes answers) in
          let next : c.args.place + (r + 1) ≡ i + 1 = omega arith in
          step passes q c.args.few.now.most members from i no_member c.distance-dist.result c.loop-row.few.nears c.offer_member.new.few.nears (omega (arith, low)) within far (c.loop-row.invariant.nears passes answers from low before)
          (offered ∙ ap (λ n. cond (passes member.attr) (take n (place_by near_cmp (record { dist = c.distance-dist.result; name = member.name; place = i }) c.loop-row.few.nears)) c.loop-row.few.nears) c.loop-row.invariant.most)
          ∙ ap (λ k. firsts c.args.few.now.most (nears_between passes q members from k)) (sym next);
    }
