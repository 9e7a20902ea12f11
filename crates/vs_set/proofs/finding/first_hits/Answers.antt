use Rattle.std.proofs.Common.{◌≡◌, map, sym, ap, ◌∙◌, arith}
use Rattle.vs_order.specs.Entries.{name_at}
use Rattle.vs_order.proofs.Places.{name_here}
use Rattle.vs_truth.specs.Nears.{near_hit, candidate_hit}
use Rattle.vs_set.proofs.Firsts.{one_more, all_of, hits_seen}
use Rattle.vs_set.proofs.Standing.{within_get}
use Rattle.vs_set.proofs.finding.first_hits.Goals as goal

pub name_at-requires : goal.name_at-requires
name_at-requires c = within_get c.args.order.now c.place_of-place.result _ c.place_of-place.ensures.there

pub loop-key-preserved : goal.loop-key-preserved
loop-key-preserved c =
    let entries = c.args.order.now in
    let name : c.name_at.result.now ≡ name_at entries c.place_of-place.result = sym (name_here entries c.place_of-place.result c.name_at.result.now c.name_at.ensures) in
    record {
      most = c.offer.ensures.most ∙ c.loop-key.invariant.most;
      nears =
          one_more entries c.min-most.result c.loop-key.first.most c.args.found.now c.loop-key.key-index _ c.name_at.result.now c.place_of-place.result c.loop-key.first.nears c.offer.new.self.nears c.loop-key-test.true
          c.loop-key.invariant.most
          (name ∙ ap (name_at entries) c.place_of-place.ensures.value) c.place_of-place.ensures.value c.loop-key.invariant.nears
          c.offer.ensures.nears;
    }

pub returns : goal.returns
returns c =
    let sorted = c.into_sorted.result.items in
    c.from_vec.ensures ∙ c.in_ok-hits.ensures ∙ ap (map candidate_hit) c.as_slice.ensures.value ∙ hits_seen sorted
    ∙ ap (map near_hit)
    (c.into_sorted.ensures ∙ c.loop-key.invariant.nears
    ∙ all_of c.args.order.now c.min-most.result c.args.count c.loop-key.key-index c.args.found.now c.min-most.ensures (omega (arith, c.loop-key-test.false)))
