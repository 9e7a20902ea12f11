use Rattle.std.proofs.Common.{◌≡◌, arith, ap, length, length-append, [], ◌∷◌}
use Rattle.vs_page.proofs.Listings.{one_listed}
use Rattle.vs_page.proofs.draining.listed_changes.Goals as goal

pub loop-id-preserved : goal.loop-id-preserved
loop-id-preserved c =
    let ids = c.in-Some.ensures.items in
    let nodes = c.in-Some-pop.ensures.items in
    let beside : length c.pop.new.self.items ≡ length c.pop-in-Some.new.self.items
    = omega (arith, c.loop-id.invariant.beside, ap length ids, ap length nodes, length-append c.pop.new.self.items (c.in-Some.id ∷ []), length-append c.pop-in-Some.new.self.items (c.in-Some-pop.item ∷ [])) in
    record {
      beside = beside;
      same = one_listed c.loop-id.list.items c.push.new.self.items c.loop-id.ids.items c.pop.new.self.items c.loop-id.nodes.items c.pop-in-Some.new.self.items c.in-Some.id c.in-Some-pop.item _ ids nodes beside
          c.in_ok-push-in-Some-pop.ensures.items c.loop-id.invariant.same;
    }
