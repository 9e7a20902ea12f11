use Rattle.std.proofs.Common.{◌≡◌, ◌+◌, true, false, ◌++◌, ◌∷◌, [], get_or, map, sym, ap, ◌∙◌, subst, arith}
use Rattle.std.specs.Prelude.{All, nat_eq}
use Rattle.std.specs.List.{list_any}
use Rattle.std.specs.Option.{option_map_or}
use Rattle.std.proofs.lemmas.List.Elements.{All-push}
use Rattle.vs_defs.specs.Words.{words_ham}
use Rattle.vs_graph.specs.Good.{body_at, links_of}
use Rattle.vs_graph.specs.Bodies.{words_at, gap}
use Rattle.vs_graph.proofs.Relinking.{words_there}
use Rattle.vs_unlink.specs.declared.pairs.Candidate.{Candidate}
use Rattle.vs_unlink.specs.Candidates.{node_in, pair_at, has_link, IsPlaced, HasPlacedOf, HasPlacedBelow}
use Rattle.vs_unlink.proofs.Found.{below_still, here_more, here_linked}
use Rattle.vs_unlink.proofs.pairs.pair_with_later.Goals as goal

pub loop-other-preserved-then-is_linked : goal.loop-other-preserved-then-is_linked
loop-other-preserved-then-is_linked c =
    let places = node_in c.args.nodes.now in
    let layer = c.args.layer in
    let ranked = c.args.ranked.now in
    let one = c.args.one in
    let other = c.loop-other.other in
    let linked : has_link places layer ranked one other ≡ true =
    ap (λ o. list_any (nat_eq (get_or ranked other 0)) (option_map_or (λ node. links_of node layer) o [])) c.node_at-a.ensures ∙ sym c.is_linked.ensures ∙ c.if-is_linked.true in
    record {
      sound = c.loop-other.invariant.sound;
      below = c.loop-other.invariant.below;
      here = here_linked places layer ranked one other (map (pair_at ranked) c.loop-other.found.items) linked c.loop-other.invariant.here;
    }

pub loop-other-preserved : goal.loop-other-preserved
loop-other-preserved c =
    let places = node_in c.args.nodes.now in
    let layer = c.args.layer in
    let ranked = c.args.ranked.now in
    let one = c.args.one in
    let other = c.loop-other.other in
    let found = c.loop-other.found.items in
    let candidate : Candidate = record { dist = c.distance-dist.result; one = one; other = other } in
    let made : c.push.new.self.items ≡ found ++ candidate ∷ [] = c.in_ok-push.ensures.items in
    let unlinked : has_link places layer ranked one other ≡ false =
    ap (λ o. list_any (nat_eq (get_or ranked other 0)) (option_map_or (λ node. links_of node layer) o [])) c.node_at-a.ensures ∙ sym c.is_linked.ensures ∙ c.if-is_linked.false in
    let words_one : c.bits.result.now ≡ words_at (body_at places) one = c.bits.ensures ∙ sym (words_there places one c.node_at-a.result.now c.node_at-a.ensures) in
    let words_other : c.bits-in-loop-other.result.now ≡ words_at (body_at places) other =
    c.bits-in-loop-other.ensures ∙ sym (words_there places other c.node_at-b.result.now c.node_at-b.ensures) in
    let dist : c.distance-dist.result ≡ gap (body_at places) one other = c.distance-dist.ensures ∙ (λ i. words_ham (words_one i) (words_other i)) in
    let is : IsPlaced places layer ranked candidate = record { order = omega arith; within = omega arith; dist = dist; unlinked = unlinked } in
    record {
      sound = subst (All (IsPlaced places layer ranked)) (sym made) (All-push (IsPlaced places layer ranked) found candidate c.loop-other.invariant.sound is);
      below = subst (λ l. HasPlacedBelow places layer ranked one (map (pair_at ranked) l)) (sym made) (below_still places layer ranked found candidate one c.loop-other.invariant.below);
      here = subst (λ l. HasPlacedOf places layer ranked one (other + 1) (map (pair_at ranked) l)) (sym made) (here_more places layer ranked found candidate c.loop-other.invariant.here);
    }
