-- The turns of all orphans: none yet, and one more.
use Rattle.std.proofs.Common.{◌≡◌, ℕ, List, [], ◌∷◌, ◌++◌, map, refl, ap, ◌∙◌, subst, arith, append_assoc, get_or}
use Rattle.std.specs.Prelude.{Some}
use Rattle.std.specs.declared.option.Option.{Option}
use Rattle.std.proofs.lemmas.List.{map-append}
use Rattle.std.proofs.lemmas.List.Elements.{All-push}
use Rattle.vs_graph.specs.declared.node.Node.{Node}
use Rattle.vs_graph.specs.Good.{StandsAt, AreLinksGood}
use Rattle.vs_graph.specs.Standing.{name_of, named_links, set_of}
use Rattle.vs_graph.specs.Table.{without}
use Rattle.vs_unlink.specs.declared.Orphan.{Orphan}
use Rattle.vs_unlink.specs.Orphans.{named_orphan}
use Rattle.vs_unlink.specs.Unlinked.{bare}
use Rattle.vs_insert.proofs.Bare.{stands_on}
use Rattle.vs_insert.proofs.Staying.{without_on}
use Rattle.vs_insert.specs.Turns.{IsTurn}
use Rattle.vs_insert.specs.Walking.{Walking}
use Rattle.vs_insert.specs.Walked.{IsWalked, IsSettled}
use Rattle.vs_insert.proofs.Turns.{turn_kept, turn_rest, turn_good, turn_settled, turn_walks}

pub walked_none : (at left : ℕ → Option Node) (top : Option ℕ) (m dim entry : ℕ) → AreLinksGood left m dim → IsWalked at left left top m dim entry []
walked_none at left top m dim entry good = record {
  rest = λ id. refl;
  good = good;
  kept = λ l a h. h;
  settled = λ k d h. absurd (omega (arith, h));
  walks = λ x cut ids former os gone are out w. w;
}

pub walked_more : (at left now new : ℕ → Option Node) (top : Option ℕ) (m dim entry : ℕ) (orphans : List Orphan) (o : Orphan) → AreLinksGood left m dim → StandsAt left o.layer o.id
    → IsWalked at left now top m dim entry orphans → IsTurn at now new top m dim entry o.layer o.id → IsWalked at left new top m dim entry (orphans ++ o ∷ [])
walked_more at left now new top m dim entry orphans o good_left stands w t =
    let rest : (id : ℕ) → bare (new id) ≡ bare (left id) = λ id. turn_rest at now new top m dim entry o.layer o.id t id ∙ w.rest id in
    let good_new : AreLinksGood new m dim = turn_good at now new top m dim entry o.layer o.id t w.good in
    let step = turn_kept at now new top m dim entry o.layer o.id t in
    record {
      rest = rest;
      good = good_new;
      kept = λ l a h. step l a (w.kept l a h);
      settled = All-push (IsSettled left new) orphans o (λ k d h z ne s. step (get_or orphans k d).layer (get_or orphans k d).id (w.settled k d h z ne s))
          (λ z ne s. turn_settled at now new top m dim entry o.layer o.id t z ne (stands_on left now w.rest o.layer z s));
      walks = λ x cut ids former os good are out walking.
          turn_walks at left now new top m dim x entry o.layer o.id cut ids good good_left w.good good_new are out (without_on at left now x w.rest out) (without_on at left new x rest out)
          (stands_on left now w.rest o.layer o.id stands) os former t (λ l a h. step l a (w.kept l a h))
          (w.walks x cut ids former (named_orphan at o ∷ os) good are out
          (subst (λ l. Walking (set_of at top m dim cut ids) (name_of at x) (Some (name_of at entry)) (named_links left (without x ids)) former (named_links left (without x ids)) l)
          (ap (λ l. l ++ os) (map-append (named_orphan at) orphans (o ∷ [])) ∙ append_assoc (map (named_orphan at) orphans) (named_orphan at o ∷ []) os) walking));
    }
