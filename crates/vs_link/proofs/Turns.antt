-- Where a loop of offers stands, and what each step adds.
use Rattle.std.proofs.Common.{◌≡◌, ℕ, ◌<◌, ◌≤◌, ◌+◌, Bool, true, false, not, eqb, ◌&&◌, List, [], length, get_or, take, refl, sym, ap, ◌∙◌, subst, arith}
use Rattle.std.specs.Prelude.{Some}
use Rattle.std.specs.List.{list_any}
use Rattle.std.specs.declared.option.Option.{Option}
use Rattle.std.proofs.lemmas.List.Sums.{fold_more}
use Rattle.std.proofs.lemmas.Bool.{both_ways, cond-true, false_from_ne_true}
use Rattle.vs_graph.specs.declared.node.Node.{Node}
use Rattle.vs_graph.specs.Good.{links_at, body_at, layers_at}
use Rattle.vs_graph.specs.Table.{Table, is_in}
use Rattle.vs_graph.specs.GoodTable.{IsGoodTable}
use Rattle.vs_graph.specs.Relinks.{Relinks}
use Rattle.vs_link.specs.Linked.{accepted, forced_at, forced, target, offered, linked, AreChosen}
use Rattle.vs_graph.proofs.Relinking.{relinks_then, same_bodies, same_layers}
use Rattle.vs_link.proofs.Offered.{offered_all, not_before}

-- a table that is good at the start's layers is good at the layers now
pub good_now : (at now : ℕ → Option Node) (layer most : ℕ) (t : Table) → Relinks at now layer t → IsGoodTable (layers_at at) layer most t → IsGoodTable (layers_at now) layer most (links_at now layer)
good_now at now layer most t r good = subst (λ ls. IsGoodTable ls layer most (links_at now layer)) (sym (same_layers at now layer t r)) (subst (IsGoodTable (layers_at at) layer most) (sym r.links) good)

module _ (at now : ℕ → Option Node) (layer most x : ℕ) (chosen : List ℕ) (good : IsGoodTable (layers_at at) layer most (links_at at layer)) (free : links_at at layer x ≡ []) (x_stands : layer < layers_at at x)
    (are : AreChosen (layers_at at) layer most x chosen) (i : ℕ) (r : Relinks at now layer (offered (body_at at) most (links_at at layer) x (take i chosen))) where
  pub good_turn : i ≤ length chosen → IsGoodTable (layers_at now) layer most (links_at now layer)
  good_turn h = good_now at now layer most _ r (offered_all (body_at at) (layers_at at) layer most x (links_at at layer) chosen good free x_stands are i h).good

  pub apart_turn : i < length chosen → is_in (links_at now layer) x (get_or chosen i 0) ≡ false
  apart_turn h =
      let was = offered_all (body_at at) (layers_at at) layer most x (links_at at layer) chosen good free x_stands are i (omega arith) in
      ap (λ u. is_in u x (get_or chosen i 0)) r.links
      ∙ false_from_ne_true (is_in (offered (body_at at) most (links_at at layer) x (take i chosen)) x (get_or chosen i 0))
      (λ k. both_ways (list_any (eqb (get_or chosen i 0)) (take i chosen)) (not_before (body_at at) (layers_at at) layer most x (links_at at layer) chosen good free x_stands are i h) (was.taken (get_or chosen i 0) k))

pub accepted_turn : (at now new : ℕ → Option Node) (layer most x : ℕ) (t : Table) (chosen : List ℕ) (i : ℕ) → i < length chosen → Relinks at now layer (offered (body_at at) most t x (take i chosen))
    → Relinks now new layer (accepted (body_at now) most x (links_at now layer) (get_or chosen i 0)) → Relinks at new layer (offered (body_at at) most t x (take (i + 1) chosen))
accepted_turn at now new layer most x t chosen i h r step =
    let u = offered (body_at at) most t x (take i chosen) in
    subst (Relinks at new layer) (sym (fold_more (accepted (body_at at) most x) t chosen i 0 h))
    (relinks_then at now new layer u (accepted (body_at at) most x u (get_or chosen i 0)) r
    (subst (λ b. Relinks now new layer (accepted b most x u (get_or chosen i 0))) (same_bodies at now layer u r)
    (subst (λ v. Relinks now new layer (accepted (body_at now) most x v (get_or chosen i 0))) r.links step)))

pub forced_turn : (at now new : ℕ → Option Node) (layer most x y : ℕ) (t : Table) (chosen : List ℕ) (fallback : Option ℕ) → Relinks at now layer (offered (body_at at) most t x chosen) → eqb (length (links_at now layer x)) 0 ≡ true
    → target chosen fallback ≡ Some y → Relinks now new layer (forced_at (body_at now) most (links_at now layer) x y) → Relinks at new layer (linked (body_at at) most t x chosen fallback)
forced_turn at now new layer most x y t chosen fallback r alone to step =
    let u = offered (body_at at) most t x chosen in
    subst (Relinks at new layer)
    (sym (cond-true (eqb (length (u x)) 0) (forced (body_at at) most u x (target chosen fallback)) u (ap (λ v. eqb (length (v x)) 0) (sym r.links) ∙ alone) ∙ ap (forced (body_at at) most u x) to))
    (relinks_then at now new layer u (forced_at (body_at at) most u x y) r
    (subst (λ b. Relinks now new layer (forced_at b most u x y)) (same_bodies at now layer u r)
    (subst (λ v. Relinks now new layer (forced_at (body_at now) most v x y)) r.links step)))

-- whether x is still alone
pub alone_taken : (old new : Bool) (taken alone after : Bool) → new ≡ (old && not taken) → old ≡ alone → taken ≡ true → after ≡ false → new ≡ after
alone_taken true new true alone after e f g h = e ∙ sym h
alone_taken false new true alone after e f g h = e ∙ sym h
alone_taken old new false alone after e f g h = absurd (both_ways false refl g)

pub alone_refused : (old new : Bool) (taken alone after : Bool) → new ≡ (old && not taken) → old ≡ alone → taken ≡ false → after ≡ alone → new ≡ after
alone_refused true new false alone after e f g h = e ∙ f ∙ sym h
alone_refused false new false alone after e f g h = e ∙ f ∙ sym h
alone_refused old new true alone after e f g h = absurd (both_ways true g refl)
