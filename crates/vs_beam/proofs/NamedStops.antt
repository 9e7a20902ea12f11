-- A descent over ids is one over names.
use Rattle.std.proofs.Common.{◌≡◌, ℕ, zero, suc, ◌+◌, ◌<◌, ◌≤◌, inl, inr, Bool, true, false, cond, leb, eqb, List, [], ◌∷◌, map, get_or, refl, sym, ap, ◌∙◌, subst, arith}
use Rattle.std.specs.Prelude.{slice_index, IsSome, Some, None, IsSomeAnd}
use Rattle.std.specs.Option.{option_map_or}
use Rattle.std.specs.declared.option.Option.{Option}
use Rattle.std.proofs.lemmas.Bool.{false≢true, cases_eq, leb-true, ne_eqb, eq-eqb, cond-true, cond-false}
use Rattle.vs_graph.specs.declared.node.Node.{Node}
use Rattle.vs_graph.specs.Good.{IsLinked, StandsAt}
use Rattle.vs_beam.specs.Beam.{far_at, Walks, stays, goes, IsStop, IsDescent, before_layer}
use Rattle.vs_rank.specs.Tests.{Attribute}
use Rattle.vs_defs.specs.Bytes.{Bytes}
use Rattle.vs_defs.specs.Beam.{layers_down}
use Rattle.vs_beam.proofs.Stages.{Stage, IsNamedBy, Approaches, StopsAt, DescendsFrom}
use Rattle.vs_beam.proofs.Descents.{stands_below}

stands_of_level : (o : Option Node) (top : ℕ) → IsSome o → top ≡ option_map_or (λ node. node.level) o 0 → IsSomeAnd o (λ node. top ≤ node.level)
stands_of_level None top s e = absurd (false≢true s)
stands_of_level (Some node) top s e = omega (arith, e)

one_above : (l : ℕ) → suc l ≡ l + 1
one_above l = omega arith

cond_descends : (b : Bool) (stage : ℕ → Stage) (f : ℕ → List ℕ) (p : List ℕ) (x : ℕ) (ls : List ℕ) → (b ≡ true → StopsAt (stage x) p (f x) × DescendsFrom stage (f x) ls (map f ls))
    → DescendsFrom stage p (cond b (x ∷ ls) []) (map f (cond b (x ∷ ls) []))
cond_descends true stage f p x ls h = h refl
cond_descends false stage f p x ls h = tt

module _ (at : ℕ → Option Node) (query : List ℕ) (passes : Attribute → Bool) (name : ℕ → Bytes) (stage : ℕ → Stage)
    (by : (layer : ℕ) → IsNamedBy at layer query passes name (stage layer)) (stand : (layer a b : ℕ) → IsLinked at layer a b → StandsAt at layer b) where
  path_of : (layer a b : ℕ) → StandsAt at layer a → Walks at query layer a b → (path : List Bytes) × Approaches (stage layer) (name a) path (name b)
  path_of layer a b h (stays id) = ([], refl)
  path_of layer a b h (goes x y z link near rest) =
      let there : StandsAt at layer y = stand layer x y link in
      let more = path_of layer y z there rest in
      let closer : (stage layer).distance (name y) < (stage layer).distance (name x) = omega (arith, near, (by layer).far y there, (by layer).far x h) in
      (name y ∷ more.0, ((by layer).link x y link, closer, more.1))

  nearest_of : (layer stop w : ℕ) (b : List ℕ) → StandsAt at layer stop → IsLinked at layer stop w → name w ≡ b → far_at at query stop ≤ far_at at query w → (stage layer).distance (name stop) ≤ (stage layer).distance b
  nearest_of layer stop w b stands link is near =
      subst (λ n. (stage layer).distance (name stop) ≤ (stage layer).distance n) is (omega (arith, near, (by layer).far stop stands, (by layer).far w (stand layer stop w link)))

  stop_of : (layer before stop : ℕ) → StandsAt at layer before → IsStop at query layer before stop → StopsAt (stage layer) (name before) (name stop)
  stop_of layer before stop from h =
      let path = path_of layer before stop from h.walked in
      record {
        stands = (by layer).standing stop h.stands;
        nearest = λ b link. let w = (by layer).from_link stop b h.stands link in nearest_of layer stop w.0 b h.stands w.1 w.2 (h.nearest w.0 w.1);
        path = path.0;
        approaches = path.1;
      }

  module _ (entry low start top : ℕ) (stops : List ℕ) (some : IsSome (at entry)) (positive : 1 ≤ low) (d : IsDescent at entry query low start top stops) where
    from_top : before_layer entry top stops top ≡ entry
    from_top = cond-true (eqb top top) entry (get_or stops (top + 1) 0) (eq-eqb top top refl)

    from_above : (l : ℕ) → (l ≡ top → ⊥) → before_layer entry top stops l ≡ slice_index stops (l + 1)
    from_above l ne = cond-false (eqb l top) entry (get_or stops (l + 1) 0) (ne_eqb l top ne)

    before_stands : (l : ℕ) → low ≤ l → l ≤ top → StandsAt at l (before_layer entry top stops l)
    before_stands l h k =
        elim (cases_eq l top) [
          | inl e ↦ subst (λ n. StandsAt at n (before_layer entry top stops n)) (sym e) (subst (λ n. StandsAt at top n) (sym from_top) (stands_of_level (at entry) top some d.level))
          | inr ne ↦ subst (λ n. StandsAt at l n) (sym (from_above l ne)) (stands_below at (slice_index stops (l + 1)) l (l + 1) (omega arith) (d.stop (l + 1) (omega (arith, h)) (omega (arith, k, ne))).stands)
        ]

    descends : (l : ℕ) → l ≤ top → DescendsFrom stage (name (before_layer entry top stops l)) (layers_down l low) (map (λ layer. name (slice_index stops layer)) (layers_down l low))
    descends zero k = cond_descends (leb low 0) stage (λ layer. name (slice_index stops layer)) (name (before_layer entry top stops 0)) 0 [] (λ e. absurd (omega (arith, leb-true low 0 e, positive)))
    descends (suc l) k =
        cond_descends (leb low (suc l)) stage (λ layer. name (slice_index stops layer)) (name (before_layer entry top stops (suc l))) (suc l) (layers_down l low) (λ e.
        let inside : low ≤ suc l = leb-true low (suc l) e in
        let above : before_layer entry top stops l ≡ slice_index stops (suc l) = from_above l (λ is. omega (arith, is, k)) ∙ ap (λ n. slice_index stops n) (sym (one_above l)) in (
          stop_of (suc l) (before_layer entry top stops (suc l)) (slice_index stops (suc l)) (before_stands (suc l) inside k) (d.stop (suc l) inside k),
          subst (λ n. DescendsFrom stage (name n) (layers_down l low) (map (λ layer. name (slice_index stops layer)) (layers_down l low))) above (descends l (omega (arith, k))),
        ))

    pub is_named_descent : DescendsFrom stage (name entry) (layers_down top low) (map (λ layer. name (slice_index stops layer)) (layers_down top low))
    is_named_descent = subst (λ n. DescendsFrom stage (name n) (layers_down top low) (map (λ layer. name (slice_index stops layer)) (layers_down top low))) from_top (descends top (omega arith))
