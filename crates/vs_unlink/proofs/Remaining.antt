-- Who is left when one is taken out.
--     not_x, stood, stands_yet      who stands after it, and who stood before
--     orphans_left                  those that are listed stand at their layer, and have no link there
use Rattle.std.proofs.Common.{◌≡◌, ◌≢◌, ℕ, true, ◌+◌, ◌≤◌, eqb, List, [], length, sym, ap, ◌∙◌, subst, arith}
use Rattle.std.specs.Prelude.{IsSome, IsSomeAnd, All, Contains}
use Rattle.std.specs.declared.option.Option.{Option}
use Rattle.std.proofs.lemmas.Bool.{eqb-true}
use Rattle.std.proofs.lemmas.List.Elements.{All-append, All-map}
use Rattle.std.proofs.lemmas.List.Sorted.{Contains-permutation, IsPermutation-sym}
use Rattle.std.proofs.lemmas.List.{nil_from_length}
use Rattle.vs_graph.specs.declared.node.Node.{Node}
use Rattle.vs_graph.specs.Bodies.{Bodies}
use Rattle.vs_graph.specs.Good.{body_at, layers_at, links_at, StandsAt, AreLinksGood}
use Rattle.vs_graph.specs.Table.{Table}
use Rattle.vs_graph.proofs.Sorts.{In, from_filter, all_in}
use Rattle.vs_graph.proofs.NodeLaws.{none_stands}
use Rattle.vs_unlink.specs.declared.Orphan.{Orphan}
use Rattle.vs_unlink.specs.Orphans.{at_layer, Lists, none, next, IsLeftAlone}
use Rattle.vs_unlink.specs.Unlinked.{IsTakenOut, IsWithout}
use Rattle.vs_unlink.proofs.Pairing.{contains_in, in_contains}
use Rattle.vs_unlink.proofs.Bare.{bare_stands, stands_bare}

pub without_out : (at new : ℕ → Option Node) (x layers : ℕ) → IsSome (at x) → IsTakenOut at new x layers → IsWithout at new x
without_out at new x layers live out = record { was = live; gone = out.gone; others = out.rest }

module _ (at now : ℕ → Option Node) (x : ℕ) (gone : IsWithout at now x) where
  pub not_x : (layer q : ℕ) → StandsAt now layer q → q ≢ x
  not_x layer q h is = none_stands (now q) layer (ap now is ∙ gone.gone) h

  pub stood : (layer q : ℕ) → StandsAt now layer q → StandsAt at layer q
  stood layer q h = stands_bare layer (at q) (subst (λ o. IsSomeAnd o (λ node. layer ≤ node.level)) (gone.others q (not_x layer q h)) (bare_stands layer (now q) h))

  pub stands_yet : (layer q : ℕ) → q ≢ x → StandsAt at layer q → StandsAt now layer q
  stands_yet layer q ne h = stands_bare layer (now q) (subst (λ o. IsSomeAnd o (λ node. layer ≤ node.level)) (sym (gone.others q ne)) (bare_stands layer (at q) h))

-- ---- those that are listed

-- each was a former neighbour at its layer, and has no link there
each_listed : (P : Orphan → Type 0) (bodies : Bodies) (tables : ℕ → Table) (former : ℕ → List ℕ) (count : ℕ) → ((layer y : ℕ) → In y (former layer) → tables layer y ≡ [] → P (record { layer = layer; id = y }))
    → (n : ℕ) (os : List Orphan) → Lists bodies tables former count n os → All P os
each_listed P bodies tables former count each n os none = λ k d h. absurd (omega (arith, h))
each_listed P bodies tables former count each n os (next k before ids above alone) =
    All-append P before (at_layer k ids) (each_listed P bodies tables former count each (k + 1) before above)
    (All-map P (λ y. record { layer = k; id = y }) ids (all_in (λ y. P (record { layer = k; id = y })) ids (λ y inside. let w = from_alone y inside in each k y w.0 (nil_from_length (tables k y) (eqb-true (length (tables k y)) 0 w.1))))) where
      from_alone : (y : ℕ) → In y ids → In y (former k) × (eqb (length (tables k y)) 0 ≡ true)
      from_alone y inside = from_filter _ y (former k) (contains_in y _ (Contains-permutation ids _ y (IsPermutation-sym _ ids alone.same) (in_contains y ids inside)))

pub orphans_left : (at left : ℕ → Option Node) (m dim x : ℕ) (all : List Orphan) → AreLinksGood at m dim → IsWithout at left x → Lists (body_at left) (links_at left) (λ l. links_at at l x) (layers_at at x) 0 all → All (IsLeftAlone left) all
orphans_left at left m dim x all good gone lists =
    each_listed (IsLeftAlone left) (body_at left) (links_at left) (λ l. links_at at l x) (layers_at at x)
    (λ layer y inside free.
    let linked = in_contains y (links_at at layer x) inside in
    record {
      stands = stands_yet at left x gone layer y (λ e. good.apart layer x (subst (λ q. Contains (links_at at layer x) q) e linked)) (good.stand layer x y linked);
      free = free;
    }) 0 all lists
