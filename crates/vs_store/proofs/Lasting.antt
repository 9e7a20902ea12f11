-- A ready addition that isn't stale may be committed: whoever was chosen stands there still, with the bits that they had.
use Rattle.std.proofs.Common.{◌≡◌, ℕ, ◌<◌, ◌≤◌, ◌-◌, List, [], ◌∷◌, length, sym, ap, ◌∙◌, subst, inl, inr, arith, get_or}
use Rattle.std.specs.Prelude.{Option, Some, None, IsSomeAnd, All}
use Rattle.std.proofs.lemmas.Bool.{cases_lt}
use Rattle.std.proofs.lemmas.List.{get_or-map, get_or_past, length-map}
use Rattle.std.proofs.lemmas.Option.{none-some, same_Some, unwrap_or-slice_get}
use Rattle.vs_defs.specs.Bytes.{Bytes}
use Rattle.vs_defs.specs.Vector.{Vector}
use Rattle.vs_defs.specs.Store.{Member, Set, member_of}
use Rattle.vs_thread_defs.specs.Core as core
use Rattle.vs_thread_defs.specs.Core.{names_down}
use Rattle.vs_thread_defs.specs.Laws.{KeepsShape, shape_of}
use Rattle.vs_insert.proofs.Lists as insert
use Rattle.vs_store.specs.Drafts.{WasReadyIn, AreThere, MayCommitIn}
use Rattle.vs_store.proofs.Layers.{names_at, at_layer, down_at, down_length, chosen_there}
use Rattle.vs_store.proofs.Prepared.{suits_dim}

there_still : (layer : ℕ) (bits : Vector) (was now : Option Member) → IsSomeAnd was (λ y. (y.bits ≡ bits) × (layer ≤ y.level)) → shape_of now ≡ shape_of was → IsSomeAnd now (λ y. (y.bits ≡ bits) × (layer ≤ y.level))
there_still layer bits None now there shape = absurd there
there_still layer bits (Some x) None there shape = absurd (none-some (x.bits, x.level) shape)
there_still layer bits (Some x) (Some y) there shape =
    let same = same_Some (y.bits, y.level) (x.bits, x.level) shape in
    (ap (λ (p : Vector × ℕ). p.0) same ∙ there.0, subst (λ n. layer ≤ n) (sym (ap (λ (p : Vector × ℕ). p.1) same)) there.1)

module _ (was now : Set) (m_is : now.contents.m ≡ was.contents.m) where
  abbrev Keeps : Bytes → Type 0
  Keeps = KeepsShape was.contents now.contents

  stand_still : (layer : ℕ) (list : List (Bytes × Vector)) → AreThere was layer list → All Keeps (names_at list) → AreThere now layer list
  stand_still layer list h keeps = record {
    few = omega (arith, h.few, m_is);
    once = h.once;
    there = λ k d less.
        let c = get_or list k d in
        there_still layer c.1 (member_of c.0 was.contents.members) (member_of c.0 now.contents.members) (h.there k d less)
        (subst Keeps (get_or-map (λ (e : Bytes × Vector). e.0) list k d d.0 less) (keeps k d.0 (omega (arith, less, length-map list (λ (e : Bytes × Vector). e.0)))));
  }

  kept_at : (chosen : List (List (Bytes × Vector))) → All (All Keeps) (names_down chosen) → (layer : ℕ) → All Keeps (names_at (at_layer chosen layer))
  kept_at chosen keeps layer = elim (cases_lt layer (length chosen)) [
    | inl under ↦
        let i = length chosen - 1 - layer in
        let less : i < length chosen = omega (arith, under) in
        let back : length chosen - 1 - i ≡ layer = omega (arith, under) in
        subst (λ k. All Keeps (names_at (at_layer chosen k))) back (subst (All Keeps) (down_at chosen i [] less) (keeps i [] (omega (arith, less, down_length chosen))))
    | inr past ↦
        subst (λ l. All Keeps (names_at l)) (sym (unwrap_or-slice_get chosen layer [] ∙ get_or_past chosen layer [] past)) (λ k d less. absurd (omega (arith, less)))
  ]

-- in a set that kept dimension, M, and the shape of the chosen
pub may_commit_in : (was now : Set) (ready : core.Ready) → WasReadyIn was ready → now.contents.dim ≡ was.contents.dim → now.contents.m ≡ was.contents.m → All (All (KeepsShape was.contents now.contents)) (names_down ready.chosen)
    → MayCommitIn now ready
may_commit_in was now ready was_ready dim m keeps =
    let chosen = ready.chosen in
    let names = insert.chosen_names was ready.add.bits ready.level ready.add.ef (names_down chosen) was_ready.chosen in record {
      dim = suits_dim was.contents ready.add was_ready.draftable.suits ∙ sym dim;
      layers = sym (down_length chosen) ∙ names.layers;
      lists = λ layer. stand_still was now m layer (at_layer chosen layer) (chosen_there chosen was ready.level names was_ready.bits layer) (kept_at was now m chosen keeps layer);
    }
