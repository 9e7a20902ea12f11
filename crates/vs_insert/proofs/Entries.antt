-- The entry of a graph after one member is out.
--     entry_kept, entry_named      where it wasn't the entry
--     entry_new, highest_now       where it was
use Rattle.std.proofs.Common.{◌≡◌, ◌≢◌, ℕ, ◌<◌, ◌≤◌, ◌+◌, Bool, true, false, cond, eqb, List, refl, sym, ap, ◌∙◌, subst, arith, is_some, inl, inr}
use Rattle.std.specs.Prelude.{Some, None, IsSome, IsSomeAnd, IfSome, nat_lt, option_map}
use Rattle.std.specs.Ordering.{nat_cmp, ordering_then, is_gt}
use Rattle.std.specs.declared.option.Option.{Option}
use Rattle.std.specs.declared.cmp.Ordering.{Ordering}
use Rattle.std.specs.declared.cmp.Ordering.TheVariants.{Less, Equal, Greater}
use Rattle.std.proofs.lemmas.Bool.{both_ways, cases_eq, eqb-true, ltb-true, cond-true, cond-false, false_from_ne_true}
use Rattle.std.proofs.lemmas.Slice.Eq.{bytes_eq-Decides}
use Rattle.vs_defs.specs.Bytes.{same_name}
use Rattle.vs_defs.specs.Removal as rules
use Rattle.vs_graph.specs.declared.node.Node.{Node}
use Rattle.vs_graph.specs.declared.edit.Edit.{Edit}
use Rattle.vs_graph.specs.Edits.{overwritten}
use Rattle.vs_graph.specs.Good.{IsEntry, AreLinksGood}
use Rattle.vs_graph.specs.Table.{without}
use Rattle.vs_graph.specs.Standing.{AreIds, members_of, name_of, set_of}
use Rattle.vs_graph.proofs.Standing.{names_differ}
use Rattle.vs_insert.specs.Height.{height, IsHighestBelow}
use Rattle.vs_unlink.specs.Unlinked.{IsWithout}
use Rattle.vs_unlink.proofs.Detached.{twice}
use Rattle.vs_insert.specs.Rejoined.{HasAnother}
use Rattle.vs_insert.specs.Turns.{IsTopBeside, NobodyElse}
use Rattle.vs_insert.proofs.Leavings.{name_left, members_left}
use Rattle.vs_beam.proofs.Visits.{some_and}

-- ---- the old one

pub entry_named : (at : ℕ → Option Node) (m dim cut x e : ℕ) (ids : List ℕ) → AreLinksGood at m dim → AreIds at ids → IsSome (at x) → IsSome (at e) → e ≢ x
    → Some (name_of at e) ≡ rules.entry_without (name_of at x) (set_of at (Some e) m dim cut ids)
entry_named at m dim cut x e ids good are some_x some_e ne =
    let other : same_name (name_of at x) (name_of at e) ≡ false
    = false_from_ne_true (same_name (name_of at x) (name_of at e))
    (λ h. ne (sym (names_differ at m dim ids good are x e (are.live x ∙ some_x) (are.live e ∙ some_e) ((bytes_eq-Decides (name_of at x) (name_of at e)).0 h)))) in
    sym (cond-false (same_name (name_of at x) (name_of at e)) (rules.highest (rules.all_but (name_of at x) (members_of at dim ids))) (Some (name_of at e)) other)

-- ---- the highest of the others

level_le : (a b : ℕ) (o : Ordering) → is_gt (ordering_then (nat_cmp a b) o) ≡ false → a ≤ b
level_le a b o h = by (nat_lt a b) (eqb a b) refl refl where
  by : (p q : Bool) → nat_lt a b ≡ p → eqb a b ≡ q → a ≤ b
  by true q e f = omega (arith, ltb-true a b e)
  by false true e f = omega (arith, eqb-true a b f)
  by false false e f =
      absurd (both_ways (is_gt (ordering_then (nat_cmp a b) o)) h
      (ap (λ p. is_gt (ordering_then (cond p Less (cond (eqb a b) Equal Greater)) o)) e ∙ ap (λ q. is_gt (ordering_then (cond q Equal Greater) o)) f))

pub highest_now : (now : ℕ → Option Node) (x : ℕ) (best : Option ℕ) → now x ≡ None → ((count : ℕ) → IsHighestBelow now x count best) → IsEntry now best
highest_now now x None gone h = λ q. elim (cases_eq q x) [ inl is ↦ ap now is ∙ gone | inr ne ↦ h (q + 1) q (omega arith) ne ]
highest_now now x (Some b) gone h = by (now b) refl where
  by : (o : Option Node) → now b ≡ o → IsSomeAnd o (λ node. (id : ℕ) → IfSome (now id) (λ other. other.level ≤ node.level))
  by None e = absurd (none_and (now b) _ e (h 0).1) where
    none_and : (o : Option Node) (P : Node → Type 0) → o ≡ None → IsSomeAnd o P → ⊥
    none_and None P is k = k
    none_and (Some n) P is k = both_ways true (ap is_some is) refl
  by (Some n) e = λ q. elim (cases_eq q x) [
    | inl is ↦ subst (λ o. IfSome o (λ other. other.level ≤ n.level)) (sym (ap now is ∙ gone)) tt
    | inr ne ↦ lower (now q) (at_b (h (q + 1)).1 q (omega arith) ne)
  ] where
    at_b : {count : ℕ} → IsSomeAnd (now b) (λ k. (q : ℕ) → q < count → q ≢ x → IfSome (now q) (λ o. is_gt (height k o) ≡ false)) → (q : ℕ) → q < count → q ≢ x → IfSome (now q) (λ o. is_gt (height n o) ≡ false)
    at_b {count} k = subst (λ o. IsSomeAnd o (λ k. (q : ℕ) → q < count → q ≢ x → IfSome (now q) (λ o. is_gt (height k o) ≡ false))) e k

    lower : (o : Option Node) → IfSome o (λ k. is_gt (height n k) ≡ false) → IfSome o (λ k. k.level ≤ n.level)
    lower None k = tt
    lower (Some other) k = level_le other.level n.level _ k

pub entry_new : (at now : ℕ → Option Node) (m dim cut x : ℕ) (best : Option ℕ) (ids : List ℕ) → AreLinksGood at m dim → AreIds at ids → IsWithout at now x
    → IfSome best (λ b. b ≢ x) → rules.highest (members_of now dim (without x (without x ids))) ≡ option_map (name_of now) best
    → option_map (name_of at) best ≡ rules.entry_without (name_of at x) (set_of at (Some x) m dim cut ids)
entry_new at now m dim cut x best ids good are gone other named =
    names best other ∙ sym named ∙ ap (λ l. rules.highest (members_of now dim l)) (twice x ids) ∙ ap rules.highest (members_left at now x m dim ids good are gone)
    ∙ sym (cond-true (same_name (name_of at x) (name_of at x)) (rules.highest (rules.all_but (name_of at x) (members_of at dim ids))) (Some (name_of at x)) ((bytes_eq-Decides (name_of at x) (name_of at x)).1 refl)) where
      names : (o : Option ℕ) → IfSome o (λ b. b ≢ x) → option_map (name_of at) o ≡ option_map (name_of now) o
      names None h = refl
      names (Some b) h = ap Some (sym (name_left at now x m dim ids good are gone b h))

-- ---- the steps of the code

pub entry_live : (at : ℕ → Option Node) (entry : Option ℕ) (e : ℕ) → Some e ≡ entry → IsEntry at entry → IsSome (at e)
entry_live at entry e is top = some_and (at e) _ (subst (IsEntry at) (sym is) top)

pub other_of : (now : ℕ → Option Node) (x : ℕ) (best : Option ℕ) → IsHighestBelow now x 0 best → IfSome best (λ b. b ≢ x)
other_of now x None h = tt
other_of now x (Some b) h = h.0

-- the highest by names
abbrev pub NamedBy : ℕ → Option ℕ → (ℕ → Option Node) → Type 0
NamedBy x best f = (m dim : ℕ) (ids : List ℕ) → AreLinksGood f m dim → AreIds f ids → rules.highest (members_of f dim (without x ids)) ≡ option_map (name_of f) best

pub best_over : (edit : Edit) (base at : ℕ → Option Node) (x : ℕ) (best : Option ℕ) → base ≡ at → ((count : ℕ) → IsHighestBelow (overwritten edit base) x count best)
    → (count : ℕ) → IsHighestBelow (overwritten edit at) x count best
best_over edit base at x best e h = subst (λ f. (count : ℕ) → IsHighestBelow (overwritten edit f) x count best) e h

pub named_over : (edit : Edit) (base at : ℕ → Option Node) (x : ℕ) (best : Option ℕ) → base ≡ at → NamedBy x best (overwritten edit base) → NamedBy x best (overwritten edit at)
named_over edit base at x best e h = subst (λ f. NamedBy x best (overwritten edit f)) e h

-- ---- the highest of the others than one

pub entry_beside : (now : ℕ → Option Node) (y e : ℕ) → IsEntry now (Some e) → e ≢ y → IsTopBeside now y (Some e)
entry_beside now y e top ne = (ne, weaker (now e) top) where
  weaker : (o : Option Node) → IsSomeAnd o (λ node. (id : ℕ) → IfSome (now id) (λ other. other.level ≤ node.level)) → IsSomeAnd o (λ n. (q : ℕ) → q ≢ y → IfSome (now q) (λ k. k.level ≤ n.level))
  weaker None h = h
  weaker (Some n) h = λ q ne. h q

pub highest_beside : (now : ℕ → Option Node) (y : ℕ) (best : Option ℕ) → ((count : ℕ) → IsHighestBelow now y count best) → IsTopBeside now y best
highest_beside now y None h = λ q ne. h (q + 1) q (omega arith) ne
highest_beside now y (Some b) h = ((h 0).0, by (now b) refl) where
  none_and : (o : Option Node) (P : Node → Type 0) → o ≡ None → IsSomeAnd o P → ⊥
  none_and None P is k = k
  none_and (Some n) P is k = both_ways true (ap is_some is) refl

  by : (o : Option Node) → now b ≡ o → IsSomeAnd o (λ n. (q : ℕ) → q ≢ y → IfSome (now q) (λ k. k.level ≤ n.level))
  by None e = absurd (none_and (now b) _ e (h 0).1)
  by (Some n) e = λ q ne. lower (now q) (subst (λ o. IsSomeAnd o (λ k. (i : ℕ) → i < q + 1 → i ≢ y → IfSome (now i) (λ o. is_gt (height k o) ≡ false))) e (h (q + 1)).1 q (omega arith) ne) where
    lower : (o : Option Node) → IfSome o (λ k. is_gt (height n k) ≡ false) → IfSome o (λ k. k.level ≤ n.level)
    lower None k = tt
    lower (Some other) k = level_le other.level n.level _ k

pub nobody_beside : (now : ℕ → Option Node) (layer y : ℕ) → IsTopBeside now y None → NobodyElse now layer y
nobody_beside now layer y h z ne s = by (now z) (h z ne) s where
  by : (o : Option Node) → o ≡ None → IsSomeAnd o (λ n. layer ≤ n.level) → ⊥
  by None e k = k
  by (Some n) e k = both_ways true (ap is_some e) refl

pub beside_live : (now : ℕ → Option Node) (y z : ℕ) → IsTopBeside now y (Some z) → IsSome (now z)
beside_live now y z h = some_and (now z) _ h.1

-- by its level
pub beside_stands : (now : ℕ → Option Node) (layer y z : ℕ) (n : Node) → IsTopBeside now y (Some z) → now z ≡ Some n → layer ≤ n.level → HasAnother now layer y
beside_stands now layer y z n h e low = (z, h.0, subst (λ o. IsSomeAnd o (λ k. layer ≤ k.level)) (sym e) low)

pub beside_lower : (now : ℕ → Option Node) (layer y z : ℕ) (n : Node) → IsTopBeside now y (Some z) → now z ≡ Some n → n.level < layer → NobodyElse now layer y
beside_lower now layer y z n h e low q ne s = by (now q) (subst (λ o. IsSomeAnd o (λ k. (i : ℕ) → i ≢ y → IfSome (now i) (λ o. o.level ≤ k.level))) e h.1 q ne) s where
  by : (o : Option Node) → IfSome o (λ k. k.level ≤ n.level) → IsSomeAnd o (λ k. layer ≤ k.level) → ⊥
  by None k t = t
  by (Some other) k t = omega (arith, k, t, low)
