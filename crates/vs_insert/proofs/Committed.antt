-- What a commit's steps come to.
use Rattle.std.proofs.Common.{◌≡◌, ℕ, ◌+◌, ◌<◌, ◌≤◌, List, min, refl, sym, ◌∙◌, subst, arith, inl, inr}
use Rattle.std.specs.Prelude.{Some, None, nat_lt}
use Rattle.std.specs.declared.option.Option.{Option}
use Rattle.std.proofs.Math.Nat.{min-le_left, min-eq_right}
use Rattle.std.proofs.lemmas.Bool.{cond-true, cond-false, lt-ltb, ltb-true, cases_lt, false_from_ne_true}
use Rattle.vs_defs.specs.Words.{FitsDimension}
use Rattle.vs_graph.specs.declared.node.Node.{Node}
use Rattle.vs_graph.specs.declared.edit.Edit.{Edit}
use Rattle.vs_graph.specs.Edits.{changed, overwritten}
use Rattle.vs_graph.specs.Good.{AreLinksGood}
use Rattle.vs_graph.specs.Newcomer.{ChangesAt}
use Rattle.vs_graph.proofs.Renaming.{no_change}
use Rattle.vs_beam.specs.Beam.{level_at}
use Rattle.vs_insert.specs.declared.draft.Chosen.{Chosen}
use Rattle.vs_insert.specs.Joined.{layers_shared, IsJoinedFrom}
use Rattle.vs_insert.specs.Added.{entry_after}

module _ (first put : Edit) (base at : ℕ → Option Node) (same : base ≡ at) (none : (id : ℕ) → changed first id ≡ None) where
  pub links_put : (m k dim : ℕ) (node : Node) → k ≡ m → AreLinksGood at m dim → FitsDimension dim node.body.bits
      → ((m dim : ℕ) → FitsDimension dim node.body.bits → AreLinksGood (overwritten first base) m dim → AreLinksGood (overwritten put base) m dim) → AreLinksGood (overwritten put base) k dim
  links_put m k dim node e good fits keeps = keeps k dim fits (subst (λ a. AreLinksGood a k dim) (sym (no_change first base none ∙ same)) (subst (λ n. AreLinksGood at n dim) (sym e) good))

  pub change_at : (id : ℕ) (node : Node) → ChangesAt (overwritten first base) (overwritten put base) id (Some node) → ChangesAt at (overwritten put at) id (Some node)
  change_at id node h = subst (λ a. ChangesAt a (overwritten put a) id (Some node)) same (subst (λ a. ChangesAt a (overwritten put base) id (Some node)) (no_change first base none) h)

pub joined_at : (put made : Edit) (base at : ℕ → Option Node) (k m id : ℕ) (shown entry : Option ℕ) (seen chosen : List (List Chosen)) → base ≡ at → k ≡ m → shown ≡ entry → seen ≡ chosen
    → IsJoinedFrom (overwritten put base) (overwritten made base) k id shown seen 0 → IsJoinedFrom (overwritten put at) (overwritten made at) m id entry chosen 0
joined_at put made base at k m id shown entry seen chosen e f g h j =
    subst (λ a. IsJoinedFrom (overwritten put a) (overwritten made a) m id entry chosen 0) e
    (subst (λ n. IsJoinedFrom (overwritten put base) (overwritten made base) n id entry chosen 0) f
    (subst (λ o. IsJoinedFrom (overwritten put base) (overwritten made base) k id o chosen 0) g
    (subst (λ l. IsJoinedFrom (overwritten put base) (overwritten made base) k id shown l 0) h j)))

-- ---- the entry

higher : (at : ℕ → Option Node) (e id level : ℕ) → min (level_at at e) level + 1 ≤ level → entry_after at (Some e) id level ≡ Some id
higher at e id level h =
    let above : level_at at e < level = elim (cases_lt (level_at at e) level) [
      | inl k ↦ omega (arith, k)
      | inr k ↦ (let le : level ≤ level_at at e = omega (arith, k) in let least : min (level_at at e) level ≡ level = min-eq_right le in absurd (omega (arith, least, h)))
    ] in
    cond-true (nat_lt (level_at at e) level) (Some id) (Some e) (lt-ltb (level_at at e) level above)

lower : (at : ℕ → Option Node) (e id level : ℕ) → level < min (level_at at e) level + 1 → entry_after at (Some e) id level ≡ Some e
lower at e id level h =
    cond-false (nat_lt (level_at at e) level) (Some id) (Some e)
    (false_from_ne_true (nat_lt (level_at at e) level) (λ k. absurd (omega (arith, ltb-true (level_at at e) level k, h, min-le_left (level_at at e) level))))

-- where the new member stands at a layer at which nobody else does, it is the entry
pub entry_taken : (at : ℕ → Option Node) (entry : Option ℕ) (id level : ℕ) → layers_shared at entry level ≤ level → entry_after at entry id level ≡ Some id
entry_taken at None id level h = refl
entry_taken at (Some e) id level h = higher at e id level h

pub entry_kept : (at : ℕ → Option Node) (entry : Option ℕ) (id level : ℕ) → level < layers_shared at entry level → entry_after at entry id level ≡ entry
entry_kept at None id level h = absurd (omega (arith, h))
entry_kept at (Some e) id level h = lower at e id level h
