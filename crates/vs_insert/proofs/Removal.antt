-- A whole removal: from what its first step, the entry and the orphans' turns say to a good graph and the definitions' removal.
use Rattle.std.proofs.Common.{◌≡◌, ◌≢◌, ℕ, List, [], ◌∷◌, ◌++◌, map, refl, sym, ap, ◌∙◌, subst, arith, inl, inr, is_some, true, append-nil}
use Rattle.std.specs.Prelude.{Some, None, IsSomeAnd, All}
use Rattle.std.specs.declared.option.Option.{Option}
use Rattle.std.proofs.lemmas.Bool.{both_ways}
use Rattle.vs_defs.specs.Bytes.{Bytes}
use Rattle.vs_defs.specs.Removal as rules
use Rattle.vs_graph.specs.declared.node.Node.{Node}
use Rattle.vs_graph.specs.declared.edit.Edit.{Edit}
use Rattle.vs_graph.specs.Edits.{overwritten}
use Rattle.vs_graph.specs.Table.{without}
use Rattle.vs_graph.specs.Good.{StandsAt, AllLinked, IsEntry, IsGood}
use Rattle.vs_graph.specs.Standing.{AreIds, name_of, named_links, set_of}
use Rattle.vs_unlink.specs.declared.Orphan.{Orphan}
use Rattle.vs_unlink.specs.Orphans.{IsLeftAlone, named_orphan}
use Rattle.vs_unlink.specs.Unlinked.{IsWithout}
use Rattle.vs_unlink.proofs.Remaining as remaining
use Rattle.vs_unlink.proofs.Remaining.{not_x}
use Rattle.vs_insert.specs.Walking.{Walking}
use Rattle.vs_insert.specs.Walked.{IsWalked, IsSettled}
use Rattle.vs_insert.specs.Removed.{IsUnlinked, RemovesByNames}
use Rattle.vs_insert.proofs.Bare.{stood}
use Rattle.vs_insert.proofs.Removed.{begun, done, removes}
use Rattle.vs_insert.proofs.Staying.{without_on, entry_on}

some_none : (o : Option Node) (P : Node → Type 0) → o ≡ None → IsSomeAnd o P → ⊥
some_none None P h k = k
some_none (Some n) P h k = both_ways true (ap is_some h) refl

pub entry_other : (left : ℕ → Option Node) (x e : ℕ) → left x ≡ None → IsEntry left (Some e) → e ≢ x
entry_other left x e gone top is = some_none (left e) _ (ap left is ∙ gone) top

module _ (at left : ℕ → Option Node) (top : Option ℕ) (m dim x : ℕ) (all : List Orphan) (whole : IsGood at top m dim) (u : IsUnlinked at left m dim x all) where
  -- the definitions' walk, whose orphans are the listed ones
  walk_begun : (cut : ℕ) (ids : List ℕ) (entry : Option Bytes) → AreIds at ids
      → Walking (set_of at top m dim cut ids) (name_of at x) entry (named_links left (without x ids)) (rules.former_neighbours (set_of at top m dim cut ids) (name_of at x)) (named_links left (without x ids))
      (map (named_orphan at) all ++ [])
  walk_begun cut ids entry are =
      let old = set_of at top m dim cut ids in
      let left_links = named_links left (without x ids) in
      let former = rules.former_neighbours old (name_of at x) in
      subst (λ l. Walking old (name_of at x) entry left_links former left_links l) (sym (u.named top m dim cut ids whole.links are) ∙ sym (append-nil (map (named_orphan at) all)))
      (begun old (name_of at x) entry left_links former)

  -- ---- where somebody is left

  module _ (new : ℕ → Option Node) (e : ℕ) (w : IsWalked at left new top m dim e all) where
    all_linked : AllLinked new
    all_linked layer a b ne sa sb =
        let la = stood left new w.rest layer a sa in
        let lb = stood left new w.rest layer b sb in
        let o : Orphan = record { layer = layer; id = a } in
        elim (u.kept layer a (not_x at left x u.gone layer a la) (whole.linked layer a b ne (remaining.stood at left x u.gone layer a la) (remaining.stood at left x u.gone layer b lb))) [
          | inl h ↦ w.kept layer a h
          | inr c ↦ subst (IsSettled left new) c.2 (w.settled c.0 o c.1) b (λ is. ne (sym is)) lb
        ]

    pub without_after : IsWithout at new x
    without_after = without_on at left new x w.rest u.gone

    pub good_after : IsEntry left (Some e) → IsGood new (Some e) m dim
    good_after entry = record {
      links = w.good;
      linked = all_linked;
      top = entry_on left new e w.rest entry;
      m_low = whole.m_low;
      m_high = whole.m_high;
      dim_low = whole.dim_low;
      dim_high = whole.dim_high;
    }

    pub removed_after : e ≢ x
        → ((cut : ℕ) (ids : List ℕ) → AreIds at ids → Some (name_of at e) ≡ rules.entry_without (name_of at x) (set_of at top m dim cut ids)) → RemovesByNames at new top (Some e) m dim x
    removed_after other named =
        removes at left new top (Some e) m dim x whole.links w.good u.unlinks without_after other named
        (λ cut ids are.
        let old = set_of at top m dim cut ids in
        let former = rules.former_neighbours old (name_of at x) in
        done old (name_of at x) (Some (name_of at e)) (named_links left (without x ids)) former (named_links new (without x ids))
        (w.walks x cut ids former [] whole.links are u.gone (walk_begun cut ids (Some (name_of at e)) are)))

  -- ---- where nobody is left

  pub good_empty : IsEntry left None → IsGood left None m dim
  good_empty nobody = record {
    links = u.good;
    linked = λ layer a b ne sa sb. absurd (some_none (left a) _ (nobody a) sa);
    top = nobody;
    m_low = whole.m_low;
    m_high = whole.m_high;
    dim_low = whole.dim_low;
    dim_high = whole.dim_high;
  }

  nobody_listed : (l : List Orphan) → IsEntry left None → All (IsLeftAlone left) l → l ≡ []
  nobody_listed [] nobody alone = refl
  nobody_listed (o ∷ os) nobody alone = absurd (some_none (left o.id) _ (nobody o.id) (alone 0 o (omega arith)).stands)

  pub removed_empty : IsEntry left None → ((cut : ℕ) (ids : List ℕ) → AreIds at ids → None ≡ rules.entry_without (name_of at x) (set_of at top m dim cut ids)) → RemovesByNames at left top None m dim x
  removed_empty nobody named =
      removes at left left top None m dim x whole.links u.good u.unlinks u.gone tt named
      (λ cut ids are.
      let old = set_of at top m dim cut ids in
      let former = rules.former_neighbours old (name_of at x) in
      done old (name_of at x) None (named_links left (without x ids)) former (named_links left (without x ids))
      (subst (λ l. Walking old (name_of at x) None (named_links left (without x ids)) former (named_links left (without x ids)) (map (named_orphan at) l ++ [])) (nobody_listed all nobody u.alone)
      (walk_begun cut ids None are)))

-- ---- the steps of the code

pub unlinked_over : (edit : Edit) (base at before : ℕ → Option Node) (m dim x : ℕ) (all : List Orphan) → base ≡ at → before ≡ at → IsUnlinked before (overwritten edit base) m dim x all → IsUnlinked at (overwritten edit at) m dim x all
unlinked_over edit base at before m dim x all e h u = subst (λ f. IsUnlinked at (overwritten edit f) m dim x all) e (subst (λ b. IsUnlinked b (overwritten edit base) m dim x all) h u)

pub orphans_stand : (left : ℕ → Option Node) (all : List Orphan) → All (IsLeftAlone left) all → All (λ (o : Orphan). StandsAt left o.layer o.id) all
orphans_stand left all alone k d h = (alone k d h).stands
