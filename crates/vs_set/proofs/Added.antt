-- A new member of a set: what was added to the graph of ids is the definitions' addition to the set.
--     inserts_at         the links by names, for any order of the ids before and after
--     added              the first member, and a new name
use Rattle.std.proofs.Common.{◌≡◌, ℕ, Bool, true, List, [], ◌∷◌, ◌++◌, refl, sym, ap, ◌∙◌, subst, is_some}
use Rattle.std.specs.Prelude.{Some, None, IsSomeAnd, option_map}
use Rattle.std.specs.declared.option.Option.{Option}
use Rattle.std.proofs.lemmas.Bool.{both_ways}
use Rattle.std.proofs.lemmas.List.{map-append}
use Rattle.vs_defs.specs.Bytes.{Bytes}
use Rattle.vs_defs.specs.Request.{Add}
use Rattle.vs_defs.specs.Store.{Member, member_of, with_member}
use Rattle.vs_defs.specs.Words.{bits_of_words}
use Rattle.vs_defs.specs.PlainStep.{added_member, added_to}
use Rattle.vs_defs.specs.Insertion.{IsChosen, IsLinkedBy, entry_by}
use Rattle.vs_defs.specs.Step.{AddsTo, IsFirstWiring, InsertsAtOnce}
use Rattle.vs_graph.specs.declared.node.Node.{Node}
use Rattle.vs_graph.specs.Seen.{Seen}
use Rattle.vs_graph.specs.Good.{IsEntry}
use Rattle.vs_graph.specs.Standing.{AreIds, member_at, members_of, name_of, set_of}
use Rattle.vs_graph.proofs.Singles.{single_links}
use Rattle.vs_insert.specs.Chosen.{drafted_member}
use Rattle.vs_insert.specs.Drafts.{names_down}
use Rattle.vs_order.specs.Entries.{Entries, ids_of, id_of}
use Rattle.vs_set.specs.Kept.{set_by, AreNamed}
use Rattle.vs_set.specs.Changed.{AddsMember}
use Rattle.vs_set.specs.Grown.{IsGrown, cut_by}
use Rattle.vs_laws.proofs.Options.{none_is}
use Rattle.vs_set.proofs.Members.{found}

-- ---- what there is without a member

none_live : (at : ℕ → Option Node) → AreIds at [] → (q : ℕ) → at q ≡ None
none_live at ids q = none_is (at q) (sym (ids.live q))

entry_none : (at : ℕ → Option Node) (entry : Option ℕ) → ((q : ℕ) → at q ≡ None) → IsEntry at entry → entry ≡ None
entry_none at None none top = refl
entry_none at (Some e) none top = absurd (by _ (at e) (none e) top) where
  by : (P : Node → Type 0) (o : Option Node) → o ≡ None → IsSomeAnd o P → ⊥
  by P None h k = k
  by P (Some node) h k = both_ways true (ap is_some h) refl

-- ---- the addition

module _ {N : Type 0} (at : N → ℕ → Option Node) (s t : Seen N) (id : ℕ) (add : Add) (had : Option Bytes) (level : ℕ) (has : Bool) (g : IsGrown at s t id add had level has) where
  pub name_is : g.inserted.draft.body.name ≡ add.name
  name_is = ap (λ b. b.name) g.inserted.body_is ∙ g.name

  bits_are : bits_of_words s.dim g.inserted.draft.body.bits ≡ add.bits
  bits_are = ap (λ b. bits_of_words s.dim b.bits) g.inserted.body_is ∙ g.bits

  pub same_member : drafted_member s.dim g.attr g.inserted.draft ≡ added_member add level had
  same_member = λ i. record { name = name_is i; bits = bits_are i; attr = g.text i; level = g.inserted.level_is i }

  pub inserts_at : (cut later : ℕ) (ids all : List ℕ) → AreIds (at s.nodes) ids → AreIds (at t.nodes) all
      → InsertsAtOnce add level (set_of (at s.nodes) s.entry s.m s.dim cut ids) (set_of (at t.nodes) t.entry s.m s.dim later all)
  inserts_at cut later ids all are will =
      let old = set_of (at s.nodes) s.entry s.m s.dim cut ids in
      let chosen = names_down g.inserted.draft.chosen in (
        chosen,
        record {
          are_chosen = subst (λ q. IsChosen old q level add.ef chosen) g.bits (g.inserted.chosen cut ids are);
          linked_by =
              subst (λ n. IsLinkedBy old n level chosen (set_of (at t.nodes) t.entry s.m s.dim later all)) name_is
              (subst (λ l. IsLinkedBy old g.inserted.draft.body.name l chosen (set_of (at t.nodes) t.entry s.m s.dim later all)) g.inserted.level_is
              (subst (λ e. IsLinkedBy old g.inserted.draft.body.name g.inserted.draft.level chosen (set_of (at t.nodes) e s.m s.dim later all)) (sym g.inserted.entry)
              (g.inserted.added.linked cut later ids all are will)));
        },
      )

module _ {N : Type 0} (at : N → ℕ → Option Node) (s t : Seen N) (id : ℕ) (add : Add) (level : ℕ) (has : Bool) (g : IsGrown at s t id add None level has) (cut0 cut : ℕ) (name : Bytes) where
  first_entry : AreIds (at s.nodes) [] → option_map (name_of (at t.nodes)) t.entry ≡ Some add.name
  first_entry ids =
      (inserts_at at s t id add None level has g cut0 cut [] (id ∷ []) ids (g.inserted.added.last [] ids)).1.linked_by.entry
      ∙ ap (λ o. entry_by (set_of (at s.nodes) s.entry s.m s.dim cut0 []) add.name level (option_map (name_of (at s.nodes)) o)) (entry_none (at s.nodes) s.entry (none_live (at s.nodes) ids) g.inserted.before.top)

  first_wiring : AreIds (at s.nodes) [] → IsFirstWiring add.name (set_by (at t.nodes) t.entry s.m s.dim cut ((name, id) ∷ [])).wiring
  first_wiring ids = record {
    links = single_links (at t.nodes) t.m t.dim id g.inserted.good.links (g.inserted.added.last [] ids);
    entry = first_entry ids;
  }

  pub added : (entries : Entries) → AreNamed (at s.nodes) entries → id_of add.name entries ≡ None
      → AddsMember add level cut (set_by (at s.nodes) s.entry s.m s.dim cut0 entries) (set_by (at t.nodes) t.entry s.m s.dim (cut_by cut0 cut entries) (entries ++ (name, id) ∷ []))
  added [] kept absent = record {
    contents = ap (λ (ms : List Member). record { dim = s.dim; m = s.m; cut = cut; members = ms })
        (g.inserted.added.members [] kept.ids ∙ ap (λ (x : Member). x ∷ []) (same_member at s t id add None level has g));
    wiring = first_wiring kept.ids;
  }
  added (e ∷ es) kept absent =
      let ids = ids_of (e ∷ es) in
      let old = set_by (at s.nodes) s.entry s.m s.dim cut0 (e ∷ es) in
      let all : ids_of (e ∷ es ++ (name, id) ∷ []) ≡ ids ++ id ∷ [] = map-append (λ (x : Bytes × ℕ). x.1) (e ∷ es) ((name, id) ∷ []) in
      let none : member_of add.name old.contents.members ≡ None = sym (found (at s.nodes) s.m s.dim add.name (e ∷ es) kept.names) ∙ ap (option_map (member_at (at s.nodes) s.dim)) absent in
      record {
        contents =
            ap (λ (ms : List Member). record { dim = s.dim; m = s.m; cut = cut0; members = ms })
            (ap (members_of (at t.nodes) s.dim) all ∙ g.inserted.added.members ids kept.ids ∙ ap (λ (x : Member). with_member x (members_of (at s.nodes) s.dim ids)) (same_member at s t id add None level has g))
            ∙ ap (λ o. (added_to add level cut old.contents o).0) (sym none);
        wiring =
            subst (λ o. AddsTo add level old o None (set_by (at t.nodes) t.entry s.m s.dim cut0 (e ∷ es ++ (name, id) ∷ []))) (sym none)
            (inserts_at at s t id add None level has g cut0 cut0 ids (ids_of (e ∷ es ++ (name, id) ∷ [])) kept.ids (subst (AreIds (at t.nodes)) (sym all) (g.inserted.added.last ids kept.ids)));
      }
