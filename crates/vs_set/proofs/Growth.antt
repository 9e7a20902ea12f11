-- A set whose graph has grown by a member: what is kept of it.
--     named_grown, counted_grown      its entries, and how many members have an attribute
use Rattle.std.proofs.Common.{◌≡◌, ◌≢◌, ℕ, ◌<◌, ◌+◌, true, [], ◌∷◌, ◌++◌, length, sym, ap, ◌∙◌, subst, arith, get_or, is_some}
use Rattle.std.specs.Prelude.{Some, None, IsSomeAnd, option_map, nat_eq}
use Rattle.std.specs.declared.option.Option.{Option}
use Rattle.std.specs.Option.{option_map_or}
use Rattle.std.proofs.lemmas.Bool.{both_ways, eq-eqb}
use Rattle.std.proofs.lemmas.List.{map-append, length-map, get_or-map}
use Rattle.std.proofs.lemmas.List.Elements.{All-push}
use Rattle.std.proofs.lemmas.List.Folds.{list_any_at}
use Rattle.vs_defs.specs.Bytes.{Bytes}
use Rattle.vs_graph.specs.declared.node.Node.{Node}
use Rattle.vs_graph.specs.declared.node.Attr.{Attr}
use Rattle.vs_graph.specs.declared.node.Body.{Body}
use Rattle.vs_graph.specs.Standing.{AreIds, members_of, name_of}
use Rattle.vs_unlink.specs.Unlinked.{bare}
use Rattle.vs_unlink.proofs.Bare.{body_bare}
use Rattle.vs_insert.specs.declared.draft.Draft.{Draft}
use Rattle.vs_insert.specs.Added.{IsAdded}
use Rattle.vs_insert.specs.Chosen.{drafted_member}
use Rattle.vs_order.specs.Entries.{Entries, ids_of}
use Rattle.vs_laws.proofs.Options.{is_some_of_map}
use Rattle.vs_set.specs.Kept.{AreNamed, attribute_count, one_if}
use Rattle.vs_set.proofs.Counting.{count_push}

-- ---- names

pub there_name : (body : Body) (attr : Option Attr) (level : ℕ) (o : Option Node) → IsSomeAnd o (λ node. (node.body ≡ body) × (node.attr ≡ attr) × (node.level ≡ level))
    → option_map_or (λ (b : Body). b.name) (option_map (λ (node : Node). node.body) o) [] ≡ body.name
there_name body attr level None h = absurd h
there_name body attr level (Some node) h = ap (λ (b : Body). b.name) h.0

-- who isn't the changed one keeps its name
pub name_kept : (new at : ℕ → Option Node) (q : ℕ) → bare (new q) ≡ bare (at q) → name_of new q ≡ name_of at q
name_kept new at q e = ap (λ o. option_map_or (λ (b : Body). b.name) o []) (sym (body_bare (new q)) ∙ ap (option_map (λ (n : Node). n.body)) e ∙ body_bare (at q))

-- the id of an entry is live
pub entry_live : (at : ℕ → Option Node) (entries : Entries) → AreIds at (ids_of entries) → (k : ℕ) (d : Bytes × ℕ) → k < length entries → is_some (at (get_or entries k d).1) ≡ true
entry_live at entries are k d h =
    sym (are.live (get_or entries k d).1)
    ∙ list_any_at (nat_eq (get_or entries k d).1) (ids_of entries) k (d.1) (omega (arith, h, length-map entries (λ (x : Bytes × ℕ). x.1)))
    (eq-eqb (get_or entries k d).1 (get_or (ids_of entries) k d.1) (sym (get_or-map (λ (x : Bytes × ℕ). x.1) entries k d d.1 h)))

module _ (at new : ℕ → Option Node) (entry : Option ℕ) (m dim id : ℕ) (attr : Option Attr) (draft : Draft) (added : IsAdded at new entry m dim id attr draft) (entries : Entries) (kept : AreNamed at entries) (free : at id ≡ None) where
  apart : (k : ℕ) (d : Bytes × ℕ) → k < length entries → (get_or entries k d).1 ≢ id
  apart k d h e = both_ways (is_some (at id)) (ap is_some free) (ap (λ q. is_some (at q)) (sym e) ∙ entry_live at entries kept.ids k d h)

  more : ids_of (entries ++ (draft.body.name, id) ∷ []) ≡ ids_of entries ++ id ∷ []
  more = map-append (λ (x : Bytes × ℕ). x.1) entries ((draft.body.name, id) ∷ [])

  pub named_grown : AreNamed new (entries ++ (draft.body.name, id) ∷ [])
  named_grown = record {
    ids = subst (AreIds new) (sym more) (added.last (ids_of entries) kept.ids);
    names = All-push (λ (e : Bytes × ℕ). name_of new e.1 ≡ e.0) entries (draft.body.name, id)
        (λ k d h. name_kept new at (get_or entries k d).1 (added.others (get_or entries k d).1 (apart k d h)) ∙ kept.names k d h)
        (there_name draft.body attr draft.level (new id) added.there);
  }

  pub counted_grown : attribute_count (members_of new dim (ids_of (entries ++ (draft.body.name, id) ∷ []))) ≡ attribute_count (members_of at dim (ids_of entries)) + one_if (is_some attr)
  counted_grown = ap (λ ids. attribute_count (members_of new dim ids)) more ∙ ap attribute_count (added.members (ids_of entries) kept.ids) ∙ count_push (members_of at dim (ids_of entries)) (drafted_member dim attr draft)
      ∙ ap (λ b. attribute_count (members_of at dim (ids_of entries)) + one_if b) (is_some_of_map (λ (t : Attr). t.text) attr)
