-- A set after the commit of a draft.
--     kept_committed      it is kept
--     rows_committed      and so are its rows
--     commits             it is what the definitions make of it
use Rattle.std.proofs.Common.{◌≡◌, ℕ, ◌+◌, List, [], ◌∷◌, ◌++◌, length, refl, sym, ap, ◌∙◌, subst, arith, is_some}
use Rattle.std.specs.Prelude.{Some, None, option_map}
use Rattle.std.specs.declared.option.Option.{Option}
use Rattle.std.proofs.lemmas.List.{map-append}
use Rattle.vs_defs.specs.Bytes.{Bytes}
use Rattle.vs_defs.specs.Words.{FitsDimension, bits_of_words}
use Rattle.vs_defs.specs.Store.{Member, with_member}
use Rattle.vs_defs.specs.PlainStep.{attr_after}
use Rattle.vs_defs.specs.Insertion.{IsLinkedBy}
use Rattle.vs_graph.specs.declared.node.Node.{Node}
use Rattle.vs_graph.specs.declared.node.Attr.{Attr}
use Rattle.vs_graph.specs.Seen.{Seen}
use Rattle.vs_graph.specs.Standing.{AreIds, members_of}
use Rattle.vs_insert.specs.declared.draft.Draft.{Draft}
use Rattle.vs_insert.specs.Added.{IsAdded, entry_after}
use Rattle.vs_insert.specs.Drafts.{names_down}
use Rattle.vs_order.specs.Entries.{Entries, ids_of}
use Rattle.vs_page.specs.Rows.{IsPut}
use Rattle.vs_page.specs.Told.{row_at}
use Rattle.vs_page.specs.declared.rows.Rows.{Rows}
use Rattle.vs_insert.specs.Chosen.{drafted_member}
use Rattle.vs_set.specs.Kept.{set_by, AreNamed, IsKept, AreRowsOf, KeepRows, one_if}
use Rattle.vs_set.specs.Drafted.{Commits}
use Rattle.vs_set.specs.Retaken.{retaken_draft}
use Rattle.vs_set.proofs.Growth.{named_grown, counted_grown}
use Rattle.vs_set.proofs.Retaking.{down_same}
use Rattle.vs_set.proofs.Members.{counted}
use Rattle.vs_set.proofs.Standing.{keeps_bits}
use Rattle.vs_set.proofs.Telling.{rows_pushed}

module _ {N : Type 0} (at : N → ℕ → Option Node) (s t : Seen N) (id : ℕ) (attr : Option Attr) (draft : Draft) (entries : Entries) (added : IsAdded (at s.nodes) (at t.nodes) s.entry s.m s.dim id attr (retaken_draft entries draft))
    (named : AreNamed (at s.nodes) entries) where
  abbrev pub all : Entries
  all = entries ++ (draft.body.name, id) ∷ []

  ids_all : ids_of all ≡ ids_of entries ++ id ∷ []
  ids_all = map-append (λ (x : Bytes × ℕ). x.1) entries ((draft.body.name, id) ∷ [])

  pub kept_committed : at s.nodes id ≡ None → t.dim ≡ s.dim → (order : Entries) (attributes : ℕ) → IsKept (at s.nodes) s.dim entries order attributes
      → (after later : Entries) (n : ℕ) → after ≡ all → later ≡ all → n ≡ attributes + one_if (is_some attr) → IsKept (at t.nodes) t.dim after later n
  kept_committed free dim_is order attributes kept after later n is_after is_later is_n =
      subst (λ d. IsKept (at t.nodes) d after later n) (sym dim_is)
      (subst (λ es. IsKept (at t.nodes) s.dim es later n) (sym is_after)
      (subst (λ es. IsKept (at t.nodes) s.dim all es n) (sym is_later)
      (record {
        named = named_grown (at s.nodes) (at t.nodes) s.entry s.m s.dim id attr (retaken_draft entries draft) added entries named free;
        same = refl;
        counted = omega (arith, is_n, kept.counted, counted_grown (at s.nodes) (at t.nodes) s.entry s.m s.dim id attr (retaken_draft entries draft) added entries named free);
      })))

  pub rows_committed : (before rows : Rows) (n : ℕ) → KeepRows (at s.nodes) s.dim entries before → n ≡ length entries → IsPut (row_at before) (row_at rows) n (Some draft.body.bits) → FitsDimension s.dim draft.body.bits
      → t.dim ≡ s.dim → (after : Entries) → after ≡ all → KeepRows (at t.nodes) t.dim after rows
  rows_committed before rows n keep last put fits dim_is after is_after =
      let ms = members_of (at s.nodes) s.dim (ids_of entries) in
      let x = drafted_member s.dim attr (retaken_draft entries draft) in
      subst (λ d. KeepRows (at t.nodes) d after rows) (sym dim_is)
      (subst (λ es. KeepRows (at t.nodes) s.dim es rows) (sym is_after)
      (subst (AreRowsOf (row_at rows)) (sym (ap (members_of (at t.nodes) s.dim) ids_all ∙ added.members (ids_of entries) named.ids))
      (rows_pushed (row_at before) (row_at rows) ms keep x n draft.body.bits (last ∙ sym (counted (at s.nodes) s.m s.dim entries)) put (keeps_bits s.dim draft.body.bits fits))))

  pub commits : (text : Option Bytes) → option_map (λ (a : Attr). a.text) attr ≡ attr_after text None → t.entry ≡ entry_after (at s.nodes) s.entry id draft.level → (cut : ℕ)
      → Commits draft text (set_by (at s.nodes) s.entry s.m s.dim cut entries) (set_by (at t.nodes) t.entry s.m s.dim cut all)
  commits text text_is entry_is cut =
      let ids = ids_of entries in
      let before = members_of (at s.nodes) s.dim ids in
      let old = set_by (at s.nodes) s.entry s.m s.dim cut entries in
      record {
        contents =
            ap (λ (ms : List Member). record { dim = s.dim; m = s.m; cut = cut; members = ms })
            (ap (members_of (at t.nodes) s.dim) ids_all ∙ added.members ids named.ids
            ∙ ap (λ a. with_member (record { name = draft.body.name; bits = bits_of_words s.dim draft.body.bits; attr = a; level = draft.level }) before) text_is);
        linked =
            subst (λ ns. IsLinkedBy old draft.body.name draft.level ns (set_by (at t.nodes) t.entry s.m s.dim cut all)) (down_same entries draft.chosen)
            (subst (λ e. IsLinkedBy old draft.body.name draft.level (names_down (retaken_draft entries draft).chosen) (set_by (at t.nodes) e s.m s.dim cut all)) (sym entry_is)
            (added.linked cut cut ids (ids_of all) named.ids (subst (AreIds (at t.nodes)) (sym ids_all) (added.last ids named.ids))));
      }
