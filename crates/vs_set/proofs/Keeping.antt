-- A set that has grown by a member is kept, and so are its rows.
use Rattle.std.proofs.Common.{◌≡◌, ℕ, ◌+◌, Bool, [], ◌∷◌, ◌++◌, List, length, refl, sym, ap, ◌∙◌, subst, arith}
use Rattle.std.specs.Prelude.{Some, None}
use Rattle.std.specs.declared.option.Option.{Option}
use Rattle.vs_defs.specs.Bytes.{Bytes}
use Rattle.vs_defs.specs.Request.{Add}
use Rattle.vs_defs.specs.PlainStep.{added_member}
use Rattle.vs_graph.specs.declared.node.Node.{Node}
use Rattle.vs_graph.specs.Seen.{Seen}
use Rattle.vs_graph.specs.Standing.{members_of}
use Rattle.vs_order.specs.Entries.{Entries, ids_of}
use Rattle.vs_page.specs.Rows.{IsPut}
use Rattle.vs_page.specs.Told.{row_at}
use Rattle.vs_page.specs.declared.rows.Rows.{Rows}
use Rattle.vs_truth.specs.Nearest.{KeepsBits}
use Rattle.vs_defs.specs.Store.{Member}
use Rattle.vs_set.specs.Kept.{AreNamed, IsKept, AreRowsOf, KeepRows, attribute_count, one_if}
use Rattle.vs_set.specs.Grown.{IsGrown}
use Rattle.std.proofs.lemmas.List.{map-append}
use Rattle.vs_set.proofs.Added.{name_is, same_member}
use Rattle.vs_set.proofs.Members.{counted}
use Rattle.vs_set.proofs.Telling.{rows_pushed}
use Rattle.vs_set.proofs.Growth.{named_grown, counted_grown}

module _ {N : Type 0} (at : N → ℕ → Option Node) (s t : Seen N) (id : ℕ) (add : Add) (had : Option Bytes) (level : ℕ) (has : Bool) (g : IsGrown at s t id add had level has)
    (entries order : Entries) (attributes : ℕ) (kept : IsKept (at s.nodes) s.dim entries order attributes) (free : at s.nodes id ≡ None) where
  abbrev pub all : Entries
  all = entries ++ (add.name, id) ∷ []

  as_named : entries ++ (g.inserted.draft.body.name, id) ∷ [] ≡ all
  as_named = ap (λ n. entries ++ (n, id) ∷ []) (name_is at s t id add had level has g)

  counts : (n : ℕ) → n ≡ attributes + one_if has → n ≡ attribute_count (members_of (at t.nodes) s.dim (ids_of all))
  counts n is =
      omega (
        arith,
        is,
        kept.counted,
        counted_grown (at s.nodes) (at t.nodes) s.entry s.m s.dim id g.attr g.inserted.draft g.inserted.added entries kept.named free,
        ap one_if g.has_is,
        ap (λ es. attribute_count (members_of (at t.nodes) s.dim (ids_of es))) as_named,
      )

  pub kept_grown : (after later : Entries) (n : ℕ) → after ≡ all → later ≡ all → n ≡ attributes + one_if has → IsKept (at t.nodes) t.dim after later n
  kept_grown after later n is_after is_later is_n =
      subst (λ d. IsKept (at t.nodes) d after later n) (sym g.inserted.dim)
      (subst (λ es. IsKept (at t.nodes) s.dim es later n) (sym is_after)
      (subst (λ es. IsKept (at t.nodes) s.dim all es n) (sym is_later)
      (record {
        named = subst (AreNamed (at t.nodes)) as_named (named_grown (at s.nodes) (at t.nodes) s.entry s.m s.dim id g.attr g.inserted.draft g.inserted.added entries kept.named free);
        same = refl;
        counted = counts n is_n;
      })))

  ids_all : ids_of all ≡ ids_of entries ++ id ∷ []
  ids_all = map-append (λ (x : Bytes × ℕ). x.1) entries ((add.name, id) ∷ [])

  pub rows_grown : (before rows : Rows) (n : ℕ) (words : List ℕ) → KeepRows (at s.nodes) s.dim entries before → n ≡ length entries → IsPut (row_at before) (row_at rows) n (Some words) → KeepsBits add.bits words
      → (after : Entries) → after ≡ all → KeepRows (at t.nodes) t.dim after rows
  rows_grown before rows n words keep last put keeps after is_after =
      let ms = members_of (at s.nodes) s.dim (ids_of entries) in
      let grown : members_of (at t.nodes) s.dim (ids_of all) ≡ ms ++ added_member add level had ∷ []
      = ap (members_of (at t.nodes) s.dim) ids_all ∙ g.inserted.added.members (ids_of entries) kept.named.ids
      ∙ ap (λ (x : Member). ms ++ x ∷ []) (same_member at s t id add had level has g) in
      subst (λ d. KeepRows (at t.nodes) d after rows) (sym g.inserted.dim)
      (subst (λ es. KeepRows (at t.nodes) s.dim es rows) (sym is_after)
      (subst (AreRowsOf (row_at rows)) (sym grown)
      (rows_pushed (row_at before) (row_at rows) ms keep (added_member add level had) n words (last ∙ sym (counted (at s.nodes) s.m s.dim entries)) put keeps)))
