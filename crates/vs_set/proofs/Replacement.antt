-- A replaced member of a set: what was taken out of the graph of ids and added to it again is the definitions' replacement.
--     replaced           the addition of a name that is a member
--     named_replaced     the entries are those before
--     rows_again         its rows
--     counted_replaced   how many members have an attribute
use Rattle.std.proofs.Common.{◌≡◌, ℕ, ◌+◌, ◌≤◌, Bool, false, List, [], ◌∷◌, refl, sym, ap, ◌∙◌, subst, arith, is_some, get_or, inl, inr}
use Rattle.std.specs.Prelude.{Some, None, IsSomeAnd, option_map}
use Rattle.std.specs.declared.option.Option.{Option}
use Rattle.std.specs.Option.{option_map_or}
use Rattle.std.proofs.lemmas.Bool.{both_ways, cases_eq}
use Rattle.vs_defs.specs.Request.{Add}
use Rattle.vs_defs.specs.Store.{Member, Set, member_of, with_replaced, no_member}
use Rattle.vs_defs.specs.PlainStep.{added_member, added_to}
use Rattle.vs_defs.specs.Removal as rules
use Rattle.vs_defs.specs.Removal.{Removes}
use Rattle.vs_defs.specs.Step.{AddsTo, InsertsAtOnce, Replaces, taken_out}
use Rattle.vs_graph.specs.declared.node.Node.{Node}
use Rattle.vs_graph.specs.declared.node.Attr.{Attr}
use Rattle.vs_graph.specs.Seen.{Seen}
use Rattle.vs_graph.specs.Good.{AreLinksGood}
use Rattle.vs_graph.specs.Table.{without}
use Rattle.vs_graph.specs.Standing.{AreIds, member_at, member_of_node, members_of, name_of, set_of, wiring_of}
use Rattle.vs_insert.proofs.AddedAgain.{ids_again, members_again}
use Rattle.vs_insert.proofs.Leavings.{ids_left, members_left}
use Rattle.vs_order.specs.Entries.{Entries, ids_of, id_of, place_of}
use Rattle.vs_page.specs.Rows.{IsPut}
use Rattle.vs_page.specs.Told.{row_at}
use Rattle.vs_page.specs.declared.rows.Rows.{Rows}
use Rattle.vs_truth.specs.Nearest.{KeepsBits}
use Rattle.vs_set.specs.Kept.{set_by, AreNamed, IsKept, AreRowsOf, KeepRows, attribute_count, one_if}
use Rattle.vs_set.specs.Changed.{AddsMember}
use Rattle.vs_set.specs.Grown.{IsGrown, text_of}
use Rattle.vs_set.specs.Again.{IsReplaced}
use Rattle.vs_laws.proofs.Options.{is_some_of_map}
use Rattle.vs_set.proofs.Members.{found, place_is}
use Rattle.vs_set.proofs.Telling.{rows_replaced}
use Rattle.vs_set.proofs.Growth.{name_kept, there_name}
use Rattle.vs_set.proofs.Added.{name_is, same_member, inserts_at}
use Rattle.vs_set.proofs.Counting.{count_replaced, count_has}

attr_there : (dim : ℕ) (a : Option Attr) (o : Option Node) → IsSomeAnd o (λ node. a ≡ node.attr) → (option_map_or (member_of_node dim) o no_member).attr ≡ text_of a
attr_there dim a None h = absurd h
attr_there dim a (Some node) h = ap text_of (sym h)

module _ {N : Type 0} (at : N → ℕ → Option Node) (s t : Seen N) (x : ℕ) (add : Add) (level : ℕ) (had has : Bool) (r : IsReplaced at s t x add level had has) (named : name_of (at s.nodes) x ≡ add.name)
    (ids : List ℕ) (are : AreIds (at s.nodes) ids) where
  -- what is left, with the numbers of the graph before
  abbrev pub left : Seen N
  left = record { nodes = r.left.nodes; entry = r.left.entry; m = s.m; dim = s.dim }

  grown : IsGrown at left t x add (text_of r.attr) level has
  grown = subst (λ u. IsGrown at u t x add (text_of r.attr) level has) (λ i. record { nodes = r.left.nodes; entry = r.left.entry; m = r.out.m i; dim = r.out.dim i }) r.grown

  good : AreLinksGood (at s.nodes) s.m s.dim
  good = r.out.before.links

  ids_between : AreIds (at left.nodes) (without x ids)
  ids_between = ids_left (at s.nodes) (at left.nodes) x s.m s.dim ids good are r.out.gone

  same_name : name_of (at s.nodes) x ≡ grown.inserted.draft.body.name
  same_name = named ∙ sym (name_is at left t x add (text_of r.attr) level has grown)

  pub ids_replaced : AreIds (at t.nodes) ids
  ids_replaced = ids_again (at s.nodes) (at left.nodes) (at t.nodes) left.entry s.m s.dim x grown.attr grown.inserted.draft ids good are r.out.gone grown.inserted.added same_name

  pub members_replaced : members_of (at t.nodes) s.dim ids ≡ with_replaced (added_member add level (text_of r.attr)) (members_of (at s.nodes) s.dim ids)
  members_replaced =
      members_again (at s.nodes) (at left.nodes) (at t.nodes) left.entry s.m s.dim x grown.attr grown.inserted.draft ids good are r.out.gone grown.inserted.added same_name
      ∙ ap (λ y. with_replaced y (members_of (at s.nodes) s.dim ids)) (same_member at left t x add (text_of r.attr) level has grown)

  pub names_replaced : (q : ℕ) → name_of (at t.nodes) q ≡ name_of (at s.nodes) q
  names_replaced q = elim (cases_eq q x) [
    | inl is ↦
        ap (name_of (at t.nodes)) is
        ∙ there_name grown.inserted.draft.body grown.attr grown.inserted.draft.level (at t.nodes x) grown.inserted.added.there
        ∙ sym same_name ∙ ap (name_of (at s.nodes)) (sym is)
    | inr ne ↦ name_kept (at t.nodes) (at left.nodes) q (grown.inserted.added.others q ne) ∙ name_kept (at left.nodes) (at s.nodes) q (r.out.gone.others q ne)
  ]

  pub replaces : (cut0 cut : ℕ) → Replaces add level (set_of (at s.nodes) s.entry s.m s.dim cut0 ids) (set_of (at t.nodes) t.entry s.m s.dim cut ids)
  replaces cut0 cut =
      let old = set_of (at s.nodes) s.entry s.m s.dim cut0 ids in
      let new = set_of (at t.nodes) t.entry s.m s.dim cut ids in
      let w = wiring_of (at left.nodes) left.entry (without x ids) in
      let out : members_of (at left.nodes) s.dim (without x ids) ≡ rules.all_but add.name old.contents.members
      = members_left (at s.nodes) (at left.nodes) x s.m s.dim ids good are r.out.gone ∙ ap (λ n. rules.all_but n old.contents.members) named in
      let between : set_of (at left.nodes) left.entry s.m s.dim cut0 (without x ids) ≡ taken_out old add.name w
      = λ i. record { contents = record { dim = s.dim; m = s.m; cut = cut0; members = out i }; wiring = w } in (
        w,
        subst (λ n. Removes old n w) named (r.out.removes cut0 ids (without x ids) are ids_between),
        subst (λ (y : Set). InsertsAtOnce add level y new) between (inserts_at at left t x add (text_of r.attr) level has grown cut0 cut (without x ids) ids ids_between ids_replaced),
      )

module _ {N : Type 0} (at : N → ℕ → Option Node) (s t : Seen N) (x : ℕ) (add : Add) (level : ℕ) (had has : Bool) (r : IsReplaced at s t x add level had has)
    (entries : Entries) (kept : AreNamed (at s.nodes) entries) (found_as : id_of add.name entries ≡ Some x) (named : name_of (at s.nodes) x ≡ add.name) where
  abbrev pub old_member : Member
  old_member = member_at (at s.nodes) s.dim x

  of_name : member_of add.name (members_of (at s.nodes) s.dim (ids_of entries)) ≡ Some old_member
  of_name = sym (found (at s.nodes) s.m s.dim add.name entries kept.names) ∙ ap (option_map (member_at (at s.nodes) s.dim)) found_as

  old_attr : old_member.attr ≡ text_of r.attr
  old_attr = attr_there s.dim r.attr (at s.nodes x) r.was

  had_is : one_if (is_some old_member.attr) ≡ one_if had
  had_is = ap (λ o. one_if (is_some o)) old_attr ∙ ap one_if (is_some_of_map (λ (a : Attr). a.text) r.attr ∙ sym r.had_is)

  has_is : one_if (is_some (added_member add level (text_of r.attr)).attr) ≡ one_if has
  has_is = ap (λ o. one_if (is_some o)) (sym r.grown.text) ∙ ap one_if (is_some_of_map (λ (a : Attr). a.text) r.grown.attr ∙ sym r.grown.has_is)

  pub counts : one_if had ≤ attribute_count (members_of (at s.nodes) s.dim (ids_of entries))
  counts = omega (arith, count_has add.name old_member (members_of (at s.nodes) s.dim (ids_of entries)) of_name, had_is)

  pub counted_replaced : attribute_count (members_of (at t.nodes) s.dim (ids_of entries)) + one_if had ≡ attribute_count (members_of (at s.nodes) s.dim (ids_of entries)) + one_if has
  counted_replaced =
      omega (
        arith,
        ap attribute_count (members_replaced at s t x add level had has r named (ids_of entries) kept.ids),
        count_replaced (added_member add level (text_of r.attr)) old_member (members_of (at s.nodes) s.dim (ids_of entries)) of_name,
        had_is,
        has_is,
      )

module _ {N : Type 0} (at : N → ℕ → Option Node) (s t : Seen N) (x : ℕ) (add : Add) (level : ℕ) (had has : Bool) (r : IsReplaced at s t x add level had has) (named : name_of (at s.nodes) x ≡ add.name) (cut0 cut : ℕ) where
  pub replaced : (entries : Entries) → AreNamed (at s.nodes) entries → id_of add.name entries ≡ Some x
      → AddsMember add level cut (set_by (at s.nodes) s.entry s.m s.dim cut0 entries) (set_by (at t.nodes) t.entry s.m s.dim cut entries)
  replaced [] kept found_as = absurd (both_ways false refl (ap is_some found_as))
  replaced (e ∷ es) kept found_as =
      let ids = ids_of (e ∷ es) in
      let old = set_by (at s.nodes) s.entry s.m s.dim cut0 (e ∷ es) in
      let new = set_by (at t.nodes) t.entry s.m s.dim cut (e ∷ es) in
      let y = member_at (at s.nodes) s.dim x in
      let is : member_of add.name old.contents.members ≡ Some y = of_name at s t x add level had has r (e ∷ es) kept found_as named in
      record {
        contents =
            ap (λ (ms : List Member). record { dim = s.dim; m = s.m; cut = cut; members = ms })
            (members_replaced at s t x add level had has r named ids kept.ids
            ∙ ap (λ a. with_replaced (added_member add level a) old.contents.members) (sym (attr_there s.dim r.attr (at s.nodes x) r.was)))
            ∙ ap (λ o. (added_to add level cut old.contents o).0) (sym is);
        wiring = subst (λ o. AddsTo add level old o None new) (sym is) (replaces at s t x add level had has r named ids kept.ids cut0 cut);
      }

module _ {N : Type 0} (at : N → ℕ → Option Node) (s t : Seen N) (x : ℕ) (add : Add) (level : ℕ) (had has : Bool) (r : IsReplaced at s t x add level had has) (named : name_of (at s.nodes) x ≡ add.name)
    (entries order : Entries) (attributes : ℕ) (kept : IsKept (at s.nodes) s.dim entries order attributes) (found_as : id_of add.name entries ≡ Some x) where
  pub kept_replaced : (n : ℕ) → n + one_if had ≡ attributes + one_if has → IsKept (at t.nodes) t.dim entries order n
  kept_replaced n is =
      subst (λ d. IsKept (at t.nodes) d entries order n) (sym (r.grown.inserted.dim ∙ r.out.dim)) (record {
        named = record {
          ids = ids_replaced at s t x add level had has r named (ids_of entries) kept.named.ids;
          names = λ k d h. names_replaced at s t x add level had has r named (ids_of entries) kept.named.ids (get_or entries k d).1 ∙ kept.named.names k d h;
        };
        same = kept.same;
        counted = omega (arith, is, kept.counted, counted_replaced at s t x add level had has r entries kept.named found_as named);
      })

  pub rows_again : (before rows : Rows) (n : ℕ) (words : List ℕ) → KeepRows (at s.nodes) s.dim entries before → place_of add.name entries ≡ Some n → IsPut (row_at before) (row_at rows) n (Some words) → KeepsBits add.bits words
      → KeepRows (at t.nodes) t.dim entries rows
  rows_again before rows n words keep place put keeps =
      let ms = members_of (at s.nodes) s.dim (ids_of entries) in
      let y = added_member add level (text_of r.attr) in
      subst (λ d. KeepRows (at t.nodes) d entries rows) (sym (r.grown.inserted.dim ∙ r.out.dim))
      (subst (AreRowsOf (row_at rows)) (sym (members_replaced at s t x add level had has r named (ids_of entries) kept.named.ids))
      (rows_replaced (row_at before) (row_at rows) ms keep y n words (sym (place_is (at s.nodes) s.m s.dim add.name entries kept.named.names) ∙ place) put keeps))
