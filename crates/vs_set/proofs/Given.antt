-- A member with another attribute.
--     names_given            each name is as it was
--     counted_given          how many members have an attribute then
--     with_none              an attribute for a name that is no member's changes nobody
--     kept_given, rows_kept, set_given, counts      the set after it
use Rattle.std.proofs.Common.{◌≡◌, ℕ, ◌+◌, ◌≤◌, Bool, true, false, cond, List, [], ◌∷◌, refl, sym, ap, ◌∙◌, arith, subst, get_or, is_some, inl, inr}
use Rattle.std.specs.Prelude.{IsSome, option_map, Some, None}
use Rattle.std.specs.Option.{option_map_or}
use Rattle.std.specs.declared.option.Option.{Option}
use Rattle.std.proofs.lemmas.Bool.{cases_eq, both_ways}
use Rattle.vs_defs.specs.Bytes.{Bytes}
use Rattle.vs_defs.specs.PlainStep.{attr_after, with_attr}
use Rattle.vs_defs.specs.Store.{Member, is_of_name, is_member, member_of, no_member}
use Rattle.vs_graph.specs.declared.node.Attr.{Attr}
use Rattle.vs_graph.specs.declared.node.Node.{Node}
use Rattle.vs_graph.specs.Attribute.{ChangesAttr, with_attribute}
use Rattle.vs_graph.specs.Seen.{Seen}
use Rattle.vs_graph.specs.Standing.{AreIds, member_of_node, member_at, members_of, name_of}
use Rattle.vs_order.specs.Entries.{Entries, ids_of, id_of}
use Rattle.vs_page.specs.Told.{row_at}
use Rattle.vs_page.specs.declared.rows.Rows.{Rows}
use Rattle.vs_set.proofs.Telling.{rows_given}
use Rattle.vs_set.specs.Kept.{set_by, AreNamed, IsKept, AreRowsOf, KeepRows, attribute_count, one_if}
use Rattle.vs_set.specs.Changed.{attributed}
use Rattle.vs_set.specs.Given.{IsGiven}
use Rattle.vs_set.proofs.Counting.{has_attr, count_has, count_one}
use Rattle.vs_laws.proofs.Options.{is_some_of_map}
use Rattle.vs_set.proofs.Members.{found}

abbrev name_in : Option Node → Bytes
name_in o = option_map_or (λ body. body.name) (option_map (λ (n : Node). n.body) o) []

module _ (at new : ℕ → Option Node) (id : ℕ) (attr : Option Attr) (change : ChangesAttr at new id attr) where
  pub names_given : (q : ℕ) → name_of new q ≡ name_of at q
  names_given q = elim (cases_eq q id) [
    | inl is ↦ ap (name_of new) is ∙ ap name_in change.there ∙ by (at id) ∙ ap (name_of at) (sym is)
    | inr ne ↦ ap name_in (change.others q ne)
  ] where
    by : (o : Option Node) → name_in (option_map (with_attribute attr) o) ≡ name_in o
    by None = refl
    by (Some n) = refl

  has_one : (dim : ℕ) → IsSome (at id) → has_attr (member_at new dim id) ≡ one_if (is_some attr)
  has_one dim live = ap (λ o. has_attr (option_map_or (member_of_node dim) o no_member)) change.there ∙ by (at id) live where
    by : (o : Option Node) → IsSome o → has_attr (option_map_or (member_of_node dim) (option_map (with_attribute attr) o) no_member) ≡ one_if (is_some attr)
    by None h = absurd (both_ways false refl h)
    by (Some n) h = ap one_if (is_some_of_map (λ (a : Attr). a.text) attr)

  pub counted_given : (dim : ℕ) (ids : List ℕ) → AreIds at ids → IsSome (at id) → attribute_count (members_of new dim ids) + has_attr (member_at at dim id) ≡ attribute_count (members_of at dim ids) + one_if (is_some attr)
  counted_given dim ids are live =
      omega (
        arith,
        count_one (member_at at dim) (member_at new dim) id (λ q ne. ap (λ o. option_map_or (member_of_node dim) o no_member) (change.others q ne)) ids are.once (are.live id ∙ live),
        has_one dim live,
      )

pub with_none : (name : Bytes) (attr : Option Bytes) (ms : List Member) → is_member name ms ≡ false → with_attr name attr ms ≡ ms
with_none name attr [] h = refl
with_none name attr (y ∷ ys) h = by (is_of_name name y) h (with_none name attr ys) where
  by : (b : Bool) → is_some (cond b (Some y) (member_of name ys)) ≡ false → (is_member name ys ≡ false → with_attr name attr ys ≡ ys)
      → cond b (record y { attr = attr }) y ∷ with_attr name attr ys ≡ y ∷ ys
  by true k rec = absurd (both_ways true k refl)
  by false k rec = ap (λ l. y ∷ l) (rec k)

-- ---- the set

module _ {N : Type 0} (at : N → ℕ → Option Node) (s t : Seen N) (id : ℕ) (text : Option Bytes) (had has : Bool) (g : IsGiven at s t id text had has) (entries : Entries) (named : AreNamed (at s.nodes) entries) where
  pub counts : (name : Bytes) → id_of name entries ≡ Some id → one_if had ≤ attribute_count (members_of (at s.nodes) s.dim (ids_of entries))
  counts name is =
      let ms = members_of (at s.nodes) s.dim (ids_of entries) in
      let of_name : member_of name ms ≡ Some (member_at (at s.nodes) s.dim id) = sym (found (at s.nodes) s.m s.dim name entries named.names) ∙ ap (option_map (member_at (at s.nodes) s.dim)) is in
      omega (arith, count_has name (member_at (at s.nodes) s.dim id) ms of_name, ap one_if g.had_is)

  pub set_given : (cut : ℕ) (name : Bytes) → name_of (at s.nodes) id ≡ name → set_by (at t.nodes) t.entry t.m t.dim cut entries ≡ attributed name text (set_by (at s.nodes) s.entry s.m s.dim cut entries)
  set_given cut name is =
      let ids = ids_of entries in
      let members : members_of (at t.nodes) t.dim ids ≡ with_attr name (attr_after text None) (members_of (at s.nodes) s.dim ids)
      = ap (λ d. members_of (at t.nodes) d ids) g.dim ∙ g.members ids named.ids ∙ ap (λ n. with_attr n (attr_after text None) (members_of (at s.nodes) s.dim ids)) is in
      λ i. record { contents = record { dim = g.dim i; m = g.m i; cut = cut; members = members i }; wiring = g.wiring ids i }

  pub rows_kept : (rows : Rows) → KeepRows (at s.nodes) s.dim entries rows → KeepRows (at t.nodes) t.dim entries rows
  rows_kept rows keep =
      subst (λ d. KeepRows (at t.nodes) d entries rows) (sym g.dim)
      (subst (AreRowsOf (row_at rows)) (sym (g.members (ids_of entries) named.ids))
      (rows_given (row_at rows) (name_of (at s.nodes) id) (attr_after text None) (members_of (at s.nodes) s.dim (ids_of entries)) keep))

  pub kept_given : (order : Entries) (attributes n : ℕ) → IsKept (at s.nodes) s.dim entries order attributes → n + one_if had ≡ attributes + one_if has → IsKept (at t.nodes) t.dim entries order n
  kept_given order attributes n kept is =
      subst (λ d. IsKept (at t.nodes) d entries order n) (sym g.dim) (record {
        named = record { ids = g.ids (ids_of entries) named.ids; names = λ k d h. g.names (get_or entries k d).1 ∙ named.names k d h };
        same = kept.same;
        counted = omega (arith, is, kept.counted, g.counted (ids_of entries) named.ids);
      })
