-- The members after one of them is taken out: the last one stands in its place.
--     members_after, named_after      the members, and their names with their ids
--     counted_after                   how many of them have an attribute
--     low, id_there, named_there      the place of a name: its id, and its name in the graph
--     removes, kept_out, counts       the set after it
--     rows_out                        its rows
use Rattle.std.proofs.Common.{◌≡◌, ◌≢◌, ℕ, ◌<◌, ◌≤◌, ◌+◌, Bool, true, false, ◌||◌, List, [], ◌∷◌, length, refl, sym, ap, ◌∙◌, arith, is_some, subst, inl, inr, get_or}
use Rattle.std.specs.Prelude.{All, nat_eq, Option, Some, IsSome, IsSomeAnd, slice_get, swap_remove}
use Rattle.std.specs.Map.{keys_of}
use Rattle.std.specs.List.{list_any, IsDistinct, AllByRecursion}
use Rattle.std.specs.List.Sorted.{IsPermutation}
use Rattle.std.proofs.lemmas.Bool.{cases_eq, eq-eqb, ne_eqb, both_ways}
use Rattle.std.proofs.lemmas.List.{length-map, get_or_default, get_or-map}
use Rattle.std.proofs.lemmas.List.Elements.{All-tail, All-from_recursion}
use Rattle.std.proofs.lemmas.List.Folds.{list_any_none}
use Rattle.std.proofs.lemmas.List.Quantifiers.{position-Some}
use Rattle.std.proofs.lemmas.Option.{slice_get-get_or}
use Rattle.std.proofs.lemmas.Slice.Eq.{bytes_eq-Decides}
use Rattle.std.proofs.lemmas.List.Sorted.{All-permutation, IsPermutation-swap_remove, list_any-IsPermutation}
use Rattle.std.proofs.lemmas.List.Sums.{sum_by-swap_remove}
use Rattle.std.proofs.lemmas.Map.Keys.{IsDistinct-IsPermutation, IsDistinct-head}
use Rattle.vs_laws.proofs.Tests.{nat_eq_flips}
use Rattle.vs_defs.specs.Bytes.{Bytes, same_name}
use Rattle.vs_defs.specs.Removal.{Removes}
use Rattle.vs_defs.specs.Store.{Member, no_member, without_member}
use Rattle.vs_graph.specs.declared.node.Node.{Node}
use Rattle.vs_graph.specs.Seen.{Seen}
use Rattle.vs_graph.specs.Named.{is_live}
use Rattle.vs_graph.specs.Standing.{AreIds, member_at, members_of, name_of, wiring_of}
use Rattle.vs_graph.proofs.Standing.{good_set, member_name}
use Rattle.vs_unlink.specs.Unlinked.{IsWithout}
use Rattle.vs_unlink.proofs.Bare.{live_bare}
use Rattle.vs_unlink.proofs.Leavings.{same_member_by}
use Rattle.vs_order.specs.Entries.{Entries, ids_of, place_of, without_place}
use Rattle.vs_page.specs.Rows.{IsPut}
use Rattle.vs_page.specs.Told.{row_at}
use Rattle.vs_page.specs.declared.rows.Rows.{Rows}
use Rattle.vs_order.proofs.FreeIds.{goes_out}
use Rattle.vs_order.proofs.Places.{swap_map, swap_default}
use Rattle.vs_set.specs.Again.{IsOut}
use Rattle.vs_set.specs.Changed.{RemovesMember}
use Rattle.vs_set.specs.Kept.{set_by, AreNamed, IsKept, AreRowsOf, KeepRows, attribute_count, one_if}
use Rattle.vs_set.proofs.Growth.{name_kept, entry_live}
use Rattle.vs_set.proofs.Places.{is_same, others as no_other, removed_at}
use Rattle.vs_set.proofs.Counting.{has_attr, same_members}
use Rattle.vs_set.proofs.Telling.{rows_removed}

module _ (at new : ℕ → Option Node) (dim : ℕ) (entries : Entries) (named : AreNamed at entries) (place x : ℕ) (low : place < length entries) (is_x : get_or (ids_of entries) place x ≡ x) (gone : IsWithout at new x) where
  abbrev ids : List ℕ
  ids = ids_of entries

  abbrev left : Entries
  left = without_place place entries

  abbrev rest : List ℕ
  rest = swap_remove ids place x

  low_ids : place < length ids
  low_ids = omega (arith, low, length-map entries (λ (e : Bytes × ℕ). e.1))

  after : ids_of left ≡ rest
  after = swap_map (λ (e : Bytes × ℕ). e.1) entries place ([], 0) x (omega (arith, low))

  turned : IsPermutation ids (x ∷ rest)
  turned = subst (λ q. IsPermutation ids (q ∷ rest)) is_x (goes_out ids place x low_ids)

  once_left : IsDistinct nat_eq (x ∷ rest)
  once_left = IsDistinct-IsPermutation nat_eq nat_eq_flips ids (x ∷ rest) turned named.ids.once

  others : AllByRecursion (λ y. nat_eq x y ≡ false) rest
  others = IsDistinct-head nat_eq x rest once_left

  once_rest : IsDistinct nat_eq rest
  unfolding IsDistinct
  once_rest = once_left.1

  each_other : All (λ y. nat_eq x y ≡ false) rest
  each_other = All-from_recursion (λ y. nat_eq x y ≡ false) rest others

  same_at : (q : ℕ) → q ≢ x → member_at new dim q ≡ member_at at dim q
  same_at q ne = same_member_by (new q) (at q) dim (gone.others q ne)

  pub members_after : members_of new dim (ids_of left) ≡ swap_remove (members_of at dim ids) place no_member
  members_after =
      ap (members_of new dim) after
      ∙ same_members (member_at at dim) (member_at new dim) x same_at rest others
      ∙ swap_map (member_at at dim) ids place x no_member (omega (arith, low_ids))

  live_left : (q : ℕ) → is_live rest q ≡ is_some (new q)
  live_left q = elim (cases_eq q x) [
    | inl is ↦ ap (λ k. list_any (nat_eq k) rest) is ∙ list_any_none (nat_eq x) rest each_other ∙ sym (ap is_some (ap new is ∙ gone.gone))
    | inr ne ↦
        ap (λ b. b || list_any (nat_eq q) rest) (sym (ne_eqb q x ne)) ∙ sym (list_any-IsPermutation (nat_eq q) ids (x ∷ rest) turned)
        ∙ named.ids.live q ∙ sym (live_bare (at q)) ∙ sym (ap is_some (gone.others q ne)) ∙ live_bare (new q)
  ]

  abbrev first : Bytes × ℕ
  first = get_or entries place ([], 0)

  turned_entries : IsPermutation entries (first ∷ left)
  turned_entries =
      subst (λ l. IsPermutation entries (first ∷ l)) (swap_default entries place first ([], 0) (omega (arith, low)))
      (IsPermutation-swap_remove entries place first low (get_or_default entries place ([], 0) first low))

  named_left : All (λ e. name_of at e.1 ≡ e.0) left
  named_left = All-tail (λ e. name_of at e.1 ≡ e.0) first left (All-permutation (λ e. name_of at e.1 ≡ e.0) entries (first ∷ left) turned_entries named.names)

  apart : (k : ℕ) (d : Bytes × ℕ) → k < length left → (get_or left k d).1 ≢ x
  apart k d lt is =
      let same : get_or (ids_of left) k d.1 ≡ (get_or left k d).1 = get_or-map (λ (e : Bytes × ℕ). e.1) left k d d.1 lt in
      let there : get_or rest k d.1 ≡ x = ap (λ l. get_or l k d.1) (sym after) ∙ same ∙ is in
      let short : k < length rest = omega (arith, lt, length-map left (λ (e : Bytes × ℕ). e.1), ap length after) in
      both_ways (nat_eq x (get_or rest k d.1)) (each_other k d.1 short) (eq-eqb x (get_or rest k d.1) (sym there))

  pub named_after : AreNamed new left
  named_after = record {
    ids = subst (AreIds new) (sym after) (record { once = once_rest; live = live_left });
    names = λ k d lt. name_kept new at (get_or left k d).1 (gone.others (get_or left k d).1 (apart k d lt)) ∙ named_left k d lt;
  }

  pub counted_after : attribute_count (members_of new dim (ids_of left)) + has_attr (member_at at dim x) ≡ attribute_count (members_of at dim ids)
  counted_after =
      let ms = members_of at dim ids in
      let there : get_or ms place no_member ≡ member_at at dim x = get_or-map (member_at at dim) ids place x no_member low_ids ∙ ap (member_at at dim) is_x in
      omega (arith, ap attribute_count members_after, sum_by-swap_remove has_attr ms place no_member (omega (arith, low_ids, length-map ids (member_at at dim))), ap has_attr there)

-- ---- the place of a name

module _ (name : Bytes) (entries : Entries) (place : ℕ) (is_place : place_of name entries ≡ Some place) where
  stands : (place < length (keys_of entries)) × (same_name name (get_or (keys_of entries) place []) ≡ true)
  stands =
      let p = position-Some (same_name name) (keys_of entries) place [] is_place in
      (p.0, p.1)

  pub low : place < length entries
  low = omega (arith, stands.0, length-map entries (λ (e : Bytes × ℕ). e.0))

  abbrev entry : Bytes × ℕ
  entry = get_or entries place ([], 0)

  name_there : entry.0 ≡ name
  name_there = sym (get_or-map (λ (e : Bytes × ℕ). e.0) entries place ([], 0) [] low) ∙ sym ((bytes_eq-Decides name (get_or (keys_of entries) place [])).0 stands.1)

  module _ (x : ℕ) (is_id : IsSomeAnd (slice_get entries place) (λ e. x ≡ e.1)) where
    id_is : x ≡ entry.1
    id_is = subst (λ o. IsSomeAnd o (λ e. x ≡ e.1)) (slice_get-get_or entries place ([], 0) low) is_id

    pub id_there : get_or (ids_of entries) place x ≡ x
    id_there = get_or-map (λ (e : Bytes × ℕ). e.1) entries place ([], 0) x low ∙ sym id_is

    module _ (at : ℕ → Option Node) (named : AreNamed at entries) where
      pub live_there : IsSome (at x)
      live_there = ap (λ q. is_some (at q)) id_is ∙ entry_live at entries named.ids place ([], 0) low

      pub named_there : name_of at x ≡ name
      named_there = ap (name_of at) id_is ∙ named.names place ([], 0) low ∙ name_there

-- ---- the set

module _ {N : Type 0} (at : N → ℕ → Option Node) (s t : Seen N) (x : ℕ) (out : IsOut at s t x) (name : Bytes) (place : ℕ) (entries : Entries) (is_place : place_of name entries ≡ Some place)
    (is_id : IsSomeAnd (slice_get entries place) (λ e. x ≡ e.1)) (named : AreNamed (at s.nodes) entries) where
  abbrev before : List Member
  before = members_of (at s.nodes) s.dim (ids_of entries)

  abbrev gone_member : Member
  gone_member = member_at (at s.nodes) s.dim x

  there : place < length entries
  there = low name entries place is_place

  id_here : get_or (ids_of entries) place x ≡ x
  id_here = id_there name entries place is_place x is_id

  named_out : AreNamed (at t.nodes) (without_place place entries)
  named_out = named_after (at s.nodes) (at t.nodes) s.dim entries named place x there id_here out.gone

  member_there : slice_get before place ≡ Some gone_member
  member_there =
      let short : place < length (ids_of entries) = omega (arith, there, length-map entries (λ (e : Bytes × ℕ). e.1)) in
      slice_get-get_or before place no_member (omega (arith, short, length-map (ids_of entries) (member_at (at s.nodes) s.dim)))
      ∙ ap (λ (y : Member). Some y) (get_or-map (member_at (at s.nodes) s.dim) (ids_of entries) place x no_member short ∙ ap (member_at (at s.nodes) s.dim) id_here)

  of_name : gone_member.name ≡ name
  of_name = member_name (at s.nodes) s.m s.dim x ∙ named_there name entries place is_place x is_id (at s.nodes) named

  members_out : members_of (at t.nodes) s.dim (ids_of (without_place place entries)) ≡ without_member name before
  members_out =
      let once = (good_set (at s.nodes) s.entry s.m s.dim 0 (ids_of entries) out.before named.ids).names in
      members_after (at s.nodes) (at t.nodes) s.dim entries named place x there id_here out.gone
      ∙ sym (removed_at name before place gone_member no_member member_there (is_same name gone_member of_name) (no_other before once name place gone_member member_there of_name))

  pub removes : (cut0 cut : ℕ) → RemovesMember name cut (set_by (at s.nodes) s.entry s.m s.dim cut0 entries) (set_by (at t.nodes) t.entry s.m s.dim cut (without_place place entries))
  removes cut0 cut = record {
    contents = ap (λ (ms : List Member). record { dim = s.dim; m = s.m; cut = cut; members = ms }) members_out;
    wiring =
        subst (λ n. Removes (set_by (at s.nodes) s.entry s.m s.dim cut0 entries) n (wiring_of (at t.nodes) t.entry (ids_of (without_place place entries))))
        (named_there name entries place is_place x is_id (at s.nodes) named) (out.removes cut0 (ids_of entries) (ids_of (without_place place entries)) named.ids named_out.ids);
  }

  pub rows_out : (before_rows rows : Rows) (last : ℕ) → KeepRows (at s.nodes) s.dim entries before_rows → last + 1 ≡ length entries → IsPut (row_at before_rows) (row_at rows) place (row_at before_rows last)
      → (after : Entries) → after ≡ without_place place entries → KeepRows (at t.nodes) t.dim after rows
  rows_out before_rows rows last keep end put after is_after =
      let long : length before ≡ length entries = omega (arith, length-map (ids_of entries) (member_at (at s.nodes) s.dim), length-map entries (λ (e : Bytes × ℕ). e.1)) in
      subst (λ d. KeepRows (at t.nodes) d after rows) (sym out.dim)
      (subst (λ es. KeepRows (at t.nodes) s.dim es rows) (sym is_after)
      (subst (AreRowsOf (row_at rows)) (sym (members_after (at s.nodes) (at t.nodes) s.dim entries named place x there id_here out.gone))
      (rows_removed (row_at before_rows) (row_at rows) before keep place last (omega (arith, there, long)) (omega (arith, end, long)) put)))

  module _ (had : Bool) (had_is : had ≡ is_some gone_member.attr) where
    counted_out : attribute_count (members_of (at t.nodes) s.dim (ids_of (without_place place entries))) + one_if had ≡ attribute_count before
    counted_out = omega (arith, ap one_if had_is, counted_after (at s.nodes) (at t.nodes) s.dim entries named place x there id_here out.gone)

    pub counts : one_if had ≤ attribute_count before
    counts = omega (arith, counted_out)

    pub kept_out : (order : Entries) (attributes : ℕ) → IsKept (at s.nodes) s.dim entries order attributes → (after later : Entries) (n : ℕ) → after ≡ without_place place entries → later ≡ without_place place entries
        → n + one_if had ≡ attributes → IsKept (at t.nodes) t.dim after later n
    kept_out order attributes kept after later n is_after is_later is_n =
        subst (λ d. IsKept (at t.nodes) d after later n) (sym out.dim)
        (subst (λ es. IsKept (at t.nodes) s.dim es later n) (sym is_after)
        (subst (λ es. IsKept (at t.nodes) s.dim (without_place place entries) es n) (sym is_later)
        (record { named = named_out; same = refl; counted = omega (arith, is_n, kept.counted, counted_out) })))
