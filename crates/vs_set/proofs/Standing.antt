-- Who stands at a place: the member of the id that the order has there.
--     live_place, here, has      the id is live, its node's member is the one at the place, and what holds of that member
--     name_place                 the name at a place is the member's
--     keeps_bits                 words that fit keep the member's bits
--     nobody, top_level          the entry: there is one where there are members, and its level
use Rattle.std.proofs.Common.{◌≡◌, ℕ, ◌<◌, false, List, [], ◌∷◌, length, refl, sym, ap, ◌∙◌, subst, arith, is_some}
use Rattle.std.specs.Prelude.{Option, Some, None, IsSome, IsSomeAnd, option_map, slice_get, unwrap_or, nat_eq, ◌||◌}
use Rattle.std.specs.Option.{option_map_or}
use Rattle.std.specs.List.{list_any}
use Rattle.std.proofs.lemmas.Bool.{both_ways, eq-eqb}
use Rattle.std.proofs.lemmas.Option.{slice_get-map, slice_get_within, get_or_from_slice_get}
use Rattle.std.proofs.lemmas.List.FromFn.{length-map-range_with_len}
use Rattle.vs_defs.specs.Bytes.{Bytes}
use Rattle.vs_defs.specs.Words.{FitsDimension, bits_of_words, word_bit}
use Rattle.vs_defs.specs.Store.{Member, no_member}
use Rattle.vs_defs.specs.Beam.{level_at}
use Rattle.vs_graph.specs.declared.node.Node.{Node}
use Rattle.vs_graph.specs.Good.{AreLinksGood}
use Rattle.vs_graph.specs.Standing.{AreIds, member_of_node, member_at, members_of, name_of}
use Rattle.vs_graph.proofs.Goods.{test_from}
use Rattle.vs_graph.proofs.Standing.{member_there}
use Rattle.vs_order.specs.Entries.{Entries, ids_of}
use Rattle.vs_truth.specs.Nearest.{KeepsBits}
use Rattle.vs_set.specs.Kept.{set_by, AreNamed}
use Rattle.vs_set.proofs.Members.{names_are}

id_hit : (o : Option (Bytes × ℕ)) (id : ℕ) → IsSomeAnd o (λ e. id ≡ e.1) → option_map (λ e. e.1) o ≡ Some id
id_hit None id h = absurd h
id_hit (Some e) id h = ap (λ n. Some n) (sym h)

key_hit : (o : Option (Bytes × ℕ)) (n : Bytes) → IsSomeAnd o (λ e. n ≡ e.0) → option_map (λ e. e.0) o ≡ Some n
key_hit None n h = absurd h
key_hit (Some e) n h = ap (λ k. Some k) (sym h)

name_hit : (o : Option Member) (n : Bytes) → option_map (λ x. x.name) o ≡ Some n → IsSomeAnd o (λ x. n ≡ x.name)
name_hit None n h = absurd (both_ways false refl (ap is_some h))
name_hit (Some x) n h = sym (ap (λ (o : Option Bytes). option_map_or (λ k. k) o n) h)

module _ (at : ℕ → Option Node) (m dim : ℕ) (entries : Entries) (named : AreNamed at entries) (k : ℕ) where
  pub name_place : (n : Bytes) → IsSomeAnd (slice_get entries k) (λ e. n ≡ e.0) → IsSomeAnd (slice_get (members_of at dim (ids_of entries)) k) (λ x. n ≡ x.name)
  name_place n h =
      let ms = members_of at dim (ids_of entries) in
      name_hit (slice_get ms k) n
      (sym (slice_get-map (λ (x : Member). x.name) ms k) ∙ ap (λ l. slice_get l k) (names_are at m dim entries named.names) ∙ slice_get-map (λ (e : Bytes × ℕ). e.0) entries k ∙ key_hit (slice_get entries k) n h)

  module _ (id : ℕ) (there : IsSomeAnd (slice_get entries k) (λ e. id ≡ e.1)) where
    id_get : slice_get (ids_of entries) k ≡ Some id
    id_get = slice_get-map (λ (e : Bytes × ℕ). e.1) entries k ∙ id_hit (slice_get entries k) id there

    pub live_place : IsSome (at id)
    live_place = sym (named.ids.live id) ∙ test_from (ids_of entries) id (k, slice_get_within (ids_of entries) k id id_get, get_or_from_slice_get (ids_of entries) k id id id_get)

    pub here : (node : Node) → at id ≡ Some node → slice_get (members_of at dim (ids_of entries)) k ≡ Some (member_of_node dim node)
    here node is = slice_get-map (member_at at dim) (ids_of entries) k ∙ ap (option_map (member_at at dim)) id_get ∙ ap (λ o. Some (option_map_or (member_of_node dim) o no_member)) is

    pub has : (P : Member → Type 0) (node : Node) → at id ≡ Some node → P (member_of_node dim node) → IsSomeAnd (slice_get (members_of at dim (ids_of entries)) k) P
    has P node is p = subst (λ o. IsSomeAnd o P) (sym (here node is)) p

pub keeps_bits : (dim : ℕ) (words : List ℕ) → FitsDimension dim words → KeepsBits (bits_of_words dim words) words
keeps_bits dim words fits =
    let long : length (bits_of_words dim words) ≡ dim = length-map-range_with_len (word_bit words) 0 dim in
    record { fits = subst (λ d. FitsDimension d words) (sym long) fits; same = ap (λ d. bits_of_words d words) long }

pub nobody : (at : ℕ → Option Node) (dim : ℕ) (ids : List ℕ) → AreIds at ids → ((id : ℕ) → at id ≡ None) → 0 < length (members_of at dim ids) → ⊥
nobody at dim [] are none some = omega (arith, some)
nobody at dim (x ∷ xs) are none some =
    both_ways (is_some (at x)) (ap is_some (none x)) (sym (are.live x) ∙ ap (λ b. b || list_any (nat_eq x) xs) (eq-eqb x x refl))

pub top_level : (at : ℕ → Option Node) (entry : Option ℕ) (m dim cut : ℕ) (entries : Entries) (e : ℕ) (node : Node) → AreLinksGood at m dim → AreIds at (ids_of entries) → entry ≡ Some e → at e ≡ Some node
    → option_map (level_at (set_by at entry m dim cut entries)) (option_map (name_of at) entry) ≡ Some node.level
top_level at entry m dim cut entries e node good are is there =
    ap (λ o. option_map (level_at (set_by at entry m dim cut entries)) (option_map (name_of at) o)) is
    ∙ ap (λ n. Some n)
    (ap (λ o. unwrap_or (option_map (λ (y : Member). y.level) o) 0) (member_there at m dim (ids_of entries) good are e (are.live e ∙ ap is_some there))
    ∙ ap (λ o. (option_map_or (member_of_node dim) o no_member).level) there)

-- ---- a place is within

pub within_get : {X : Type 0} (xs : List X) (k : ℕ) (P : X → Type 0) → IsSomeAnd (slice_get xs k) P → k < length xs
within_get {X} xs k P h = by (slice_get xs k) refl h where
  by : (o : Option X) → slice_get xs k ≡ o → IsSomeAnd o P → k < length xs
  by None e h = absurd h
  by (Some x) e h = slice_get_within xs k x e

-- ---- what holds of the member of whatever node is there

pub place_has : (at : ℕ → Option Node) (m dim : ℕ) (entries : Entries) (named : AreNamed at entries) (k id : ℕ) (there : IsSomeAnd (slice_get entries k) (λ e. id ≡ e.1)) (P : Member → Type 0)
    → ((node : Node) → at id ≡ Some node → P (member_of_node dim node)) → IsSomeAnd (slice_get (members_of at dim (ids_of entries)) k) P
place_has at m dim entries named k id there P f = by (at id) refl (live_place at m dim entries named k id there) where
  by : (o : Option Node) → at id ≡ o → IsSome o → IsSomeAnd (slice_get (members_of at dim (ids_of entries)) k) P
  by None e live = absurd (both_ways false refl live)
  by (Some node) e live = has at m dim entries named k id there P node e (f node e)
