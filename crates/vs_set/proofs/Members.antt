-- Names, ids and members: what is found by a name is the same of each.
--     names_are, found, place_is, has_is      the names of the members, the member of a name, its place, and whether it is one
--     named_at, live_at      who is at the id of a name is live and has the name
--     counted          how many members there are
--     sound            a set whose graph is good is sound
--     named_empty      no entries are those of an empty graph
--     fresh_name       a name that is no member is no live node's
use Rattle.std.proofs.Common.{◌≡◌, ◌≢◌, inl, inr, subst, ℕ, suc, ◌+◌, ◌^◌, Bool, true, false, not, cond, List, [], ◌∷◌, ◌≤◌, length, map, refl, sym, ap, ◌∙◌, arith, is_some}
use Rattle.std.specs.Prelude.{All, option_map, position, Option, Some, None, IfSome, IsSome, nat_lt, nat_eq, ◌||◌}
use Rattle.std.specs.List.{position_or_len, list_any}
use Rattle.std.specs.Option.{option_map_or}
use Rattle.std.specs.Map.{keys_of}
use Rattle.std.proofs.lemmas.Bool.{both_ways, or_cases, eqb-true, eq-eqb}
use Rattle.std.proofs.Math.Bool.{or-true}
use Rattle.vs_laws.proofs.Options.{is_some_of_map}
use Rattle.std.proofs.lemmas.Slice.Eq.{bytes_eq-Decides}
use Rattle.std.proofs.lemmas.List.{length-map}
use Rattle.vs_defs.specs.Bytes.{Bytes, same_name}
use Rattle.vs_defs.specs.Store.{Member, names_of, member_of, is_member, is_of_name}
use Rattle.vs_graph.specs.declared.node.Node.{Node}
use Rattle.vs_graph.specs.Standing.{AreIds, member_at, members_of, name_of}
use Rattle.vs_graph.proofs.Standing.{member_name}
use Rattle.vs_graph.specs.Good.{IsGood}
use Rattle.vs_graph.proofs.Standing.{good_set}
use Rattle.vs_graph.proofs.Goods.{distinct_none}
use Rattle.vs_order.specs.Entries.{Entries, ids_of, place_of, id_of}
use Rattle.vs_set.specs.Kept.{set_by, AreNamed, IsSound}

position_of_map : {X Y : Type 0} (p : Y → Bool) (f : X → Y) (xs : List X) → position_or_len p (map f xs) ≡ position_or_len (λ x. p (f x)) xs
position_of_map p f [] = refl
position_of_map p f (x ∷ xs) = ap (λ n. cond (not (p (f x))) (1 + n) 0) (position_of_map p f xs)

module _ (at : ℕ → Option Node) (m dim : ℕ) where
  pub names_are : (entries : Entries) → All (λ e. name_of at e.1 ≡ e.0) entries → names_of (members_of at dim (ids_of entries)) ≡ keys_of entries
  names_are [] all = refl
  names_are (e ∷ es) all =
      ap (λ n. n ∷ names_of (members_of at dim (ids_of es))) (member_name at m dim e.1 ∙ all 0 e (omega arith))
      ∙ ap (λ l. e.0 ∷ l) (names_are es (λ k d h. all (suc k) d (omega (arith, h))))

  found_by : (e : Bytes × ℕ) (o : Option ℕ) (r : Option Member) (b c : Bool) → b ≡ c → option_map (member_at at dim) o ≡ r
      → option_map (member_at at dim) (cond b (Some e.1) o) ≡ cond c (Some (member_at at dim e.1)) r
  found_by e o r true true h k = refl
  found_by e o r true false h k = absurd (both_ways true h refl)
  found_by e o r false true h k = absurd (both_ways false refl h)
  found_by e o r false false h k = k

  pub found : (name : Bytes) (entries : Entries) → All (λ e. name_of at e.1 ≡ e.0) entries → option_map (member_at at dim) (id_of name entries) ≡ member_of name (members_of at dim (ids_of entries))
  found name [] all = refl
  found name (e ∷ es) all =
      found_by e (id_of name es) (member_of name (members_of at dim (ids_of es))) (same_name name e.0) (is_of_name name (member_at at dim e.1))
      (ap (same_name name) (sym (member_name at m dim e.1 ∙ all 0 e (omega arith)))) (found name es (λ k d h. all (suc k) d (omega (arith, h))))

  pub has_is : (name : Bytes) (entries : Entries) → All (λ e. name_of at e.1 ≡ e.0) entries → is_some (id_of name entries) ≡ is_member name (members_of at dim (ids_of entries))
  has_is name entries all = sym (is_some_of_map (member_at at dim) (id_of name entries)) ∙ ap is_some (found name entries all)

  pub counted : (entries : Entries) → length (members_of at dim (ids_of entries)) ≡ length entries
  counted entries = length-map (ids_of entries) (member_at at dim) ∙ length-map entries (λ e. e.1)

  pub place_is : (name : Bytes) (entries : Entries) → All (λ e. name_of at e.1 ≡ e.0) entries → place_of name entries ≡ position (is_of_name name) (members_of at dim (ids_of entries))
  place_is name entries all =
      let ms = members_of at dim (ids_of entries) in
      let same : position_or_len (same_name name) (keys_of entries) ≡ position_or_len (is_of_name name) ms
      = ap (position_or_len (same_name name)) (sym (names_are entries all)) ∙ position_of_map (same_name name) (λ (x : Member). x.name) ms in
      let long : length (keys_of entries) ≡ length ms = length-map entries (λ e. e.0) ∙ sym (counted entries) in
      λ i. cond (nat_lt (same i) (long i)) (Some (same i)) None

  pub sound : (entry : Option ℕ) (cut : ℕ) (entries : Entries) → IsGood at entry m dim → AreNamed at entries → length entries ≤ 2 ^ 20 → IsSound (set_by at entry m dim cut entries)
  sound entry cut entries good kept few = record {
    good = good_set at entry m dim cut (ids_of entries) good kept.ids;
    m_low = good.m_low;
    m_high = good.m_high;
    dim_low = good.dim_low;
    dim_high = good.dim_high;
    few = omega (arith, counted entries, few);
  }

-- ---- the id of a name

some_is : (x y : ℕ) → Some x ≡ Some y → x ≡ y
some_is x y h = ap (λ (o : Option ℕ). option_map_or (λ k. k) o x) h

live_in : (name : Bytes) (entries : Entries) (x : ℕ) → id_of name entries ≡ Some x → list_any (nat_eq x) (ids_of entries) ≡ true
live_in name [] x h = absurd (both_ways false refl (ap is_some h))
live_in name (e ∷ es) x h = by (same_name name e.0) h (live_in name es x) where
  by : (b : Bool) → cond b (Some e.1) (id_of name es) ≡ Some x → (id_of name es ≡ Some x → list_any (nat_eq x) (ids_of es) ≡ true) → (nat_eq x e.1 || list_any (nat_eq x) (ids_of es)) ≡ true
  by true k rec = ap (λ b. b || list_any (nat_eq x) (ids_of es)) (eq-eqb x e.1 (sym (some_is e.1 x k)))
  by false k rec = ap (λ b. nat_eq x e.1 || b) (rec k) ∙ or-true (nat_eq x e.1)

pub live_at : (at : ℕ → Option Node) (name : Bytes) (entries : Entries) (x : ℕ) → AreIds at (ids_of entries) → id_of name entries ≡ Some x → IsSome (at x)
live_at at name entries x are h = sym (are.live x) ∙ live_in name entries x h

pub named_at : (at : ℕ → Option Node) (name : Bytes) (entries : Entries) (x : ℕ) → All (λ e. name_of at e.1 ≡ e.0) entries → id_of name entries ≡ Some x → name_of at x ≡ name
named_at at name [] x all h = absurd (both_ways false refl (ap is_some h))
named_at at name (e ∷ es) x all h = by (same_name name e.0) refl h (named_at at name es x (λ k d g. all (suc k) d (omega (arith, g)))) where
  by : (b : Bool) → same_name name e.0 ≡ b → cond b (Some e.1) (id_of name es) ≡ Some x → (id_of name es ≡ Some x → name_of at x ≡ name) → name_of at x ≡ name
  by true same k rec = ap (name_of at) (sym (some_is e.1 x k)) ∙ all 0 e (omega arith) ∙ sym ((bytes_eq-Decides name e.0).0 same)
  by false same k rec = rec k

-- ---- nobody

none_some : (o : Option Node) → o ≡ None → is_some o ≡ false
none_some None h = refl
none_some (Some node) h = absurd (both_ways true (ap is_some h) refl)

pub named_empty : (at : ℕ → Option Node) → ((id : ℕ) → at id ≡ None) → AreNamed at []
named_empty at none = record {
  ids = record { once = distinct_none; live = λ id. sym (none_some (at id) (none id)) };
  names = λ k d h. absurd (omega (arith, h));
}

-- ---- names that are free

some_cond : {X : Type 0} (b : Bool) (x : X) (o : Option X) → (b ≡ false → is_some o ≡ true) → is_some (cond b (Some x) o) ≡ true
some_cond true x o h = refl
some_cond false x o h = h refl

module _ (at : ℕ → Option Node) (m dim : ℕ) where
  live_member : (q : ℕ) (ids : List ℕ) → list_any (nat_eq q) ids ≡ true → is_member (name_of at q) (members_of at dim ids) ≡ true
  live_member q [] h = absurd (both_ways false refl h)
  live_member q (x ∷ xs) h =
      some_cond (is_of_name (name_of at q) (member_at at dim x)) (member_at at dim x) (member_of (name_of at q) (members_of at dim xs))
      (λ no. elim (or_cases (nat_eq q x) (list_any (nat_eq q) xs) h) [
        | inl e ↦ absurd (both_ways (is_of_name (name_of at q) (member_at at dim x)) no
            ((bytes_eq-Decides (name_of at q) (member_at at dim x).name).1 (ap (name_of at) (eqb-true q x e) ∙ sym (member_name at m dim x))))
        | inr later ↦ live_member q xs later
      ])

  pub fresh_name : (name : Bytes) (ids : List ℕ) → AreIds at ids → is_member name (members_of at dim ids) ≡ false → (q : ℕ) → IfSome (at q) (λ other. other.body.name ≢ name)
  fresh_name name ids are free q = by (at q) refl where
    by : (o : Option Node) → at q ≡ o → IfSome o (λ other. other.body.name ≢ name)
    by None e = tt
    by (Some node) e = λ same.
        both_ways (is_member name (members_of at dim ids)) free
        (subst (λ n. is_member n (members_of at dim ids) ≡ true) (ap (λ o. option_map_or (λ body. body.name) (option_map (λ (k : Node). k.body) o) []) e ∙ same) (live_member q ids (are.live q ∙ ap is_some e)))
