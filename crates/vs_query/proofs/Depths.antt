-- The layers of a member, from its level down to 0.
--     layer_is                     the hits at one of them, with names
--     length_down, layer_down      how many there are, and which one is at a depth
--     one_more, all_of             their hits, one layer after the other, until there are all
--     layers_few                   no hit of theirs differs in more bits than there are
use Rattle.std.proofs.Common.{◌≡◌, ℕ, zero, suc, ◌+◌, ◌-◌, ◌≤◌, ◌<◌, List, [], ◌∷◌, ◌++◌, All, length, get_or, map, take, drop, refl, sym, ap, ◌∙◌, arith}
use Rattle.std.specs.Prelude.{nat_le, false, Option, Some, None, IsSomeAnd, option_map, slice_get, unwrap_or}
use Rattle.std.specs.List.{AllByRecursion}
use Rattle.std.proofs.lemmas.Bool.{cond-true, le-leb}
use Rattle.std.proofs.lemmas.List.{map-append, take_more, take_all}
use Rattle.std.proofs.lemmas.List.Elements.{All-from_recursion}
use Rattle.vs_defs.specs.Vector.{Vector}
use Rattle.vs_defs.specs.Bytes.{Bytes}
use Rattle.vs_defs.specs.Request.{Hit}
use Rattle.vs_defs.specs.Store.{Set, Member, HasNamesOnce}
use Rattle.vs_defs.specs.Answers.{layer_hits, members_named}
use Rattle.vs_defs.specs.Beam.{layers_down}
use Rattle.vs_defs.specs.Links.{links_of, neighbours, bits_at}
use Rattle.vs_defs.specs.Truth as truth
use Rattle.vs_defs.specs.Truth.{by_nearness}
use Rattle.vs_command.specs.declared.answer.NamedHit.{NamedHit}
use Rattle.vs_command.specs.Answers.{hits_of}
use Rattle.vs_truth.specs.declared.candidate.Hit as found
use Rattle.vs_truth.specs.Nearest.{AreHits}
use Rattle.vs_set.specs.Found.{linked_to}
use Rattle.vs_query.specs.Found.{hit_at}
use Rattle.vs_query.proofs.Named.{named_is, all_few}
use Rattle.vs_query.proofs.Places.{own_name}

-- ---- one of them

pub layer_is : (snap : Set) (place layer : ℕ) (hits : List found.Hit) (named : List NamedHit) → HasNamesOnce snap.contents.members
    → IsSomeAnd (slice_get snap.contents.members place) (λ x. AreHits x.bits snap.contents.members (linked_to snap x.name layer) hits) → hits_of named ≡ map (hit_at false snap.contents.members) hits
    → IsSomeAnd (slice_get snap.contents.members place) (λ x. hits_of named ≡ layer_hits snap x.name x.bits layer)
layer_is snap place layer hits named once are is = by (slice_get snap.contents.members place) refl are where
  by : (o : Option Member) → slice_get snap.contents.members place ≡ o → IsSomeAnd o (λ x. AreHits x.bits snap.contents.members (linked_to snap x.name layer) hits)
      → IsSomeAnd o (λ x. hits_of named ≡ layer_hits snap x.name x.bits layer)
  by None e a = absurd a
  by (Some x) e a =
      let ms = snap.contents.members in
      let own : bits_at ms x.name ≡ x.bits = ap (λ (o : Option Member). unwrap_or (option_map (λ (y : Member). y.bits) o) []) (own_name ms once place x e) in
      is ∙ named_is false x.bits ms (linked_to snap x.name layer) hits a
      ∙ ap (λ q. map (truth.hit_of x.bits false) (by_nearness q (members_named ms (neighbours ms (links_of snap.wiring) layer x.name)))) own

-- ---- all of them

down_is : (level : ℕ) → layers_down (suc level) 0 ≡ suc level ∷ layers_down level 0
down_is level = cond-true (nat_le 0 (suc level)) (suc level ∷ layers_down level 0) [] (le-leb 0 (suc level) (omega arith))

pub length_down : (level : ℕ) → length (layers_down level 0) ≡ level + 1
length_down zero = refl
length_down (suc level) = ap length (down_is level) ∙ omega (arith, length_down level)

pub layer_down : (level depth : ℕ) → depth ≤ level → get_or (layers_down level 0) depth 0 ≡ level - depth
layer_down zero zero h = refl
layer_down zero (suc depth) h = absurd (omega arith)
layer_down (suc level) zero h = ap (λ l. get_or l 0 0) (down_is level) ∙ omega arith
layer_down (suc level) (suc depth) h =
    let next : get_or (layers_down level 0) depth 0 ≡ level - depth = layer_down level depth (omega arith) in
    ap (λ l. get_or l (suc depth) 0) (down_is level) ∙ next ∙ omega arith

module _ (f : ℕ → List Hit) (level : ℕ) where
  pub one_more : (depth layer : ℕ) (layers : List (List NamedHit)) (hits : List NamedHit) → depth ≤ level → layer ≡ level - depth → map hits_of layers ≡ map f (take depth (layers_down level 0))
      → hits_of hits ≡ f layer → map hits_of (layers ++ hits ∷ []) ≡ map f (take (depth + 1) (layers_down level 0))
  one_more depth layer layers hits h is before this =
      let all = layers_down level 0 in
      let at : get_or all depth 0 ≡ layer = layer_down level depth h ∙ sym is in
      map-append hits_of layers (hits ∷ [])
      ∙ (λ t. before t ++ this t ∷ [])
      ∙ sym (map-append f (take depth all) (layer ∷ []))
      ∙ ap (λ l. map f (take depth all ++ l ∷ [])) (sym at)
      ∙ ap (map f) (sym (take_more all depth 0 (omega (arith, length_down level))))

  pub all_of : (depth : ℕ) (layers : List (List NamedHit)) → level < depth → map hits_of layers ≡ map f (take depth (layers_down level 0)) → map hits_of layers ≡ map f (layers_down level 0)
  all_of depth layers h are = are ∙ ap (map f) (take_all depth (layers_down level 0) (omega (arith, length_down level)))

module _ (x : Set) (name : Bytes) (q : Vector) (dim : ℕ) (long : length q ≡ dim) where
  few_by : (downs : List ℕ) (layers : List (List NamedHit)) → map hits_of layers ≡ map (layer_hits x name q) downs → AllByRecursion (λ hits. All (λ (h : NamedHit). h.dist ≤ dim) hits) layers
  few_by downs [] e = tt
  few_by [] (hits ∷ layers) e = absurd (omega (arith, ap length e))
  few_by (layer ∷ downs) (hits ∷ layers) e =
      let first : hits_of hits ≡ layer_hits x name q layer = ap (λ l. get_or l 0 (hits_of hits)) e in
      let rest : map hits_of layers ≡ map (layer_hits x name q) downs = ap (drop 1) e in (
        all_few false q dim (by_nearness q (members_named x.contents.members (neighbours x.contents.members (links_of x.wiring) layer name))) hits long first,
        few_by downs layers rest,
      )

  pub layers_few : (downs : List ℕ) (layers : List (List NamedHit)) → map hits_of layers ≡ map (layer_hits x name q) downs → All (λ hits. All (λ (h : NamedHit). h.dist ≤ dim) hits) layers
  layers_few downs layers e = All-from_recursion (λ hits. All (λ (h : NamedHit). h.dist ≤ dim) hits) layers (few_by downs layers e)
