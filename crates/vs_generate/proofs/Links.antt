-- How many links a member has, by what VLINKS answers.
--     lowest_links     the last of the answered layers has them
use Rattle.std.proofs.Common.{◌≡◌, ℕ, suc, ◌+◌, ◌-◌, ◌<◌, Bool, true, false, cond, List, [], ◌∷◌, length, get_or, map, filter, Option, Some, None, is_some, refl, sym, ap, ◌∙◌, subst, arith}
use Rattle.std.specs.Ordering.{is_gt}
use Rattle.std.specs.declared.cmp.Ordering.{Ordering}
use Rattle.std.proofs.lemmas.List.{get_or-map, length-map}
use Rattle.std.proofs.lemmas.Slice.Eq.{bytes_eq-Decides}
use Rattle.vs_defs.specs.Answers.{layers_of, layer_hits, links_answer, members_named}
use Rattle.vs_defs.specs.Beam.{layers_down}
use Rattle.vs_defs.specs.Bytes.{Bytes, place_by, sort_by}
use Rattle.vs_defs.specs.Links.{links_of, neighbours}
use Rattle.vs_defs.specs.Request as request
use Rattle.vs_defs.specs.Request.{Answer, Hit}
use Rattle.vs_defs.specs.Store.{Member, Set, is_of_name, member_of, names_of}
use Rattle.vs_defs.specs.Truth.{by_nearness, hit_of, nearness}
use Rattle.vs_defs.specs.Vector.{Vector}
use Rattle.vs_command.specs.Answers.{hits_of}
use Rattle.vs_command.specs.declared.answer.NamedHit.{NamedHit}
use Rattle.vs_query.proofs.Depths.{length_down, layer_down}
use Rattle.vs_generate.specs.Asked.{links_of_name}

-- ---- in one layer

length_place : {X : Type 0} (cmp : X → X → Ordering) (x : X) (ys : List X) → length (place_by cmp x ys) ≡ suc (length ys)
length_place cmp x [] = refl
length_place cmp x (y ∷ ys) = by (is_gt (cmp x y)) (length_place cmp x ys) where
  by : (b : Bool) → length (place_by cmp x ys) ≡ suc (length ys) → length (cond b (y ∷ place_by cmp x ys) (x ∷ y ∷ ys)) ≡ suc (suc (length ys))
  by true more = ap suc more
  by false more = refl

length_sort : {X : Type 0} (cmp : X → X → Ordering) (xs : List X) → length (sort_by cmp xs) ≡ length xs
length_sort cmp [] = refl
length_sort cmp (x ∷ xs) = length_place cmp x (sort_by cmp xs) ∙ ap suc (length_sort cmp xs)

-- a name of the list is found in it, whatever stands before
find_more : (name : Bytes) (y : Member) (ys : List Member) → is_some (member_of name ys) ≡ true → is_some (member_of name (y ∷ ys)) ≡ true
find_more name y ys e = by (is_of_name name y) e where
  by : (b : Bool) → is_some (member_of name ys) ≡ true → is_some (cond b (Some y) (member_of name ys)) ≡ true
  by true e = refl
  by false e = e

find_first : (y : Member) (ys : List Member) → is_some (member_of y.name (y ∷ ys)) ≡ true
find_first y ys =
    let same : is_of_name y.name y ≡ true = (bytes_eq-Decides y.name y.name).1 refl in
    rw same refl

length_named : (p : Bytes → Bool) (members ys : List Member) → ((y : Member) → is_some (member_of y.name ys) ≡ true → is_some (member_of y.name members) ≡ true)
    → length (members_named members (filter p (names_of ys))) ≡ length (filter p (names_of ys))
length_named p members [] all = refl
length_named p members (y ∷ ys) all =
    by (p y.name) (member_of y.name members) refl (all y (find_first y ys)) (length_named p members ys (λ z e. all z (find_more z.name y ys e))) where
      by : (b : Bool) (o : Option Member) → member_of y.name members ≡ o → is_some (member_of y.name members) ≡ true
          → length (members_named members (filter p (names_of ys))) ≡ length (filter p (names_of ys))
          → length (members_named members (cond b (y.name ∷ filter p (names_of ys)) (filter p (names_of ys)))) ≡ length (cond b (y.name ∷ filter p (names_of ys)) (filter p (names_of ys)))
      by false o is some rest = rest
      by true None is some rest = let bad : is_some (member_of y.name members) ≡ false = ap is_some is in cc
      by true (Some x) is some rest = rw is (ap suc rest)

length_hits : (x : Set) (name : Bytes) (q : Vector) → length (layer_hits x name q 0) ≡ links_of_name x name
length_hits x name q =
    let ms = x.contents.members in
    let found = members_named ms (neighbours ms (links_of x.wiring) 0 name) in
    length-map (by_nearness q found) (hit_of q false) ∙ length_sort (nearness q) found
    ∙ length_named (links_of x.wiring 0 name) ms ms (λ y e. e)

-- ---- the last of the layers

last_layer : (f : ℕ → List Hit) (level : ℕ) (layers : List (List NamedHit)) (lowest : List NamedHit) → map hits_of layers ≡ map f (layers_down level 0)
    → lowest ≡ get_or layers (length layers - 1) lowest → hits_of lowest ≡ f 0
last_layer f level layers lowest are is =
    let downs = layers_down level 0 in
    let many : length layers ≡ level + 1 = sym (length-map layers hits_of) ∙ ap length are ∙ length-map downs f ∙ length_down level in
    let at : length layers - 1 ≡ level = omega (arith, many) in
    let within : level < length layers = omega (arith, many) in
    let below : level < length downs = omega (arith, length_down level) in
    let zero_is : level - level ≡ 0 = omega arith in
    ap hits_of (is ∙ ap (λ k. get_or layers k lowest) at)
    ∙ sym (get_or-map hits_of layers level lowest (f 0) within)
    ∙ ap (λ ls. get_or ls level (f 0)) are
    ∙ get_or-map f downs level 0 (f 0) below
    ∙ ap f (layer_down level level (omega arith) ∙ zero_is)

same_layers : (d e : ℕ) (s t : Bool) (xs ys : List (List Hit)) → request.Layers d s xs ≡ request.Layers e t ys → xs ≡ ys
same_layers d e s t xs ys is = cc

in_layers : (x : Set) (name : Bytes) (o : Option Member) (dim : ℕ) (scores : Bool) (layers : List (List NamedHit)) (lowest : List NamedHit)
    → request.Layers dim scores (map hits_of layers) ≡ layers_of x name false o → lowest ≡ get_or layers (length layers - 1) lowest → length lowest ≡ links_of_name x name
in_layers x name None dim scores layers lowest is last = cc
in_layers x name (Some y) dim scores layers lowest is last =
    let are : map hits_of layers ≡ map (layer_hits x name y.bits) (layers_down y.level 0) = same_layers dim x.contents.dim scores false _ _ is in
    let lowest_is : hits_of lowest ≡ layer_hits x name y.bits 0 = last_layer (layer_hits x name y.bits) y.level layers lowest are last in
    sym (length-map lowest _) ∙ ap length lowest_is ∙ length_hits x name y.bits

pub lowest_links : (x : Set) (o : Option Set) (name : Bytes) (dim : ℕ) (scores : Bool) (layers : List (List NamedHit)) (lowest : List NamedHit)
    → request.Layers dim scores (map hits_of layers) ≡ links_answer o name false → o ≡ Some x → lowest ≡ get_or layers (length layers - 1) lowest
    → length lowest ≡ links_of_name x name
lowest_links x None name dim scores layers lowest is there last = cc
lowest_links x (Some y) name dim scores layers lowest is there last =
    let same : y ≡ x = cc in
    subst (λ z. length lowest ≡ links_of_name z name) same (in_layers y name (member_of name y.contents.members) dim scores layers lowest is last)
