-- Hits with the names of their members.
--     named_one         one of them
--     all_within        their places are those of members
--     named_is          named, they are the definitions' hits
--     all_few           none differs in more bits than there are
use Rattle.std.proofs.Common.{◌≡◌, ℕ, ◌<◌, ◌≤◌, Bool, cond, List, [], ◌∷◌, Option, Some, None, All, length, get_or, drop, map, refl, ap, arith, subst, IsSomeAnd}
use Rattle.std.specs.Prelude.{slice_get}
use Rattle.std.specs.List.{AllByRecursion}
use Rattle.std.proofs.lemmas.List.Elements.{All-from_recursion}
use Rattle.std.proofs.lemmas.Option.{slice_get_within}
use Rattle.vs_defs.specs.Bytes.{Bytes}
use Rattle.vs_defs.specs.Vector.{Vector, ham}
use Rattle.vs_defs.specs.Request as request
use Rattle.vs_defs.specs.Store.{Member}
use Rattle.vs_defs.specs.Truth as truth
use Rattle.vs_bits.proofs.Distances.{ham-le}
use Rattle.vs_command.specs.declared.answer.NamedHit.{NamedHit}
use Rattle.vs_command.specs.Answers.{hit_of, hits_of}
use Rattle.vs_truth.specs.declared.candidate.Hit.{Hit}
use Rattle.vs_truth.specs.Nearest.{AreHits}
use Rattle.vs_query.specs.Found.{named_hit, hit_at}

pub named_one : (attrs : Bool) (o : Option Member) (name : Bytes) (attr : Option Bytes) (dist : ℕ) → IsSomeAnd o (λ x. name ≡ x.name) → IsSomeAnd o (λ x. attr ≡ cond attrs x.attr None)
    → ◌≡◌ {A = request.Hit} (record { name = name; dist = dist; attr = attr }) (named_hit attrs o dist)
named_one attrs None name attr dist h k = absurd h
named_one attrs (Some x) name attr dist h k = λ t. record { name = h t; dist = dist; attr = k t }

first_is : {X : Type 0} (x y : X) (xs ys : List X) → ◌≡◌ {A = List X} (x ∷ xs) (y ∷ ys) → x ≡ y
first_is x y xs ys e = ap (λ l. get_or l 0 x) e

rest_is : {X : Type 0} (x y : X) (xs ys : List X) → ◌≡◌ {A = List X} (x ∷ xs) (y ∷ ys) → xs ≡ ys
rest_is x y xs ys e = ap (drop 1) e

place_within : (members found : List Member) (hits : List Hit) → map (λ (h : Hit). slice_get members h.place) hits ≡ map (λ (x : Member). Some x) found → AllByRecursion (λ (h : Hit). h.place < length members) hits
place_within members found [] e = tt
place_within members [] (h ∷ hs) e = absurd (omega (arith, ap length e))
place_within members (x ∷ xs) (h ∷ hs) e =
    let heads : slice_get members h.place ≡ Some x = first_is (slice_get members h.place) (Some x) (map (λ (h : Hit). slice_get members h.place) hs) (map (λ (x : Member). Some x) xs) e in
    let tails : map (λ (h : Hit). slice_get members h.place) hs ≡ map (λ (x : Member). Some x) xs
    = rest_is (slice_get members h.place) (Some x) (map (λ (h : Hit). slice_get members h.place) hs) (map (λ (x : Member). Some x) xs) e in
    (slice_get_within members h.place x heads, place_within members xs hs tails)

pub all_within : (q : Vector) (members found : List Member) (hits : List Hit) → AreHits q members found hits → All (λ (h : Hit). h.place < length members) hits
all_within q members found hits a = All-from_recursion (λ (h : Hit). h.place < length members) hits (place_within members found hits a.places)

by_places : (attrs : Bool) (q : Vector) (members found : List Member) (hits : List Hit) → map (λ (h : Hit). slice_get members h.place) hits ≡ map (λ (x : Member). Some x) found
    → map (λ (h : Hit). h.dist) hits ≡ map (λ (x : Member). ham q x.bits) found → map (hit_at attrs members) hits ≡ map (truth.hit_of q attrs) found
by_places attrs q members [] [] e d = refl
by_places attrs q members (x ∷ xs) [] e d = absurd (omega (arith, ap length e))
by_places attrs q members [] (h ∷ hs) e d = absurd (omega (arith, ap length e))
by_places attrs q members (x ∷ xs) (h ∷ hs) e d =
    let places : List Hit → List (Option Member) = map (λ (h : Hit). slice_get members h.place) in
    let found : List Member → List (Option Member) = map (λ (x : Member). Some x) in
    let dists : List Hit → List ℕ = map (λ (h : Hit). h.dist) in
    let hams : List Member → List ℕ = map (λ (x : Member). ham q x.bits) in
    let place : slice_get members h.place ≡ Some x = first_is (slice_get members h.place) (Some x) (places hs) (found xs) e in
    let dist : h.dist ≡ ham q x.bits = first_is h.dist (ham q x.bits) (dists hs) (hams xs) d in
    let rest : map (hit_at attrs members) hs ≡ map (truth.hit_of q attrs) xs
    = by_places attrs q members xs hs (rest_is (slice_get members h.place) (Some x) (places hs) (found xs) e) (rest_is h.dist (ham q x.bits) (dists hs) (hams xs) d) in
    λ t. named_hit attrs (place t) (dist t) ∷ rest t

pub named_is : (attrs : Bool) (q : Vector) (members found : List Member) (hits : List Hit) → AreHits q members found hits → map (hit_at attrs members) hits ≡ map (truth.hit_of q attrs) found
named_is attrs q members found hits a = by_places attrs q members found hits a.places a.dists

few_by : (attrs : Bool) (q : Vector) (found : List Member) (named : List NamedHit) → hits_of named ≡ map (truth.hit_of q attrs) found → AllByRecursion (λ (h : NamedHit). h.dist ≤ length q) named
few_by attrs q found [] e = tt
few_by attrs q [] (h ∷ hs) e = absurd (omega (arith, ap length e))
few_by attrs q (x ∷ xs) (h ∷ hs) e =
    let same : hit_of h ≡ truth.hit_of q attrs x = first_is (hit_of h) (truth.hit_of q attrs x) (hits_of hs) (map (truth.hit_of q attrs) xs) e in
    let dist : h.dist ≡ ham q x.bits = ap (λ (y : request.Hit). y.dist) same in
    (omega (arith, dist, ham-le q x.bits), few_by attrs q xs hs (rest_is (hit_of h) (truth.hit_of q attrs x) (hits_of hs) (map (truth.hit_of q attrs) xs) e))

-- where the vector has as many bits as there are
pub all_few : (attrs : Bool) (q : Vector) (dim : ℕ) (found : List Member) (named : List NamedHit) → length q ≡ dim → hits_of named ≡ map (truth.hit_of q attrs) found → All (λ (h : NamedHit). h.dist ≤ dim) named
all_few attrs q dim found named long e =
    subst (λ n. All (λ (h : NamedHit). h.dist ≤ n) named) long (All-from_recursion (λ (h : NamedHit). h.dist ≤ length q) named (few_by attrs q found named e))
