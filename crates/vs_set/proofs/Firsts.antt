-- The first of what a search found, one at a time.
use Rattle.std.proofs.Common.{◌≡◌, ℕ, ◌+◌, ◌<◌, ◌≤◌, List, [], ◌∷◌, length, get_or, map, take, min, refl, sym, ap, ◌∙◌, arith}
use Rattle.std.proofs.lemmas.List.{map_push, take_more, take_all, length-map}
use Rattle.std.proofs.lemmas.List.Sorted.{length_permutation}
use Rattle.vs_defs.specs.Bytes.{Bytes, sort_by, place_by}
use Rattle.vs_rank.specs.declared.Key.{Key}
use Rattle.vs_rank.proofs.Sorted.{sort_push, sort_permutes, take_place}
use Rattle.vs_truth.specs.declared.candidate.Candidate.{Candidate}
use Rattle.vs_truth.specs.Nears.{Near, near_cmp, near_of, near_hit, candidate_hit}
use Rattle.vs_laws.proofs.Lists.{take_least}
use Rattle.vs_truth.proofs.Order.{near_order}
use Rattle.vs_order.specs.Entries.{Entries, name_at, place_of_id}
use Rattle.vs_set.specs.Firsts.{near_in}

abbrev pub nears_of : Entries → ℕ → List Key → List Near
nears_of entries most keys = take most (sort_by near_cmp (map (near_in entries) keys))

pub one_more : (entries : Entries) (most few : ℕ) (keys : List Key) (i : ℕ) (d : Key) (name : Bytes) (place : ℕ) (nears more : List Near) → i < length keys → few ≡ most
    → name ≡ name_at entries (place_of_id (get_or keys i d).id entries) → place ≡ place_of_id (get_or keys i d).id entries → nears ≡ nears_of entries most (take i keys)
    → more ≡ take few (place_by near_cmp (record { dist = (get_or keys i d).dist; name = name; place = place }) nears) → more ≡ nears_of entries most (take (i + 1) keys)
one_more entries most few keys i d name place nears more h is_most is_name is_place before offered =
    let earlier = map (near_in entries) (take i keys) in
    let key = get_or keys i d in
    let one = near_in entries key in
    let sorted : sort_by near_cmp (map (near_in entries) (take (i + 1) keys)) ≡ place_by near_cmp one (sort_by near_cmp earlier)
    = ap (λ l. sort_by near_cmp (map (near_in entries) l)) (take_more keys i d h) ∙ ap (sort_by near_cmp) (map_push (near_in entries) (take i keys) key) ∙ sort_push near_cmp near_order earlier one in
    offered ∙ (λ t. take (is_most t) (place_by near_cmp (record { dist = key.dist; name = is_name t; place = is_place t }) (before t))) ∙ take_place near_cmp most one (sort_by near_cmp earlier)
    ∙ sym (ap (take most) sorted)

pub hits_seen : (xs : List Candidate) → map candidate_hit xs ≡ map near_hit (map near_of xs)
hits_seen [] = refl
hits_seen (x ∷ xs) = ap (λ l. candidate_hit x ∷ l) (hits_seen xs)

pub all_of : (entries : Entries) (most count place : ℕ) (keys : List Key) → most ≡ min count (length keys) → length keys ≤ place → nears_of entries most (take place keys) ≡ take count (sort_by near_cmp (map (near_in entries) keys))
all_of entries most count place keys is past =
    let nears = map (near_in entries) keys in
    let long : length (sort_by near_cmp nears) ≤ length keys = omega (arith, length_permutation nears (sort_by near_cmp nears) (sort_permutes near_cmp nears), length-map keys (near_in entries)) in
    ap (nears_of entries most) (take_all place keys past) ∙ ap (λ n. take n (sort_by near_cmp nears)) is ∙ take_least count (length keys) (sort_by near_cmp nears) long
