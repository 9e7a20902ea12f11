-- Whom a member is linked to, in the order of its links and in the members' order.
use Rattle.std.proofs.Common.{◌≡◌, ℕ, ◌≤◌, true, false, List, [], ◌∷◌, length, map, take, refl, sym, ap, ◌∙◌, subst, arith, inl, inr, take_all}
use Rattle.std.specs.Prelude.{Option, Some, None, IsSome, IfSome, All, filter, option_map, nat_eq}
use Rattle.std.specs.Option.{option_map_or}
use Rattle.std.specs.List.{AllByRecursion, IsDistinct, list_any}
use Rattle.std.specs.List.Sorted.{IsPermutation}
use Rattle.std.specs.Cmp.Derive.{one_truth}
use Rattle.std.proofs.lemmas.Bool.{both_ways}
use Rattle.std.proofs.lemmas.List.{length-map}
use Rattle.std.proofs.lemmas.List.Elements.{All-from_recursion}
use Rattle.std.proofs.lemmas.List.Sorted.{IsPermutation-map, length_permutation}
use Rattle.vs_defs.specs.Bytes.{Bytes}
use Rattle.vs_defs.specs.Words.{FitsDimension, bits_of_words}
use Rattle.vs_defs.specs.Store.{Member}
use Rattle.vs_defs.specs.Links.{neighbours}
use Rattle.vs_defs.specs.Truth.{nearness, by_nearness}
use Rattle.vs_defs.specs.Answers.{members_named}
use Rattle.vs_graph.specs.declared.node.Node.{Node}
use Rattle.vs_graph.specs.Bodies.{words_at}
use Rattle.vs_graph.specs.Good.{body_at, layers_at, links_at, most_links, StandsAt, IsGood, IsGoodNode}
use Rattle.vs_graph.specs.Named.{is_live}
use Rattle.vs_graph.specs.Standing.{member_of_node, members_of, name_of, named_links}
use Rattle.vs_graph.specs.Table.{is_in}
use Rattle.vs_graph.proofs.Goods.{contains_from, table_from}
use Rattle.vs_graph.proofs.Sorts.{In, in_filter, from_filter, in_from_test, test_from_in}
use Rattle.vs_graph.proofs.Naming.{neighbours_are, stands_first}
use Rattle.vs_graph.proofs.Lists.{distinct_filter}
use Rattle.vs_graph.proofs.Standing.{are_members, are_named, bits_there}
use Rattle.vs_rank.specs.declared.Key.{Key}
use Rattle.vs_rank.proofs.Sorted.{sort_permuted, sort_permutes}
use Rattle.vs_beam.specs.Beam.{key_at}
use Rattle.vs_beam.specs.Named.{keys_named}
use Rattle.vs_order.specs.Entries.{Entries, ids_of, is_taken}
use Rattle.vs_truth.specs.declared.candidate.Hit.{Hit}
use Rattle.vs_truth.specs.Nearest.{AreHits}
use Rattle.vs_truth.specs.Nears.{near_cmp, near_hit}
use Rattle.vs_truth.proofs.Order.{near_order}
use Rattle.vs_unlink.proofs.Reordered.{same_ids}
use Rattle.vs_set.specs.Kept.{set_by, AreNamed}
use Rattle.vs_set.specs.Found.{linked_to}
use Rattle.vs_set.specs.Firsts.{near_in, first_of, keys_around}
use Rattle.vs_set.proofs.Nearness.{KeysOnce, once_from, ids_keys, live_stander, lives, row, members_are, hits_of_keys, keys_are}

names_keys : (at : ℕ → Option Node) (query : List ℕ) (xs : List ℕ) → keys_named at (map (key_at at query) xs) ≡ map (name_of at) xs
names_keys at query [] = refl
names_keys at query (x ∷ xs) = ap (λ (l : List Bytes). name_of at x ∷ l) (names_keys at query xs)

keys_self : (at : ℕ → Option Node) (query : List ℕ) (xs : List ℕ) → AllByRecursion (λ (key : Key). key ≡ key_at at query key.id) (map (key_at at query) xs)
keys_self at query [] = tt
keys_self at query (x ∷ xs) = (refl, keys_self at query xs)

stand_all : (at : ℕ → Option Node) (layer : ℕ) (query : List ℕ) (xs : List ℕ) → ((b : ℕ) → In b xs → StandsAt at layer b) → AllByRecursion (λ (key : Key). StandsAt at layer key.id) (map (key_at at query) xs)
stand_all at layer query [] f = tt
stand_all at layer query (x ∷ xs) f = (f x (inl refl), stand_all at layer query xs (λ b h. f b (inr h)))

words_fit : (m dim : ℕ) (o : Option Node) → IsSome o → IfSome o (IsGoodNode m dim) → FitsDimension dim (option_map_or (λ body. body.bits) (option_map (λ node. node.body) o) [])
words_fit m dim None h g = absurd (both_ways false refl h)
words_fit m dim (Some node) h g = g.words

bits_by : (dim : ℕ) (o : Option Node) (node : Node) → o ≡ Some node → bits_of_words dim (option_map_or (λ body. body.bits) (option_map (λ node. node.body) o) []) ≡ (member_of_node dim node).bits
bits_by dim o node e = ap (λ (p : Option Node). bits_of_words dim (option_map_or (λ body. body.bits) (option_map (λ node. node.body) p) [])) e

module _ (at : ℕ → Option Node) (entry : Option ℕ) (m dim : ℕ) (good : IsGood at entry m dim) (entries : Entries) (named : AreNamed at entries) (layer id : ℕ) (live : IsSome (at id)) where
  abbrev pub ids : List ℕ
  ids = ids_of entries

  abbrev pub ms : List Member
  ms = members_of at dim ids

  abbrev pub words : List ℕ
  words = words_at (body_at at) id

  abbrev pub around : List ℕ
  around = links_at at layer id

  -- the same in the members' order
  abbrev pub others : List ℕ
  others = filter (is_in (links_at at layer) id) ids

  live_id : is_live ids id ≡ true
  live_id = named.ids.live id ∙ live

  stands_around : (b : ℕ) → is_in (links_at at layer) id b ≡ true → StandsAt at layer b
  stands_around b h = good.links.stand layer id b (contains_from around b h)

  pub around_taken : All (λ key. is_taken key.id entries ≡ true) (keys_around at layer id)
  around_taken =
      All-from_recursion (λ (key : Key). is_taken key.id entries ≡ true) (keys_around at layer id)
      (lives at entry m dim good words (words_fit m dim (at id) live (good.links.nodes id)) entries named layer (keys_around at layer id)
      (stand_all at layer words around (λ b h. stands_around b (test_from_in b around h))))

  same_around : (z : ℕ) → list_any (nat_eq z) around ≡ list_any (nat_eq z) others
  same_around z =
      one_truth (list_any (nat_eq z) around) (list_any (nat_eq z) others)
      (λ h. test_from_in z others (in_filter (is_in (links_at at layer) id) z ids h (in_from_test z ids (named.ids.live z ∙ live_stander layer (at z) (stands_around z h)))))
      (λ h. (from_filter (is_in (links_at at layer) id) z ids (in_from_test z others h)).1)

  others_once : IsDistinct nat_eq others
  others_once = distinct_filter (is_in (links_at at layer) id) ids named.ids.once

  same : IsPermutation around others
  same = same_ids around others ((table_from at m dim layer good.links).once id) others_once same_around

  abbrev pub keys : List Key
  keys = map (key_at at words) others

  first_same : (n : ℕ) → first_of entries n (keys_around at layer id) ≡ first_of entries n keys
  first_same n =
      ap (λ l. map near_hit (take n l))
      (sort_permuted near_cmp near_order (map (near_in entries) (keys_around at layer id)) (map (near_in entries) keys)
      (IsPermutation-map (near_in entries) (keys_around at layer id) keys (IsPermutation-map (key_at at words) around others same)))

  former : neighbours ms (named_links at ids) layer (name_of at id) ≡ map (name_of at) others
  former =
      neighbours_are (body_at at) (layers_at at) ids ms (are_members at m dim ids good.links named.ids) (λ k. links_at at k) layer (most_links m layer) (links_at at layer) (named_links at ids) (table_from at m dim layer good.links)
      (stands_first (body_at at) (layers_at at) ids ms (are_members at m dim ids good.links named.ids) (λ k. links_at at k) layer (named_links at ids) (are_named at m dim ids good.links named.ids)) id live_id

  pub hits_around : (cut n : ℕ) (node : Node) → at id ≡ Some node → n ≡ length (keys_around at layer id) → (hits : List Hit) → hits ≡ first_of entries n (keys_around at layer id)
      → AreHits (member_of_node dim node).bits ms (linked_to (set_by at entry m dim cut entries) (member_of_node dim node).name layer) hits
  hits_around cut n node there long hits is =
      let fits = words_fit m dim (at id) live (good.links.nodes id) in
      let q = bits_of_words dim words in
      let are = keys_are at entry m dim good words fits entries named layer keys (stand_all at layer words others (λ b h. stands_around b (from_filter (is_in (links_at at layer) id) b ids h).1)) (keys_self at words others) in
      let once : KeysOnce keys = once_from keys (subst (IsDistinct nat_eq) (sym (ids_keys at words others)) others_once) in
      let found = members_named ms (keys_named at keys) in
      let few : length (by_nearness q found) ≤ n
      = omega (
        arith,
        long,
        length_permutation found (by_nearness q found) (sort_permutes (nearness q) found),
        ap length (members_are at entry m dim good words fits entries named keys are),
        length-map (map (row at entry m dim good words fits entries named) keys) (λ (r : ℕ × Member). r.1),
        length-map keys (row at entry m dim good words fits entries named),
        length-map others (key_at at words),
        length-map around (key_at at words),
        length_permutation around others same,
      ) in
      let bits : q ≡ (member_of_node dim node).bits = bits_by dim (at id) node there in
      let name : name_of at id ≡ (member_of_node dim node).name = ap (λ (o : Option Node). option_map_or (λ body. body.name) (option_map (λ node. node.body) o) []) there in
      let linked : by_nearness q found ≡ linked_to (set_by at entry m dim cut entries) (name_of at id) layer
      = λ t. by_nearness (sym (bits_there at m dim ids good.links named.ids id live_id) t) (members_named ms ((names_keys at words others ∙ sym former) t)) in
      subst (λ v. AreHits v ms (linked_to (set_by at entry m dim cut entries) (member_of_node dim node).name layer) hits) bits
      (subst (λ k. AreHits q ms (linked_to (set_by at entry m dim cut entries) k layer) hits) name
      (subst (λ l. AreHits q ms l hits) (take_all n (by_nearness q found) few ∙ linked)
      (subst (AreHits q ms (take n (by_nearness q found))) (sym (is ∙ first_same n)) (hits_of_keys at entry m dim good words fits entries named n keys once are))))
