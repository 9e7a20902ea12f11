-- What is found by the nodes at the places is found by ids.
use Rattle.std.proofs.Common.{◌≡◌, ℕ, ◌<◌, ◌≤◌, Bool, true, false, ltb, List, [], length, get_or, map, refl, sym, ap, ◌∙◌, subst, arith}
use Rattle.std.specs.Borrow.{Bor}
use Rattle.std.specs.Prelude.{All, None, IfSome, nat_eq, option_map, slice_get, unwrap_or}
use Rattle.std.specs.List.{list_any}
use Rattle.std.specs.Option.{option_map_or}
use Rattle.std.specs.declared.option.Option.{Option}
use Rattle.std.proofs.lemmas.Bool.{ltb-true, ltb-false}
use Rattle.std.proofs.lemmas.List.{get_or-map, length-map}
use Rattle.std.proofs.lemmas.Option.{slice_get_past, unwrap_or-slice_get}
use Rattle.vs_defs.specs.Words.{words_ham}
use Rattle.vs_graph.specs.declared.node.Node.{Node}
use Rattle.vs_graph.specs.Bodies.{AreAlike, words_at}
use Rattle.vs_graph.specs.Good.{body_at, links_at, links_of}
use Rattle.vs_graph.specs.Table.{is_in}
use Rattle.vs_unlink.specs.declared.Pair.{Pair}
use Rattle.vs_unlink.specs.declared.pairs.Candidate.{Candidate}
use Rattle.vs_unlink.specs.Candidates.{some_now, node_in, has_link, IsCandidate, IsPlaced, HasPairsBelow, HasPlacedBelow}

module _ (at : ℕ → Option Node) (nodes : List (Bor Node)) (ranked : List ℕ) (layer : ℕ) (same : map some_now nodes ≡ map at ranked) where
  there : (a : ℕ) → a < length ranked → node_in nodes a ≡ at (get_or ranked a 0)
  there a h = ap (λ l. unwrap_or (slice_get l a) None) same ∙ unwrap_or-slice_get (map at ranked) a None ∙ get_or-map at ranked a 0 None h

  past : (a : ℕ) → length ranked ≤ a → node_in nodes a ≡ None
  past a h = ap (λ l. unwrap_or (slice_get l a) None) same ∙ ap (λ o. unwrap_or o None) (slice_get_past (map at ranked) a (subst (λ n. n ≤ a) (sym (length-map ranked at)) h))

  pub places_alike : AreAlike (body_at at) → AreAlike (body_at (node_in nodes))
  places_alike alike = record { count = alike.count; few = alike.few; words = λ a. words_by a (ltb a (length ranked)) refl } where
    words_by : (a : ℕ) (test : Bool) → ltb a (length ranked) ≡ test → IfSome (body_at (node_in nodes) a) (λ body. length body.bits ≡ alike.count)
    words_by a true e = subst (λ o. IfSome (option_map (λ (n : Node). n.body) o) (λ body. length body.bits ≡ alike.count)) (sym (there a (ltb-true a (length ranked) e))) (alike.words (get_or ranked a 0))
    words_by a false e = subst (λ o. IfSome (option_map (λ (n : Node). n.body) o) (λ body. length body.bits ≡ alike.count)) (sym (past a (ltb-false a (length ranked) e))) tt

  words_same : (a : ℕ) → a < length ranked → words_at (body_at (node_in nodes)) a ≡ words_at (body_at at) (get_or ranked a 0)
  words_same a h = ap (λ o. option_map_or (λ body. body.bits) (option_map (λ (n : Node). n.body) o) []) (there a h)

  link_same : (a b : ℕ) → a < length ranked → has_link (node_in nodes) layer ranked a b ≡ is_in (links_at at layer) (get_or ranked a 0) (get_or ranked b 0)
  link_same a b h = ap (λ o. list_any (nat_eq (get_or ranked b 0)) (option_map_or (λ node. links_of node layer) o [])) (there a h)

  pub sound_by_ids : (found : List Candidate) → All (IsPlaced (node_in nodes) layer ranked) found → All (IsCandidate (body_at at) (links_at at layer) ranked) found
  sound_by_ids found sound k d h =
      let c = get_or found k d in
      let p = sound k d h in
      let low : c.one < length ranked = omega (arith, p.order, p.within) in
      record {
        order = p.order;
        within = p.within;
        dist = p.dist ∙ (λ i. words_ham (words_same c.one low i) (words_same c.other p.within i));
        unlinked = sym (link_same c.one c.other low) ∙ p.unlinked;
      }

  pub all_by_ids : (pairs : List Pair) → HasPlacedBelow (node_in nodes) layer ranked (length ranked) pairs → HasPairsBelow (links_at at layer) ranked (length ranked) pairs
  all_by_ids pairs all a low b less within unlinked = all a low b less within (link_same a b low ∙ unlinked)
