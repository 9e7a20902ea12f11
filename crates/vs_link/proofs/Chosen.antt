-- Selection: one step, what is chosen of whom, and that it is the same by ids and by names.
use Rattle.std.proofs.Common.{◌≡◌, ℕ, zero, suc, ◌+◌, ◌<◌, ◌≤◌, Bool, true, false, not, ◌&&◌, ◌||◌, cond, List, [], ◌∷◌, ◌++◌, length, get_or, map, drop, refl, sym, ap, ◌∙◌, arith, drop-cons, add-one, length-append, append-nil, ◌*◌, inl, inr}
use Rattle.std.specs.Prelude.{nat_eq, nat_lt, IsSome, IfSome, Some, None, All, option_map}
use Rattle.std.specs.List.{list_any, IsDistinct}
use Rattle.std.specs.Option.{option_map_or}
use Rattle.std.specs.declared.option.Option.{Option}
use Rattle.std.proofs.lemmas.Grind.{common_steps}
use Rattle.std.proofs.lemmas.Bool.{both_ways, and_parts, ltb-true, lt-ltb, le-ltb}
use Rattle.std.proofs.lemmas.List.{length-map, map-append}
use Rattle.std.proofs.lemmas.Map.Keys.{IsDistinct-head, IsDistinct-tail, IsDistinct-cons}
use Rattle.std.proofs.lemmas.List.Elements.{All-from_recursion, recursion_from_All}
use Rattle.vs_defs.specs.Bytes.{Bytes}
use Rattle.vs_defs.specs.Vector.{Vector, ham}
use Rattle.vs_defs.specs.Store.{Member}
use Rattle.vs_defs.specs.Links.{bits_at}
use Rattle.vs_defs.specs.Linking as rules
use Rattle.vs_rank.specs.declared.Key.{Key}
use Rattle.vs_graph.specs.declared.node.Node.{Node}
use Rattle.vs_graph.specs.Good.{body_at}
use Rattle.vs_graph.specs.Bodies.{Bodies, AreAlike, name_at, words_at, gap}
use Rattle.vs_graph.specs.Named.{is_live, AreMembers}
use Rattle.vs_graph.proofs.Sorts.{In}
use Rattle.vs_link.specs.Selected.{is_shadowed, is_choice, selected_behind, selected}

-- ---- words

pub words_long : (at : ℕ → Option Node) (id : ℕ) (alike : AreAlike (body_at at)) → IsSome (at id) → length (words_at (body_at at) id) ≡ alike.count
words_long at id alike h = by_node (at id) h (alike.words id) where
  by_node : (o : Option Node) → IsSome o → IfSome (option_map (λ node. node.body) o) (λ body. length body.bits ≡ alike.count) → length (option_map_or (λ body. body.bits) (option_map (λ node. node.body) o) []) ≡ alike.count
  by_node None k w = absurd (both_ways false refl k)
  by_node (Some node) k w = w

-- ---- one step

and_false : (b : Bool) → (b && not true) ≡ false
and_false true = refl
and_false false = refl

drop_next : (keys : List Key) (i : ℕ) (d : Key) → i < length keys → drop i keys ≡ get_or keys i d ∷ drop (i + 1) keys
drop_next keys i d h = drop-cons keys i d h ∙ ap (λ k. get_or keys i d ∷ drop k keys) (sym (add-one i))

step_by : (bodies : Bodies) (m : ℕ) (chosen : List ℕ) (keys : List Key) (i : ℕ) (d : Key) → i < length keys → (b : Bool) → is_choice bodies m chosen (get_or keys i d) ≡ b
    → selected_behind bodies m chosen (drop i keys)
    ≡ cond b ((get_or keys i d).id ∷ selected_behind bodies m (chosen ++ (get_or keys i d).id ∷ []) (drop (i + 1) keys)) (selected_behind bodies m chosen (drop (i + 1) keys))
step_by bodies m chosen keys i d h b e =
    ap (selected_behind bodies m chosen) (drop_next keys i d h)
    ∙ ap (λ c. cond c ((get_or keys i d).id ∷ selected_behind bodies m (chosen ++ (get_or keys i d).id ∷ []) (drop (i + 1) keys)) (selected_behind bodies m chosen (drop (i + 1) keys))) e

-- a candidate where enough are chosen
pub step_full : (bodies : Bodies) (m : ℕ) (chosen : List ℕ) (keys : List Key) (i : ℕ) (d : Key) → i < length keys → m ≤ length chosen
    → selected_behind bodies m chosen (drop i keys) ≡ selected_behind bodies m chosen (drop (i + 1) keys)
step_full bodies m chosen keys i d h full =
    step_by bodies m chosen keys i d h false (ap (λ b. b && not (is_shadowed bodies chosen (get_or keys i d))) (le-ltb (length chosen) m full))

-- one that is shadowed
pub step_shadowed : (bodies : Bodies) (m : ℕ) (chosen : List ℕ) (keys : List Key) (i : ℕ) (d : Key) → i < length keys → is_shadowed bodies chosen (get_or keys i d) ≡ true
    → selected_behind bodies m chosen (drop i keys) ≡ selected_behind bodies m chosen (drop (i + 1) keys)
step_shadowed bodies m chosen keys i d h dark =
    step_by bodies m chosen keys i d h false (ap (λ b. nat_lt (length chosen) m && not b) dark ∙ and_false (nat_lt (length chosen) m))

-- one that is chosen
pub step_chosen : (bodies : Bodies) (m : ℕ) (chosen : List ℕ) (keys : List Key) (i : ℕ) (d : Key) → i < length keys → length chosen < m → is_shadowed bodies chosen (get_or keys i d) ≡ false
    → selected_behind bodies m chosen (drop i keys) ≡ (get_or keys i d).id ∷ selected_behind bodies m (chosen ++ (get_or keys i d).id ∷ []) (drop (i + 1) keys)
step_chosen bodies m chosen keys i d h room light =
    step_by bodies m chosen keys i d h true (ap (λ b. b && not (is_shadowed bodies chosen (get_or keys i d))) (lt-ltb (length chosen) m room) ∙ ap not light)

abbrev pub a_key : Key
a_key = record { dist = 0; id = 0 }

-- ---- who is chosen

-- what holds of each candidate holds of each chosen one
all_step : (P : ℕ → Type 0) (x : ℕ) (xs : List ℕ) → P x → All P xs → All P (x ∷ xs)
all_step P x xs h rest zero d less = h
all_step P x xs h rest (suc k) d less = rest k d (omega arith)

all_tail : (P : Key → Type 0) (key : Key) (keys : List Key) → All P (key ∷ keys) → All P keys
all_tail P key keys h k d less = h (suc k) d (omega arith)

pub chosen_all : (P : ℕ → Type 0) (bodies : Bodies) (m : ℕ) (chosen : List ℕ) (keys : List Key) → All (λ key. P key.id) keys → All P (selected_behind bodies m chosen keys)
chosen_all P bodies m chosen [] h = λ k d less. absurd (omega arith)
chosen_all P bodies m chosen (key ∷ keys) h =
    by_choice (is_choice bodies m chosen key) (chosen_all P bodies m (chosen ++ key.id ∷ []) keys (all_tail (λ k. P k.id) key keys h)) (chosen_all P bodies m chosen keys (all_tail (λ k. P k.id) key keys h)) where
      by_choice : (b : Bool) → All P (selected_behind bodies m (chosen ++ key.id ∷ []) keys) → All P (selected_behind bodies m chosen keys)
          → All P (cond b (key.id ∷ selected_behind bodies m (chosen ++ key.id ∷ []) keys) (selected_behind bodies m chosen keys))
      by_choice true one other = all_step P key.id _ (h 0 key (omega arith)) one
      by_choice false one other = other

-- at most m
pub chosen_few : (bodies : Bodies) (m : ℕ) (chosen : List ℕ) (keys : List Key) → length chosen ≤ m → length chosen + length (selected_behind bodies m chosen keys) ≤ m
chosen_few bodies m chosen [] h = omega (arith, h)
chosen_few bodies m chosen (key ∷ keys) h = by_choice (is_choice bodies m chosen key) refl (chosen_few bodies m (chosen ++ key.id ∷ []) keys) (chosen_few bodies m chosen keys h) where
  by_choice : (b : Bool) → is_choice bodies m chosen key ≡ b → (length (chosen ++ key.id ∷ []) ≤ m → length (chosen ++ key.id ∷ []) + length (selected_behind bodies m (chosen ++ key.id ∷ []) keys) ≤ m)
      → length chosen + length (selected_behind bodies m chosen keys) ≤ m
      → length chosen + length (cond b (key.id ∷ selected_behind bodies m (chosen ++ key.id ∷ []) keys) (selected_behind bodies m chosen keys)) ≤ m
  by_choice true e one other =
      let room : length chosen < m = ltb-true (length chosen) m (and_parts (nat_lt (length chosen) m) (not (is_shadowed bodies chosen key)) e).0 in
      omega (arith, length-append chosen (key.id ∷ []), one (omega (arith, length-append chosen (key.id ∷ []))))
  by_choice false e one other = other

-- different candidates give different chosen ones
pub chosen_once : (bodies : Bodies) (m : ℕ) (chosen : List ℕ) (keys : List Key) → IsDistinct nat_eq (map (λ key. key.id) keys) → IsDistinct nat_eq (selected_behind bodies m chosen keys)
chosen_once bodies m chosen [] d = d
chosen_once bodies m chosen (key ∷ keys) d =
    let rest = IsDistinct-tail nat_eq key.id (map (λ k. k.id) keys) d in
    by_choice (is_choice bodies m chosen key) (chosen_once bodies m (chosen ++ key.id ∷ []) keys rest) (chosen_once bodies m chosen keys rest) where
      apart : All (λ (k : Key). nat_eq key.id k.id ≡ false) keys
      apart = of_map keys (All-from_recursion (λ y. nat_eq key.id y ≡ false) (map (λ k. k.id) keys) (IsDistinct-head nat_eq key.id (map (λ k. k.id) keys) d)) where
        of_map : (ks : List Key) → All (λ y. nat_eq key.id y ≡ false) (map (λ k. k.id) ks) → All (λ (k : Key). nat_eq key.id k.id ≡ false) ks
        of_map [] h i e less = absurd (omega arith)
        of_map (k ∷ ks) h zero e less = h 0 0 (omega arith)
        of_map (k ∷ ks) h (suc i) e less = of_map ks (λ j c short. h (suc j) c (omega arith)) i e (omega arith)

      by_choice : (b : Bool) → IsDistinct nat_eq (selected_behind bodies m (chosen ++ key.id ∷ []) keys) → IsDistinct nat_eq (selected_behind bodies m chosen keys)
          → IsDistinct nat_eq (cond b (key.id ∷ selected_behind bodies m (chosen ++ key.id ∷ []) keys) (selected_behind bodies m chosen keys))
      by_choice true one other =
          IsDistinct-cons nat_eq key.id (selected_behind bodies m (chosen ++ key.id ∷ []) keys)
          (recursion_from_All (λ y. nat_eq key.id y ≡ false) (selected_behind bodies m (chosen ++ key.id ∷ []) keys) (chosen_all (λ y. nat_eq key.id y ≡ false) bodies m (chosen ++ key.id ∷ []) keys apart)) one
      by_choice false one other = other

-- ---- by names

any_same : (p : Bytes → Bool) (r : ℕ → Bool) (f : ℕ → Bytes) (xs : List ℕ) → ((x : ℕ) → In x xs → p (f x) ≡ r x) → list_any p (map f xs) ≡ list_any r xs
any_same p r f [] h = refl
any_same p r f (x ∷ xs) h = ap (λ b. b || list_any p (map f xs)) (h x (inl refl)) ∙ ap (λ b. r x || b) (any_same p r f xs (λ y k. h y (inr k)))

module _ (bodies : Bodies) (layers : ℕ → ℕ) (ids : List ℕ) (members : List Member) (are : AreMembers bodies layers ids members) (q : Vector) (m : ℕ) where
  abbrev IsAt : Key → Type 0
  IsAt key = (is_live ids key.id ≡ true) × (key.dist ≡ ham q (bits_at members (name_at bodies key.id)))

  choice_named : (chosen : List ℕ) (key : Key) → ((x : ℕ) → In x chosen → is_live ids x ≡ true) → IsAt key
      → rules.is_choice (bits_at members) q m (map (name_at bodies) chosen) (name_at bodies key.id) ≡ is_choice bodies m chosen key
  choice_named chosen key live there =
      let c = bits_at members (name_at bodies key.id) in
      ap (λ n. nat_lt n m && not (list_any (λ s. nat_lt (ham (bits_at members s) c) (ham q c)) (map (name_at bodies) chosen))) (length-map chosen (name_at bodies))
      ∙ ap (λ b. nat_lt (length chosen) m && not b)
      (any_same (λ s. nat_lt (ham (bits_at members s) c) (ham q c)) (λ s. nat_lt (gap bodies s key.id) key.dist) (name_at bodies) chosen
      (λ x k. ap (λ n. nat_lt n (ham q c)) (are.gaps x key.id (live x k) there.0) ∙ ap (λ n. nat_lt (gap bodies x key.id) n) (sym there.1)))

  in_push : (z x : ℕ) (xs : List ℕ) → is_live ids z ≡ true → ((y : ℕ) → In y xs → is_live ids y ≡ true) → In x (xs ++ z ∷ []) → is_live ids x ≡ true
  in_push z x [] lz live (inl e) = ap (is_live ids) e ∙ lz
  in_push z x [] lz live (inr h) = absurd h
  in_push z x (y ∷ ys) lz live (inl e) = live x (inl e)
  in_push z x (y ∷ ys) lz live (inr h) = in_push z x ys lz (λ w k. live w (inr k)) h

  pub behind_named : (chosen : List ℕ) (keys : List Key) → ((x : ℕ) → In x chosen → is_live ids x ≡ true) → All IsAt keys
      → map (name_at bodies) (selected_behind bodies m chosen keys) ≡ rules.selected_behind (bits_at members) q m (map (name_at bodies) chosen) (map (λ key. name_at bodies key.id) keys)
  behind_named chosen [] live there = refl
  behind_named chosen (key ∷ keys) live there =
      let here : IsAt key = there 0 key (omega arith) in
      by_choice (is_choice bodies m chosen key) (rules.is_choice (bits_at members) q m (map (name_at bodies) chosen) (name_at bodies key.id)) (choice_named chosen key live here)
      (behind_named (chosen ++ key.id ∷ []) keys (λ x k. in_push key.id x chosen here.0 live k) (all_tail IsAt key keys there)) (behind_named chosen keys live (all_tail IsAt key keys there)) where
        by_choice : (b c : Bool) → c ≡ b
            → map (name_at bodies) (selected_behind bodies m (chosen ++ key.id ∷ []) keys) ≡ rules.selected_behind (bits_at members) q m (map (name_at bodies) (chosen ++ key.id ∷ [])) (map (λ k. name_at bodies k.id) keys)
            → map (name_at bodies) (selected_behind bodies m chosen keys) ≡ rules.selected_behind (bits_at members) q m (map (name_at bodies) chosen) (map (λ k. name_at bodies k.id) keys)
            → map (name_at bodies) (cond b (key.id ∷ selected_behind bodies m (chosen ++ key.id ∷ []) keys) (selected_behind bodies m chosen keys))
            ≡ elim c [
              | true ↦ name_at bodies key.id ∷ rules.selected_behind (bits_at members) q m (map (name_at bodies) chosen ++ name_at bodies key.id ∷ []) (map (λ k. name_at bodies k.id) keys)
              | false ↦ rules.selected_behind (bits_at members) q m (map (name_at bodies) chosen) (map (λ k. name_at bodies k.id) keys)
            ]
        by_choice true true e one other =
            ap (λ l. name_at bodies key.id ∷ l) (one ∙ ap (λ l. rules.selected_behind (bits_at members) q m l (map (λ k. name_at bodies k.id) keys)) (map-append (name_at bodies) chosen (key.id ∷ [])))
        by_choice false false e one other = other
        by_choice true false e one other = absurd (both_ways false refl e)
        by_choice false true e one other = absurd (both_ways true e refl)

-- ---- a loop over the candidates

pub more_reads : (i m k s r q : ℕ) → r ≤ s + i * (m + 1) → q ≤ r + k → k ≤ m + 1 → q ≤ s + (i + 1) * (m + 1)
more_reads i m k s r q h g f =
    let next : (i + 1) * (m + 1) ≡ i * (m + 1) + (m + 1) = grind (arith, common_steps) in
    omega (arith, h, g, f, next)

drop_none : (keys : List Key) (i : ℕ) → length keys ≤ i → drop i keys ≡ []
drop_none [] zero h = refl
drop_none [] (suc i) h = refl
drop_none (key ∷ keys) zero h = absurd (omega arith)
drop_none (key ∷ keys) (suc i) h = drop_none keys i (omega arith)

-- when no candidate is left
pub all_selected : (bodies : Bodies) (m : ℕ) (chosen : List ℕ) (keys : List Key) (i : ℕ) → length keys ≤ i → chosen ++ selected_behind bodies m chosen (drop i keys) ≡ selected bodies m keys → chosen ≡ selected bodies m keys
all_selected bodies m chosen keys i h e = sym (append-nil chosen) ∙ sym (ap (λ ks. chosen ++ selected_behind bodies m chosen ks) (drop_none keys i h)) ∙ e

pub push_all : (P : ℕ → Type 0) (xs : List ℕ) (x : ℕ) → All P xs → P x → All P (xs ++ x ∷ [])
push_all P [] x h p zero d less = p
push_all P [] x h p (suc k) d less = absurd (omega arith)
push_all P (y ∷ ys) x h p zero d less = h 0 d (omega arith)
push_all P (y ∷ ys) x h p (suc k) d less = push_all P ys x (λ j c short. h (suc j) c (omega arith)) p k d (omega arith)
