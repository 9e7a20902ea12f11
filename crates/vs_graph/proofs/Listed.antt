-- Changed nodes that are listed beside their ids: where an id is found, one more, and another node in a place.
use Rattle.std.proofs.Common.{◌≡◌, ℕ, zero, suc, ◌<◌, ◌≤◌, Bool, true, false, cond, eqb, List, [], ◌∷◌, ◌++◌, length, set, eq-eqb, refl, sym, ap, ◌∙◌, subst, arith}
use Rattle.std.specs.Prelude.{Some, None, IsSome, slice_get}
use Rattle.std.specs.Option.{option_or}
use Rattle.std.specs.declared.option.Option.{Option}
use Rattle.std.proofs.lemmas.Bool.{eqb-true, ne_eqb}
use Rattle.vs_graph.specs.declared.node.Node.{Node}
use Rattle.std.specs.BTreeMap.{BTreeMap, get}
use Rattle.std.specs.Ordering.{nat_cmp, is_eq}
use Rattle.std.proofs.lemmas.Bool.Decides.{nat_tests}
use Rattle.vs_graph.specs.declared.edit.Edit.{Edit}
use Rattle.vs_graph.specs.Said.{listed, said, IsNowhere, IsLastAt}
use Rattle.vs_graph.specs.Edits.{changed, SaysAt}

no_more : (i : ℕ) (ids : List ℕ) (id : ℕ) → IsNowhere (i ∷ ids) id → IsNowhere ids id
no_more i ids id h = λ k lt. h (suc k) (omega arith)

-- an id that is nowhere is not listed
pub listed_nowhere : (ids : List ℕ) (nodes : List (Option Node)) (id : ℕ) → IsNowhere ids id → listed ids nodes id ≡ None
listed_nowhere [] nodes id h = refl
listed_nowhere (i ∷ ids) [] id h = refl
listed_nowhere (i ∷ ids) (n ∷ nodes) id h =
    (λ t. option_or (listed_nowhere ids nodes id (no_more i ids id h) t) (cond (ne_eqb i id (h 0 (omega arith)) t) (Some n) None))

first_there : {X : Type 0} (o : Option X) (xs : List X) (place : ℕ) → place < length xs → option_or (slice_get xs place) o ≡ slice_get xs place
first_there o [] place lt = absurd (omega arith)
first_there o (x ∷ xs) zero lt = refl
first_there o (x ∷ xs) (suc place) lt = first_there o xs place (omega arith)

-- the last place with the id is the one that counts
pub listed_last : (ids : List ℕ) (nodes : List (Option Node)) (id place : ℕ) → length ids ≡ length nodes → IsLastAt ids id place → listed ids nodes id ≡ slice_get nodes place
listed_last [] nodes id place e h = absurd (omega (arith, h.inside))
listed_last (i ∷ ids) [] id place e h = absurd (omega arith)
listed_last (i ∷ ids) (n ∷ nodes) id zero e h =
    (λ t. option_or (listed_nowhere ids nodes id (λ k lt. h.last (suc k) (omega arith) (omega arith)) t) (cond (eqb i id) (Some n) None))
    ∙ ap (λ b. cond b (Some n) None) (eq-eqb i id h.there)
listed_last (i ∷ ids) (n ∷ nodes) id (suc place) e h =
    let is : IsLastAt ids id place = record { inside = omega (arith, h.inside); there = h.there; last = λ k up lt. h.last (suc k) (omega arith) (omega arith) } in
    ap (λ o. option_or o (cond (eqb i id) (Some n) None)) (listed_last ids nodes id place (omega arith) is) ∙ first_there _ nodes place (omega (arith, h.inside))

-- what is said of an id that is listed, and of one that isn't
pub said_last : (ids : List ℕ) (nodes : List (Option Node)) (more : BTreeMap ℕ (Option Node)) (id place : ℕ) → length ids ≡ length nodes → IsLastAt ids id place → said ids nodes more id ≡ slice_get nodes place
said_last ids nodes more id place e h =
    ap (λ o. option_or o (get nat_cmp more id)) (listed_last ids nodes id place e h) ∙ first_there (get nat_cmp more id) nodes place (omega (arith, h.inside, e))

pub said_nowhere : (ids : List ℕ) (nodes : List (Option Node)) (more : BTreeMap ℕ (Option Node)) (id : ℕ) → IsNowhere ids id → said ids nodes more id ≡ get nat_cmp more id
said_nowhere ids nodes more id h = ap (λ o. option_or o (get nat_cmp more id)) (listed_nowhere ids nodes id h)

-- ---- changes, as functions of ids

-- what was said of one id is this now, and the rest is as it was
abbrev pub SaysNow : (ℕ → Option (Option Node)) → (ℕ → Option (Option Node)) → ℕ → Option Node → Type 0
SaysNow old new id here = (q : ℕ) → new q ≡ cond (eqb id q) (Some here) (old q)

front_case : (b : Bool) (here : Option Node) (l t : Option (Option Node)) → option_or (cond b (Some here) l) t ≡ cond b (Some here) (option_or l t)
front_case true here l t = refl
front_case false here l t = refl

back_case : (b : Bool) (here : Option Node) (l t : Option (Option Node)) → (b ≡ true → l ≡ None) → option_or l (cond b (Some here) t) ≡ cond b (Some here) (option_or l t)
back_case true here l t h = λ i. option_or (h refl i) (Some here)
back_case false here l t h = refl

first_case : (c b : Bool) (n m : Option Node) (l : Option (Option Node)) → (b ≡ true → l ≡ None) → c ≡ b → option_or l (cond c (Some n) None) ≡ cond b (Some n) (option_or l (cond c (Some m) None))
first_case c true n m l h e = (λ t. option_or (h refl t) (cond (e t) (Some n) None))
first_case c false n m l h e = ap (λ b. option_or l (cond b (Some n) None)) e ∙ sym (ap (λ b. option_or l (cond b (Some m) None)) e)

pub listed_push : (ids : List ℕ) (nodes : List (Option Node)) (id : ℕ) (here : Option Node) → length ids ≡ length nodes → SaysNow (listed ids nodes) (listed (ids ++ id ∷ []) (nodes ++ here ∷ [])) id here
listed_push [] [] id here e q = refl
listed_push [] (n ∷ nodes) id here e q = absurd (omega arith)
listed_push (i ∷ ids) [] id here e q = absurd (omega arith)
listed_push (i ∷ ids) (n ∷ nodes) id here e q =
    ap (λ o. option_or o (cond (eqb i q) (Some n) None)) (listed_push ids nodes id here (omega arith) q)
    ∙ front_case (eqb id q) here (listed ids nodes q) (cond (eqb i q) (Some n) None)

pub listed_set : (ids : List ℕ) (nodes : List (Option Node)) (id place : ℕ) (here : Option Node) → length ids ≡ length nodes → IsLastAt ids id place → SaysNow (listed ids nodes) (listed ids (set nodes place here)) id here
listed_set [] nodes id place here e h q = absurd (omega (arith, h.inside))
listed_set (i ∷ ids) [] id place here e h q = absurd (omega arith)
listed_set (i ∷ ids) (n ∷ nodes) id zero here e h q =
    first_case (eqb i q) (eqb id q) here n (listed ids nodes q)
    (λ b. ap (listed ids nodes) (sym (eqb-true id q b)) ∙ listed_nowhere ids nodes id (λ k lt. h.last (suc k) (omega arith) (omega arith)))
    (ap (λ k. eqb k q) h.there)
listed_set (i ∷ ids) (n ∷ nodes) id (suc place) here e h q =
    let is : IsLastAt ids id place = record { inside = omega (arith, h.inside); there = h.there; last = λ k up lt. h.last (suc k) (omega arith) (omega arith) } in
    ap (λ o. option_or o (cond (eqb i q) (Some n) None)) (listed_set ids nodes id place here (omega arith) is q)
    ∙ front_case (eqb id q) here (listed ids nodes q) (cond (eqb i q) (Some n) None)

-- ---- the same, of lists and a map

pub said_listed : (ids : List ℕ) (nodes nodes' : List (Option Node)) (ids' : List ℕ) (more : BTreeMap ℕ (Option Node)) (id : ℕ) (here : Option Node)
    → SaysNow (listed ids nodes) (listed ids' nodes') id here → SaysNow (said ids nodes more) (said ids' nodes' more) id here
said_listed ids nodes nodes' ids' more id here h q =
    ap (λ o. option_or o (get nat_cmp more q)) (h q) ∙ front_case (eqb id q) here (listed ids nodes q) (get nat_cmp more q)

at_is : (a b : ℕ) → is_eq (nat_cmp a b) ≡ eqb a b
at_is a b = grind (arith, nat_tests)

pub said_mapped : (ids : List ℕ) (nodes : List (Option Node)) (more more' : BTreeMap ℕ (Option Node)) (id : ℕ) (here : Option Node) → listed ids nodes id ≡ None
    → ((q : ℕ) → get nat_cmp more' q ≡ cond (is_eq (nat_cmp id q)) (Some here) (get nat_cmp more q)) → SaysNow (said ids nodes more) (said ids nodes more') id here
said_mapped ids nodes more more' id here none h q =
    ap (λ o. option_or (listed ids nodes q) o) (h q ∙ ap (λ b. cond b (Some here) (get nat_cmp more q)) (at_is id q))
    ∙ back_case (eqb id q) here (listed ids nodes q) (get nat_cmp more q) (λ b. ap (listed ids nodes) (sym (eqb-true id q b)) ∙ none)

-- ---- what an edit says

pub says_at : (old new : Edit) (id : ℕ) (here : Option Node) → SaysNow (changed old) (changed new) id here → SaysAt old new id here
says_at old new id here h = record {
  there = h id ∙ ap (λ b. cond b (Some here) (changed old id)) (eq-eqb id id refl);
  others = λ q ne. h q ∙ ap (λ b. cond b (Some here) (changed old q)) (ne_eqb id q (λ e. ne (sym e)));
}

below_case : (b : Bool) (here : Option Node) (o : Option (Option Node)) (id q e e' : ℕ) → eqb id q ≡ b → (IsSome o → q < e) → id < e' → e ≤ e' → IsSome (cond b (Some here) o) → q < e'
below_case true here o id q e e' at was under up some = omega (arith, eqb-true id q at)
below_case false here o id q e e' at was under up some = omega (arith, was some)

-- the ids of which something is said stay below a bound
pub below_now : (old new : ℕ → Option (Option Node)) (id e e' : ℕ) (here : Option Node) → SaysNow old new id here → ((q : ℕ) → IsSome (old q) → q < e) → id < e' → e ≤ e' → (q : ℕ) → IsSome (new q) → q < e'
below_now old new id e e' here h was under up q some = below_case (eqb id q) here (old q) id q e e' refl (was q) under up (subst IsSome (h q) some)

-- the same, of an id of which something was said
pub below_there : (old new : ℕ → Option (Option Node)) (id e : ℕ) (here : Option Node) → SaysNow old new id here → ((q : ℕ) → IsSome (old q) → q < e) → IsSome (old id) → (q : ℕ) → IsSome (new q) → q < e
below_there old new id e here h was there = below_now old new id e e here h was (was id there) (omega arith)

is_there : {X : Type 0} (xs : List X) (place : ℕ) → place < length xs → IsSome (slice_get xs place)
is_there [] place lt = absurd (omega arith)
is_there (x ∷ xs) zero lt = refl
is_there (x ∷ xs) (suc place) lt = is_there xs place (omega arith)

-- of a listed id something is said
pub listed_somewhere : (ids : List ℕ) (nodes : List (Option Node)) (more : BTreeMap ℕ (Option Node)) (id place : ℕ) → length ids ≡ length nodes → IsLastAt ids id place → IsSome (said ids nodes more id)
listed_somewhere ids nodes more id place e h = subst IsSome (sym (said_last ids nodes more id place e h)) (is_there nodes place (omega (arith, h.inside)))
