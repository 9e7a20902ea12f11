-- One member more.
--     none_grown     before the first member
--     grows          after the next one
use Rattle.std.proofs.Common.{◌≡◌, ◌≢◌, ℕ, suc, ◌+◌, ◌<◌, ◌^◌, Bool, true, false, cond, List, [], ◌∷◌, ◌++◌, map, Option, Some, None, Ok, codes, pos, refl, sym, ap, ◌∙◌, subst, arith, inl}
use Rattle.std.specs.Prelude.{option_map}
use Rattle.std.specs.List.{range_with_len}
use Rattle.std.proofs.lemmas.List.{map-append}
use Rattle.std.proofs.lemmas.List.FromFn.{map-range_with_len_more}
use Rattle.std.proofs.lemmas.Slice.Eq.{bytes_eq-Decides}
use Rattle.vs_defs.specs.Bytes.{Bytes, same_name}
use Rattle.vs_defs.specs.History.{Entry}
use Rattle.vs_defs.specs.PlainStep.{added, added_member, added_to, drawn_level, number_of_change}
use Rattle.vs_defs.specs.Read.{read}
use Rattle.vs_defs.specs.Reply as outcome
use Rattle.vs_defs.specs.Request as request
use Rattle.vs_defs.specs.Request.{Add}
use Rattle.vs_defs.specs.Store.{Store, Set, Member, Contents, lookup_set, names_of, set_of, member_of, with_set, empty_store, usual_limits, plain}
use Rattle.vs_session_defs.specs.Words.{generator, drawn, after_draws}
use Rattle.vs_random_words.proofs.Drawn.{drawn_push}
use Rattle.vs_thread_defs.specs.Generator.{generated_words, member_name}
use Rattle.vs_thread_defs.specs.Machine.{StoreChanges}
use Rattle.vs_history.specs.Work.{Work, entry_of}
use Rattle.vs_history.proofs.Calls.{did_at_once, legal_next}
use Rattle.vs_history.proofs.Histories.{store_push}
use Rattle.vs_generate.specs.Grown.{AddsOne, Holds, IsAdded, IsGrown}
use Rattle.vs_generate.proofs.Words.{reads_add}

pub none_grown : (seed dim : ℕ) (s : Store Set) → s ≡ empty_store usual_limits → IsGrown seed 0 dim s
none_grown seed dim s is = record {
  history = [];
  generated = record { legal = tt; requests = refl; words = refl };
  store_is = sym is;
  holds = subst (λ t. Holds 0 dim (set_of (codes "g") t)) (sym is) refl;
}

-- ---- the set

same_key : (key : Bytes) → same_name key key ≡ true
same_key key = (bytes_eq-Decides key key).1 refl

with_set_there : {X : Type 0} (key : Bytes) (x : X) (sets : List (Bytes × X)) → lookup_set key (with_set key x sets) ≡ Some x
with_set_there key x sets = rw (same_key key) refl

contents_in : (key : Bytes) (sets : List (Bytes × Set)) → lookup_set key (map (λ e. (e.0, e.1.contents)) sets) ≡ option_map (λ x. x.contents) (lookup_set key sets)
contents_in key [] = refl
contents_in key (e ∷ es) = by (same_name key e.0) (contents_in key es) where
  by : (b : Bool) → lookup_set key (map (λ e. (e.0, e.1.contents)) es) ≡ option_map (λ x. x.contents) (lookup_set key es)
      → cond b (Some e.1.contents) (lookup_set key (map (λ e. (e.0, e.1.contents)) es)) ≡ option_map (λ x. x.contents) (cond b (Some e.1) (lookup_set key es))
  by true rest = refl
  by false rest = rest

one_name_more : (i : ℕ) → map member_name (range_with_len 0 (i + 1)) ≡ map member_name (range_with_len 0 i) ++ member_name i ∷ []
one_name_more i = map-range_with_len_more member_name 0 i i (omega arith)

abbrev HoldsContents : ℕ → ℕ → Option Contents → Type 0
HoldsContents i dim None = i ≡ 0
HoldsContents i dim (Some x) = (x.dim ≡ dim) × (names_of x.members ≡ map member_name (range_with_len 0 i))

seen_contents : (i dim : ℕ) (o : Option Set) → Holds i dim o → HoldsContents i dim (option_map (λ x. x.contents) o)
seen_contents i dim None h = h
seen_contents i dim (Some x) h = h

seen_set : (i dim : ℕ) (o : Option Set) → HoldsContents i dim (option_map (λ x. x.contents) o) → Holds i dim o
seen_set i dim None h = h
seen_set i dim (Some x) h = h

to_member : (dim i level n : ℕ) (add : Add) (x : Contents) (old : Option Member) → IsAdded dim i add → HoldsContents i dim (Some x)
    → request.Int (pos 1) ≡ (added_to add level n x old).1 → HoldsContents (i + 1) dim (Some (added_to add level n x old).0)
to_member dim i level n add x None is h one = (
  h.0,
  map-append (λ (y : Member). y.name) x.members (added_member add level None ∷ []) ∙ ap (λ l. l ++ add.name ∷ []) h.1
      ∙ ap (λ w. map member_name (range_with_len 0 i) ++ w ∷ []) is.name ∙ sym (one_name_more i),
)
to_member dim i level n add x (Some y) is h one = cc

to_set : (dim i level n : ℕ) (add : Add) (o : Option Contents) → IsAdded dim i add → HoldsContents i dim o
    → request.Int (pos 1) ≡ (added add level n o).1 → HoldsContents (i + 1) dim (Some (added add level n o).0)
to_set dim i level n add None is h one =
    (is.dim_is, ap (λ w. w ∷ []) is.name ∙ ap (λ k. map member_name (range_with_len 0 k) ++ member_name i ∷ []) (sym h) ∙ sym (one_name_more i))
to_set dim i level n add (Some x) is h one = to_member dim i level n add x (member_of add.name x.members) is h one

set_grows : (dim i : ℕ) (old new : Store Set) (ws : List ℕ) (add : Add) → IsAdded dim i add → Holds i dim (set_of (codes "g") old)
    → StoreChanges old (request.Vadd add) ws (request.Int (pos 1)) new None → Holds (i + 1) dim (set_of (codes "g") new)
set_grows dim i old new ws add is h changes =
    let step = changes.step.contents in
    let before : HoldsContents i dim (set_of add.key (plain old)) =
    subst (λ k. HoldsContents i dim (set_of k (plain old))) (sym is.key)
    (subst (HoldsContents i dim) (sym (contents_in (codes "g") old.sets)) (seen_contents i dim (set_of (codes "g") old) h)) in
    let a = added add (drawn_level ws) (number_of_change (plain old)) (set_of add.key (plain old)) in
    let after = to_set dim i (drawn_level ws) (number_of_change (plain old)) add (set_of add.key (plain old)) is before step.answers in
    let there : lookup_set (codes "g") (plain new).sets ≡ Some a.0 =
    ap (λ k. lookup_set k (plain new).sets) (sym is.key) ∙ step.sets add.key ∙ with_set_there add.key a.0 (plain old).sets in
    seen_set (i + 1) dim (set_of (codes "g") new)
    (subst (HoldsContents (i + 1) dim) (sym there ∙ contents_in (codes "g") new.sets) after)

-- ---- the history

abbrev one_word : ℕ → List ℕ
one_word w = w ∷ []

one_word_more : (seed i : ℕ) → map one_word (drawn (i + 1) (generator seed 0)) ≡ map one_word (drawn i (generator seed 0)) ++ drawn 1 (after_draws i (generator seed 0)) ∷ []
one_word_more seed i =
    let g = generator seed 0 in
    let e : i + 1 ≡ suc i = omega arith in
    ap (λ n. map one_word (drawn n g)) e ∙ ap (map one_word) (drawn_push i g) ∙ map-append one_word (drawn i g) _

pub grows : (seed i dim : ℕ) (old new : Store Set) → 0 < dim → dim < 2 ^ 64 → IsGrown seed i dim old
    → AddsOne old (generated_words seed dim i) (drawn 1 (after_draws i (generator seed 0))) (request.Int (pos 1)) new → IsGrown seed (i + 1) dim new
grows seed i dim old new some few g a =
    let read_as = reads_add seed dim i a.request some few a.read_is in
    let ws = drawn 1 (after_draws i (generator seed 0)) in
    let o = outcome.Answered (request.Int (pos 1)) in
    let work : Work = record { old = old; request = a.request; words = ws; draft = None; outcome = o; new = new } in
    let did = did_at_once usual_limits o old new a.request ws g.history (sym g.store_is) a.in_bounds a.draws_are (inl a.changes) in
    let number = a.changes.step.contents.number in
    let moved : new.changes ≢ old.changes = λ same. absurd (omega (arith, number, same)) in
    let requests : map (λ k. read (generated_words seed dim k)) (range_with_len 0 (i + 1)) ≡ map (λ (e : Entry (Store Set)). Ok e.request) (g.history ++ entry_of 0 work ∷ []) =
    map-range_with_len_more (λ k. read (generated_words seed dim k)) 0 i i (omega arith)
    ∙ ap (λ l. l ++ read (generated_words seed dim i) ∷ []) g.generated.requests
    ∙ ap (λ r. map (λ (e : Entry (Store Set)). Ok e.request) g.history ++ r ∷ []) a.read_is
    ∙ sym (map-append (λ (e : Entry (Store Set)). Ok e.request) g.history (entry_of 0 work ∷ [])) in
    let words : map one_word (drawn (i + 1) (generator seed 0)) ≡ map (λ (e : Entry (Store Set)). e.words) (g.history ++ entry_of 0 work ∷ []) =
    one_word_more seed i ∙ ap (λ l. l ++ ws ∷ []) g.generated.words ∙ sym (map-append (λ (e : Entry (Store Set)). e.words) g.history (entry_of 0 work ∷ [])) in
    record {
      history = g.history ++ entry_of 0 work ∷ [];
      generated = record { legal = legal_next usual_limits work 0 g.history did moved g.generated.legal; requests = requests; words = words };
      store_is = store_push (empty_store usual_limits) g.history (entry_of 0 work);
      holds = set_grows dim i old new ws read_as.0 read_as.2 g.holds (subst (λ r. StoreChanges old r ws (request.Int (pos 1)) new None) read_as.1 a.changes);
    }
