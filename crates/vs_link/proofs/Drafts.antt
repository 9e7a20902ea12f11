-- Members that are named by their ids, as the tests make them: a newcomer's name is new.
use Rattle.std.proofs.Common.{◌≡◌, ◌≢◌, ℕ, ◌+◌, ◌<◌, ◌≤◌, Bool, true, false, eqb, List, [], ◌∷◌, length, get_or, zero, suc, refl, sym, ap, ◌∙◌, subst, arith, below_more}
use Rattle.std.specs.Prelude.{Some, None, IfSome, IsSome, option_map}
use Rattle.std.specs.declared.option.Option.{Option}
use Rattle.std.proofs.lemmas.Bool.{eqb-true, eqb-false}
use Rattle.vs_rank.specs.declared.Key.{Key}
use Rattle.vs_graph.specs.declared.node.Node.{Node}
use Rattle.vs_graph.specs.Good.{body_at, layers_at, StandsAt, AreLinksGood}
use Rattle.vs_graph.specs.Newcomer.{AreEmptyLists, ChangesAt, IsNewcomer}
use Rattle.vs_graph.specs.Relinks.{Relinks}
use Rattle.vs_graph.specs.Table.{Table}
use Rattle.vs_graph.proofs.Relinking.{same_bodies}
use Rattle.vs_graph.proofs.Lists.{distinct_push}
use Rattle.vs_graph.proofs.Goods.{layers_from, distinct_none}
use Rattle.vs_link.specs.Linked.{AreChosen}

-- each member has the byte of its id as its name
abbrev pub AreNumbered : (ℕ → Option Node) → ℕ → Type 0
AreNumbered at next = (q : ℕ) → IfSome (body_at at q) (λ body. (body.name ≡ q ∷ []) × (q < next))

first_byte : (q n : ℕ) → q ∷ [] ≡ n ∷ [] → q ≡ n
first_byte q n e = ap (λ l. get_or l 0 0) e

free_by : (next : ℕ) (o : Option Node) → IfSome (option_map (λ node. node.body) o) (λ body. (body.name ≡ next ∷ []) × (next < next)) → o ≡ None
free_by next None h = refl
free_by next (Some node) h = absurd (omega (arith, h.1))

new_name : (q next : ℕ) (node : Node) (o : Option Node) → node.body.name ≡ next ∷ [] → IfSome (option_map (λ n. n.body) o) (λ body. (body.name ≡ q ∷ []) × (q < next)) → IfSome o (λ other. other.body.name ≢ node.body.name)
new_name q next node None name h = tt
new_name q next node (Some other) name h = λ e. absurd (omega (arith, h.1, first_byte q next (sym h.0 ∙ e ∙ name)))

pub newcomer_there : (at : ℕ → Option Node) (next : ℕ) (node : Node) → AreNumbered at next → node.body.name ≡ next ∷ [] → next < 100 → node.level ≡ 0 → AreEmptyLists 1 node.links → IsNewcomer at next node
newcomer_there at next node named name few low lists = record {
  free = free_by next (at next) (named next);
  small = omega (arith, few);
  level = omega (arith, low);
  lists = subst (λ k. AreEmptyLists (k + 1) node.links) (sym low) lists;
  name = λ q. new_name q next node (at q) name (named q);
}

more_by : (at new : ℕ → Option Node) (next : ℕ) (node : Node) → AreNumbered at next → ChangesAt at new next (Some node) → node.body.name ≡ next ∷ [] → (q : ℕ) (b : Bool) → eqb q next ≡ b
    → IfSome (body_at new q) (λ body. (body.name ≡ q ∷ []) × (q < next + 1))
more_by at new next node named change name q true e =
    subst (λ o. IfSome (option_map (λ n. n.body) o) (λ body. (body.name ≡ q ∷ []) × (q < next + 1))) (sym (ap new (eqb-true q next e) ∙ change.there))
    (name ∙ ap (λ k. k ∷ []) (sym (eqb-true q next e)), omega (arith, eqb-true q next e))
more_by at new next node named change name q false e =
    subst (λ o. IfSome (option_map (λ n. n.body) o) (λ body. (body.name ≡ q ∷ []) × (q < next + 1))) (sym (change.others q (eqb-false q next e))) (later (at q) (named q)) where
      later : (o : Option Node) → IfSome (option_map (λ n. n.body) o) (λ body. (body.name ≡ q ∷ []) × (q < next)) → IfSome (option_map (λ n. n.body) o) (λ body. (body.name ≡ q ∷ []) × (q < next + 1))
      later None h = h
      later (Some n) h = (h.0, omega (arith, h.1))

pub still_numbered : (at new : ℕ → Option Node) (next : ℕ) (node : Node) → AreNumbered at next → ChangesAt at new next (Some node) → node.body.name ≡ next ∷ [] → AreNumbered new (next + 1)
still_numbered at new next node named change name q = more_by at new next node named change name q (eqb q next) refl

-- links change no name
pub numbered_after : (at new : ℕ → Option Node) (layer next : ℕ) (t : Table) → Relinks at new layer t → AreNumbered at next → AreNumbered new next
numbered_after at new layer next t r named q = subst (λ bodies. IfSome (bodies q) (λ body. (body.name ≡ q ∷ []) × (q < next))) (sym (same_bodies at new layer t r)) (named q)

-- one member is chosen
pub one_chosen : (at : ℕ → Option Node) (m dim x y : ℕ) → AreLinksGood at m dim → 4 ≤ m → StandsAt at 0 y → y ≢ x → AreChosen (layers_at at) 0 m x (y ∷ [])
one_chosen at m dim x y good low stands ne = record {
  stand = λ k d less. one k d less;
  once = distinct_push [] y distinct_none refl;
  few = omega (arith, low);
} where
  one : (k d : ℕ) → k < 1 → (0 < layers_at at (get_or (y ∷ []) k d)) × (get_or (y ∷ []) k d ≢ x)
  one zero d less = (layers_from m dim 0 (at y) (good.nodes y) stands, ne)
  one (suc k) d less = absurd (omega arith)

-- ---- one candidate more

any_key : (keys : List Key) (i : ℕ) (d e : Key) → i < length keys → get_or keys i d ≡ get_or keys i e
any_key [] i d e h = absurd (omega arith)
any_key (key ∷ keys) zero d e h = refl
any_key (key ∷ keys) (suc i) d e h = any_key keys i d e (omega arith)

pub next_live : (at : ℕ → Option Node) (keys : List Key) (i : ℕ) (e : Key) → i < length keys → ((k : ℕ) (d : Key) → k < i → IsSome (at (get_or keys k d).id)) → IsSome (at (get_or keys i e).id)
    → (k : ℕ) (d : Key) → k < i + 1 → IsSome (at (get_or keys k d).id)
next_live at keys i e h before live k d less = below_more (λ j. IsSome (at (get_or keys j d).id)) i (λ j short. before j d short) (subst (λ (key : Key). IsSome (at key.id)) (any_key keys i e d h) live) k less
