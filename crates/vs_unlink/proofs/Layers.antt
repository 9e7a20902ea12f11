-- A removal layer by layer, and the member that is gone.
use Rattle.std.proofs.Common.{◌≡◌, ◌≢◌, ℕ, zero, suc, ◌<◌, ◌≤◌, ◌+◌, Bool, true, false, cond, eqb, ◌⊎◌, ltb, ◌^◌, List, [], ◌∷◌, length, map, refl, sym, ap, ◌∙◌, subst, arith, inl, inr}
use Rattle.std.specs.Prelude.{Some, None, IsSome, IsSomeAnd, IfSome, nat_eq, option_map, slice_set, unwrap_or, Contains, is_some}
use Rattle.std.specs.List.{list_any}
use Rattle.std.specs.Option.{option_map_or}
use Rattle.std.specs.declared.option.Option.{Option}
use Rattle.std.proofs.Math.Path.{fun_ext}
use Rattle.std.proofs.lemmas.Bool.{eqb-true, eqb-false, eq-eqb, ne_eqb, both_ways, or_from, ltb-true, ltb-false, cond-true}
use Rattle.std.proofs.lemmas.Option.{slice_get_past}
use Rattle.vs_graph.specs.declared.node.Node.{Node}
use Rattle.vs_graph.specs.declared.edit.Edit.{Edit}
use Rattle.vs_graph.specs.Edits.{overwritten, SaysAt}
use Rattle.vs_graph.specs.Good.{links_at, links_of, IsLinked, IsGoodNode, AreLinksGood}
use Rattle.vs_graph.specs.Good.{body_at}
use Rattle.vs_graph.specs.Table.{Table}
use Rattle.vs_graph.specs.Good.{layers_at}
use Rattle.vs_graph.specs.Relinks.{cleared, Relinks}
use Rattle.vs_graph.proofs.Goods.{links_elsewhere, contains_from}
use Rattle.vs_graph.specs.Table.{joined}
use Rattle.vs_unlink.specs.declared.Pair.{Pair}
use Rattle.vs_unlink.specs.Pairs.{has, detached, paired, IsPairing}
use Rattle.vs_unlink.specs.Unlinked.{bare, IsOutBelow, IsTakenOut}
use Rattle.vs_graph.proofs.Sorts.{In}
use Rattle.vs_unlink.proofs.Pairing.{in_contains}
use Rattle.vs_unlink.proofs.Paired.{same_list}
use Rattle.vs_unlink.proofs.Bare.{body_bare, layers_bare}

emptied : (xs : List (List ℕ)) (i : ℕ) → map {A = List ℕ} {B = List ℕ} (λ list. []) (slice_set xs i []) ≡ map (λ list. []) xs
emptied [] i = refl
emptied (x ∷ xs) zero = refl
emptied (x ∷ xs) (suc i) = ap (λ l. [] ∷ l) (emptied xs i)

bare_cleared : (layer : ℕ) (o : Option Node) → bare (cleared layer o) ≡ bare o
bare_cleared layer None = refl
bare_cleared layer (Some node) = ap (λ links. Some (record node { links = links })) (emptied node.links layer)

pub bare_kept : (at new : ℕ → Option Node) (layer : ℕ) (t : Table) → Relinks at new layer t → (id : ℕ) → bare (new id) ≡ bare (at id)
bare_kept at new layer t r id = sym (bare_cleared layer (new id)) ∙ ap bare (r.rest id) ∙ bare_cleared layer (at id)

bodies_by : (at new : ℕ → Option Node) → ((id : ℕ) → bare (new id) ≡ bare (at id)) → body_at new ≡ body_at at
bodies_by at new rest = fun_ext (λ id. sym (body_bare (new id)) ∙ ap (option_map (λ node. node.body)) (rest id) ∙ body_bare (at id))

layers_by : (at new : ℕ → Option Node) → ((id : ℕ) → bare (new id) ≡ bare (at id)) → (id : ℕ) → layers_at new id ≡ layers_at at id
layers_by at new rest id = sym (layers_bare (new id)) ∙ ap (λ o. option_map_or (λ node. length node.links) o 0) (rest id) ∙ layers_bare (at id)

pub out_none : (at : ℕ → Option Node) (x : ℕ) → IsOutBelow at at x 0
out_none at x = record {
  added = λ l. [];
  pairs = λ l h. absurd (omega arith);
  below = λ l h. absurd (omega arith);
  above = λ l h. refl;
  rest = λ id. refl;
  good = λ m dim g. g;
}

abbrev pub Step : (ℕ → Option Node) → (ℕ → Option Node) → ℕ → ℕ → Type 0
Step now new x n = (added : List Pair) × IsPairing (body_at now) (detached (links_at now n) x) (links_at now n x) added × Relinks now new n (paired (detached (links_at now n) x) added)

pub out_more : (at now new : ℕ → Option Node) (x n : ℕ) → IsOutBelow at now x n → Step now new x n → ((m dim : ℕ) → AreLinksGood now m dim → AreLinksGood new m dim) → IsOutBelow at new x (n + 1)
out_more at now new x n out step good = record {
  added = λ l. cond (eqb l n) step.0 (out.added l);
  pairs = λ l h. pairs_at l h (eqb l n) refl;
  below = λ l h. below_at l h (eqb l n) refl;
  above = λ l h. elsewhere l (λ e. absurd (omega (arith, e))) ∙ out.above l (omega arith);
  rest = λ id. bare_kept now new n (paired (detached (links_at now n) x) step.0) step.2 id ∙ out.rest id;
  good = λ m dim g. good m dim (out.good m dim g);
} where
  same : links_at now n ≡ links_at at n
  same = out.above n (omega arith)

  elsewhere : (l : ℕ) → l ≢ n → links_at new l ≡ links_at now l
  elsewhere l ne = fun_ext (λ id. links_elsewhere now new n l (paired (detached (links_at now n) x) step.0) step.2 ne id)

  pairs_at : (l : ℕ) → l < n + 1 → (b : Bool) → eqb l n ≡ b → IsPairing (body_at at) (detached (links_at at l) x) (links_at at l x) (cond b step.0 (out.added l))
  pairs_at l h true e =
      subst (λ k. IsPairing (body_at at) (detached (links_at at k) x) (links_at at k x) step.0) (sym (eqb-true l n e))
      (subst (λ u. IsPairing (body_at at) (detached u x) (u x) step.0) same (subst (λ b. IsPairing b (detached (links_at now n) x) (links_at now n x) step.0) (bodies_by at now out.rest) step.1))
  pairs_at l h false e = out.pairs l (below_n l h (eqb-false l n e)) where
    below_n : (l : ℕ) → l < n + 1 → (l ≡ n → ⊥) → l < n
    below_n l h ne = omega arith

  below_at : (l : ℕ) → l < n + 1 → (b : Bool) → eqb l n ≡ b → links_at new l ≡ paired (detached (links_at at l) x) (cond b step.0 (out.added l))
  below_at l h true e =
      subst (λ k. links_at new k ≡ paired (detached (links_at at k) x) step.0) (sym (eqb-true l n e)) (step.2.links ∙ ap (λ u. paired (detached u x) step.0) same)
  below_at l h false e = let ne : l ≢ n = eqb-false l n e in elsewhere l ne ∙ out.below l (omega arith)

-- ---- the member itself goes

not_in_pair : (p : Pair) (x : ℕ) → x ≢ p.one → x ≢ p.other → has p x ≡ false
not_in_pair p x one other = or_from (eqb x p.one) (eqb x p.other) (ne_eqb x p.one one) (ne_eqb x p.other other)

paired_apart : (x : ℕ) (ps : List Pair) (u : Table) → ((p : Pair) → In p ps → has p x ≡ false) → paired u ps x ≡ u x
paired_apart x [] u h = refl
paired_apart x (p ∷ ps) u h = paired_apart x ps (joined u p.one p.other) (λ q k. h q (inr k)) ∙ same_list u p x (h p (inl refl))

pub no_layers : (l : ℕ) (o : Option Node) → option_map_or (λ node. length node.links) o 0 ≤ l → option_map_or (λ node. links_of node l) o [] ≡ []
no_layers l None h = refl
no_layers l (Some node) h = ap (λ o. unwrap_or o []) (slice_get_past node.links l h)

names_gone : (a b : ℕ) (na nb oa ob : Option Node) → (na ≡ None) ⊎ (na ≡ oa) → (nb ≡ None) ⊎ (nb ≡ ob) → IfSome oa (λ x. IfSome ob (λ y. x.body.name ≡ y.body.name → a ≡ b))
    → IfSome na (λ x. IfSome nb (λ y. x.body.name ≡ y.body.name → a ≡ b))
names_gone a b na nb oa ob (inl e) f h = subst (λ o. IfSome o (λ x. IfSome nb (λ y. x.body.name ≡ y.body.name → a ≡ b))) (sym e) tt
names_gone a b na nb oa ob (inr e) (inr f) h =
    subst (λ o. IfSome o (λ x. IfSome nb (λ y. x.body.name ≡ y.body.name → a ≡ b))) (sym e) (subst (λ o. IfSome oa (λ x. IfSome o (λ y. x.body.name ≡ y.body.name → a ≡ b))) (sym f) h)
names_gone a b na nb oa ob (inr e) (inl f) h =
    subst (λ o. IfSome na (λ x. IfSome o (λ y. x.body.name ≡ y.body.name → a ≡ b))) (sym f) (nothing na) where
      nothing : (o : Option Node) → IfSome o (λ x. Unit {0})
      nothing None = tt
      nothing (Some n) = tt

nobody : (z : ℕ) → Contains {X = ℕ} [] z → ⊥
nobody z (k, h, e) = absurd (omega arith)

module _ (now new : ℕ → Option Node) (x : ℕ) (gone : new x ≡ None) (others : (q : ℕ) → q ≢ x → new q ≡ now q) (alone : (l : ℕ) → links_at now l x ≡ []) (m dim : ℕ) (good : AreLinksGood now m dim) where
  links_new : (l q : ℕ) → q ≢ x → links_at new l q ≡ links_at now l q
  links_new l q ne = ap (λ o. option_map_or (λ node. links_of node l) o []) (others q ne)

  links_gone : (l : ℕ) → links_at new l x ≡ []
  links_gone l = ap (λ o. option_map_or (λ node. links_of node l) o []) gone

  linked_now : (l a b : ℕ) → IsLinked new l a b → IsLinked now l a b
  linked_now l a b h = by_test (eqb a x) refl where
    by_test : (c : Bool) → eqb a x ≡ c → IsLinked now l a b
    by_test true e = absurd (nobody b (subst (λ xs. Contains xs b) (links_gone l) (subst (λ k. Contains (links_at new l k) b) (eqb-true a x e) h)))
    by_test false e = subst (λ xs. Contains xs b) (links_new l a (eqb-false a x e)) h

  not_x : (l a b : ℕ) → IsLinked now l a b → b ≢ x
  not_x l a b h e = nobody a (subst (λ xs. Contains xs a) (alone l) (subst (λ k. Contains (links_at now l k) a) e (good.back l a b h)))

  either : (q : ℕ) → (new q ≡ None) ⊎ (new q ≡ now q)
  either q = by_test (eqb q x) refl where
    by_test : (c : Bool) → eqb q x ≡ c → (new q ≡ None) ⊎ (new q ≡ now q)
    by_test true e = inl (ap new (eqb-true q x e) ∙ gone)
    by_test false e = inr (others q (eqb-false q x e))

  node_new : (q : ℕ) (o : Option Node) → (o ≡ None) ⊎ (o ≡ now q) → IfSome o (IsGoodNode m dim)
  node_new q o (inl e) = subst (λ p. IfSome p (IsGoodNode m dim)) (sym e) tt
  node_new q o (inr e) = subst (λ p. IfSome p (IsGoodNode m dim)) (sym e) (good.nodes q)

  small_new : (q : ℕ) (o : Option Node) → (o ≡ None) ⊎ (o ≡ now q) → IsSome o → q < 2 ^ 20
  small_new q o (inl e) h = absurd (both_ways (is_some o) (ap is_some e) h)
  small_new q o (inr e) h = good.small q (subst IsSome e h)

  pub good_gone : AreLinksGood new m dim
  good_gone = record {
    nodes = λ q. node_new q (new q) (either q);
    apart = λ l a h. good.apart l a (linked_now l a a h);
    stand = λ l a b h. (let k = linked_now l a b h in subst (λ o. IsSomeAnd o (λ node. l ≤ node.level)) (sym (others b (not_x l a b k))) (good.stand l a b k));
    back = λ l a b h. (let k = linked_now l a b h in subst (λ xs. Contains xs a) (sym (links_new l b (not_x l a b k))) (good.back l a b k));
    names = λ a b. names_gone a b (new a) (new b) (now a) (now b) (either a) (either b) (good.names a b);
    small = λ q h. small_new q (new q) (either q) h;
  }

-- x has no link left
alone_now : (at now : ℕ → Option Node) (x : ℕ) (m dim : ℕ) → AreLinksGood at m dim → IsOutBelow at now x (layers_at at x) → (l : ℕ) → links_at now l x ≡ []
alone_now at now x m dim good out l = by_layer (ltb l (layers_at at x)) refl where
  apart_x : (y : ℕ) → list_any (nat_eq y) (links_at at l x) ≡ true → x ≢ y
  apart_x y h e = good.apart l x (contains_from (links_at at l x) x (subst (λ k. list_any (nat_eq k) (links_at at l x) ≡ true) (sym e) h))

  by_layer : (b : Bool) → ltb l (layers_at at x) ≡ b → links_at now l x ≡ []
  by_layer true e =
      let h : l < layers_at at x = ltb-true l (layers_at at x) e in
      ap (λ u. u x) (out.below l h)
      ∙ paired_apart x (out.added l) (detached (links_at at l) x)
      (λ p k. (let c = in_contains p (out.added l) k in subst (λ q. has q x ≡ false) c.2 (let o = (out.pairs l h).are_open c.0 p c.1 in not_in_pair _ x (apart_x _ o.one) (apart_x _ o.other))))
      ∙ cond-true (eqb x x) [] _ (eq-eqb x x refl)
  by_layer false e = ap (λ u. u x) (out.above l (ltb-false l (layers_at at x) e)) ∙ no_layers l (at x) (ltb-false l (layers_at at x) e)

pub out_gone : (at now new : ℕ → Option Node) (x n : ℕ) (m dim : ℕ) → AreLinksGood at m dim → n ≡ layers_at at x → new x ≡ None → ((q : ℕ) → q ≢ x → new q ≡ now q) → IsOutBelow at now x n → IsTakenOut at new x (layers_at at x)
out_gone at now new x n m dim good same gone others part =
    let out : IsOutBelow at now x (layers_at at x) = subst (IsOutBelow at now x) same part in
    record {
      gone = gone;
      added = out.added;
      pairs = out.pairs;
      below = λ l id h ne. ap (λ o. option_map_or (λ node. links_of node l) o []) (others id ne) ∙ ap (λ u. u id) (out.below l h);
      above = λ l id h ne. ap (λ o. option_map_or (λ node. links_of node l) o []) (others id ne) ∙ ap (λ u. u id) (out.above l h);
      rest = λ id ne. ap bare (others id ne) ∙ out.rest id;
      good = λ m' dim' g. good_gone now new x gone others (alone_now at now x m dim good out) m' dim' (out.good m' dim' g);
    }

pub freed : (base : ℕ → Option Node) (old new : Edit) (x : ℕ) → SaysAt old new x None → (overwritten new base x ≡ None) × ((q : ℕ) → q ≢ x → overwritten new base q ≡ overwritten old base q)
freed base old new x says = (ap (λ o. unwrap_or o (base x)) says.there, λ q ne. ap (λ o. unwrap_or o (base q)) (says.others q ne))
