-- What rows tell of nodes.
--     put_here, put_there  after a node's words are put: of its id, and of the others
--     told_after           after a publish
--     next_listed          one change more, of which the id is listed or its words are told
--     so_far, of_all       what holds of the ids of a list, one after another
use Rattle.std.proofs.Common.{◌≡◌, ◌⊎◌, ◌++◌, ◌∷◌, [], ◌==◌, ◌<◌, ◌+◌, ℕ, Bool, true, false, List, Contains, cond, length, get_or, refl, sym, subst, ap, ◌∙◌, inl, inr, arith}
use Rattle.std.specs.Prelude.{Some, None, IfSome, unwrap_or}
use Rattle.std.specs.declared.option.Option.{Option}
use Rattle.std.proofs.lemmas.Bool.{cases_eq}
use Rattle.std.proofs.lemmas.List.Elements.{at_from_Contains}
use Rattle.std.proofs.lemmas.Option.{none-some, same_Some}
use Rattle.vs_graph.specs.declared.node.Node.{Node}
use Rattle.vs_page.specs.declared.rows.Rows.{Rows}
use Rattle.vs_page.specs.Rows.{IsPut}
use Rattle.vs_page.specs.Told.{row_at}
use Rattle.std.proofs.lemmas.Bool.{eqb-true}
use Rattle.std.specs.Option.{option_or}
use Rattle.vs_page.specs.Changes.{says}
use Rattle.vs_page.specs.declared.page_map.Change.{Change}
use Rattle.vs_page.specs.PagedWords.{TellsAt, IsToldAs}
use Rattle.vs_page.proofs.Trees.{says_append}

module _ (nodes : ℕ → Option Node) where
  module _ (old new : Rows) (id : ℕ) (node : Node) (is : nodes id ≡ Some node) (put : IsPut (row_at old) (row_at new) id (Some node.body.bits)) where
    pub put_here : TellsAt new nodes id
    put_here other words there told =
        sym (same_Some node.body.bits words (subst (λ o. IfSome o (λ row. Some node.body.bits ≡ Some row)) told put.there))
        ∙ ap (λ n. n.body.bits) (same_Some node other (sym is ∙ there))

    pub put_there : (q : ℕ) → TellsAt old nodes q → TellsAt new nodes q
    put_there q tells = elim (cases_eq q id) [
      | inl e ↦ subst (TellsAt new nodes) (sym e) put_here
      | inr ne ↦ λ other words there told. tells other words there (subst (λ o. IfSome o (λ row. row_at old q ≡ Some row)) told (put.others q ne))
    ]

-- ---- the ids of changes whose words are not told

module _ (rows : Rows) where
  abbrev pub Listed : List ℕ → ℕ → Option Node → Type 0
  Listed ids q item = Contains ids q ⊎ IsToldAs rows q item

  kept_listed : (ids new : List ℕ) (q : ℕ) (item : Option Node) → ((x : ℕ) → Contains ids x → Contains new x) → Listed ids q item → Listed new q item
  kept_listed ids new q item more (inl h) = inl (more q h)
  kept_listed ids new q item more (inr h) = inr h

  last_listed : (new : List ℕ) (c : Change Node) (q : ℕ) (b : Bool) → (c.id == q) ≡ b → Listed new c.id c.item → IfSome (cond b (Some c.item) None) (λ item. Listed new q item)
  last_listed new c q true e here = subst (λ n. Listed new n c.item) (eqb-true c.id q e) here
  last_listed new c q false e here = tt

  or_listed : (ids new : List ℕ) (q : ℕ) (o last : Option (Option Node)) → ((x : ℕ) → Contains ids x → Contains new x) → IfSome o (λ item. Listed ids q item) → IfSome last (λ item. Listed new q item)
      → IfSome (option_or o last) (λ item. Listed new q item)
  or_listed ids new q None last more first there = there
  or_listed ids new q (Some item) last more first there = kept_listed ids new q item more first

  pub next_listed : (ids new : List ℕ) (cs : List (Change Node)) (c : Change Node) → ((x : ℕ) → Contains ids x → Contains new x) → Listed new c.id c.item
      → ((q : ℕ) → IfSome (says cs q) (λ item. Listed ids q item)) → (q : ℕ) → IfSome (says (cs ++ c ∷ []) q) (λ item. Listed new q item)
  next_listed ids new cs c more here all q =
      subst (λ o. IfSome o (λ item. Listed new q item)) (sym (says_append cs (c ∷ []) q))
      (or_listed ids new q (says cs q) (says (c ∷ []) q) more (all q) (last_listed new c q (c.id == q) refl here))

-- what is told after a publish: the words of nodes that the edit doesn't change, of changed ones that are told already, and of those that were listed
module _ (rows new : Rows) (before after : ℕ → Option Node) (id : ℕ) (untold : List ℕ) where
  told_already : (item : Option Node) (node : Node) (words : List ℕ) → IsToldAs rows id item → item ≡ Some node → row_at rows id ≡ Some words → words ≡ node.body.bits
  told_already None node words same is told = absurd (none-some node is)
  told_already (Some n) node words same is told = same_Some words n.body.bits (sym told ∙ same) ∙ ap (λ x. x.body.bits) (same_Some n node is)

  pub told_after : (said : Option (Option Node)) → after id ≡ unwrap_or said (before id) → IfSome said (λ item. Listed rows untold id item) → TellsAt rows before id
      → (Contains untold id → TellsAt new after id) → (TellsAt rows after id → TellsAt new after id) → TellsAt new after id
  told_after None is listed tells there others = others (λ node words has told. tells node words (sym is ∙ has) told)
  told_after (Some item) is (inl h) tells there others = there h
  told_after (Some item) is (inr same) tells there others = others (λ node words has told. told_already item node words same (sym is ∙ has) told)

-- ---- the ids of a list

module _ (P : ℕ → Type 0) (ids : List ℕ) where
  pub so_far : (k : ℕ) → ((j : ℕ) → j < k → P (get_or ids j 0)) → P (get_or ids k 0) → (j : ℕ) → j < k + 1 → P (get_or ids j 0)
  so_far k before here j less = elim (cases_eq j k) [
    | inl e ↦ subst (λ n. P (get_or ids n 0)) (sym e) here
    | inr ne ↦ before j (omega (arith, less, ne))
  ]

  pub of_all : ((j : ℕ) → j < length ids → P (get_or ids j 0)) → (q : ℕ) → Contains ids q → P q
  of_all all q has = let place = at_from_Contains ids q has in subst P (place.2 0) (all place.0 place.1)
