-- What a change of links leaves as it was: who is out, the entry, and links at other layers.
use Rattle.std.proofs.Common.{◌≡◌, ℕ, ◌<◌, ◌≤◌, length, refl, sym, ap, ◌∙◌, subst, inl, inr}
use Rattle.std.specs.Prelude.{Some, None, IsSomeAnd, IfSome, option_map}
use Rattle.std.specs.declared.option.Option.{Option}
use Rattle.std.proofs.lemmas.Bool.{cases_eq}
use Rattle.vs_graph.specs.declared.node.Node.{Node}
use Rattle.vs_graph.specs.Good.{links_at, IsEntry}
use Rattle.vs_graph.specs.GoodTable.{KeepsLinked}
use Rattle.vs_graph.specs.Relinks.{Relinks}
use Rattle.vs_graph.specs.Table.{Table}
use Rattle.vs_graph.proofs.Goods.{links_elsewhere}
use Rattle.vs_unlink.specs.Unlinked.{bare, IsWithout}
use Rattle.vs_unlink.proofs.Bare.{still_none}

-- who is out stays out
pub without_on : (at left now : ℕ → Option Node) (x : ℕ) → ((id : ℕ) → bare (now id) ≡ bare (left id)) → IsWithout at left x → IsWithout at now x
without_on at left now x rest out = record {
  was = out.was;
  gone = still_none (now x) (rest x ∙ ap bare out.gone);
  others = λ q ne. rest q ∙ out.others q ne;
}

level_bare : (o p : Option Node) → bare o ≡ bare p → option_map (λ (n : Node). n.level) o ≡ option_map (λ (n : Node). n.level) p
level_bare o p e = sym (of o) ∙ ap (option_map (λ (n : Node). n.level)) e ∙ of p where
  of : (q : Option Node) → option_map (λ (n : Node). n.level) (bare q) ≡ option_map (λ (n : Node). n.level) q
  of None = refl
  of (Some n) = refl

-- the entry is of greatest level still
abbrev HighestBy : Option ℕ → (ℕ → Option ℕ) → Type 0
HighestBy l levels = IsSomeAnd l (λ k. (id : ℕ) → IfSome (levels id) (λ j. j ≤ k))

to_levels : (f : ℕ → Option Node) (o : Option Node) → IsSomeAnd o (λ n. (id : ℕ) → IfSome (f id) (λ k. k.level ≤ n.level)) → HighestBy (option_map (λ (n : Node). n.level) o) (λ id. option_map (λ (n : Node). n.level) (f id))
to_levels f None h = h
to_levels f (Some n) h = λ id. by (f id) (h id) where
  by : (o : Option Node) → IfSome o (λ k. k.level ≤ n.level) → IfSome (option_map (λ (k : Node). k.level) o) (λ j. j ≤ n.level)
  by None k = k
  by (Some other) k = k

from_levels : (f : ℕ → Option Node) (o : Option Node) → HighestBy (option_map (λ (n : Node). n.level) o) (λ id. option_map (λ (n : Node). n.level) (f id)) → IsSomeAnd o (λ n. (id : ℕ) → IfSome (f id) (λ k. k.level ≤ n.level))
from_levels f None h = h
from_levels f (Some n) h = λ id. by (f id) (h id) where
  by : (o : Option Node) → IfSome (option_map (λ (k : Node). k.level) o) (λ j. j ≤ n.level) → IfSome o (λ k. k.level ≤ n.level)
  by None k = k
  by (Some other) k = k

pub entry_on : (left now : ℕ → Option Node) (e : ℕ) → ((id : ℕ) → bare (now id) ≡ bare (left id)) → IsEntry left (Some e) → IsEntry now (Some e)
entry_on left now e rest top =
    from_levels now (now e) (subst (λ l. HighestBy l (λ id. option_map (λ (n : Node). n.level) (now id))) (level_bare (left e) (now e) (sym (rest e)))
    (same_levels (to_levels left (left e) top))) where
      same_levels : HighestBy (option_map (λ (n : Node). n.level) (left e)) (λ id. option_map (λ (n : Node). n.level) (left id)) → HighestBy (option_map (λ (n : Node). n.level) (left e)) (λ id. option_map (λ (n : Node). n.level) (now id))
      same_levels h = subst (λ f. HighestBy (option_map (λ (n : Node). n.level) (left e)) f) (λ i id. level_bare (left id) (now id) (sym (rest id)) i) h

-- who has a link at any layer keeps one, where those of one layer do
pub kept_on : (now new : ℕ → Option Node) (layer : ℕ) (t : Table) → Relinks now new layer t → KeepsLinked (links_at now layer) (links_at new layer) → (l : ℕ) → KeepsLinked (links_at now l) (links_at new l)
kept_on now new layer t joined kept l a h = elim (cases_eq l layer) [
  | inl is ↦ subst (λ k. 0 < length (links_at new k a)) (sym is) (kept a (subst (λ k. 0 < length (links_at now k a)) is h))
  | inr ne ↦ subst (λ xs. 0 < length xs) (sym (links_elsewhere now new layer l t joined ne a)) h
]
