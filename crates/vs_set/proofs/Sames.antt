-- A set after a change of its graph that was refused: it is as it was.
use Rattle.std.proofs.Common.{◌≡◌, ℕ, sym, subst}
use Rattle.std.specs.Prelude.{Ok, Err, OnErr}
use Rattle.std.specs.declared.result.Result.{Result}
use Rattle.std.specs.declared.option.Option.{Option}
use Rattle.vs_graph.specs.declared.node.Node.{Node}
use Rattle.vs_graph.specs.Replaced.{IsSameGraph}
use Rattle.vs_graph.specs.Seen.{Seen}
use Rattle.vs_order.specs.Entries.{Entries}
use Rattle.vs_page.specs.declared.rows.Rows.{Rows}
use Rattle.vs_set.specs.Kept.{set_by, AreNamed, IsKept, KeepRows}

module _ {N : Type 0} (at : N → ℕ → Option Node) (new old : Seen N) (same : IsSameGraph at new old) (after before : Entries) (entries : after ≡ before) where
  pub kept_same : (order : Entries) (attributes : ℕ) → IsKept (at old.nodes) old.dim before order attributes → IsKept (at new.nodes) new.dim after order attributes
  kept_same order attributes kept =
      subst (λ f. IsKept f new.dim after order attributes) (sym same.nodes)
      (subst (λ d. IsKept (at old.nodes) d after order attributes) (sym same.dim) (subst (λ es. IsKept (at old.nodes) old.dim es order attributes) (sym entries) kept))

  pub named_same : AreNamed (at old.nodes) before → AreNamed (at new.nodes) after
  named_same named = subst (λ f. AreNamed f after) (sym same.nodes) (subst (AreNamed (at old.nodes)) (sym entries) named)

  pub rows_same_graph : (rows : Rows) → KeepRows (at old.nodes) old.dim before rows → KeepRows (at new.nodes) new.dim after rows
  rows_same_graph rows keep =
      subst (λ f. KeepRows f new.dim after rows) (sym same.nodes)
      (subst (λ d. KeepRows (at old.nodes) d after rows) (sym same.dim) (subst (λ es. KeepRows (at old.nodes) old.dim es rows) (sym entries) keep))

  pub set_same : (cut : ℕ) → set_by (at new.nodes) new.entry new.m new.dim cut after ≡ set_by (at old.nodes) old.entry old.m old.dim cut before
  set_same cut = λ i. set_by (same.nodes i) (same.entry i) (same.m i) (same.dim i) cut (entries i)

pub on_err : {T E P : Type 0} (r : Result T E) → P → OnErr r P
on_err (Ok v) p = tt
on_err (Err e) p = p
