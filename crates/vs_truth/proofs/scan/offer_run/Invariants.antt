use Rattle.std.proofs.Common.{◌≡◌, ℕ, ◌+◌, ◌≤◌, Bool}
use Rattle.vs_rank.specs.Tests.{Attribute, Answers}
use Rattle.vs_truth.specs.Nears.{firsts, nears_between}
use Rattle.vs_truth.proofs.scan.offer_run.Given as goal

-- the members before this row are offered
abbrev pub invariant-loop-row : goal.invariant-loop-row
invariant-loop-row g l = record {
  most : l.few.most ≡ l.fn.few.most;
  inside : l.row ≤ l.run.rows;
  nears : (passes : Attribute → Bool) → Answers (g.F.Testing.gives l.wanted.test) passes → (from : ℕ) → from ≤ l.place → l.fn.few.nears ≡ firsts l.fn.few.most (nears_between passes l.query (g.M.Members.members l.members) from l.place)
      → l.few.nears ≡ firsts l.fn.few.most (nears_between passes l.query (g.M.Members.members l.members) from (l.place + l.row));
}
