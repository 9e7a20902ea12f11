use Rattle.std.proofs.Common.{◌≡◌, ◌+◌, ◌-◌, ◌≤◌, Bool}
use Rattle.vs_rank.specs.Tests.{Attribute, Answers}
use Rattle.vs_truth.specs.Nears.{firsts, nears_between}
use Rattle.vs_truth.proofs.scan.first_passing.Given as goal

-- the members of the range before this one are scanned
abbrev pub invariant-loop-place : goal.invariant-loop-place
invariant-loop-place g l = record {
  most : l.few.most ≡ l.room;
  begun : l.from ≤ l.place;
  inside : l.place ≤ l.to;
  nears : (passes : Attribute → Bool) → Answers (g.F.Testing.gives l.wanted.test) passes → l.few.nears ≡ firsts l.room (nears_between passes l.query (g.M.Members.members l.members) l.from l.place);
  told : l.reads ≤ l.fn.reads + (l.place - l.from);
}

abbrev pub decreases-loop-place : goal.decreases-loop-place
decreases-loop-place g l = l.to - l.place
