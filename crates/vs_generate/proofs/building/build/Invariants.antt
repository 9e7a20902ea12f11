use Rattle.std.proofs.Common.{◌≡◌, ◌-◌}
use Rattle.vs_session_defs.specs.Words.{generator, after_draws}
use Rattle.vs_gen.specs.Generated.{at}
use Rattle.vs_generate.specs.Grown.{IsGrown}
use Rattle.vs_generate.proofs.building.build.Given as goal

-- both streams are behind the words of the members that were added
abbrev pub invariant-loop-store : goal.invariant-loop-store
invariant-loop-store l = record {
  vectors : l.generator ≡ at l.fn.seed l.fn.members l.fn.dim l.generator.next;
  levels : l.levels ≡ after_draws l.generator.next (generator l.fn.seed 0);
  grown : IsGrown l.fn.seed l.generator.next l.fn.dim l.store;
}

abbrev pub decreases-loop-store : goal.decreases-loop-store
decreases-loop-store l = l.generator.members - l.generator.next
