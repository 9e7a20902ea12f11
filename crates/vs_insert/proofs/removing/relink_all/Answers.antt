use Rattle.std.proofs.Common.{◌≡◌, ◌+◌, sym, subst, take, take-suc, get_or, suc, arith}
use Rattle.vs_graph.specs.Edits.{overwritten}
use Rattle.vs_insert.proofs.Bare.{stands_on}
use Rattle.vs_unlink.specs.declared.Orphan.{Orphan}
use Rattle.vs_insert.specs.Walked.{IsWalked}
use Rattle.vs_insert.proofs.Staying.{without_on, entry_on}
use Rattle.vs_insert.proofs.Walked.{walked_more}
use Rattle.vs_insert.proofs.removing.relink_all.Goals as goal

pub relink_if_alone-requires-clause-without : goal.relink_if_alone-requires-clause-without
relink_if_alone-requires-clause-without g c =
    let at = g.N.Nodes.at c.args.graph.now.nodes in
    (c.requires.without.0, without_on at (overwritten c.args.edit.now at) (overwritten c.loop-orphan.edit at) c.requires.without.0 c.loop-orphan.invariant.rest c.requires.without.1)

pub relink_if_alone-requires-clause-links : goal.relink_if_alone-requires-clause-links
relink_if_alone-requires-clause-links g c = c.loop-orphan.invariant.good

pub relink_if_alone-requires-clause-top : goal.relink_if_alone-requires-clause-top
relink_if_alone-requires-clause-top g c =
    let at = g.N.Nodes.at c.args.graph.now.nodes in
    entry_on (overwritten c.args.edit.now at) (overwritten c.loop-orphan.edit at) c.args.entry c.loop-orphan.invariant.rest c.requires.top

pub relink_if_alone-requires-clause-stands : goal.relink_if_alone-requires-clause-stands
relink_if_alone-requires-clause-stands g c =
    let at = g.N.Nodes.at c.args.graph.now.nodes in
    let o : Orphan = get_or c.args.orphans.now c.loop-orphan.orphan-index (record { layer = 0; id = 0 }) in
    stands_on (overwritten c.args.edit.now at) (overwritten c.loop-orphan.edit at) c.loop-orphan.invariant.rest o.layer o.id
    (c.requires.stand c.loop-orphan.orphan-index (record { layer = 0; id = 0 }) c.loop-orphan-test.true)

pub loop-orphan-preserved : goal.loop-orphan-preserved
loop-orphan-preserved g c =
    let s = c.args.graph.now in
    let at = g.N.Nodes.at s.nodes in
    let left = overwritten c.args.edit.now at in
    let now = overwritten c.loop-orphan.edit at in
    let new = overwritten c.relink_if_alone.new.edit at in
    let k = c.loop-orphan.orphan-index in
    let o : Orphan = get_or c.args.orphans.now k (record { layer = 0; id = 0 }) in
    let more : suc k ≡ k + 1 = omega arith in
    subst (λ n. IsWalked at left new s.entry s.m s.dim c.args.entry (take n c.args.orphans.now)) more
    (subst (λ l. IsWalked at left new s.entry s.m s.dim c.args.entry l) (sym (take-suc c.args.orphans.now k (record { layer = 0; id = 0 }) c.loop-orphan-test.true))
    (walked_more at left now new s.entry s.m s.dim c.args.entry (take k c.args.orphans.now) o c.requires.links
    (c.requires.stand k (record { layer = 0; id = 0 }) c.loop-orphan-test.true) c.loop-orphan.invariant c.in_ok-relink_if_alone.ensures))
