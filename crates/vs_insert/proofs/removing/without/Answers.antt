use Rattle.std.proofs.Common.{sym, subst}
use Rattle.std.specs.Prelude.{All}
use Rattle.vs_graph.specs.Edits.{overwritten}
use Rattle.vs_graph.specs.Good.{StandsAt}
use Rattle.vs_unlink.specs.declared.Orphan.{Orphan}
use Rattle.vs_insert.specs.Walked.{IsWalked}
use Rattle.vs_insert.proofs.Removal.{orphans_stand, without_after, good_after, removed_after, removed_empty, entry_other}
use Rattle.vs_insert.proofs.removing.without.Goals as goal

pub returns-in_default-clause-removes : goal.returns-in_default-clause-removes
returns-in_default-clause-removes g c =
    let s = c.args.graph.now in
    let at = g.N.Nodes.at s.nodes in
    let u = c.in_ok-edit.ensures in
    removed_empty at (overwritten c.in_ok-edit.edit at) s.entry s.m s.dim c.args.x c.in_ok-edit.orphans u.whole u.unlinked c.in_default.ensures.top c.in_default.ensures.named

pub relink_all-requires-clause-stand : goal.relink_all-requires-clause-stand
relink_all-requires-clause-stand g c =
    let left = overwritten c.in_ok-edit.edit (g.N.Nodes.at c.args.graph.now.nodes) in
    subst (λ l. All (λ (o : Orphan). StandsAt left o.layer o.id) l) (sym c.as_slice.ensures) (orphans_stand left c.in_ok-edit.orphans c.in_ok-edit.ensures.unlinked.alone)

pub returns-clause-good : goal.returns-clause-good
returns-clause-good g c =
    let s = c.args.graph.now in
    let at = g.N.Nodes.at s.nodes in
    let left = overwritten c.in_ok-edit.edit at in
    let new = overwritten c.relink_all.new.edit at in
    let u = c.in_ok-edit.ensures in
    let w = subst (λ l. IsWalked at left new s.entry s.m s.dim c.in-Some.entry l) c.as_slice.ensures c.in_ok-relink_all.ensures in
    good_after at left s.entry s.m s.dim c.args.x c.in_ok-edit.orphans u.whole u.unlinked new c.in-Some.entry w c.in-Some.ensures.top

pub returns-clause-without : goal.returns-clause-without
returns-clause-without g c =
    let s = c.args.graph.now in
    let at = g.N.Nodes.at s.nodes in
    let left = overwritten c.in_ok-edit.edit at in
    let new = overwritten c.relink_all.new.edit at in
    let u = c.in_ok-edit.ensures in
    let w = subst (λ l. IsWalked at left new s.entry s.m s.dim c.in-Some.entry l) c.as_slice.ensures c.in_ok-relink_all.ensures in
    without_after at left s.entry s.m s.dim c.args.x c.in_ok-edit.orphans u.whole u.unlinked new c.in-Some.entry w

pub returns-clause-removes : goal.returns-clause-removes
returns-clause-removes g c =
    let s = c.args.graph.now in
    let at = g.N.Nodes.at s.nodes in
    let left = overwritten c.in_ok-edit.edit at in
    let new = overwritten c.relink_all.new.edit at in
    let u = c.in_ok-edit.ensures in
    let w = subst (λ l. IsWalked at left new s.entry s.m s.dim c.in-Some.entry l) c.as_slice.ensures c.in_ok-relink_all.ensures in
    removed_after at left s.entry s.m s.dim c.args.x c.in_ok-edit.orphans u.whole u.unlinked new c.in-Some.entry w (entry_other left c.args.x c.in-Some.entry u.unlinked.gone.gone c.in-Some.ensures.top) c.in-Some.ensures.named
