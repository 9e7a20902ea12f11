use Rattle.std.proofs.Common.{◌≡◌, ◌≤◌, ◌<◌, sym, ap, ◌∙◌, subst}
use Rattle.std.specs.Prelude.{Some}
use Rattle.vs_graph.specs.declared.node.Node.{Node}
use Rattle.vs_graph.specs.Edits.{overwritten}
use Rattle.vs_graph.specs.Good.{IsGood}
use Rattle.vs_graph.specs.Newcomer.{ChangesAt, IsNewcomer}
use Rattle.vs_unlink.specs.Unlinked.{bare}
use Rattle.vs_insert.specs.Joined.{layers_shared, IsJoinedFrom}
use Rattle.vs_insert.specs.Added.{entry_after}
use Rattle.vs_insert.proofs.Adding.{same_but_links, added_good}
use Rattle.vs_insert.proofs.Named.{last_id, members_are, linked_by}
use Rattle.vs_insert.proofs.Committed.{links_put, change_at, joined_at, entry_taken, entry_kept}
use Rattle.vs_insert.proofs.committing.addition.Goals as goal
use Rattle.vs_insert.proofs.committing.addition.Goals.{then-shared-level, else-shared-level}

pub join_layers-requires-clause-good : goal.join_layers-requires-clause-good
join_layers-requires-clause-good g c =
    let base = g.N.Nodes.at c.nodes-nodes.result.now in
    let s = c.args.graph.now in
    let d = c.args.draft in
    let node : Node = record { body = d.body; attr = c.args.attr; level = d.level; links = c.in_ok-new.field-0 } in (
      s.dim,
      c.nodes-nodes.ensures.good.dim_high,
      links_put c.new-edit.result c.put_newcomer.new.edit base (g.N.Nodes.at s.nodes) (ap g.N.Nodes.at c.nodes-nodes.ensures.nodes) c.new-edit.ensures s.m c.m.result s.dim node c.m.ensures.m c.nodes-nodes.ensures.good.links c.requires.fits
          c.in_ok-put_newcomer.ensures.good,
    )

pub returns-clause-good : goal.returns-clause-good
returns-clause-good g c =
    let base = g.N.Nodes.at c.nodes-nodes.result.now in
    let s = c.args.graph.now in
    let d = c.args.draft in
    let id = c.args.id in
    let at = g.N.Nodes.at s.nodes in
    let same : base ≡ at = ap g.N.Nodes.at c.nodes-nodes.ensures.nodes in
    let node : Node = record { body = d.body; attr = c.args.attr; level = d.level; links = c.in_ok-new.field-0 } in
    let mid = overwritten c.put_newcomer.new.edit at in
    let new = overwritten c.join_layers.new.edit at in
    let newcomer : IsNewcomer at id node = record { free = c.requires.free; small = c.requires.small; level = c.requires.level; lists = c.in_ok-new.ensures; name = c.requires.name } in
    let change : ChangesAt at mid id (Some node) = change_at c.new-edit.result c.put_newcomer.new.edit base at same c.new-edit.ensures id node c.in_ok-put_newcomer.ensures.put in
    let j : IsJoinedFrom mid new s.m id s.entry d.chosen 0 = joined_at c.put_newcomer.new.edit c.join_layers.new.edit base at c.m.result s.m id c.entry-entry.result s.entry c.as_slice.result.now d.chosen same c.m.ensures.m c.entry-entry.ensures.entry c.as_slice.ensures
    c.in_ok-join_layers.ensures.joined in
    let good = added_good at mid s.entry s.m s.dim id node c.nodes-nodes.ensures.good newcomer change new d.chosen c.requires.chosen.layers c.requires.fits j in
    let shared : c.shared_layers-shared.result ≡ layers_shared at s.entry d.level = c.shared_layers-shared.ensures.shared ∙ ap (λ a. layers_shared a c.entry-entry.result d.level) same ∙ ap (λ e. layers_shared at e d.level) c.entry-entry.ensures.entry in
    let after : c.if-shared-level.after ≡ entry_after at s.entry id d.level =
    elim c.if-shared-level.branch [
      | then-shared-level w ↦ w.after-is ∙ sym (entry_taken at s.entry id d.level (subst (λ k. k ≤ d.level) shared w.if-shared-level.true))
      | else-shared-level w ↦ w.after-is ∙ c.entry-entry.ensures.entry ∙ sym (entry_kept at s.entry id d.level (subst (λ k. d.level < k) shared w.if-shared-level.false))
    ] in
    subst (λ e. IsGood new e s.m s.dim) (sym after) good

pub returns-clause-added : goal.returns-clause-added
returns-clause-added g c =
    let base = g.N.Nodes.at c.nodes-nodes.result.now in
    let s = c.args.graph.now in
    let d = c.args.draft in
    let id = c.args.id in
    let at = g.N.Nodes.at s.nodes in
    let same : base ≡ at = ap g.N.Nodes.at c.nodes-nodes.ensures.nodes in
    let node : Node = record { body = d.body; attr = c.args.attr; level = d.level; links = c.in_ok-new.field-0 } in
    let mid = overwritten c.put_newcomer.new.edit at in
    let new = overwritten c.join_layers.new.edit at in
    let newcomer : IsNewcomer at id node = record { free = c.requires.free; small = c.requires.small; level = c.requires.level; lists = c.in_ok-new.ensures; name = c.requires.name } in
    let change : ChangesAt at mid id (Some node) = change_at c.new-edit.result c.put_newcomer.new.edit base at same c.new-edit.ensures id node c.in_ok-put_newcomer.ensures.put in
    let j : IsJoinedFrom mid new s.m id s.entry d.chosen 0 = joined_at c.put_newcomer.new.edit c.join_layers.new.edit base at c.m.result s.m id c.entry-entry.result s.entry c.as_slice.result.now d.chosen same c.m.ensures.m c.entry-entry.ensures.entry c.as_slice.ensures
    c.in_ok-join_layers.ensures.joined in
    let good = c.nodes-nodes.ensures.good in
    record {
      there = same_but_links (new id) node (j.rest id ∙ ap bare change.there);
      others = λ q ne. j.rest q ∙ ap bare (change.others q ne);
      last = last_id at mid s.entry s.m s.dim id node good newcomer change c.requires.fits new d.chosen c.requires.chosen.layers j;
      members = members_are at mid s.entry s.m s.dim id node good newcomer change c.requires.fits new d.chosen c.requires.chosen.layers j;
      linked = linked_by at mid s.entry s.m s.dim id node good newcomer change c.requires.fits new d.chosen c.requires.chosen.layers j;
    }
