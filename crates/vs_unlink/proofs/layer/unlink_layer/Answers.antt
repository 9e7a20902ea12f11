use Rattle.std.proofs.Common.{◌≡◌, ◌∙◌, sym, subst}
use Rattle.std.specs.Prelude.{nat_eq}
use Rattle.std.specs.List.{IsDistinct}
use Rattle.vs_graph.specs.Edits.{overwritten}
use Rattle.vs_graph.specs.Good.{links_at, most_links}
use Rattle.vs_graph.specs.Good.{body_at}
use Rattle.vs_unlink.specs.Pairs.{IsPairing}
use Rattle.vs_graph.proofs.Goods.{table_from}
use Rattle.vs_unlink.proofs.Taking.{mid_alike, mid_live, mid_differ, added_stand, pairing_at, taken_out, good_taken}
use Rattle.vs_unlink.proofs.layer.unlink_layer.Goals as goal

pub detach-requires-clause-good : goal.detach-requires-clause-good
detach-requires-clause-good g c =
    (most_links c.requires.good.0 c.args.layer, table_from (overwritten c.args.edit.now (g.N.Nodes.at c.args.base.now)) c.requires.good.0 c.requires.good.1.0 c.args.layer c.requires.good.1.2)

pub pairing-requires-clause-alike : goal.pairing-requires-clause-alike
pairing-requires-clause-alike g c =
    let base = g.N.Nodes.at c.args.base.now in
    mid_alike (overwritten c.args.edit.now base) c.requires.good.0 c.requires.good.1.0 c.args.layer c.args.x c.requires.good.1.2 (overwritten c.detach.new.edit base) c.in_ok-former.ensures.links c.as_slice.result.now
    (c.as_slice.ensures ∙ c.in_ok-former.ensures.former) c.requires.good.1.1

pub pairing-requires-clause-live : goal.pairing-requires-clause-live
pairing-requires-clause-live g c =
    let base = g.N.Nodes.at c.args.base.now in
    mid_live (overwritten c.args.edit.now base) c.requires.good.0 c.requires.good.1.0 c.args.layer c.args.x c.requires.good.1.2 (overwritten c.detach.new.edit base) c.in_ok-former.ensures.links c.as_slice.result.now
    (c.as_slice.ensures ∙ c.in_ok-former.ensures.former)

pub pairing-requires-clause-once : goal.pairing-requires-clause-once
pairing-requires-clause-once g c =
    let base = g.N.Nodes.at c.args.base.now in
    let table = table_from (overwritten c.args.edit.now base) c.requires.good.0 c.requires.good.1.0 c.args.layer c.requires.good.1.2 in
    subst (IsDistinct nat_eq) (sym (c.as_slice.ensures ∙ c.in_ok-former.ensures.former)) (table.once c.args.x)

pub pairing-requires-clause-differ : goal.pairing-requires-clause-differ
pairing-requires-clause-differ g c =
    let base = g.N.Nodes.at c.args.base.now in
    mid_differ (overwritten c.args.edit.now base) c.requires.good.0 c.requires.good.1.0 c.args.layer c.args.x c.requires.good.1.2 (overwritten c.detach.new.edit base) c.in_ok-former.ensures.links c.as_slice.result.now
    (c.as_slice.ensures ∙ c.in_ok-former.ensures.former)

pub join_all-requires : goal.join_all-requires
join_all-requires g c =
    let base = g.N.Nodes.at c.args.base.now in
    let mid = overwritten c.detach.new.edit base in
    added_stand (overwritten c.args.edit.now base) c.requires.good.0 c.requires.good.1.0 c.args.layer c.args.x c.requires.good.1.2 mid c.in_ok-former.ensures.links c.as_slice.result.now
    (c.as_slice.ensures ∙ c.in_ok-former.ensures.former) c.as_slice-2.result.now (subst (IsPairing (body_at mid) (links_at mid c.args.layer) c.as_slice.result.now) (sym c.as_slice-2.ensures) c.in_ok-added.ensures)

pub returns-clause-links : goal.returns-clause-links
returns-clause-links g c =
    let base = g.N.Nodes.at c.args.base.now in
    let at = overwritten c.args.edit.now base in
    let mid = overwritten c.detach.new.edit base in
    let same : c.as_slice.result.now ≡ links_at at c.args.layer c.args.x = c.as_slice.ensures ∙ c.in_ok-former.ensures.former in
    let p : IsPairing (body_at mid) (links_at mid c.args.layer) c.as_slice.result.now c.as_slice-2.result.now = subst (IsPairing (body_at mid) (links_at mid c.args.layer) c.as_slice.result.now) (sym c.as_slice-2.ensures) c.in_ok-added.ensures in (
      c.as_slice-2.result.now,
      pairing_at at c.requires.good.0 c.requires.good.1.0 c.args.layer c.args.x c.requires.good.1.2 mid c.in_ok-former.ensures.links c.as_slice.result.now same c.as_slice-2.result.now p,
      taken_out at c.requires.good.0 c.requires.good.1.0 c.args.layer c.args.x c.requires.good.1.2 mid c.in_ok-former.ensures.links c.as_slice.result.now same c.as_slice-2.result.now p (overwritten c.join_all.new.edit base) c.in_ok-join_all.ensures,
    )

pub returns-clause-good : goal.returns-clause-good
returns-clause-good g c = λ m dim good.
    let base = g.N.Nodes.at c.args.base.now in
    let at = overwritten c.args.edit.now base in
    let mid = overwritten c.detach.new.edit base in
    let same : c.as_slice.result.now ≡ links_at at c.args.layer c.args.x = c.as_slice.ensures ∙ c.in_ok-former.ensures.former in
    let p : IsPairing (body_at mid) (links_at mid c.args.layer) c.as_slice.result.now c.as_slice-2.result.now = subst (IsPairing (body_at mid) (links_at mid c.args.layer) c.as_slice.result.now) (sym c.as_slice-2.ensures) c.in_ok-added.ensures in
    good_taken at (overwritten c.join_all.new.edit base) m dim c.args.layer c.args.x c.as_slice-2.result.now good
    (pairing_at at m dim c.args.layer c.args.x good mid c.in_ok-former.ensures.links c.as_slice.result.now same c.as_slice-2.result.now p)
    (taken_out at m dim c.args.layer c.args.x good mid c.in_ok-former.ensures.links c.as_slice.result.now same c.as_slice-2.result.now p (overwritten c.join_all.new.edit base) c.in_ok-join_all.ensures)
