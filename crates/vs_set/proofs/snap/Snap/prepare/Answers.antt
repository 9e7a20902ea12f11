use Rattle.std.proofs.Common.{sym, subst}
use Rattle.vs_defs.specs.Words.{FitsDimension}
use Rattle.vs_order.specs.Entries.{ids_of}
use Rattle.vs_set.specs.Drafted.{IsDraft}
use Rattle.vs_set.proofs.Prepared.{prepared}
use Rattle.vs_set.proofs.snap.Snap.prepare.Goals as goal

pub prepare-requires-clause-fits : goal.prepare-requires-clause-fits
prepare-requires-clause-fits g c = subst (λ x. FitsDimension x.contents.dim c.args.body.bits) (sym c.self.view_is) c.requires.fits

pub returns : goal.returns
returns g c =
    let s = c.self.inside in
    let d = c.in_ok-draft.draft in
    let e = c.in_ok-draft.ensures in
    subst (λ x. IsDraft x c.args.body c.args.level c.args.ef d) c.self.view_is
    (prepared (g.N.Nodes.at s.graph.nodes) s.graph.entry s.graph.m s.graph.dim s.cut (ids_of s.order) c.nodes-nodes.ensures.good.links c.self.invariant.0.ids c.args.body c.args.level c.args.ef d
    e.cut e.level e.body (subst (λ x. FitsDimension x.contents.dim c.args.body.bits) (sym c.self.view_is) c.requires.fits) c.requires.low e.bodies (e.chosen s.cut (ids_of s.order) c.self.invariant.0.ids))
