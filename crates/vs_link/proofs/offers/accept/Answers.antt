use Rattle.std.proofs.Common.{◌≡◌, ◌≤◌, length, eqb, ap, ◌∙◌, sym, subst, arith, true}
use Rattle.vs_graph.specs.Edits.{overwritten}
use Rattle.vs_graph.specs.Good.{links_at, body_at, layers_at}
use Rattle.vs_graph.specs.Table.{is_in}
use Rattle.vs_graph.specs.Relinks.{Relinks}
use Rattle.vs_graph.proofs.Tables.{joined_own, displaced_own}
use Rattle.vs_graph.proofs.Relinking.{links_there}
use Rattle.vs_link.proofs.Picked.{yielding_in, accepted_by_full, neighbour_other, now_linked}
use Rattle.vs_link.proofs.offers.accept.Goals as goal

pub returns-then-degree-most-clause-taken : goal.returns-then-degree-most-clause-taken
returns-then-degree-most-clause-taken g c =
    let at = overwritten c.args.edit.now (g.N.Nodes.at c.args.base.now) in
    let t = links_at at c.args.layer in
    now_linked _ (t c.args.x) c.args.y (eqb (length (t c.args.x)) 0)
    (ap (λ u. u c.args.x) c.in_ok-join.ensures.links.links ∙ joined_own t c.args.x c.args.y c.requires.other)

pub displace-requires-clause-w_stands : goal.displace-requires-clause-w_stands
displace-requires-clause-w_stands g c =
    let at = overwritten c.args.edit.now (g.N.Nodes.at c.args.base.now) in
    let t = links_at at c.args.layer in
    c.requires.good.stand c.args.y c.in-Some.w (yielding_in (body_at at) t c.args.x c.args.y c.in-Some.w (sym c.in-Some.ensures.value))

pub returns-in_ok-displace-in-Some-clause-links : goal.returns-in_ok-displace-in-Some-clause-links
returns-in_ok-displace-in-Some-clause-links g c =
    let base = g.N.Nodes.at c.args.base.now in
    let at = overwritten c.args.edit.now base in
    let t = links_at at c.args.layer in
    let full : c.args.most ≤ length (t c.args.y) =
    omega (arith, c.if-degree-most.false, c.degree.ensures, ap length (links_there at c.args.layer c.args.y c.in_ok-own.own c.in_ok-own.ensures.value)) in
    subst (λ u. Relinks at (overwritten c.displace.new.edit base) c.args.layer u)
    (sym (accepted_by_full (body_at at) c.args.most t c.args.x c.args.y c.in-Some.w full (sym c.in-Some.ensures.value)))
    c.in_ok-displace-in-Some.ensures.links

pub returns-in_ok-displace-in-Some-clause-taken : goal.returns-in_ok-displace-in-Some-clause-taken
returns-in_ok-displace-in-Some-clause-taken g c =
    let at = overwritten c.args.edit.now (g.N.Nodes.at c.args.base.now) in
    let t = links_at at c.args.layer in
    let linked : is_in t c.args.y c.in-Some.w ≡ true = yielding_in (body_at at) t c.args.x c.args.y c.in-Some.w (sym c.in-Some.ensures.value) in
    now_linked _ (t c.args.x) c.args.y (eqb (length (t c.args.x)) 0)
    (ap (λ u. u c.args.x) c.in_ok-displace-in-Some.ensures.links.links
    ∙ displaced_own t c.args.x c.args.y c.in-Some.w c.requires.other (neighbour_other (layers_at at) c.args.layer c.args.most t c.args.x c.args.y c.in-Some.w c.requires.good c.requires.apart linked))
