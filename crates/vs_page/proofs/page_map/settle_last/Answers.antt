use Rattle.vs_page.proofs.Trees.{settle_same}
use Rattle.vs_page.proofs.page_map.settle_last.Goals as goal

pub returns-then-put_in_root-clause-same : goal.returns-then-put_in_root-clause-same
returns-then-put_in_root-clause-same g c =
    let put = c.put_in_root.ensures in
    let yes = c.if-put_in_root.true in
    settle_same c.args.late.now.items c.pop.new.self.items c.in-Some.field-0 c.args.root.now c.put_in_root.new.root c.in-Some.ensures.items (put.put yes) (put.inside yes) (put.deeper yes) (put.deepest yes)
