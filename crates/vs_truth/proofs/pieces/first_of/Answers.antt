use Rattle.std.proofs.Common.{◌∙◌, take, map, sym, ap}
use Rattle.std.proofs.lemmas.List.{take-map}
use Rattle.vs_truth.specs.Nears.{near_of}
use Rattle.vs_truth.proofs.Order.{in_order}
use Rattle.vs_truth.proofs.pieces.first_of.Goals as goal

pub returns : goal.returns
returns c =
    let sorted = c.sort_unstable.new.self.items in
    ap (map near_of) c.truncate.ensures.items
    ∙ sym (take-map near_of c.args.most sorted)
    ∙ ap (take c.args.most) (in_order c.args.found.items sorted c.sort_unstable.ensures.permutation c.sort_unstable.ensures.sorted)
