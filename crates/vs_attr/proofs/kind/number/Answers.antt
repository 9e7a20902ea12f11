use Rattle.std.proofs.Common.{sym}
use Rattle.vs_attr.proofs.Lengths.{Rest-at, number_rest}
use Rattle.vs_attr.proofs.kind.number.Goals as goal

pub slice_bounds-read_fixed-count : goal.slice_bounds-read_fixed-count
slice_bounds-read_fixed-count c = Rest-at _ _ _ (number_rest c.args.text.now) (sym c.in-Some.ensures)
