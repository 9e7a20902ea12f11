use Rattle.std.proofs.Common.{subst, sym, lit≤, refl}
use Rattle.vs_defs.specs.Bounds.{IsNameInBounds}
use Rattle.vs_generate.proofs.Asks.{key_in_bounds, name_in_bounds}
use Rattle.vs_generate.proofs.asking.nearest_first.Goals as goal

pub ask-requires-clause-bounds : goal.ask-requires-clause-bounds
ask-requires-clause-bounds c = record {
  key = subst IsNameInBounds (sym c.in_ok-key.ensures) key_in_bounds;
  what = subst IsNameInBounds (sym c.in_ok-name.ensures) (name_in_bounds 0 (lit≤ tt));
  count = (lit≤ tt, lit≤ tt);
  ef = (lit≤ tt, lit≤ tt);
  effort = lit≤ tt;
  filter = tt;
  unfiltered = λ e. refl;
}
