use Rattle.std.proofs.Common.{sym, true}
use Rattle.vs_rank.proofs.wanted.Wanted.is_everyone.Goals as goal

pub returns : goal.returns
returns g c holds passes answers attr = sym (answers attr true (c.is_everyone.ensures holds attr))
