use Rattle.std.proofs.Common.{rules, false, length, nat_le}
use Rattle.std.specs.Option.{option_map_or}
use Rattle.vs_truth.proofs.tests.found_long.Goals as goal

pub found-requires-clause-answers : goal.found-requires-clause-answers
found-requires-clause-answers c = ∣ (λ attr. option_map_or (λ text. nat_le c.args.least (length text)) attr false, search rules) ∣₁
