use Rattle.std.proofs.Common.{rules, false, length, nat_le}
use Rattle.std.specs.Option.{option_map_or}
use Rattle.vs_rank.proofs.tests.answers_of_length.Goals as goal

pub answers-requires-clause-answers : goal.answers-requires-clause-answers
answers-requires-clause-answers c = ∣ (λ attr. option_map_or (λ text. nat_le c.args.least (length text)) attr false, search rules) ∣₁
