use Rattle.vs_insert.proofs.Lists.{chosen_names}
use Rattle.vs_insert.proofs.laws.a_choice_has_few_different_members_of_each_layer.Goals as goal

pub returns : goal.returns
returns c = chosen_names
