use Rattle.std.proofs.Common.{refl}
use Rattle.std.specs.Prelude.{Some, None}
use Rattle.vs_defs.specs.Request as request
use Rattle.vs_command.specs.Answers.{answer_of}
use Rattle.vs_store.proofs.Answered.{gives_attribute}
use Rattle.vs_store.proofs.store.Store.attribute.Goals as goal

pub returns-in_ok-attribute-in-Some-clause-does : goal.returns-in_ok-attribute-in-Some-clause-does
returns-in_ok-attribute-in-Some-clause-does c =
    gives_attribute c.args.self.now c.args.key.now (Some c.in-Some.set.now) c.in-Some.ensures c.args.name.now (answer_of c.in_ok-attribute-in-Some.field-0) c.in_ok-attribute-in-Some.ensures

pub returns-in-None-clause-does : goal.returns-in-None-clause-does
returns-in-None-clause-does c = gives_attribute c.args.self.now c.args.key.now None c.in-None.ensures c.args.name.now request.NullText refl
