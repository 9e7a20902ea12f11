-- Want of memory is the one refusal without a cause.
use Rattle.std.proofs.Common.{◌≡◌, Option, Some, None, Result, Ok, Err, refl, ap}
use Rattle.vs_defs.specs.Request as request
use Rattle.vs_defs.specs.Reply as outcome
use Rattle.vs_command.specs.declared.answer.Answer.{Answer}
use Rattle.vs_command.specs.declared.refusal.Refusal.{Refusal}
use Rattle.vs_command.specs.declared.refusal.Refusal.TheVariants.{UnknownCommand, WrongArity, BadKey, BadVectorForm, Fp32, Reduce, BadDimension, ShortVector, BadComponent, BadName, UnknownOption, MissingValue, Quantiser, BadEf, BadM, LongAttribute, BadCount, Epsilon, BadFilterEf, LongFilter, FilterSyntax, FilterTooDeep, Raw, NoSuchKey, NoSuchElement, WrongDimension, WrongM, FullSet, FullKeys, FullAll, ChangeLimit, NoMemory}
use Rattle.vs_command.specs.Outcomes.{outcome_of, refused_by}
use Rattle.vs_command.specs.Refusals.{refusal_of}

no_cause : (e : Refusal) → refusal_of e ≡ None → e ≡ NoMemory
no_cause UnknownCommand is = cc
no_cause WrongArity is = cc
no_cause (BadKey a) is = cc
no_cause (BadVectorForm a) is = cc
no_cause Fp32 is = cc
no_cause Reduce is = cc
no_cause (BadDimension a) is = cc
no_cause (ShortVector a b) is = cc
no_cause (BadComponent a) is = cc
no_cause (BadName a) is = cc
no_cause (UnknownOption a) is = cc
no_cause (MissingValue a) is = cc
no_cause (Quantiser a) is = cc
no_cause (BadEf a) is = cc
no_cause (BadM a) is = cc
no_cause (LongAttribute a) is = cc
no_cause (BadCount a) is = cc
no_cause (Epsilon a) is = cc
no_cause (BadFilterEf a) is = cc
no_cause (LongFilter a) is = cc
no_cause (FilterSyntax a) is = cc
no_cause (FilterTooDeep a) is = cc
no_cause Raw is = cc
no_cause NoSuchKey is = cc
no_cause NoSuchElement is = cc
no_cause (WrongDimension a b) is = cc
no_cause (WrongM a b) is = cc
no_cause (FullSet a) is = cc
no_cause (FullKeys a) is = cc
no_cause (FullAll a) is = cc
no_cause (ChangeLimit a) is = cc
no_cause NoMemory is = refl

pub out_of_memory : (result : Result Answer Refusal) → outcome_of result ≡ outcome.OutOfMemory → result ≡ Err NoMemory
out_of_memory (Ok a) is = cc
out_of_memory (Err e) is = ap Err (no_cause e (by_cause (refusal_of e) is)) where
  by_cause : (c : Option request.Refusal) → refused_by c ≡ outcome.OutOfMemory → c ≡ None
  by_cause None same = refl
  by_cause (Some cause) same = cc
