-- The cause that a `Refusal` stands for; want of memory is none, and may come in place of any answer or cause.
use Rattle.std.specs.Prelude.{Option, Some, None}
use Rattle.vs_command.specs.declared.refusal.Refusal.{Refusal}
use Rattle.vs_command.specs.declared.refusal.Refusal.TheVariants.{UnknownCommand, WrongArity, BadKey, BadVectorForm, Fp32, Reduce, BadDimension, ShortVector, BadComponent, BadName, UnknownOption, MissingValue, Quantiser, BadEf, BadM, LongAttribute, BadCount, Epsilon, BadFilterEf, LongFilter, FilterSyntax, FilterTooDeep, Raw, NoSuchKey, NoSuchElement, WrongDimension, WrongM, FullSet, FullKeys, FullAll, ChangeLimit, NoMemory}
use Rattle.vs_defs.specs.Request as model

abbrev pub refusal_of : Refusal → Option model.Refusal
refusal_of UnknownCommand = Some model.UnknownCommand
refusal_of WrongArity = Some model.WrongArity
refusal_of (BadKey len) = Some (model.BadKey len)
refusal_of (BadVectorForm at) = Some (model.BadVectorForm at)
refusal_of Fp32 = Some model.Fp32
refusal_of Reduce = Some model.Reduce
refusal_of (BadDimension at) = Some (model.BadDimension at)
refusal_of (ShortVector want have) = Some (model.ShortVector want have)
refusal_of (BadComponent at) = Some (model.BadComponent at)
refusal_of (BadName len) = Some (model.BadName len)
refusal_of (UnknownOption at) = Some (model.UnknownOption at)
refusal_of (MissingValue at) = Some (model.MissingValue at)
refusal_of (Quantiser at) = Some (model.Quantiser at)
refusal_of (BadEf at) = Some (model.BadEf at)
refusal_of (BadM at) = Some (model.BadM at)
refusal_of (LongAttribute len) = Some (model.LongAttribute len)
refusal_of (BadCount at) = Some (model.BadCount at)
refusal_of (Epsilon at) = Some (model.Epsilon at)
refusal_of (BadFilterEf at) = Some (model.BadFilterEf at)
refusal_of (LongFilter len) = Some (model.LongFilter len)
refusal_of (FilterSyntax at) = Some (model.FilterSyntax at)
refusal_of (FilterTooDeep at) = Some (model.FilterTooDeep at)
refusal_of Raw = Some model.Raw
refusal_of NoSuchKey = Some model.NoSuchKey
refusal_of NoSuchElement = Some model.NoSuchElement
refusal_of (WrongDimension given has) = Some (model.WrongDimension given has)
refusal_of (WrongM given has) = Some (model.WrongM given has)
refusal_of (FullSet members) = Some (model.FullSet members)
refusal_of (FullKeys keys) = Some (model.FullKeys keys)
refusal_of (FullAll members) = Some (model.FullAll members)
refusal_of (ChangeLimit changes) = Some (model.ChangeLimit changes)
refusal_of NoMemory = None
