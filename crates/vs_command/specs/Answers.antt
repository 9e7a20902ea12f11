-- The answer that an `Answer` stands for.
use Rattle.std.specs.Prelude.{List, map}
use Rattle.vs_command.specs.declared.answer.Answer.{Answer}
use Rattle.vs_command.specs.declared.answer.Answer.TheVariants.{Int, Pong, Bye, Bulk, NullText, NullList, Names, Signs, Hits, Layers, Info as Informed}
use Rattle.vs_command.specs.declared.answer.NamedHit.{NamedHit}
use Rattle.vs_command.specs.declared.answer.Info.{Info}
use Rattle.vs_defs.specs.Request as model

abbrev pub hit_of : NamedHit → model.Hit
hit_of h = record { name = h.name; dist = h.dist; attr = h.attr }

abbrev pub hits_of : List NamedHit → List model.Hit
hits_of hits = map hit_of hits

abbrev pub info_of : Info → model.Info
info_of i = record { m = i.m; dim = i.dim; size = i.size; max_level = i.max_level; attributes = i.attributes }

abbrev pub answer_of : Answer → model.Answer
answer_of (Int n) = model.Int n
answer_of Pong = model.Pong
answer_of Bye = model.Bye
answer_of (Bulk text) = model.Bulk text
answer_of NullText = model.NullText
answer_of NullList = model.NullList
answer_of (Names names) = model.Names names
answer_of (Signs signs) = model.Signs signs
answer_of (Hits dim scores attrs hits) = model.Hits dim scores attrs (hits_of hits)
answer_of (Layers dim scores layers) = model.Layers dim scores (map hits_of layers)
answer_of (Informed info) = model.Informed (info_of info)
