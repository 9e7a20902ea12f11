-- PING and QUIT of one word take no memory.
use Rattle.std.proofs.Common.{◌≡◌, ◌≢◌, true, Option, Some, None, Result, Ok, Err, refl, ap, inl, inr, ◌⊎◌}
use Rattle.std.specs.Prelude.{IsTrue}
use Rattle.vs_defs.specs.Request as request
use Rattle.vs_defs.specs.Reply as outcome
use Rattle.vs_defs.specs.Stream.{Message}
use Rattle.vs_session_defs.specs.Session.{is_ping_or_quit}
use Rattle.vs_command.specs.declared.answer.Answer.{Answer}
use Rattle.vs_command.specs.declared.refusal.Refusal.{Refusal}
use Rattle.vs_command.specs.declared.refusal.Refusal.TheVariants.{UnknownCommand, WrongArity, BadKey, BadVectorForm, Fp32, Reduce, BadDimension, ShortVector, BadComponent, BadName, UnknownOption, MissingValue, Quantiser, BadEf, BadM, LongAttribute, BadCount, Epsilon, BadFilterEf, LongFilter, FilterSyntax, FilterTooDeep, Raw, NoSuchKey, NoSuchElement, WrongDimension, WrongM, FullSet, FullKeys, FullAll, ChangeLimit, NoMemory}
use Rattle.vs_command.specs.Outcomes.{outcome_of, refused_by}
use Rattle.vs_command.specs.Refusals.{refusal_of}
use Rattle.vs_reply.specs.Replies.{short_of}
use Rattle.vs_defs.specs.Memory.{needs_no_memory}
use Rattle.vs_connection.specs.Stage.{read, draws}
use Rattle.vs_connection.proofs.Pings.{asks}

-- refused memory alone is no cause
pub no_cause : (e : Refusal) → refusal_of e ≡ None → e ≡ NoMemory
no_cause UnknownCommand is = cc
no_cause WrongArity is = cc
no_cause (BadKey a) is = cc
no_cause (BadVectorForm a) is = cc
no_cause Fp32 is = cc
no_cause Reduce is = cc
no_cause (BadDimension a) is = cc
no_cause (ShortVector a b) is = cc
no_cause (BadComponent a) is = cc
no_cause (BadName a) is = cc
no_cause (UnknownOption a) is = cc
no_cause (MissingValue a) is = cc
no_cause (Quantiser a) is = cc
no_cause (BadEf a) is = cc
no_cause (BadM a) is = cc
no_cause (LongAttribute a) is = cc
no_cause (BadCount a) is = cc
no_cause (Epsilon a) is = cc
no_cause (BadFilterEf a) is = cc
no_cause (LongFilter a) is = cc
no_cause (FilterSyntax a) is = cc
no_cause (FilterTooDeep a) is = cc
no_cause Raw is = cc
no_cause NoSuchKey is = cc
no_cause NoSuchElement is = cc
no_cause (WrongDimension a b) is = cc
no_cause (WrongM a b) is = cc
no_cause (FullSet a) is = cc
no_cause (FullKeys a) is = cc
no_cause (FullAll a) is = cc
no_cause (ChangeLimit a) is = cc
no_cause NoMemory is = refl

-- such a request draws nothing
abbrev IsPing : request.Request → Type 0
IsPing r = (r ≡ request.Ping None) ⊎ (r ≡ request.Quit)

one_read : (m : Message) (q r : request.Request) → read m ≡ Ok q → read m ≡ Ok r → r ≡ q
one_read m q r e f = cc

asked : (m : Message) (r : request.Request) → IsTrue (is_ping_or_quit m) → read m ≡ Ok r → IsPing r
asked m r ping is = elim (asks m ping) [ inl e ↦ inl (one_read m (request.Ping None) r e is) | inr e ↦ inr (one_read m request.Quit r e is) ]

pub draws_none : (m : Message) (r : request.Request) → IsTrue (is_ping_or_quit m) → read m ≡ Ok r → draws r ≡ 0
draws_none m r ping is = elim (asked m r ping is) [ inl e ↦ ap draws e | inr e ↦ ap draws e ]

none_needed : (m : Message) (r : request.Request) → IsTrue (is_ping_or_quit m) → read m ≡ Ok r → needs_no_memory r ≡ true
none_needed m r ping is = elim (asked m r ping is) [ inl e ↦ ap needs_no_memory e | inr e ↦ ap needs_no_memory e ]

-- and is answered by the machine
out_of_memory : (result : Result Answer Refusal) → outcome_of result ≡ outcome.OutOfMemory → result ≡ Err NoMemory
out_of_memory (Ok a) is = cc
out_of_memory (Err e) is = ap Err (no_cause e (by_cause (refusal_of e) is)) where
  by_cause : (c : Option request.Refusal) → refused_by c ≡ outcome.OutOfMemory → c ≡ None
  by_cause None same = refl
  by_cause (Some cause) same = cc

pub answered : (m : Message) (r : request.Request) (result : Result Answer Refusal) → read m ≡ Ok r → (needs_no_memory r ≡ true → result ≢ Err NoMemory) →
    IsTrue (is_ping_or_quit m) → outcome_of result ≢ outcome.OutOfMemory
answered m r result is memory ping same =
    memory (none_needed m r ping is) (out_of_memory result same)

pub long_no_ping : (m : Message) (r : request.Request) (result : Result Answer Refusal) → read m ≡ Ok r → (needs_no_memory r ≡ true → short_of result ≢ None) →
    IsTrue (is_ping_or_quit m) → short_of result ≡ None → ⊥
long_no_ping m r result is short ping long = short (none_needed m r ping is) long
