-- A change is answered by a number; so an answer with a long reply leaves the store as it was. A request that needs no memory has a short one.
use Rattle.std.proofs.Common.{◌≡◌, ◌≢◌, ℕ, ℤ, pos, inl, inr, true, List, length, Option, Some, None, Result, Ok, Err, refl, sym, subst, ◌∙◌}
use Rattle.std.specs.Prelude.{count_by}
use Rattle.vs_defs.specs.Bytes.{Bytes, listed}
use Rattle.vs_defs.specs.Reply.{reply}
use Rattle.vs_defs.specs.Request as request
use Rattle.vs_defs.specs.Store.{Store, Set, PlainStore, Contents, Member, set_of, member_of, plain}
use Rattle.vs_defs.specs.Memory.{needs_no_memory}
use Rattle.vs_defs.specs.Refuse.{has_key, has_member}
use Rattle.vs_defs.specs.PlainAnswer.{at_set, truth_number}
use Rattle.vs_defs.specs.Answers.{IsAnswer}
use Rattle.vs_defs.specs.Step.{Step, Drafted}
use Rattle.vs_defs.specs.PlainStep.{changed, added, added_to, number_of_change, drawn_level}
use Rattle.vs_thread_defs.specs.Machine.{StoreDoes, StoreChanges}
use Rattle.vs_command.specs.declared.answer.Answer.{Answer}
use Rattle.vs_command.specs.declared.answer.Answer.TheVariants.{Int, Pong, Bye, Bulk, NullText, NullList, Names, Signs, Hits, Layers, Info as Informed}
use Rattle.vs_command.specs.declared.refusal.Refusal.{Refusal}
use Rattle.vs_command.specs.Answers.{answer_of}
use Rattle.vs_command.specs.Outcomes.{outcome_of}
use Rattle.vs_reply.specs.Replies.{short_of}

abbrev IsNumber : request.Answer → Type 0
IsNumber a = (n : ℤ) × (a ≡ request.Int n)

added_to_number : (add : request.Add) (level number : ℕ) (x : Contents) (old : Option Member) → IsNumber (added_to add level number x old).1
added_to_number add level number x None = (pos 1, refl)
added_to_number add level number x (Some old) = (pos 0, refl)

added_number : (add : request.Add) (level number : ℕ) (x : Option Contents) → IsNumber (added add level number x).1
added_number add level number None = (pos 1, refl)
added_number add level number (Some x) = added_to_number add level number x (member_of add.name x.members)

changed_number : (s : PlainStore) (r : request.Request) (words : List ℕ) → IsNumber (changed s r words).1
changed_number s (request.Vadd add) words = added_number add (drawn_level words) (number_of_change s) (set_of add.key s)
changed_number s (request.Vrem key name) words = (pos 1, refl)
changed_number s (request.Vsetattr key name text) words = (pos 1, refl)
changed_number s (request.Del keys) words = (pos (count_by (λ e. listed e.0 keys) s.sets), refl)
changed_number s (request.Ping text) words = (pos 1, refl)
changed_number s request.Quit words = (pos 1, refl)
changed_number s (request.Exists keys) words = (pos 1, refl)
changed_number s (request.Vsim search) words = (pos 1, refl)
changed_number s (request.Vcard key) words = (pos 1, refl)
changed_number s (request.Vdim key) words = (pos 1, refl)
changed_number s (request.Vemb key name) words = (pos 1, refl)
changed_number s (request.Vlinks key name scores) words = (pos 1, refl)
changed_number s (request.Vinfo key) words = (pos 1, refl)
changed_number s (request.Vgetattr key name) words = (pos 1, refl)
changed_number s (request.Vrandmember key n) words = (pos 1, refl)
changed_number s (request.Vismember key name) words = (pos 1, refl)

-- an answer with a long reply is none of these
abbrev IsBrief : request.Answer → Type 0
IsBrief (request.Int n) = Unit {0}
IsBrief request.Pong = Unit {0}
IsBrief request.Bye = Unit {0}
IsBrief a = ⊥

long_is_none : (a : Answer) → short_of (Ok a) ≡ None → IsBrief (answer_of a) → ⊥
long_is_none (Int n) e i = absurd (cc)
long_is_none Pong e i = absurd (cc)
long_is_none Bye e i = absurd (cc)
long_is_none (Bulk text) e i = absurd i
long_is_none NullText e i = absurd i
long_is_none NullList e i = absurd i
long_is_none (Names names) e i = absurd i
long_is_none (Signs signs) e i = absurd i
long_is_none (Hits dim scores attrs hits) e i = absurd i
long_is_none (Layers dim scores layers) e i = absurd i
long_is_none (Informed info) e i = absurd i

-- nor is it the answer of a change, by whatever draft
pub step_is_short : (old : Store Set) (r : request.Request) (words : List ℕ) (new : Store Set) (drafted : Option Drafted) (a : Answer) → Step old r words (answer_of a) new drafted → short_of (Ok a) ≡ None → ⊥
step_is_short old r words new drafted a step long =
    let n : IsNumber (changed (plain old) r words).1 = changed_number (plain old) r words in
    long_is_none a long (subst IsBrief (sym (step.contents.answers ∙ n.1)) tt)

number_is_short : (old : Store Set) (r : request.Request) (words : List ℕ) (new : Store Set) (a : Answer) → StoreChanges old r words (answer_of a) new None → short_of (Ok a) ≡ None → ⊥
number_is_short old r words new a c long = step_is_short old r words new None a c.step long

-- so an answer that memory is refused for may be replaced
pub long_changes_nothing : (old new : Store Set) (r : request.Request) (words : List ℕ) (result : Result Answer Refusal) →
    StoreDoes old r words (outcome_of result) new → short_of result ≡ None → new ≡ old
long_changes_nothing old new r words (Ok a) (inl c) long = absurd (number_is_short old r words new a c long)
long_changes_nothing old new r words (Ok a) (inr (same, answers)) long = same
long_changes_nothing old new r words (Err e) does long = absurd (cc)

-- ---- a request that needs no memory has a short reply

brief_some : (a b : request.Answer) → Some b ≡ Some a → IsBrief b → IsBrief a
brief_some a b e brief = let same : b ≡ a = cc in subst IsBrief same brief

brief_at : (x : Option Contents) (f : Contents → ℤ) → IsBrief (at_set x (request.Int (pos 0)) (λ y. request.Int (f y)))
brief_at None f = tt
brief_at (Some x) f = tt

brief_answer : (s : Store Set) (r : request.Request) (words : List ℕ) (a : request.Answer) → needs_no_memory r ≡ true → IsAnswer s r words a → IsBrief a
brief_answer s (request.Ping None) words a none is = brief_some a request.Pong is tt
brief_answer s (request.Ping (Some text)) words a none is = absurd (cc)
brief_answer s request.Quit words a none is = brief_some a request.Bye is tt
brief_answer s (request.Exists keys) words a none is = brief_some a (request.Int (pos (count_by (has_key (plain s)) keys))) is tt
brief_answer s (request.Vcard key) words a none is =
    brief_some a (at_set (set_of key (plain s)) (request.Int (pos 0)) (λ x. request.Int (pos (length x.members)))) is (brief_at (set_of key (plain s)) (λ x. pos (length x.members)))
brief_answer s (request.Vdim key) words a none is =
    brief_some a (at_set (set_of key (plain s)) (request.Int (pos 0)) (λ x. request.Int (pos x.dim))) is (brief_at (set_of key (plain s)) (λ x. pos x.dim))
brief_answer s (request.Vismember key name) words a none is = brief_some a (request.Int (truth_number (has_member (plain s) key name))) is tt
brief_answer s (request.Del keys) words a none is = absurd (cc)
brief_answer s (request.Vadd add) words a none is = absurd (cc)
brief_answer s (request.Vrem key name) words a none is = absurd (cc)
brief_answer s (request.Vsim search) words a none is = absurd (cc)
brief_answer s (request.Vemb key name) words a none is = absurd (cc)
brief_answer s (request.Vlinks key name scores) words a none is = absurd (cc)
brief_answer s (request.Vinfo key) words a none is = absurd (cc)
brief_answer s (request.Vgetattr key name) words a none is = absurd (cc)
brief_answer s (request.Vsetattr key name text) words a none is = absurd (cc)
brief_answer s (request.Vrandmember key n) words a none is = absurd (cc)

-- the answer of such a request that changes nothing
pub brief_is_short : (s : Store Set) (r : request.Request) (words : List ℕ) (a : Answer) → needs_no_memory r ≡ true → IsAnswer s r words (answer_of a) → short_of (Ok a) ≡ None → ⊥
brief_is_short s r words a none is long = long_is_none a long (brief_answer s r words (answer_of a) none is)

pub short_reply_of : (old new : Store Set) (r : request.Request) (words : List ℕ) (result : Result Answer Refusal) →
    StoreDoes old r words (outcome_of result) new → needs_no_memory r ≡ true → short_of result ≢ None
short_reply_of old new r words (Ok a) (inl c) none long = number_is_short old r words new a c long
short_reply_of old new r words (Ok a) (inr (same, answers)) none long = brief_is_short old r words a none answers.answer_is long
short_reply_of old new r words (Err e) does none long = cc

-- a short reply is the outcome's reply
pub short_is_reply : (x : Result Answer Refusal) (b : Bytes) → short_of x ≡ Some b → reply (outcome_of x) ≡ b
short_is_reply (Ok (Int n)) b e = cc
short_is_reply (Ok Pong) b e = cc
short_is_reply (Ok Bye) b e = cc
short_is_reply (Ok (Bulk text)) b e = absurd (cc)
short_is_reply (Ok NullText) b e = cc
short_is_reply (Ok NullList) b e = cc
short_is_reply (Ok (Names names)) b e = absurd (cc)
short_is_reply (Ok (Signs signs)) b e = absurd (cc)
short_is_reply (Ok (Hits dim scores attrs hits)) b e = absurd (cc)
short_is_reply (Ok (Layers dim scores layers)) b e = absurd (cc)
short_is_reply (Ok (Informed info)) b e = absurd (cc)
short_is_reply (Err e) b is = cc
