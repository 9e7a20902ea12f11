-- Requests that are answered from the set of their key.
use Rattle.std.proofs.Common.{◌≡◌, ℕ, ◌<◌, Bool, true, false, List, [], length, refl, sym, ap, ◌∙◌, subst, inr}
use Rattle.std.specs.Prelude.{ℤ, Result, Ok, Err, Option, Some, None, IfSome, IfOk, IfErr, MatchBool, option_map}
use Rattle.std.specs.Option.{option_or}
use Rattle.vs_defs.specs.Answers.{FindsOf, IsAnswer}
use Rattle.vs_defs.specs.Bytes.{Bytes}
use Rattle.vs_defs.specs.Good.{GoodStore}
use Rattle.vs_defs.specs.PlainAnswer.{at_set, at_member, bulk_or_null, no_hits, no_random, random_of}
use Rattle.vs_defs.specs.Refuse.{store_refusal, search_refusal, is_change}
use Rattle.vs_defs.specs.Reply as outcome
use Rattle.vs_defs.specs.Request as request
use Rattle.vs_defs.specs.Request.{Request, Search, Refusal}
use Rattle.vs_defs.specs.Store.{Set, Store, set_of, plain}
use Rattle.vs_thread_defs.specs.Machine.{StoreDoes}
use Rattle.vs_command.specs.Answers.{answer_of}
use Rattle.vs_command.specs.Outcomes.{outcome_of, refused_by}
use Rattle.vs_command.specs.Refusals.{refusal_of}
use Rattle.vs_command.specs.declared.answer.Answer.{Answer}
use Rattle.vs_command.specs.declared.refusal.Refusal.{Refusal as Cause}
use Rattle.vs_store.proofs.Changes.{plain_set}
use Rattle.vs_store.proofs.Taken.{of_set}

-- ---- the set of a key

-- the contents of the set of a key
pub contents_at : (key : Bytes) (s : Store Set) (o : Option Set) → o ≡ set_of key s → set_of key (plain s) ≡ option_map (λ x. x.contents) o
contents_at key s o is = plain_set s key o (sym is)

-- ---- answers

-- an answer that changes nothing
pub answers : (s : Store Set) (r : Request) (words : List ℕ) (a : request.Answer) → store_refusal (plain s) r ≡ None → is_change (plain s) r ≡ false → IsAnswer s r words a
    → StoreDoes s r words (outcome.Answered a) s
answers s r words a free still is = inr (refl, record { unrefused = free; changes_nothing = still; answer_is = is })

-- ---- searches

pub finds_none : (search : Search) (answer : request.Answer) → answer ≡ no_hits search → FindsOf search None answer
finds_none search answer h = by search.truth
  where
    by : (b : Bool) → MatchBool b (answer ≡ no_hits search) (answer ≡ no_hits search)
    by true = h
    by false = h

search_free : (s : Store Set) (search : Search) (o : Option Set) → o ≡ set_of search.key s → store_refusal (plain s) (request.Vsim search) ≡ option_or (search_refusal search.what (option_map (λ x. x.contents) o)) None
search_free s search o is = ap (λ p. option_or (search_refusal search.what p) None) (contents_at search.key s o is)

pub finds_at_none : (s : Store Set) (search : Search) (answer : request.Answer) → None ≡ set_of search.key s → answer ≡ no_hits search → StoreDoes s (request.Vsim search) [] (outcome.Answered answer) s
finds_at_none s search answer is h =
    answers s (request.Vsim search) [] answer (search_free s search None is) refl (subst (λ o. FindsOf search o answer) is (finds_none search answer h))

pub searches : (s : Store Set) (search : Search) (x : Set) (r : Result Answer Cause) → Some x ≡ set_of search.key s
    → IfOk r (λ a. FindsOf search (Some x) (answer_of a)) → IfOk r (λ a. search_refusal search.what (Some x.contents) ≡ None)
    → IfErr r (λ e. IfSome (refusal_of e) (λ cause. search_refusal search.what (Some x.contents) ≡ Some cause))
    → StoreDoes s (request.Vsim search) [] (outcome_of r) s
searches s search x (Ok a) is found free refused =
    answers s (request.Vsim search) [] (answer_of a) (search_free s search (Some x) is ∙ ap (λ o. option_or o None) free) refl (subst (λ o. FindsOf search o (answer_of a)) is found)
searches s search x (Err e) is found free refused = by (refusal_of e) refused
  where
    by : (o : Option Refusal) → IfSome o (λ cause. search_refusal search.what (Some x.contents) ≡ Some cause) → StoreDoes s (request.Vsim search) [] (refused_by o) s
    by None h = refl
    by (Some cause) h = (refl, search_free s search (Some x) is ∙ ap (λ o. option_or o None) h)

-- ---- what is answered of a member, or of the members

-- the set of the key has members
pub has_members : {s t : Store Set} → s ≡ t → GoodStore s → (key : Bytes) (x : Set) → Some x ≡ set_of key t → 0 < length x.contents.members
has_members {s} {t} view good key x is = of_set (λ y. 0 < length y.contents.members) key s.sets x good.filled (ap (set_of key) view ∙ sym is)

module _ (s : Store Set) (key : Bytes) (o : Option Set) (is : o ≡ set_of key s) where
  pub embeds : (name : Bytes) (a : request.Answer) → a ≡ at_member (option_map (λ x. x.contents) o) name request.NullList (λ y. request.Signs y.bits) → StoreDoes s (request.Vemb key name) [] (outcome.Answered a) s
  embeds name a h =
      answers s (request.Vemb key name) [] a refl refl (ap (λ p. Some (at_member p name request.NullList (λ y. request.Signs y.bits))) (contents_at key s o is) ∙ ap Some (sym h))

  pub gives_attribute : (name : Bytes) (a : request.Answer) → a ≡ at_member (option_map (λ x. x.contents) o) name request.NullText (λ y. bulk_or_null y.attr)
      → StoreDoes s (request.Vgetattr key name) [] (outcome.Answered a) s
  gives_attribute name a h =
      answers s (request.Vgetattr key name) [] a refl refl (ap (λ p. Some (at_member p name request.NullText (λ y. bulk_or_null y.attr))) (contents_at key s o is) ∙ ap Some (sym h))

  pub picks_members : (count : Option ℤ) (words : List ℕ) (a : request.Answer) → a ≡ at_set (option_map (λ x. x.contents) o) (no_random count) (random_of count words)
      → StoreDoes s (request.Vrandmember key count) words (outcome.Answered a) s
  picks_members count words a h =
      answers s (request.Vrandmember key count) words a refl refl (ap (λ p. Some (at_set p (no_random count) (random_of count words))) (contents_at key s o is) ∙ ap Some (sym h))
