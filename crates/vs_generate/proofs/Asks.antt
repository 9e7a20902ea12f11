-- What the answer to a request says of the store.
--     asked            one that only asks: the store is as it was
--     facts_of         VINFO of the key
--     key_in_bounds, name_in_bounds     the key, and a member's name
--     adds_by          a VADD that is answered 1
use Rattle.std.proofs.Common.{◌≡◌, ℕ, ◌<◌, ◌^◌, false, List, [], Option, Some, None, Ok, codes, pos, refl, sym, ap, ◌∙◌, subst, inl, inr, arith, lit≤}
use Rattle.rand_pcg.specs.Lcg.{Lcg}
use Rattle.vs_session_defs.specs.Words.{drawn}
use Rattle.vs_defs.specs.Answers.{Answers, info_of, info_answer}
use Rattle.vs_defs.specs.Bounds.{IsInBounds, IsNameInBounds}
use Rattle.vs_defs.specs.Bytes.{Bytes}
use Rattle.vs_defs.specs.Read.{read, draws}
use Rattle.vs_defs.specs.Refuse.{is_change}
use Rattle.vs_defs.specs.Reply as outcome
use Rattle.vs_defs.specs.Request as request
use Rattle.vs_defs.specs.Request.{Add, Answer, Hit, Info, Request}
use Rattle.vs_defs.specs.Store.{Set, Store, plain, set_of}
use Rattle.vs_thread_defs.specs.Generator.{member_name}
use Rattle.vs_thread_defs.specs.Machine.{StoreChanges, StoreDoes}
use Rattle.vs_generate.specs.Asked.{FactsOf}
use Rattle.vs_generate.specs.Grown.{AddsOne}
use Rattle.vs_generate.proofs.Words.{short_number}

-- ---- questions

changes_none : (old new : Store Set) (r : Request) (a : Answer) → is_change (plain old) r ≡ false → StoreChanges old r [] a new None → ⊥
changes_none old new r a quiet c = let yes = c.step.contents.changes_something in cc

pub asked : (old new : Store Set) (r : Request) (a : Answer) → is_change (plain old) r ≡ false → StoreDoes old r [] (outcome.Answered a) new
    → (new ≡ old) × Answers old r [] a
asked old new r a quiet (inl c) = absurd (changes_none old new r a quiet c)
asked old new r a quiet (inr does) = does

info_is : (s : Store Set) (o : Option Set) (info : Info) → set_of (codes "g") s ≡ o → request.Informed info ≡ info_answer o → FactsOf s info
info_is s None info there is = absurd (cc)
info_is s (Some x) info there is = record { set = x; is_there = there; info_is = same info (info_of x) is } where
  same : (a b : Info) → request.Informed a ≡ request.Informed b → a ≡ b
  same a b e = cc

pub facts_of : (s : Store Set) (info : Info) → Answers s (request.Vinfo (codes "g")) [] (request.Informed info) → FactsOf s info
facts_of s info answers = info_is s (set_of (codes "g") s) info refl answers.answer_is

pub key_in_bounds : IsNameInBounds (codes "g")
key_in_bounds = (lit≤ tt, lit≤ tt)

pub name_in_bounds : (number : ℕ) → number < 2 ^ 32 → IsNameInBounds (member_name number)
name_in_bounds number few = let short = short_number number few in (omega arith, omega (arith, short))

-- ---- additions

added_one : (old new : Store Set) (add : Add) (a : Answer) (ws : List ℕ) → StoreDoes old (request.Vadd add) ws (outcome.Answered a) new
    → StoreChanges old (request.Vadd add) ws a new None
added_one old new add a ws (inl c) = c
added_one old new add a ws (inr does) = let nothing = does.1.changes_nothing in absurd (cc)

-- ---- an addition, each part of which is given as an equation

pub adds_by : (old new : Store Set) (words : List Bytes) (r : Request) (add : Add) (a : Answer) (ws : List ℕ) (n : ℕ) (g : Lcg) → read words ≡ Ok r → IsInBounds r
    → r ≡ request.Vadd add → a ≡ request.Int (pos 1) → ws ≡ drawn n g → n ≡ draws r → StoreDoes old r ws (outcome.Answered a) new
    → AddsOne old words (drawn 1 g) (request.Int (pos 1)) new
adds_by old new words r add a ws n g read_is bounds is one ws_is n_is does =
    let single : n ≡ 1 = n_is ∙ ap draws is in
    let by_words = subst (λ (w : List ℕ). StoreDoes old r w (outcome.Answered a) new) (ws_is ∙ ap (λ (k : ℕ). drawn k g) single) does in
    let by_answer = subst (λ (b : Answer). StoreDoes old r (drawn 1 g) (outcome.Answered b) new) one by_words in
    let by_request = subst (λ (q : Request). StoreDoes old q (drawn 1 g) (outcome.Answered (request.Int (pos 1))) new) is by_answer in
    let changes = added_one old new add (request.Int (pos 1)) (drawn 1 g) by_request in
    record {
      request = r;
      read_is = read_is;
      in_bounds = bounds;
      draws_are = sym (ap draws is);
      changes = subst (λ (q : Request). StoreChanges old q (drawn 1 g) (request.Int (pos 1)) new None) (sym is) changes;
    }
