-- The summary by what was built and what was asked.
--     generates      the text is a summary of a store that the generated requests reach
use Rattle.std.proofs.Common.{◌≡◌, ℕ, ◌/◌, Bool, true, false, List, [], ◌∷◌, length, Option, Some, None, codes, decimal, refl, sym, ap, ◌∙◌, subst}
use Rattle.std.specs.Prelude.{IfOk, Result, Ok, Err, MatchBool, count_by, flat_map, option_map, unwrap_or, sum_by}
use Rattle.vs_command.specs.Answers.{info_of}
use Rattle.vs_command.specs.declared.answer.Info.{Info}
use Rattle.vs_defs.specs.Answers as defs
use Rattle.vs_defs.specs.Answers.{Answers, FindsOf}
use Rattle.vs_defs.specs.Beam.{level_at}
use Rattle.vs_defs.specs.Bytes.{Bytes, listed}
use Rattle.vs_defs.specs.PlainAnswer.{truth_hits}
use Rattle.vs_defs.specs.Request as request
use Rattle.vs_defs.specs.Request.{Hit, Search}
use Rattle.vs_defs.specs.Store.{Store, Set, set_of}
use Rattle.vs_thread_defs.specs.Generator.{Generates, hit_names, linked_pairs, member_name, search_of_first, summary, summary_line, top_level}
use Rattle.vs_generate.specs.Asked.{FactsOf, FoundFirst, links_below, links_of_name}
use Rattle.vs_generate.specs.Grown.{Holds, IsGrown}
use Rattle.vs_generate.specs.Printed.{printed}

-- ---- the facts

level_is : (x : Set) (e : Option Bytes) → unwrap_or (option_map (level_at x) e) 0 ≡ top_level e x
level_is x None = refl
level_is x (Some name) = refl

-- the lines by their numbers
abbrev lines : List Bytes → List Bytes → ℕ → ℕ → ℕ → ℕ → Bytes
lines truth beam size dim level pairs = flat_map summary_line (
    (codes "members" ∷ decimal size ∷ []) ∷ (codes "dim" ∷ decimal dim ∷ []) ∷ (codes "max-level" ∷ decimal level ∷ [])
    ∷ (codes "links" ∷ decimal pairs ∷ []) ∷ (codes "truth" ∷ truth) ∷ (codes "beam" ∷ beam)
    ∷ (codes "agree" ∷ decimal (count_by (λ name. listed name truth) beam) ∷ []) ∷ [])

printed_is : (x : Set) (facts : Info) (pairs : ℕ) (truth beam : List Bytes) → info_of facts ≡ defs.info_of x → pairs ≡ linked_pairs x
    → printed facts pairs truth beam ≡ summary x truth beam
printed_is x facts pairs truth beam is same =
    let size : facts.size ≡ length x.contents.members = ap (λ i. i.size) is in
    let dim : facts.dim ≡ x.contents.dim = ap (λ i. i.dim) is in
    let level : facts.max_level ≡ top_level x.wiring.entry x = ap (λ i. i.max_level) is ∙ level_is x x.wiring.entry in
    ap (λ n. lines truth beam n facts.dim facts.max_level pairs) size
    ∙ ap (λ n. lines truth beam (length x.contents.members) n facts.max_level pairs) dim
    ∙ ap (λ n. lines truth beam (length x.contents.members) x.contents.dim n pairs) level
    ∙ ap (λ n. lines truth beam (length x.contents.members) x.contents.dim (top_level x.wiring.entry x) n) same

-- ---- the searches

same_hits : (d e : ℕ) (s t a b : Bool) (xs ys : List Hit) → request.Hits d s a xs ≡ request.Hits e t b ys → (d ≡ e) × (s ≡ t) × (a ≡ b)
same_hits d e s t a b xs ys is = (first d e s t a b xs ys is, second d e s t a b xs ys is, third d e s t a b xs ys is) where
  first : (d e : ℕ) (s t a b : Bool) (xs ys : List Hit) → request.Hits d s a xs ≡ request.Hits e t b ys → d ≡ e
  first d e s t a b xs ys is = cc

  second : (d e : ℕ) (s t a b : Bool) (xs ys : List Hit) → request.Hits d s a xs ≡ request.Hits e t b ys → s ≡ t
  second d e s t a b xs ys is = cc

  third : (d e : ℕ) (s t a b : Bool) (xs ys : List Hit) → request.Hits d s a xs ≡ request.Hits e t b ys → a ≡ b
  third d e s t a b xs ys is = cc

shown : (truth : Bool) (x : Set) (d : ℕ) (s a : Bool) (hits : List Hit) (asked : Search) → asked.truth ≡ truth → asked.scores ≡ false → asked.attrs ≡ false
    → FindsOf asked (Some x) (request.Hits d s a hits) → (d ≡ x.contents.dim) × (s ≡ false) × (a ≡ false)
shown true x d s a hits asked is scores attrs finds =
    let exact = subst (λ (b : Bool). MatchBool b (request.Hits d s a hits ≡ truth_hits asked x.contents) (defs.Finds asked (Some x) (request.Hits d s a hits))) is finds in
    let same = same_hits d x.contents.dim s asked.scores a asked.attrs hits _ exact in
    (same.0, same.1 ∙ scores, same.2 ∙ attrs)
shown false x d s a hits asked is scores attrs finds =
    let by_beam = subst (λ (b : Bool). MatchBool b (request.Hits d s a hits ≡ truth_hits asked x.contents) (defs.Finds asked (Some x) (request.Hits d s a hits))) is finds in
    let same = same_hits d x.contents.dim s asked.scores a asked.attrs hits _ by_beam.hits in
    (same.0, same.1 ∙ scores, same.2 ∙ attrs)

abbrev the_search : Bool → Search
the_search truth = record {
  key = codes "g";
  what = request.Ele (member_name 0);
  scores = false;
  attrs = false;
  count = 10;
  ef = 100;
  filter = None;
  effort = 0;
  truth = truth;
  nothread = false;
}

answers_first : (truth : Bool) (s : Store Set) (x : Set) (hits : List Hit) → set_of (codes "g") s ≡ Some x → FoundFirst truth s hits
    → Answers s (search_of_first truth) [] (request.Hits x.contents.dim false false hits)
answers_first truth s x hits there found =
    let finds = subst (λ o. FindsOf (the_search truth) o (request.Hits found.dim found.scores found.attrs hits)) there found.answers.answer_is in
    let same = shown truth x found.dim found.scores found.attrs hits (the_search truth) refl refl refl finds in
    subst (λ d. Answers s (search_of_first truth) [] (request.Hits d false false hits)) same.0
    (subst (λ b. Answers s (search_of_first truth) [] (request.Hits found.dim b false hits)) same.1
    (subst (λ b. Answers s (search_of_first truth) [] (request.Hits found.dim found.scores b hits)) same.2 found.answers))

-- ---- all

pub generates : (seed members dim links : ℕ) (s : Store Set) (facts : Info) (truth beam : List Hit) (text : Bytes) → IsGrown seed members dim s
    → FactsOf s (info_of facts) → FoundFirst true s truth → FoundFirst false s beam → ((x : Set) → set_of (codes "g") s ≡ Some x → links ≡ links_below members x)
    → text ≡ printed facts (links / 2) (hit_names truth) (hit_names beam) → Generates seed members dim text
generates seed members dim links s facts truth beam text grown info by_truth by_beam linked is =
    let x = info.set in
    let holds : Holds members dim (Some x) = subst (Holds members dim) info.is_there grown.holds in
    let pairs : links / 2 ≡ linked_pairs x = ap (λ n. n / 2) (linked x info.is_there ∙ ap (sum_by (links_of_name x)) (sym holds.1)) in
    record {
      history = grown.history;
      generated = grown.generated;
      set = x;
      is_there = ap (set_of (codes "g")) grown.store_is ∙ info.is_there;
      truth = truth;
      truth_is = subst (λ t. Answers t (search_of_first true) [] (request.Hits dim false false truth)) (sym grown.store_is)
          (subst (λ d. Answers s (search_of_first true) [] (request.Hits d false false truth)) holds.0 (answers_first true s x truth info.is_there by_truth));
      beam = beam;
      beam_is = subst (λ t. Answers t (search_of_first false) [] (request.Hits dim false false beam)) (sym grown.store_is)
          (subst (λ d. Answers s (search_of_first false) [] (request.Hits d false false beam)) holds.0 (answers_first false s x beam info.is_there by_beam));
      printed = is ∙ printed_is x facts (links / 2) (hit_names truth) (hit_names beam) info.info_is pairs;
    }

-- the store is the same at each question
pub generates_by : (seed members dim links : ℕ) (s s1 s2 s3 : Store Set) (facts : Info) (truth beam : List Hit) (text : Bytes) → IsGrown seed members dim s
    → s1 ≡ s → s2 ≡ s1 → s3 ≡ s2 → FactsOf s (info_of facts) → ((x : Set) → set_of (codes "g") s1 ≡ Some x → links ≡ links_below members x)
    → FoundFirst true s2 truth → FoundFirst false s3 beam → text ≡ printed facts (links / 2) (hit_names truth) (hit_names beam) → Generates seed members dim text
generates_by seed members dim links s s1 s2 s3 facts truth beam text grown e1 e2 e3 info linked by_truth by_beam is =
    generates seed members dim links s facts truth beam text grown info (subst (λ t. FoundFirst true t truth) (e2 ∙ e1) by_truth)
    (subst (λ t. FoundFirst false t beam) (e3 ∙ e2 ∙ e1) by_beam) (λ x there. linked x (ap (set_of (codes "g")) e1 ∙ there)) is

pub summed : (seed members dim links : ℕ) (s s1 s2 s3 : Store Set) (facts : Info) (truth beam : List Hit) {E : Type 0} (result : Result Bytes E) → IsGrown seed members dim s
    → s1 ≡ s → s2 ≡ s1 → s3 ≡ s2 → FactsOf s (info_of facts) → ((x : Set) → set_of (codes "g") s1 ≡ Some x → links ≡ links_below members x)
    → FoundFirst true s2 truth → FoundFirst false s3 beam → IfOk result (λ text. text ≡ printed facts (links / 2) (hit_names truth) (hit_names beam))
    → IfOk result (λ text. Generates seed members dim text)
summed seed members dim links s s1 s2 s3 facts truth beam (Ok text) grown e1 e2 e3 info linked by_truth by_beam is =
    generates_by seed members dim links s s1 s2 s3 facts truth beam text grown e1 e2 e3 info linked by_truth by_beam is
summed seed members dim links s s1 s2 s3 facts truth beam (Err e) grown e1 e2 e3 info linked by_truth by_beam is = tt
