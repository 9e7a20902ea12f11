-- From hits by their places to what a search answers.
--     has_sought                   a name that isn't refused is a member
--     are_hits                     the hits are found members
--     answers_vector               with names, they are what a search for the vector answers
--     finds_of, reads_to_find      at the vector that is looked for, that is what the search answers, and by how many reads
use Rattle.std.proofs.Common.{◌≡◌, ℕ, ◌+◌, ◌≤◌, Bool, true, false, List, Option, Some, None, map, take, max, refl, sym, ◌∙◌, arith, subst, inl, inr}
use Rattle.std.specs.Prelude.{MatchBool}
use Rattle.std.proofs.lemmas.Bool.{cond-false, cases_Bool, MatchBool-at_false}
use Rattle.std.proofs.lemmas.Option.{none-some}
use Rattle.vs_defs.specs.Bytes.{Bytes}
use Rattle.vs_defs.specs.Vector.{Vector}
use Rattle.vs_defs.specs.Answers.{FindsOf, members_named, passes_member}
use Rattle.vs_defs.specs.Beam.{IsBeam}
use Rattle.vs_defs.specs.Counts.{FindsWithin, IsExpansion, ReadsToFind}
use Rattle.vs_defs.specs.FilterText.{passes_filter}
use Rattle.vs_defs.specs.PlainAnswer.{query_of}
use Rattle.vs_defs.specs.Request as request
use Rattle.vs_defs.specs.Request.{Answer, Search}
use Rattle.vs_defs.specs.Refuse.{search_refusal}
use Rattle.vs_defs.specs.Store.{Contents, Member, Set, is_member, member_of}
use Rattle.vs_defs.specs.Truth as truth
use Rattle.vs_defs.specs.Truth.{by_nearness, nearest}
use Rattle.vs_command.specs.declared.answer.NamedHit.{NamedHit}
use Rattle.vs_command.specs.Answers.{hits_of}
use Rattle.vs_truth.specs.declared.candidate.Hit.{Hit}
use Rattle.vs_truth.specs.Nearest.{AreHits}
use Rattle.vs_set.specs.Found.{FindsNear, pass_by, passes_of}
use Rattle.vs_query.specs.Found.{hit_at, HasHits, FindsVector, truth_answer}
use Rattle.vs_query.proofs.Named.{named_is}

-- ---- choices

either : {A B C : Type 0} (b : Bool) → (A → C) → (B → C) → MatchBool b A B → C
either true f g h = f h
either false f g h = g h

both : {A B C D : Type 0} (b : Bool) → (A → C) → (B → D) → MatchBool b A B → MatchBool b C D
both true f g h = f h
both false f g h = g h

-- ---- what is looked for

pub has_sought : (name : Bytes) (x : Contents) → search_refusal (request.Ele name) (Some x) ≡ None → is_member name x.members ≡ true
has_sought name x h = elim (cases_Bool (is_member name x.members)) [
  | inl t ↦ t
  | inr f ↦ absurd (none-some request.NoSuchElement (sym h ∙ cond-false (is_member name x.members) None (Some request.NoSuchElement) f))
]

-- ---- hits

module _ (search : Search) (text : Option Bytes) (x : Set) (q : Vector) (hits : List Hit) (reads : ℕ) where
  found_members : FindsNear x q search.count search.ef search.effort (passes_filter text) hits reads → (found : List Member) × AreHits q x.contents.members found hits
  found_members near = (_, near.near.hits_are)

  pub are_hits : HasHits search text x q hits reads → (found : List Member) × AreHits q x.contents.members found hits
  are_hits has = either search.truth (λ are. (nearest search.count q text x.contents.members, are)) found_members has

  pub has_nearest : search.truth ≡ true → AreHits q x.contents.members (nearest search.count q text x.contents.members) hits → HasHits search text x q hits reads
  has_nearest e are =
      subst (λ b. MatchBool b (AreHits q x.contents.members (nearest search.count q text x.contents.members) hits) (FindsNear x q search.count search.ef search.effort (passes_filter text) hits reads)) (sym e) are

same_test : (text : Option Bytes) (o : Option Member) → passes_of (passes_filter text) o ≡ passes_member text o
same_test text None = refl
same_test text (Some y) = refl

module _ (search : Search) (x : Set) (q : Vector) (hits : List Hit) (named : List NamedHit) (dim reads : ℕ) where
  abbrev answer : Answer
  answer = request.Hits dim search.scores search.attrs (hits_of named)

  abbrev pass : Bytes → Bool
  pass name = passes_member search.filter (member_of name x.contents.members)

  same_pass : pass_by x (passes_filter search.filter) ≡ pass
  same_pass = λ t name. same_test search.filter (member_of name x.contents.members) t

  named_as : (found : List Member) → dim ≡ x.contents.dim → hits_of named ≡ map (hit_at search.attrs x.contents.members) hits → AreHits q x.contents.members found hits
      → answer ≡ request.Hits x.contents.dim search.scores search.attrs (map (truth.hit_of q search.attrs) found)
  named_as found is_dim is are =
      let all : hits_of named ≡ map (truth.hit_of q search.attrs) found = is ∙ named_is search.attrs q x.contents.members found hits are in
      λ t. request.Hits (is_dim t) search.scores search.attrs (all t)

  finds_within : dim ≡ x.contents.dim → hits_of named ≡ map (hit_at search.attrs x.contents.members) hits → FindsNear x q search.count search.ef search.effort (passes_filter search.filter) hits reads
      → FindsWithin search x q answer (reads + 1)
  finds_within is_dim is near =
      let n = near.near in
      let w = max search.ef search.count in
      record {
        finds = record {
          stops = n.stops;
          descent = n.descends;
          start = n.start;
          starts = n.starts;
          tried = n.tried;
          found = n.found;
          beam = subst (λ p. IsBeam x q 0 n.start w search.effort p n.tried n.found) same_pass n.beam;
          hits = named_as (take search.count (by_nearness q (members_named x.contents.members n.found))) is_dim is n.hits_are;
        };
        expanded = near.expanded;
        expansion = subst (λ p. IsExpansion x q 0 n.start w p n.tried near.expanded) same_pass near.expansion;
        reads = omega (arith, near.told);
      }

  pub answers_vector : dim ≡ x.contents.dim → hits_of named ≡ map (hit_at search.attrs x.contents.members) hits → HasHits search search.filter x q hits reads → FindsVector search x q answer reads
  answers_vector is_dim is has =
      both search.truth (named_as (nearest search.count q search.filter x.contents.members) is_dim is) (finds_within is_dim is) has

-- ---- what a search answers

module _ (search : Search) (x : Set) (q : Vector) (answer : Answer) (reads : ℕ) (is : q ≡ query_of search.what x.contents) (finds : FindsVector search x q answer reads) where
  at_sought : FindsVector search x (query_of search.what x.contents) answer reads
  at_sought = subst (λ v. FindsVector search x v answer reads) is finds

  pub finds_of : FindsOf search (Some x) answer
  finds_of = both search.truth (λ (e : answer ≡ truth_answer search x (query_of search.what x.contents)). e) (λ (w : FindsWithin search x (query_of search.what x.contents) answer (reads + 1)). w.finds) at_sought

  pub reads_to_find : (n : ℕ) → n ≤ reads + 1 → search.truth ≡ false → ReadsToFind search (Some x) answer n
  reads_to_find n le e =
      let w = MatchBool-at_false (answer ≡ truth_answer search x (query_of search.what x.contents)) (FindsWithin search x (query_of search.what x.contents) answer (reads + 1)) e at_sought in
      record { finds = w.finds; expanded = w.expanded; expansion = w.expansion; reads = omega (arith, le, w.reads) }
