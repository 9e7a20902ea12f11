use Rattle.std.proofs.Common.{◌≡◌, ℕ, ◌+◌, ◌≤◌, sym, ◌∙◌, subst}
use Rattle.std.specs.Prelude.{unwrap_or, option_map}
use Rattle.indexmap.specs.IndexMap.{set_value_at}
use Rattle.vs_defs.specs.Counts.{commit_reads}
use Rattle.vs_defs.specs.Good.{GoodStore}
use Rattle.vs_defs.specs.PlainStep.{one}
use Rattle.vs_defs.specs.Store.{Set, Store, set_of}
use Rattle.vs_set.specs.Drafted.{Commits}
use Rattle.vs_set.specs.Kept.{IsSound}
use Rattle.vs_set.proofs.Sames.{on_err}
use Rattle.vs_store.specs.Drafts.{CommitsBy, ready_seen}
use Rattle.vs_store.specs.Fresh.{IsFresh}
use Rattle.vs_store.specs.Kept.{IsKept}
use Rattle.vs_store.specs.Seen.{store_seen}
use Rattle.vs_store.proofs.Entered.{is_fresh, reads_most, room_for, fresh_draft, may_draft, reads_within, unchanged, kept_after, commits_after}
use Rattle.vs_store.proofs.store.Store.commit_fresh.Given.{Over}
use Rattle.vs_store.proofs.store.Store.commit_fresh.Goals.{After-index_mut}
use Rattle.vs_store.proofs.store.Store.commit_fresh.Goals as goal

-- ---- what is known once the set is found

module _ (g : Over) (c : After-index_mut g) where
  abbrev old : Store Set
  old = store_seen c.self.inside.sets.entries c.self.inside.changes c.self.inside.limits

  -- with another set at the place, and so many changes
  abbrev with_set : Set → ℕ → Store Set
  with_set y n = store_seen (set_value_at c.self.inside.sets.entries c.in-Some.place y) n c.self.inside.limits

  fresh : IsFresh old c.ready.inside.add c.ready.inside.word c.ready.inside.draft c.in-Some.place c.in-Some.ensures.present.0
  fresh =
      let r = c.ready.inside in
      is_fresh c.self.view_is r.add r.word r.draft c.ready.view_is c.as_slice.ensures c.in-Some.place c.in-Some.ensures.present c.requires.fresh c.requires.unrefused c.requires.may

  same_again : (y : Set) → y ≡ c.index_mut.result.now → with_set y c.self.inside.changes ≡ old
  same_again y back =
      let s = c.self.inside in
      let r = c.ready.inside in
      unchanged s.sets.entries s.changes s.limits c.self.invariant r.add r.word r.draft c.ready.invariant c.in-Some.place c.in-Some.ensures.present.0 fresh c.index_mut.result.now c.index_mut.ensures.value y back

  kept : (y : Set) → Commits c.ready.inside.draft c.ready.inside.add.attr c.index_mut.result.now y → IsSound y → IsKept (with_set y (c.self.inside.changes + 1)) (c.self.inside.members + 1)
  kept y commits sound =
      let s = c.self.inside in
      let r = c.ready.inside in
      kept_after s.sets.entries s.changes s.limits c.self.invariant r.add r.word r.draft c.ready.invariant c.in-Some.place c.in-Some.ensures.present.0 fresh c.index_mut.result.now c.index_mut.ensures.value y commits sound

  told : (n : ℕ) → n ≤ c.args.reads.now + commit_reads c.ready.inside.draft.level c.index_mut.result.now.contents.m
      → n ≤ c.args.reads.now + unwrap_or (option_map (λ x. commit_reads c.args.ready.level x.contents.m) (set_of c.args.ready.add.key c.args.self.now)) 0
  told n within =
      let s = c.self.inside in
      let r = c.ready.inside in
      reads_within s.sets.entries s.changes s.limits c.self.invariant r.add r.word r.draft c.ready.invariant c.in-Some.place c.in-Some.ensures.present.0 fresh c.index_mut.result.now c.index_mut.ensures.value c.args.reads.now n _
      (reads_most c.self.view_is r.add r.word r.draft c.ready.view_is c.as_slice.ensures c.in-Some.place c.in-Some.ensures.present) within

-- ---- the goals

pub commit_to-requires-clause-room : goal.commit_to-requires-clause-room
commit_to-requires-clause-room g c =
    let s = c.self.inside in
    let r = c.ready.inside in
    room_for s.sets.entries s.changes s.limits c.self.invariant r.add r.word r.draft c.ready.invariant c.in-Some.place c.in-Some.ensures.present.0 (fresh g (goal.at.commit_to-requires-clause-room g c).After-index_mut) c.index_mut.result.now
    c.index_mut.ensures.value

pub commit_to-requires-clause-fresh : goal.commit_to-requires-clause-fresh
commit_to-requires-clause-fresh g c =
    let s = c.self.inside in
    let r = c.ready.inside in
    fresh_draft s.sets.entries s.changes s.limits c.self.invariant r.add r.word r.draft c.ready.invariant c.in-Some.place c.in-Some.ensures.present.0 (fresh g (goal.at.commit_to-requires-clause-fresh g c).After-index_mut)
    c.index_mut.result.now c.index_mut.ensures.value

pub commit_to-requires-clause-may : goal.commit_to-requires-clause-may
commit_to-requires-clause-may g c =
    let s = c.self.inside in
    let r = c.ready.inside in
    may_draft s.sets.entries s.changes s.limits c.self.invariant r.add r.word r.draft c.ready.invariant c.in-Some.place c.in-Some.ensures.present.0 (fresh g (goal.at.commit_to-requires-clause-may g c).After-index_mut) c.index_mut.result.now
    c.index_mut.ensures.value

pub invariant_of-self : goal.invariant_of-self
invariant_of-self g c = subst (λ t. IsKept t c.self.inside.members) (sym (same_again g (goal.at.invariant_of-self g c).After-index_mut c.commit_to.new.set c.in_err-commit_to.ensures.err)) c.self.invariant

pub returns-in_err-commit_to-clause-good : goal.returns-in_err-commit_to-clause-good
returns-in_err-commit_to-clause-good g c =
    subst GoodStore (sym (same_again g (goal.at.returns-in_err-commit_to-clause-good g c).After-index_mut c.commit_to.new.set c.in_err-commit_to.ensures.err)) c.self.invariant.good

pub returns-in_err-commit_to-clause-told : goal.returns-in_err-commit_to-clause-told
returns-in_err-commit_to-clause-told g c = told g (goal.at.returns-in_err-commit_to-clause-told g c).After-index_mut c.commit_to.new.reads c.commit_to.ensures.told

pub returns-in_err-commit_to-clause-err : goal.returns-in_err-commit_to-clause-err
returns-in_err-commit_to-clause-err g c =
    on_err c.from_residual.result (same_again g (goal.at.returns-in_err-commit_to-clause-err g c).After-index_mut c.commit_to.new.set c.in_err-commit_to.ensures.err ∙ c.self.view_is)

pub invariant_of-self-2 : goal.invariant_of-self-2
invariant_of-self-2 g c = kept g (goal.at.invariant_of-self-2 g c).After-index_mut c.commit_to.new.set c.in_ok-commit_to.ensures.committed c.in_ok-commit_to.ensures.sound

pub returns-clause-committed : goal.returns-clause-committed
returns-clause-committed g c =
    let s = c.self.inside in
    let r = c.ready.inside in
    let here = (goal.at.returns-clause-committed g c).After-index_mut in
    let later = with_set g here c.commit_to.new.set (s.changes + 1) in
    subst (λ q. CommitsBy q c.args.self.now one later) c.ready.view_is
    (subst (λ t. CommitsBy (ready_seen r.add r.word r.draft) t one later) c.self.view_is
    (commits_after s.sets.entries s.changes s.limits c.self.invariant r.add r.word r.draft c.ready.invariant c.in-Some.place c.in-Some.ensures.present.0 (fresh g here) c.index_mut.result.now c.index_mut.ensures.value c.commit_to.new.set
    c.in_ok-commit_to.ensures.committed c.in_ok-commit_to.ensures.sound))

pub returns-clause-good : goal.returns-clause-good
returns-clause-good g c = (kept g (goal.at.returns-clause-good g c).After-index_mut c.commit_to.new.set c.in_ok-commit_to.ensures.committed c.in_ok-commit_to.ensures.sound).good

pub returns-clause-told : goal.returns-clause-told
returns-clause-told g c = told g (goal.at.returns-clause-told g c).After-index_mut c.commit_to.new.reads c.commit_to.ensures.told
