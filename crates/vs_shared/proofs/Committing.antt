-- What was drafted and prepared at the end of a pass's list may be committed later: whoever was chosen stands there still.
use Rattle.std.proofs.Common.{◌≡◌, ℕ, length, refl, sym, ap, ◌∙◌, subst, arith, Ok}
use Rattle.std.specs.Prelude.{Some, None}
use Rattle.vs_defs.specs.Request.{Add}
use Rattle.vs_defs.specs.Stale.{stale_by}
use Rattle.vs_defs.specs.Store.{Set, Store, Limits, set_of}
use Rattle.vs_thread_defs.specs.Core as core
use Rattle.vs_thread_defs.specs.Core.{DraftedAt}
use Rattle.vs_thread_defs.specs.Laws.{DraftKeepsChosen}
use Rattle.vs_thread_defs.specs.Machine.{GraphHistory, store_of, store_at}
use Rattle.vs_store.specs.Drafts.{WasReadyIn, IsPrepared, MayCommit}
use Rattle.vs_store.proofs.Lasting.{may_commit_in}
use Rattle.vs_pass.specs.Task.{Holding}
use Rattle.vs_pass.proofs.Tasks.{at_the_end, at_a_beginning}
use Rattle.vs_shared.specs.declared.begun.Begun.{Begun}
use Rattle.vs_shared.specs.declared.begun.Begun.TheVariants.{Drafted}
use Rattle.vs_shared.specs.Calls.{DraftAnswers, IsReadyAfter, prepared_after}

module _ (limits : Limits) (s : GraphHistory) (ready : core.Ready) (at : IsReadyAfter limits s ready) where
  pub was_ready : WasReadyIn at.set ready
  was_ready = record {
    draftable = at.draftable;
    cut = at.cut_is;
    level = at.level_is;
    chosen = at.are_chosen;
    bits = at.have_bits;
  }

  pub was_there : set_of ready.add.key (store_of limits s) ≡ Some at.set
  was_there = ap (set_of ready.add.key) (sym (at_the_end limits s)) ∙ at.set_is

  pub may_commit : DraftKeepsChosen → (number : ℕ) (log : GraphHistory) → Holding limits number s log → (store : Store Set) → store ≡ store_of limits log → MayCommit store ready
  may_commit laws number log held store ends now there fresh =
      let kept = laws limits log ready.add ready.level (prepared_after s ready) at.set now held.legal
      (ap (set_of ready.add.key) (at_a_beginning limits s log held.begins) ∙ was_there)
      (ap (set_of ready.add.key) (sym ends) ∙ there) at.are_chosen
      (subst (λ (cut : ℕ). stale_by cut ready.add.name (Some now) ≡ None) at.cut_is fresh) in
      may_commit_in at.set now ready was_ready kept.0 kept.1 kept.2

-- what a call of draft says of the draft that it hands out
pub drafted_at : (limits : Limits) (k : ℕ) (s t : GraphHistory) (add : Add) (drawn : ℕ) (begun : Begun) (d : core.Drafting) → DraftAnswers limits k s add drawn (Ok begun) t → begun ≡ Drafted d → DraftedAt limits t add drawn (length t) d
drafted_at limits k s t add drawn begun d call is = (subst (λ (b : Begun). DraftAnswers limits k s add drawn (Ok b) t) is call).1

-- what was drafted and then prepared may be committed
module _ (limits : Limits) (t : GraphHistory) (add : Add) (drawn : ℕ) (d : core.Drafting) (ready : core.Ready) (at : DraftedAt limits t add drawn (length t) d) (prepared : IsPrepared d ready) where
  pub ready_add : ready.add ≡ add
  ready_add = prepared.add ∙ at.add_is

  pub ready_drawn : ready.drawn ≡ drawn
  ready_drawn = prepared.drawn ∙ at.drawn_is

  pub ready_after : IsReadyAfter limits t ready
  ready_after = record {
    before = omega arith;
    add_is = refl;
    drawn_is = refl;
    set = d.set;
    set_is = ap (λ (a : Add). set_of a.key (store_at limits t (length t))) ready_add ∙ at.set_is;
    draftable = prepared.was.draftable;
    cut_is = prepared.was.cut;
    level_is = prepared.was.level;
    chosen_are = refl;
    are_chosen = prepared.was.chosen;
    have_bits = prepared.was.bits;
  }
