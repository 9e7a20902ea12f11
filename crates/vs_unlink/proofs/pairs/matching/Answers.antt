use Rattle.std.proofs.Math.ListN.{set}
use Rattle.std.proofs.Common.{◌≡◌, ◌||◌, Bool, true, false, List, get_or, refl, sym, ap, ◌∙◌, subst, arith}
use Rattle.std.specs.List.{list_any}
use Rattle.vs_unlink.specs.declared.pairs.Candidate.{Candidate}
use Rattle.vs_unlink.specs.Candidates.{pair_at, IsWithin}
use Rattle.vs_unlink.specs.Pairs.{share}
use Rattle.vs_unlink.proofs.Marks.{AreMarks, marked_shares, marks_more}
use Rattle.vs_unlink.proofs.Steps.{step_taken, step_free}
use Rattle.vs_unlink.proofs.pairs.matching.Goals as goal

pub loop-candidate-preserved-then-is_taken : goal.loop-candidate-preserved-then-is_taken
loop-candidate-preserved-then-is_taken c =
    let ranked = c.args.ranked.now in
    let i = c.loop-candidate.candidate-index in
    let none : Candidate = record { dist = 0; one = 0; other = 0 } in
    let x : Candidate = get_or c.args.found.now i none in
    let within : IsWithin ranked x = c.requires.within i none (omega arith) in
    let test = marked_shares ranked c.loop-candidate.marks.items c.loop-candidate.added x c.loop-candidate.invariant.marks within in
    let taken : list_any (λ q. share q (pair_at ranked x)) c.loop-candidate.added ≡ true =
    sym test ∙ ap (λ (l : List Bool). get_or l x.one false || get_or l x.other false) (sym c.deref.ensures.value) ∙ sym c.is_taken.ensures ∙ c.if-is_taken.true in
    record {
      added = step_taken (pair_at ranked) c.args.found.now i none c.loop-candidate.added (pair_at ranked x) (omega arith) c.loop-candidate.invariant.added refl taken;
      marks = c.loop-candidate.invariant.marks;
    }

pub loop-candidate-preserved : goal.loop-candidate-preserved
loop-candidate-preserved c =
    let ranked = c.args.ranked.now in
    let i = c.loop-candidate.candidate-index in
    let none : Candidate = record { dist = 0; one = 0; other = 0 } in
    let x : Candidate = get_or c.args.found.now i none in
    let within : IsWithin ranked x = c.requires.within i none (omega arith) in
    let test = marked_shares ranked c.loop-candidate.marks.items c.loop-candidate.added x c.loop-candidate.invariant.marks within in
    let free : list_any (λ q. share q (pair_at ranked x)) c.loop-candidate.added ≡ false =
    sym test ∙ ap (λ (l : List Bool). get_or l x.one false || get_or l x.other false) (sym c.deref.ensures.value) ∙ sym c.is_taken.ensures ∙ c.if-is_taken.false in
    record {
      added = step_free (pair_at ranked) c.args.found.now i none c.loop-candidate.added c.push.new.self (pair_at ranked x) (omega arith) c.loop-candidate.invariant.added refl free c.in_ok-push.ensures.ok;
      marks = subst (AreMarks ranked (set (set c.loop-candidate.marks.items x.one true) x.other true)) (sym c.in_ok-push.ensures.ok)
          (marks_more ranked c.requires.once c.loop-candidate.marks.items c.loop-candidate.added x.one x.other within.one within.other c.loop-candidate.invariant.marks);
    }
