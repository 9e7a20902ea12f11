use Rattle.std.proofs.Common.{◌≡◌, ℕ, ◌≤◌, Some, ap, sym, subst, arith}
use Rattle.vs_defs.specs.Store as store
use Rattle.vs_defs.specs.Store.{usual_limits}
use Rattle.vs_thread_defs.specs.Schedule.{number_within}
use Rattle.vs_schedule.proofs.Lines.{within_range}
use Rattle.vs_schedule.proofs.begins.lesser_limits.Goals as goal

pub returns-clause-usual : goal.returns-clause-usual
returns-clause-usual c =
    let s = c.in_ok-number_within.field-0 in
    let k = c.in_ok-number_within-2.field-0 in
    let a = c.in_ok-number_within-3.field-0 in
    let set : number_within 1 usual_limits.set c.args.set.now ≡ Some s =
    subst (λ (m : ℕ). number_within 1 m c.args.set.now ≡ Some s) (ap (λ (l : store.Limits). l.set) c.usual-usual.ensures) (sym c.in_ok-number_within.ensures) in
    let keys : number_within 1 usual_limits.keys c.args.keys.now ≡ Some k =
    subst (λ (m : ℕ). number_within 1 m c.args.keys.now ≡ Some k) (ap (λ (l : store.Limits). l.keys) c.usual-usual.ensures) (sym c.in_ok-number_within-2.ensures) in
    let all : number_within 1 usual_limits.all c.args.all.now ≡ Some a =
    subst (λ (m : ℕ). number_within 1 m c.args.all.now ≡ Some a) (ap (λ (l : store.Limits). l.all) c.usual-usual.ensures) (sym c.in_ok-number_within-3.ensures) in
    record {
      set = within_range 1 usual_limits.set s c.args.set.now set;
      keys = within_range 1 usual_limits.keys k c.args.keys.now keys;
      all = within_range 1 usual_limits.all a c.args.all.now all;
      changes = subst (λ (m : ℕ). (1 ≤ m) × (m ≤ usual_limits.changes)) (sym (ap (λ (l : store.Limits). l.changes) c.usual-usual.ensures)) (omega arith, omega arith);
    }
