use Rattle.std.proofs.Common.{◌≡◌, ℕ, ◌+◌, true, false, sym, ap, ◌∙◌, subst}
use Rattle.std.specs.Prelude.{Result, Ok, Err, Option, Some, None, IfErr, OnOk}
use Rattle.std.specs.Option.{option_or}
use Rattle.std.specs.Result.{IsErrAnd}
use Rattle.vs_defs.specs.Refuse.{store_refusal}
use Rattle.vs_defs.specs.Request as request
use Rattle.vs_defs.specs.Store.{PlainStore, plain, is_member}
use Rattle.vs_bits.specs.Requests.{add_of}
use Rattle.vs_command.specs.declared.refusal.Refusal.{Refusal as Cause}
use Rattle.vs_store.specs.Causes.{IsCause, no_room, limited, HasRoom}
use Rattle.vs_store.proofs.Causes.{cause-of, gave, limit-refuses, limit-lets, misfit-refusal, member-refusal, new-refusal, has-room}
use Rattle.vs_store.proofs.Changes.{plain_set}
use Rattle.vs_store.proofs.store.Store.number_to_add.Goals as goal

handed : (r : Result ℕ Cause) (e : Cause) (x : Option request.Refusal) → IsErrAnd r (λ y. y ≡ e) → IsCause e x → IfErr r (λ f. IsCause f x)
handed r e x h cause = subst (λ o. IfErr o (λ f. IsCause f x)) (sym (gave r e h)) cause

roomy : (s : PlainStore) (n : ℕ) (x : Option request.Refusal) (r : Result ℕ Cause) → x ≡ option_or (no_room s n) (limited s) → OnOk r (HasRoom s n) → OnOk r (x ≡ None)
roomy s n x (Ok number) alone room = alone ∙ has-room s n room
roomy s n x (Err e) alone room = tt

pub returns-in_err-check_fit-clause-refused : goal.returns-in_err-check_fit-clause-refused
returns-in_err-check_fit-clause-refused c =
    let s = c.args.self.now in
    let add = add_of c.args.add.now in
    let x = c.args.set.now in
    let e = c.in_err-check_fit.field-0.0 in
    handed c.from_residual.result e (store_refusal (plain s) (request.Vadd add)) c.from_residual.ensures.1
    (cause-of e _ (store_refusal (plain s) (request.Vadd add)) (λ cause is. misfit-refusal (plain s) add x.contents cause (plain_set s add.key (Some x) c.requires.at) is) c.in_err-check_fit.ensures.refused)

pub returns-then-has-clause-unrefused : goal.returns-then-has-clause-unrefused
returns-then-has-clause-unrefused c =
    let s = c.args.self.now in
    let add = add_of c.args.add.now in
    let x = c.args.set.now in
    let member : is_member add.name x.contents.members ≡ true = ap (λ n. is_member n x.contents.members) (sym c.as_slice.ensures) ∙ sym c.has.ensures ∙ c.if-has.true in
    limit-lets (plain s) (store_refusal (plain s) (request.Vadd add)) (s.changes + 1) c.next_number.result
    (member-refusal (plain s) add x.contents (plain_set s add.key (Some x) c.requires.at) c.in_ok-check_fit.ensures.fits member) c.next_number.ensures.ok

pub returns-then-has-clause-refused : goal.returns-then-has-clause-refused
returns-then-has-clause-refused c =
    let s = c.args.self.now in
    let add = add_of c.args.add.now in
    let x = c.args.set.now in
    let member : is_member add.name x.contents.members ≡ true = ap (λ n. is_member n x.contents.members) (sym c.as_slice.ensures) ∙ sym c.has.ensures ∙ c.if-has.true in
    limit-refuses (plain s) (store_refusal (plain s) (request.Vadd add)) c.next_number.result
    (member-refusal (plain s) add x.contents (plain_set s add.key (Some x) c.requires.at) c.in_ok-check_fit.ensures.fits member) c.next_number.ensures.err

pub returns-else-has-clause-unrefused : goal.returns-else-has-clause-unrefused
returns-else-has-clause-unrefused c =
    let s = c.args.self.now in
    let add = add_of c.args.add.now in
    let x = c.args.set.now in
    let new : is_member add.name x.contents.members ≡ false = ap (λ n. is_member n x.contents.members) (sym c.as_slice.ensures) ∙ sym c.has.ensures ∙ c.if-has.false in
    roomy (plain s) c.count.result (store_refusal (plain s) (request.Vadd add)) c.number_of_member.result
    (new-refusal (plain s) add x.contents (plain_set s add.key (Some x) c.requires.at) c.in_ok-check_fit.ensures.fits new
    ∙ ap (λ n. option_or (no_room (plain s) n) (limited (plain s))) (sym c.count.ensures.value))
    c.number_of_member.ensures.room

pub returns-else-has-clause-refused : goal.returns-else-has-clause-refused
returns-else-has-clause-refused c =
    let s = c.args.self.now in
    let add = add_of c.args.add.now in
    let x = c.args.set.now in
    let new : is_member add.name x.contents.members ≡ false = ap (λ n. is_member n x.contents.members) (sym c.as_slice.ensures) ∙ sym c.has.ensures ∙ c.if-has.false in
    let alone : store_refusal (plain s) (request.Vadd add) ≡ option_or (no_room (plain s) c.count.result) (limited (plain s))
    = new-refusal (plain s) add x.contents (plain_set s add.key (Some x) c.requires.at) c.in_ok-check_fit.ensures.fits new
    ∙ ap (λ n. option_or (no_room (plain s) n) (limited (plain s))) (sym c.count.ensures.value) in
    subst (λ o. IfErr c.number_of_member.result (λ e. IsCause e o)) (sym alone) c.number_of_member.ensures.refused
