use Rattle.std.proofs.Common.{◌≡◌, ℕ, ◌+◌, ◌∷◌, ◌++◌, [], Bool, true, false, length, map, sym, ap, ◌∙◌, subst, arith, inl}
use Rattle.std.specs.Prelude.{Result, Ok, Err, None, OnOk, OnErr, nat_eq}
use Rattle.std.specs.Cmp.Lexicographic.{pointwise}
use Rattle.std.specs.Global.{Vec}
use Rattle.std.specs.Result.{is_err}
use Rattle.std.proofs.lemmas.Bool.{false≢true}
use Rattle.std.proofs.lemmas.List.{length-map}
use Rattle.indexmap.specs.IndexMap.{insert_entry}
use Rattle.vs_defs.specs.Bytes.{Bytes}
use Rattle.vs_defs.specs.Draws.{level_of}
use Rattle.vs_defs.specs.PlainStep.{new_set, one}
use Rattle.vs_defs.specs.Request as request
use Rattle.vs_defs.specs.Store.{Contents, Set, Store, set_of, lookup_set, plain}
use Rattle.vs_thread_defs.specs.Machine.{StoreChanges}
use Rattle.vs_bits.specs.Requests.{add_of}
use Rattle.vs_store.specs.Causes.{IsCause, HasRoomForKey}
use Rattle.vs_store.specs.Kept.{IsKept}
use Rattle.vs_store.specs.Seen.{store_seen}
use Rattle.vs_store.proofs.Additions.{adds-key}
use Rattle.vs_store.proofs.Causes.{refuses-by, absent-refusal, has-room-for-key}
use Rattle.vs_store.proofs.Changes.{plain_set, put_last, kept-put}
use Rattle.vs_store.proofs.Sets.{bare, see, put, plain_count}
use Rattle.vs_store.proofs.store.Store.add_key.Goals as goal

abbrev same : Vec ℕ → Vec ℕ → Bool
same a b = pointwise nat_eq a.items b.items

on_err : {A E : Type 0} (r : Result A E) (P : Type 0) → is_err r ≡ true → OnErr r P → P
on_err (Ok a) P t h = absurd (false≢true t)
on_err (Err e) P t h = h

on_ok : {A E : Type 0} (r : Result A E) (P : Type 0) → is_err r ≡ false → OnOk r P → P
on_ok (Ok a) P t h = h
on_ok (Err e) P t h = absurd (false≢true (sym t))

pub returns-in_err-number-clause-does : goal.returns-in_err-number-clause-does
returns-in_err-number-clause-does c =
    let s = c.args.self.now in
    let add = add_of c.args.add.now in
    let absent : set_of add.key (plain s) ≡ None = plain_set s add.key None c.requires.absent in
    refuses-by s (request.Vadd add) (c.args.word ∷ []) c.from_residual.result c.in_err-number.field-0.0 c.from_residual.ensures.1
    (subst (λ o. IsCause c.in_err-number.field-0.0 o) (sym (absent-refusal (plain s) add absent)) c.in_err-number.ensures.refused)

pub invariant_of-self : goal.invariant_of-self
invariant_of-self c =
    let s = c.self.inside in
    let unchanged = on_err c.insert.result (c.insert.new.self.entries ≡ s.sets.entries) (sym c.if-is_err.ensures.value) c.insert.ensures.err in
    subst (λ es. IsKept (store_seen es s.changes s.limits) s.members) (sym unchanged) c.self.invariant

pub returns-then-is_err-clause-does : goal.returns-then-is_err-clause-does
returns-then-is_err-clause-does c =
    let s = c.self.inside in
    let unchanged = on_err c.insert.result (c.insert.new.self.entries ≡ s.sets.entries) (sym c.if-is_err.ensures.value) c.insert.ensures.err in
    ap (λ es. store_seen es s.changes s.limits) unchanged ∙ c.self.view_is

pub invariant_of-self-2 : goal.invariant_of-self-2
invariant_of-self-2 c =
    let i = c.self.inside in
    let s : Store Set = store_seen i.sets.entries i.changes i.limits in
    let add = add_of c.args.add.now in
    let y = c.in_ok-set.set in
    let n = c.in_ok-number.number in
    let absent : set_of add.key s ≡ None = ap (set_of add.key) c.self.view_is ∙ c.requires.absent in
    let key_is : c.into_vec-key.result.items ≡ add.key = c.into_vec-key.ensures ∙ c.in_ok-try_clone.ensures in
    let grown = on_ok c.insert.result (c.insert.new.self.entries ≡ insert_entry same i.sets.entries c.into_vec-key.result y) (sym c.if-is_err.ensures.value) c.insert.ensures.entries in
    let seen : map see c.insert.new.self.entries ≡ s.sets ++ (add.key, y) ∷ []
    = ap (map see) grown ∙ put i.sets c.into_vec-key.result y (ap (λ k. lookup_set k s.sets) key_is ∙ absent) ∙ ap (λ (k : Bytes). s.sets ++ (k, y) ∷ []) key_is in
    let room : HasRoomForKey (plain s) = subst (λ t. HasRoomForKey (plain t)) (sym c.self.view_is) c.in_ok-number.ensures.room in
    let one_member : length y.contents.members ≡ 1 = ap (λ (x : Contents). length x.members) c.in_ok-set.ensures.contents in
    let number : n ≡ s.changes + 1 = c.in_ok-number.ensures.number ∙ ap (λ (t : Store Set). t.changes + 1) (sym c.self.view_is) in
    subst (λ l. IsKept (record { sets = l; changes = n; limits = s.limits }) (i.members + 1)) (sym seen)
    (kept-put s add.key absent c.self.invariant.good y n c.self.invariant c.in_ok-set.ensures.sound (omega (arith, one_member)) (omega (arith, one_member, c.self.invariant.limits.set.0)) (i.members + 1)
    (omega (arith, one_member)) (omega (arith, room.all, plain_count s, c.self.invariant.counted)) (omega (arith, room.keys, length-map s.sets bare)) (omega (arith, number, room.changes)))

pub returns-clause-does : goal.returns-clause-does
returns-clause-does c =
    let i = c.self.inside in
    let s : Store Set = store_seen i.sets.entries i.changes i.limits in
    let add = add_of c.args.add.now in
    let words = c.args.word ∷ [] in
    let y = c.in_ok-set.set in
    let n = c.in_ok-number.number in
    let absent : set_of add.key s ≡ None = ap (set_of add.key) c.self.view_is ∙ c.requires.absent in
    let key_is : c.into_vec-key.result.items ≡ add.key = c.into_vec-key.ensures ∙ c.in_ok-try_clone.ensures in
    let grown = on_ok c.insert.result (c.insert.new.self.entries ≡ insert_entry same i.sets.entries c.into_vec-key.result y) (sym c.if-is_err.ensures.value) c.insert.ensures.entries in
    let seen : map see c.insert.new.self.entries ≡ s.sets ++ (add.key, y) ∷ []
    = ap (map see) grown ∙ put i.sets c.into_vec-key.result y (ap (λ k. lookup_set k s.sets) key_is ∙ absent) ∙ ap (λ (k : Bytes). s.sets ++ (k, y) ∷ []) key_is in
    let room : HasRoomForKey (plain s) = subst (λ t. HasRoomForKey (plain t)) (sym c.self.view_is) c.in_ok-number.ensures.room in
    let number : n ≡ s.changes + 1 = c.in_ok-number.ensures.number ∙ ap (λ (t : Store Set). t.changes + 1) (sym c.self.view_is) in
    let contents : y.contents ≡ new_set add (level_of c.args.word) (s.changes + 1)
    = c.in_ok-set.ensures.contents ∙ ap (λ l. new_set add l n) c.level_of_word.ensures.level ∙ ap (new_set add (level_of c.args.word)) number in
    let unrefused = absent-refusal (plain s) add (plain_set s add.key None absent) ∙ has-room-for-key (plain s) room in
    let done = adds-key s add c.args.word y absent c.self.invariant.good unrefused contents c.in_ok-set.ensures.wiring c.in_ok-set.ensures.sound.good in
    let new : Store Set = store_seen c.insert.new.self.entries n i.limits in
    let made : put_last s add.key y (s.changes + 1) ≡ new = λ j. record { sets = sym seen j; changes = sym number j; limits = s.limits } in
    inl (subst (λ t. StoreChanges t (request.Vadd add) words one new None) c.self.view_is (subst (λ u. StoreChanges s (request.Vadd add) words one u None) made done))
