use Rattle.std.proofs.Common.{◌≡◌, ℕ, ◌+◌, ◌≤◌, ◌∷◌, [], false, not, length, map, sym, ap, ◌∙◌, subst, arith, inl}
use Rattle.std.specs.Prelude.{Some, None}
use Rattle.std.proofs.lemmas.List.{length-map}
use Rattle.std.proofs.lemmas.Option.{slice_get_within}
use Rattle.indexmap.specs.IndexMap.{set_value_at}
use Rattle.vs_defs.specs.Bytes.{Bytes}
use Rattle.vs_defs.specs.Draws.{level_of}
use Rattle.vs_defs.specs.Refuse.{store_refusal}
use Rattle.vs_defs.specs.Request as request
use Rattle.vs_defs.specs.Store.{Set, Store, plain, is_member}
use Rattle.vs_thread_defs.specs.Machine.{StoreChanges}
use Rattle.vs_set.specs.Changed.{AddsMember}
use Rattle.vs_bits.specs.Requests.{add_of}
use Rattle.vs_store.specs.Causes.{HasRoom}
use Rattle.vs_store.specs.Kept.{IsKept}
use Rattle.vs_store.specs.Places.{IsSetAt}
use Rattle.vs_store.specs.Seen.{store_seen, limits_seen}
use Rattle.vs_store.proofs.Additions.{adds-to-set, long-after, answered, answer_to, one_more, within}
use Rattle.vs_store.proofs.Causes.{wants}
use Rattle.vs_store.proofs.Changes.{has_some, written_at, kept-written}
use Rattle.vs_store.proofs.Edits.{at-place}
use Rattle.vs_store.proofs.Sets.{see, written, unwritten, value_at, plain_count}
use Rattle.vs_store.proofs.store.Store.add_at.Goals as goal

-- a set that stands at a place, in another form of the store
at_seen : (s t : Store Set) (key : Bytes) (place : ℕ) (x : Set) → s ≡ t → IsSetAt key place t x → IsSetAt key place s x
at_seen s t key place x e at = subst (λ u. IsSetAt key place u x) (sym e) at

adds_at : (add : request.Add) (z x y : Set) (l level m n : ℕ) → z ≡ x → l ≡ level → m ≡ n → AddsMember add l m z y → AddsMember add level n x y
adds_at add z x y l level m n there leveled numbered adds =
    subst (λ u. AddsMember add level n u y) there (subst (λ v. AddsMember add v n z y) leveled (subst (λ v. AddsMember add l v z y) numbered adds))

pub number_to_add-requires : goal.number_to_add-requires
number_to_add-requires c =
    let i = c.self.inside in
    let key = c.args.add.now.key in
    let x = c.requires.at.0 in
    let at = at_seen (store_seen i.sets.entries i.changes i.limits) c.args.self.now key c.args.place x c.self.view_is c.requires.at.1 in
    record { at = c.requires.at.1.of_key ∙ ap Some (sym (value_at i.sets.entries c.args.place key x c.index.result.now at.at c.index.ensures)) }

pub index_mut-requires : goal.index_mut-requires
index_mut-requires c =
    let i = c.self.inside in
    let key = c.args.add.now.key in
    let x = c.requires.at.0 in
    let at = at_seen (store_seen i.sets.entries i.changes i.limits) c.args.self.now key c.args.place x c.self.view_is c.requires.at.1 in
    omega (arith, slice_get_within (map see i.sets.entries) c.args.place (key, x) at.at, length-map i.sets.entries see)

pub invariant_of-self : goal.invariant_of-self
invariant_of-self c =
    let i = c.self.inside in
    let key = c.args.add.now.key in
    let x = c.requires.at.0 in
    let at = at_seen (store_seen i.sets.entries i.changes i.limits) c.args.self.now key c.args.place x c.self.view_is c.requires.at.1 in
    let same : c.add_to.new.set ≡ x = c.in_err-is_new.ensures.err ∙ value_at i.sets.entries c.args.place key x c.index_mut.result.now at.at c.index_mut.ensures.value in
    let kept : map see (set_value_at i.sets.entries c.args.place c.add_to.new.set) ≡ map see i.sets.entries
    = ap (λ (y : Set). map see (set_value_at i.sets.entries c.args.place y)) same ∙ unwritten i.sets.entries c.args.place key x at.at in
    subst (λ l. IsKept (record { sets = l; changes = i.changes; limits = limits_seen i.limits }) i.members) (sym kept) c.self.invariant

pub returns-in_err-is_new-clause-does : goal.returns-in_err-is_new-clause-does
returns-in_err-is_new-clause-does c =
    let i = c.self.inside in
    let key = c.args.add.now.key in
    let x = c.requires.at.0 in
    let at = at_seen (store_seen i.sets.entries i.changes i.limits) c.args.self.now key c.args.place x c.self.view_is c.requires.at.1 in
    let same : c.add_to.new.set ≡ x = c.in_err-is_new.ensures.err ∙ value_at i.sets.entries c.args.place key x c.index_mut.result.now at.at c.index_mut.ensures.value in
    let kept : map see (set_value_at i.sets.entries c.args.place c.add_to.new.set) ≡ map see i.sets.entries
    = ap (λ (y : Set). map see (set_value_at i.sets.entries c.args.place y)) same ∙ unwritten i.sets.entries c.args.place key x at.at in
    wants c.args.self.now (store_seen (set_value_at i.sets.entries c.args.place c.add_to.new.set) i.changes i.limits) (request.Vadd (add_of c.args.add.now)) (c.args.word ∷ [])
    c.from_residual-in_err-is_new.result c.from_residual-in_err-is_new.ensures.1
    (ap (λ l. record { sets = l; changes = i.changes; limits = limits_seen i.limits }) kept ∙ c.self.view_is)

pub invariant_of-self-2 : goal.invariant_of-self-2
invariant_of-self-2 c =
    let i = c.self.inside in
    let s : Store Set = store_seen i.sets.entries i.changes i.limits in
    let add = add_of c.args.add.now in
    let x = c.requires.at.0 in
    let at = at_seen s c.args.self.now add.key c.args.place x c.self.view_is c.requires.at.1 in
    let y = c.add_to.new.set in
    let n = c.in_ok-number.number in
    let number : n ≡ s.changes + 1 = c.in_ok-number.ensures.number ∙ ap (λ (t : Store Set). t.changes + 1) (sym c.self.view_is) in
    let now = value_at i.sets.entries c.args.place add.key x c.index_mut.result.now at.at c.index_mut.ensures.value in
    let adds : AddsMember add (level_of c.args.word) (s.changes + 1) x y
    = adds_at add c.index_mut.result.now x y c.level_of_word.result (level_of c.args.word) n (s.changes + 1) now c.level_of_word.ensures.level number c.in_ok-is_new.ensures.added in
    let is_new : c.in_ok-is_new.is_new ≡ not (is_member add.name x.contents.members) = c.in_ok-is_new.ensures.new ∙ ap (λ (z : Set). not (is_member add.name z.contents.members)) now in
    let some = has_some s c.args.place add.key x at c.self.invariant.good in
    let long = long-after add (level_of c.args.word) (s.changes + 1) x y some adds in
    let more = one_more c.from.result c.in_ok-is_new.is_new (not (is_member add.name x.contents.members)) c.from.ensures is_new in
    let first = value_at i.sets.entries c.args.place add.key x c.index.result.now at.at c.index.ensures in
    let room : is_member add.name x.contents.members ≡ false → HasRoom (plain s) (length x.contents.members)
    = λ f. subst (λ t. HasRoom (plain t) (length x.contents.members)) (sym c.self.view_is)
    (subst (λ (z : Set). HasRoom (plain c.args.self.now) (length z.contents.members)) first
    (c.in_ok-number.ensures.room (ap (λ (z : Set). is_member add.name z.contents.members) first ∙ f))) in
    let fits = within (plain s) (length x.contents.members) i.members (is_member add.name x.contents.members) room (plain_count s ∙ sym c.self.invariant.counted)
    (at-place (λ (e : Bytes × Set). length e.1.contents.members ≤ s.limits.set) s.sets c.args.place (add.key, x) c.self.invariant.set_within at.at) c.self.invariant.all_within in
    subst (λ l. IsKept (record { sets = l; changes = n; limits = s.limits }) (i.members + c.from.result)) (sym (written i.sets.entries c.args.place add.key x y at.at))
    (kept-written s c.args.place add.key x at c.self.invariant.good y n c.self.invariant c.in_ok-is_new.ensures.sound (omega (arith, long, some)) (omega (arith, long, fits.0)) (i.members + c.from.result)
    (omega (arith, long, more)) (omega (arith, more, fits.1))
    (omega (arith, number, c.in_ok-number.ensures.changes, ap (λ (t : Store Set). t.changes) c.self.view_is, ap (λ (t : Store Set). t.limits.changes) c.self.view_is)))

pub returns-clause-does : goal.returns-clause-does
returns-clause-does c =
    let i = c.self.inside in
    let s : Store Set = store_seen i.sets.entries i.changes i.limits in
    let add = add_of c.args.add.now in
    let x = c.requires.at.0 in
    let at = at_seen s c.args.self.now add.key c.args.place x c.self.view_is c.requires.at.1 in
    let y = c.add_to.new.set in
    let n = c.in_ok-number.number in
    let number : n ≡ s.changes + 1 = c.in_ok-number.ensures.number ∙ ap (λ (t : Store Set). t.changes + 1) (sym c.self.view_is) in
    let now = value_at i.sets.entries c.args.place add.key x c.index_mut.result.now at.at c.index_mut.ensures.value in
    let adds : AddsMember add (level_of c.args.word) (s.changes + 1) x y
    = adds_at add c.index_mut.result.now x y c.level_of_word.result (level_of c.args.word) n (s.changes + 1) now c.level_of_word.ensures.level number c.in_ok-is_new.ensures.added in
    let is_new : c.in_ok-is_new.is_new ≡ not (is_member add.name x.contents.members) = c.in_ok-is_new.ensures.new ∙ ap (λ (z : Set). not (is_member add.name z.contents.members)) now in
    let r = request.Vadd add in
    let words = c.args.word ∷ [] in
    let unrefused : store_refusal (plain s) r ≡ None = ap (λ t. store_refusal (plain t) r) c.self.view_is ∙ c.in_ok-number.ensures.unrefused in
    let done = adds-to-set s add c.args.word c.args.place x y at c.self.invariant.good unrefused adds c.in_ok-is_new.ensures.sound.good in
    let a : request.Answer = answer_to (not (is_member add.name x.contents.members)) in
    let answer = answered c.from-2.result c.in_ok-is_new.is_new (not (is_member add.name x.contents.members)) c.from-2.ensures is_new in
    let new : Store Set = store_seen (set_value_at i.sets.entries c.args.place y) n i.limits in
    let made : written_at s c.args.place add.key y (s.changes + 1) ≡ new = λ j. record { sets = sym (written i.sets.entries c.args.place add.key x y at.at) j; changes = sym number j; limits = s.limits } in
    inl (subst (λ b. StoreChanges c.args.self.now r words b new None) (sym answer)
    (subst (λ t. StoreChanges t r words a new None) c.self.view_is (subst (λ u. StoreChanges s r words a u None) made done)))
