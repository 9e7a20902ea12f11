-- VADD: what it makes of the store, of a set that is there and at a new key.
use Rattle.std.proofs.Common.{◌≡◌, ℕ, ◌+◌, ◌<◌, ◌≤◌, Bool, true, false, cond, List, [], ◌∷◌, length, refl, sym, ap, ◌∙◌, subst, arith, length-append}
use Rattle.std.specs.Prelude.{Option, Some, None, ℤ, pos, is_some, not, MatchOption}
use Rattle.std.specs.Int.{from_bool}
use mir.Syntax.{w64}
use mir.Val.{to_z, of_z}
use Rattle.vs_defs.specs.Draws.{level_of}
use Rattle.vs_defs.specs.Good.{Good, GoodStore}
use Rattle.vs_defs.specs.PlainStep.{added, added_to, added_member, new_set, one}
use Rattle.vs_defs.specs.Refuse.{store_refusal}
use Rattle.vs_defs.specs.Request.{Add, Answer}
use Rattle.vs_defs.specs.Request as request
use Rattle.vs_defs.specs.Step.{Adds, AddsTo, IsFirstWiring}
use Rattle.vs_defs.specs.Store.{Member, Contents, Set, Store, PlainStore, AnswerAlike, member_count, with_set, with_replaced, is_of_name, is_member, member_of, set_of, plain}
use Rattle.vs_thread_defs.specs.Machine.{StoreChanges}
use Rattle.vs_set.specs.Changed.{AddsMember, WiresBy, contents_by}
use Rattle.vs_set.specs.Kept.{one_if}
use Rattle.vs_store.specs.Causes.{HasRoom}
use Rattle.vs_store.specs.Places.{IsSetAt}
use Rattle.vs_store.proofs.Changes.{plain_set, has_some, written_at, found-written, wirings-written, alike-written, keys-written, good-written, put_last, found-put, wirings-put, alike-put, keys-put, good-put}

-- ---- a set with members

filled_contents : (add : Add) (level cut : ℕ) (x : Contents) (ms : List Member) → 0 < length ms → contents_by add level cut x ms ≡ (added_to add level cut x (member_of add.name ms)).0
filled_contents add level cut x [] some = absurd (omega arith)
filled_contents add level cut x (y ∷ ys) some = refl

filled_wires : (add : Add) (level : ℕ) (x y : Set) (ms : List Member) → 0 < length ms → WiresBy add level x y ms → AddsTo add level x (member_of add.name ms) None y
filled_wires add level x y [] some h = absurd (omega arith)
filled_wires add level x y (z ∷ zs) some h = h

-- ---- how many members there are then

long_replaced : (y : Member) (members : List Member) → length (with_replaced y members) ≡ length members
long_replaced y [] = refl
long_replaced y (z ∷ zs) = by_test y z zs (is_of_name y.name z) (long_replaced y zs)
  where
    by_test : (y z : Member) (zs : List Member) (b : Bool) → length (with_replaced y zs) ≡ length zs → length (cond b (y ∷ zs) (z ∷ with_replaced y zs)) ≡ length (z ∷ zs)
    by_test y z zs true h = refl
    by_test y z zs false h = omega (arith, h)

long_added : (add : Add) (level cut : ℕ) (x : Contents) (o : Option Member) → length (added_to add level cut x o).0.members ≡ length x.members + one_if (not (is_some o))
long_added add level cut x None = length-append x.members (added_member add level None ∷ [])
long_added add level cut x (Some old) = omega (arith, long_replaced (added_member add level old.attr) x.members)

pub long-after : (add : Add) (level cut : ℕ) (x y : Set) → 0 < length x.contents.members → AddsMember add level cut x y
    → length y.contents.members ≡ length x.contents.members + one_if (not (is_member add.name x.contents.members))
long-after add level cut x y some adds =
    ap (λ (c : Contents). length c.members) (adds.contents ∙ filled_contents add level cut x.contents x.contents.members some)
    ∙ long_added add level cut x.contents (member_of add.name x.contents.members)

-- ---- what is answered

abbrev pub answer_to : Bool → Answer
answer_to is_new = cond is_new one (request.Int (pos 0))

answers : (add : Add) (level cut : ℕ) (x : Contents) (o : Option Member) → answer_to (not (is_some o)) ≡ (added_to add level cut x o).1
answers add level cut x None = refl
answers add level cut x (Some old) = refl

pub answered : (z : ℤ) (b c : Bool) → z ≡ pos (from_bool b) → b ≡ c → request.Int (to_z w64 (of_z w64 z)) ≡ answer_to c
answered z b c is same = ap (λ n. request.Int (to_z w64 (of_z w64 n))) is ∙ by_bool b ∙ ap answer_to same
  where
    by_bool : (b : Bool) → request.Int (to_z w64 (of_z w64 (pos (from_bool b)))) ≡ answer_to b
    by_bool true = refl
    by_bool false = refl

pub one_more : (n : ℕ) (b c : Bool) → n ≡ from_bool b → b ≡ c → n ≡ one_if c
one_more n b c is same = is ∙ by_bool b ∙ ap one_if same
  where
    by_bool : (b : Bool) → from_bool b ≡ one_if b
    by_bool true = refl
    by_bool false = refl

-- ---- the limits

-- a new member has room, and a replaced one takes none
pub within : (s : PlainStore) (n members : ℕ) (b : Bool) → (b ≡ false → HasRoom s n) → member_count s ≡ members → n ≤ s.limits.set → members ≤ s.limits.all
    → (n + one_if (not b) ≤ s.limits.set) × (members + one_if (not b) ≤ s.limits.all)
within s n members true room counted set all = (omega (arith, set), omega (arith, all))
within s n members false room counted set all = let free = room refl in (omega (arith, free.set), omega (arith, free.all, counted))

-- ---- the store

pub adds-to-set : (s : Store Set) (add : Add) (word p : ℕ) (x y : Set) → IsSetAt add.key p s x → GoodStore s → store_refusal (plain s) (request.Vadd add) ≡ None
    → AddsMember add (level_of word) (s.changes + 1) x y → Good y
    → StoreChanges s (request.Vadd add) (word ∷ []) (answer_to (not (is_member add.name x.contents.members))) (written_at s p add.key y (s.changes + 1)) None
adds-to-set s add word p x y at good unrefused adds fine =
    let level = level_of word in
    let n = s.changes + 1 in
    let some = has_some s p add.key x at good in
    let o : Option Member = member_of add.name x.contents.members in
    let made : added add level n (set_of add.key (plain s)) ≡ added_to add level n x.contents o = ap (added add level n) (plain_set s add.key (Some x) at.of_key) in
    let value : y.contents ≡ (added add level n (set_of add.key (plain s))).0
    = adds.contents ∙ filled_contents add level n x.contents x.contents.members some ∙ sym (ap (λ (p : Contents × Answer). p.0) made) in
    let long = long-after add level n x y some adds in
    let t : Store Set = written_at s p add.key y n in
    let wired : Adds add level (set_of add.key s) None y = subst (λ z. Adds add level z None y) (sym at.of_key) (filled_wires add level x y x.contents.members some adds.wiring) in
    record {
      unrefused = unrefused;
      step = record {
        contents = record {
          changes_something = refl;
          sets = subst (λ c. AnswerAlike (plain t).sets (with_set add.key c (plain s).sets)) value (alike-written s p add.key x at good y n);
          keys = keys-written s p add.key x at good y n;
          answers = answers add level n x.contents o ∙ sym (ap (λ (p : Contents × Answer). p.1) made);
          number = refl;
          limits = refl;
        };
        wiring = (
          wirings-written s p add.key x at good y n,
          subst (λ z. MatchOption z ⊥ (λ z. Adds add level (set_of add.key s) None z)) (sym (found-written s p add.key x at good y n)) wired,
        );
      };
      good = good-written s p add.key x at good y n fine (omega (arith, long, some));
    }

pub adds-key : (s : Store Set) (add : Add) (word : ℕ) (y : Set) → set_of add.key s ≡ None → GoodStore s → store_refusal (plain s) (request.Vadd add) ≡ None
    → y.contents ≡ new_set add (level_of word) (s.changes + 1) → IsFirstWiring add.name y.wiring → Good y
    → StoreChanges s (request.Vadd add) (word ∷ []) one (put_last s add.key y (s.changes + 1)) None
adds-key s add word y none good unrefused contents wiring fine =
    let level = level_of word in
    let n = s.changes + 1 in
    let made : added add level n (set_of add.key (plain s)) ≡ (new_set add level n, one) = ap (added add level n) (plain_set s add.key None none) in
    let value : y.contents ≡ (added add level n (set_of add.key (plain s))).0 = contents ∙ sym (ap (λ (p : Contents × Answer). p.0) made) in
    let t : Store Set = put_last s add.key y n in
    let wired : Adds add level (set_of add.key s) None y = subst (λ z. Adds add level z None y) (sym none) wiring in
    record {
      unrefused = unrefused;
      step = record {
        contents = record {
          changes_something = refl;
          sets = subst (λ c. AnswerAlike (plain t).sets (with_set add.key c (plain s).sets)) value (alike-put s add.key none good y n);
          keys = keys-put s add.key none good y n;
          answers = sym (ap (λ (p : Contents × Answer). p.1) made);
          number = refl;
          limits = refl;
        };
        wiring = (
          wirings-put s add.key none good y n,
          subst (λ z. MatchOption z ⊥ (λ z. Adds add level (set_of add.key s) None z)) (sym (found-put s add.key none good y n)) wired,
        );
      };
      good = good-put s add.key none good y n fine (omega (arith, ap (λ (c : Contents). length c.members) contents));
    }
