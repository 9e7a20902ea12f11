-- What workers that have run add up to.
use Rattle.std.proofs.Common.{◌≡◌, ℕ, zero, suc, ◌+◌, ◌-◌, ◌<◌, ◌≤◌, min, Bool, true, false, true≢false, if◌then◌else◌, List, [], ◌∷◌, ◌++◌, length, Option, Some, None, IsSome, All, sum_by, slice_index_or, refl, sym, ap, ◌∙◌, subst, arith, length-append, append_assoc, append-nil, take, drop}
use Rattle.std.proofs.lemmas.Bool.Decides.{nat_tests}
use Rattle.std.proofs.lemmas.List.Sums.{sum_by-cons, sum_by_push}
use Rattle.std.proofs.lemmas.List.{take_all, drop_all}
use Rattle.std.specs.List.{AllZip}
use Rattle.atomic_table.specs.Table.{Me}
use Rattle.vs_tickets.specs.declared.View.{View}
use Rattle.vs_tickets.specs.Rule.{share, gathered}
use Rattle.vs_outside.specs.Links.{Rose}
use Rattle.vs_server.specs.Counts.{AtEach}
use Rattle.vs_server.specs.Counts.{HasRun, IsFresh}
use Rattle.vs_defs.specs.History.{IsPrefix}
use Rattle.vs_defs.specs.Store.{Limits}
use Rattle.vs_thread_defs.specs.Machine.{GraphHistory, GraphLegal, IsGoodThroughout}
use Rattle.vs_connection.specs.Point.{Point}
use Rattle.vs_history.proofs.Beginnings.{prefix_trans}
use Rattle.vs_server.specs.Chains.{start, Chained}
use Rattle.vs_server.specs.Ended.{back, IsParted, told, rose, risen, IsDone, IsFault, AllServed, HaveMet, GoDown, IsEnded}
use Rattle.vs_server.proofs.Chaining.{chained_none}

pub at_each_zip : {W : Type 0} (Q : W → W → Type 0) (xs ys : List W) → length ys ≡ length xs → AtEach Q xs ys → AllZip Q xs ys
at_each_zip Q [] [] e h = tt
at_each_zip Q [] (y ∷ ys) e h = let no : ⊥ = omega arith in absurd no
at_each_zip Q (x ∷ xs) [] e h = let no : ⊥ = omega arith in absurd no
at_each_zip Q (x ∷ xs) (y ∷ ys) e h = (h 0 x (omega arith), at_each_zip Q xs ys (omega arith) (λ i d l. h (suc i) d (omega arith)))

zip_push : {X : Type 0} (R : X → X → Type 0) (xs ys : List X) (x y : X) → AllZip R xs ys → R x y → AllZip R (xs ++ x ∷ []) (ys ++ y ∷ [])
zip_push R [] [] x y p q = (q, tt)
zip_push R [] (b ∷ ys) x y p q = absurd p
zip_push R (a ∷ xs) [] x y p q = absurd p
zip_push R (a ∷ xs) (b ∷ ys) x y p q = (p.0, zip_push R xs ys x y p.1 q)

-- the list of a vector that is filled by pops of another, and back
pub back_push : {W L : Type 0} (f : W → L) (hs : List W) (h : W) → back f (hs ++ h ∷ []) ≡ f h ∷ back f hs
back_push f [] h = refl
back_push f (x ∷ xs) h = ap (λ l. l ++ f x ∷ []) (back_push f xs h)

-- one goes from the end of the one list to the end of the other
pub parted_left : {W L : Type 0} (f : W → L) (xs xs' : List L) (hs hs' : List W) (all : List L) (h : W) → IsParted f xs hs all → hs ≡ hs' ++ h ∷ [] → xs' ≡ xs ++ f h ∷ [] → IsParted f xs' hs' all
parted_left f xs xs' hs hs' all h p e e' = record { whole = ap (λ l. l ++ back f hs') e' ∙ append_assoc xs (f h ∷ []) (back f hs') ∙ ap (λ l. xs ++ l) (sym (back_push f hs' h)) ∙ ap (λ l. xs ++ back f l) (sym e) ∙ p.whole }

pub parted_right : {W L : Type 0} (f : W → L) (xs xs' : List L) (hs hs' : List W) (all : List L) (h : W) → IsParted f xs hs all → xs ≡ xs' ++ f h ∷ [] → hs' ≡ hs ++ h ∷ [] → IsParted f xs' hs' all
parted_right f xs xs' hs hs' all h p e e' = record { whole = ap (λ l. xs' ++ back f l) e' ∙ ap (λ l. xs' ++ l) (back_push f hs h) ∙ sym (append_assoc xs' (f h ∷ []) (back f hs)) ∙ ap (λ l. l ++ back f hs) (sym e) ∙ p.whole }

pub length_back : {W L : Type 0} (f : W → L) (hs : List W) → length (back f hs) ≡ length hs
length_back f [] = refl
length_back f (x ∷ xs) = let r = length_back f xs in length-append (back f xs) (f x ∷ []) ∙ omega arith

pub zip_back : {W L : Type 0} (f : W → L) (Q : W → W → Type 0) (R : L → L → Type 0) (hs hs' : List W) → ((v w : W) → Q v w → R (f v) (f w)) → AllZip Q hs hs' → AllZip R (back f hs) (back f hs')
zip_back f Q R [] [] to p = tt
zip_back f Q R [] (y ∷ ys) to p = absurd p
zip_back f Q R (x ∷ xs) [] to p = absurd p
zip_back f Q R (x ∷ xs) (y ∷ ys) to p = zip_push R (back f xs) (back f ys) (f x) (f y) (zip_back f Q R xs ys to p.1) (to x y p.0)

-- what holds of each of a list holds of what is left when the last is taken, and of that one
pub all_pop : {W : Type 0} (P : W → Type 0) (xs ys : List W) (h : W) → xs ≡ ys ++ h ∷ [] → All P xs → All P ys × P h
all_pop {W} P xs ys h e a = go ys (subst (λ l. All P l) e a)
  where
    go : (zs : List W) → All P (zs ++ h ∷ []) → All P zs × P h
    go [] b = (λ k d l. let no : ⊥ = omega arith in absurd no, b 0 h (omega arith))
    go (z ∷ zs) b =
        let r = go zs (λ k d l. b (suc k) d (omega arith)) in
        (step z zs (b 0 z (omega arith)) r.0, r.1)
      where
        step : (z : W) (zs : List W) → P z → All P zs → All P (z ∷ zs)
        step z zs p q zero d l = p
        step z zs p q (suc k) d l = q k d (omega arith)

pub length_pop : {W : Type 0} (xs ys : List W) (h : W) → xs ≡ ys ++ h ∷ [] → length xs ≡ length ys + 1
length_pop xs ys h e = ap length e ∙ length-append ys (h ∷ []) ∙ omega arith

-- a seat is dealt out of all parts
pub dealt : (n limit : ℕ) (old new : Me ℕ View) → n + 1 < 4294967296 → old ≡ (share (4294967296 - n) 0 0 limit, []) → new ≡ (share (old.0.parts - 1) old.0.below old.0.past old.0.limit, old.1) → new ≡ (share (4294967296 - (n + 1)) 0 0 limit, [])
dealt n limit old new small is e =
    let less : 4294967296 - n - 1 ≡ 4294967296 - (n + 1) = omega arith in
    e ∙ ap (λ (m : Me ℕ View). (share (m.0.parts - 1) m.0.below m.0.past m.0.limit, m.1)) is ∙ ap (λ (p : ℕ). (share p 0 0 limit, [])) less

pub fresh : (n limit : ℕ) (old seat : Me ℕ View) → old ≡ (share (4294967296 - n) 0 0 limit, []) → seat ≡ (share 1 0 0 old.0.limit, []) → IsFresh seat limit
fresh n limit old seat is e = record { view = e ∙ ap (λ (m : Me ℕ View). (share 1 0 0 m.0.limit, [])) is }

-- a seat is joined into all parts
pub joined : (n limit : ℕ) (old other new : Me ℕ View) → n + 1 < 4294967296 → old ≡ (share (4294967296 - (n + 1)) old.0.below old.0.past limit, []) → other ≡ (share 1 other.0.below other.0.past limit, []) → new ≡ (gathered old.0 other.0, old.1) → (new ≡ (share (4294967296 - n) new.0.below new.0.past limit, [])) × (new.0.below ≡ old.0.below + other.0.below) × (new.0.past ≡ old.0.past + other.0.past)
joined n limit old other new small is was e =
    let served : new.0.below ≡ old.0.below + other.0.below = ap (λ (m : Me ℕ View). m.0.below) e in
    let overs : new.0.past ≡ old.0.past + other.0.past = ap (λ (m : Me ℕ View). m.0.past) e in
    let one : old.0.parts ≡ 4294967296 - (n + 1) = ap (λ (m : Me ℕ View). m.0.parts) is in
    let two : other.0.parts ≡ 1 = ap (λ (m : Me ℕ View). m.0.parts) was in
    let parts : old.0.parts + other.0.parts ≡ 4294967296 - n = omega arith in
    let knows : old.0.limit ≡ limit = ap (λ (m : Me ℕ View). m.0.limit) is in
    let rest : old.1 ≡ [] = ap (λ (m : Me ℕ View). m.1) is in (
      e
          ∙ ap (λ (r : List _). (gathered old.0 other.0, r)) rest
          ∙ ap (λ (p : ℕ). (share p (old.0.below + other.0.below) (old.0.past + other.0.past) old.0.limit, [])) parts
          ∙ ap (λ (l : ℕ). (share (4294967296 - n) (old.0.below + other.0.below) (old.0.past + other.0.past) l, [])) knows
          ∙ ap (λ (k : ℕ). (share (4294967296 - n) k (old.0.past + other.0.past) limit, [])) (sym served)
          ∙ ap (λ (k : ℕ). (share (4294967296 - n) new.0.below k limit, [])) (sym overs),
      served,
      overs,
    )

abbrev pub bit : Bool → ℕ
bit b = if b then 1 else 0

risen_push : {L : Type 0} (f : L → ℕ) (xs ys : List L) (x y : L) → length ys ≡ length xs → risen f (xs ++ x ∷ []) (ys ++ y ∷ []) ≡ risen f xs ys + bit (rose (f x) (f y))
risen_push f [] [] x y e = omega arith
risen_push f [] (b ∷ ys) x y e = let no : ⊥ = omega arith in absurd no
risen_push f (a ∷ xs) [] x y e = let no : ⊥ = omega arith in absurd no
risen_push f (a ∷ xs) (b ∷ ys) x y e = let r = risen_push f xs ys x y (omega arith) in omega arith

abbrev pub Tell : {L X : Type 0} → (L → Option (List X)) → List L → Type 0
Tell closed [] = Unit {0}
Tell closed (x ∷ xs) = IsSome (closed x) × Tell closed xs

tell_from : {L X : Type 0} (closed : L → Option (List X)) (xs : List L) → All (λ v. IsSome (closed v)) xs → Tell closed xs
tell_from closed [] h = tt
tell_from closed (x ∷ xs) h = (h 0 x (omega arith), tell_from closed xs (λ k d l. h (suc k) d (omega arith)))

tell_split : {L X : Type 0} (closed : L → Option (List X)) (xs : List L) (y : L) → Tell closed (xs ++ y ∷ []) → Tell closed xs × IsSome (closed y)
tell_split closed [] y h = (tt, h.0)
tell_split closed (x ∷ xs) y h = let r = tell_split closed xs y h.1 in ((h.0, r.0), r.1)

-- one worker: its links, its tickets, and its count of faults
one_told : {X : Type 0} (me : Me ℕ View) (limit : ℕ) (b : Bool) (c c' : Option (List X)) → HasRun me limit b c c' → IsSome c → told c' + bit b ≡ told c + me.0.below
one_told me limit b None c' h is = absurd (true≢false (sym is))
one_told me limit true (Some c) c' h is =
    let u = h.counted.all in
    let long : told c' ≡ length (c ++ u.0) = ap told u.1 in
    let many = u.2 in
    let parts = length-append c u.0 in
    let drew : me.0.below ≡ h.served + 1 = ap (λ (m : Me ℕ View). m.0.below) h.view in omega arith
one_told me limit false (Some c) c' h is =
    let u = h.counted.all in
    let long : told c' ≡ length (c ++ u.0) = ap told u.1 in
    let many = u.2 in
    let parts = length-append c u.0 in
    let drew : me.0.below ≡ h.served = ap (λ (m : Me ℕ View). m.0.below) h.view in omega arith

one_over : {X : Type 0} (me : Me ℕ View) (limit : ℕ) (b : Bool) (c c' : Option (List X)) → HasRun me limit b c c' → me.0.past + bit b ≡ 1
one_over me limit true c c' h = let o : me.0.past ≡ 0 = ap (λ (m : Me ℕ View). m.0.past) h.view in omega arith
one_over me limit false c c' h = let o : me.0.past ≡ 1 = ap (λ (m : Me ℕ View). m.0.past) h.view in omega arith

one_rose : (b : Bool) (f f' : ℕ) → (b ≡ true → Rose f f') → bit b ≤ bit (rose f f')
one_rose true f f' h = let r = (h refl).1 in let is : rose f f' ≡ true = grind (arith, nat_tests) in subst (λ (q : Bool). bit true ≤ bit q) (sym is) (omega arith)
one_rose false f f' h = omega arith

one_calm : (b : Bool) (f f' : ℕ) → bit b ≡ 0 → (b ≡ false → f' ≡ f) → f' ≡ f
one_calm true f f' e h = let no : ⊥ = omega arith in absurd no
one_calm false f f' e h = h refl

-- how many workers' listeners failed
abbrev pub fallen : {W : Type 0} → (W → Bool) → List W → ℕ
fallen f [] = 0
fallen f (h ∷ hs) = bit (f h) + fallen f hs

module _ {W L X S : Type 0} (lis : W → L) (me : W → Me ℕ View) (has_failed : W → Bool) (number : W → ℕ) (seen : W → S) (given closed : L → Option (List X)) (faults : L → ℕ) (P : ℕ → S → X → X → S → Type 0) (limit : ℕ) where
  abbrev pub Went : W → W → Type 0
  Went v w = HasRun (me w) limit (has_failed w) (closed (lis v)) (closed (lis w)) × (has_failed w ≡ true → Rose (faults (lis v)) (faults (lis w))) × (has_failed w ≡ false → faults (lis w) ≡ faults (lis v)) × Chained P (number v) (number w) (seen v) (seen w) (given (lis v)) (closed (lis v)) (given (lis w)) (closed (lis w))

  same_length : (hs hs' : List W) → AllZip Went hs hs' → length hs' ≡ length hs
  same_length [] [] p = refl
  same_length [] (y ∷ ys) p = absurd p
  same_length (x ∷ xs) [] p = absurd p
  same_length (x ∷ xs) (y ∷ ys) p = let r = same_length xs ys p.1 in omega arith

  all_told : (hs hs' : List W) → AllZip Went hs hs' → Tell closed (back lis hs) → sum_by (λ w. told (closed w)) (back lis hs') + fallen has_failed hs' ≡ sum_by (λ v. told (closed v)) (back lis hs) + sum_by (λ w. (me w).0.below) hs'
  all_told [] [] p t = refl
  all_told [] (y ∷ ys) p t = absurd p
  all_told (x ∷ xs) [] p t = absurd p
  all_told (x ∷ xs) (y ∷ ys) p t =
      let both = tell_split closed (back lis xs) (lis x) t in
      let r = all_told xs ys p.1 both.0 in
      let one = one_told (me y) limit (has_failed y) (closed (lis x)) (closed (lis y)) p.0.0 both.1 in
      let a = sum_by_push (λ v. told (closed v)) (back lis xs) (lis x) in
      let b = sum_by_push (λ v. told (closed v)) (back lis ys) (lis y) in
      let c = sum_by-cons (λ w. (me w).0.below) y ys in omega arith

  all_over : (hs hs' : List W) → AllZip Went hs hs' → sum_by (λ w. (me w).0.past) hs' + fallen has_failed hs' ≡ length hs
  all_over [] [] p = refl
  all_over [] (y ∷ ys) p = absurd p
  all_over (x ∷ xs) [] p = absurd p
  all_over (x ∷ xs) (y ∷ ys) p =
      let r = all_over xs ys p.1 in
      let one = one_over (me y) limit (has_failed y) (closed (lis x)) (closed (lis y)) p.0.0 in
      let c = sum_by-cons (λ w. (me w).0.past) y ys in omega arith

  all_rose : (hs hs' : List W) → AllZip Went hs hs' → fallen has_failed hs' ≤ risen faults (back lis hs) (back lis hs')
  all_rose [] [] p = omega arith
  all_rose [] (y ∷ ys) p = absurd p
  all_rose (x ∷ xs) [] p = absurd p
  all_rose (x ∷ xs) (y ∷ ys) p =
      let r = all_rose xs ys p.1 in
      let one = one_rose (has_failed y) (faults (lis x)) (faults (lis y)) p.0.1 in
      let c = risen_push faults (back lis xs) (back lis ys) (lis x) (lis y) (length_back lis ys ∙ same_length xs ys p.1 ∙ sym (length_back lis xs)) in omega arith

  all_calm : (hs hs' : List W) → AllZip Went hs hs' → fallen has_failed hs' ≡ 0 → AllZip (λ v w. faults w ≡ faults v) (back lis hs) (back lis hs')
  all_calm [] [] p e = tt
  all_calm [] (y ∷ ys) p e = absurd p
  all_calm (x ∷ xs) [] p e = absurd p
  all_calm (x ∷ xs) (y ∷ ys) p e = zip_push (λ v w. faults w ≡ faults v) (back lis xs) (back lis ys) (lis x) (lis y) (all_calm xs ys p.1 (omega arith)) (one_calm (has_failed y) (faults (lis x)) (faults (lis y)) (omega arith) p.0.2)

  module _ (hs hs' : List W) (p : AllZip Went hs hs') (drawn : ℕ) (served : sum_by (λ w. (me w).0.below) hs' ≡ min drawn limit) (overs : sum_by (λ w. (me w).0.past) hs' ≡ drawn - limit) (some : 0 < length hs) where
    pub is_done : drawn ≡ limit + length hs → IsDone closed faults limit (back lis hs) (back lis hs')
    is_done e =
        let o = all_over hs hs' p in
        let none : fallen has_failed hs' ≡ 0 = omega arith in
        record { calm = all_calm hs hs' p none; whole = λ t. let c = all_told hs hs' p (tell_from closed (back lis hs) t) in omega arith }

    pub is_fault : ¬ (drawn ≡ limit + length hs) → IsFault closed faults limit (back lis hs) (back lis hs')
    is_fault e =
        let o = all_over hs hs' p in
        let r = all_rose hs hs' p in
        let n = length_back lis hs in
        let fell : 0 < fallen has_failed hs' = omega arith in
        record {
          cause = omega arith;
          fewer = λ t. let c = all_told hs hs' p (tell_from closed (back lis hs) t) in omega arith;
          rest = λ t few. let c = all_told hs hs' p (tell_from closed (back lis hs) t) in omega arith;
        }

-- a vector whose elements were lent as a slice
pub lent : {X : Type 0} (xs ys : List X) (n : ℕ) → length ys ≡ length xs → n ≡ length xs → take n (ys ++ drop (length ys) xs) ≡ ys
lent xs ys n e m = ap (λ l. take n (ys ++ l)) (drop_all (length ys) xs (omega arith)) ∙ ap (λ l. take n l) (append-nil ys) ∙ take_all n ys (omega arith)

pub seated : {X : Type 0} (me : Me ℕ View) (limit : ℕ) (b : Bool) (c c' : Option (List X)) → HasRun me limit b c c' → me ≡ (share 1 me.0.below me.0.past limit, [])
seated me limit true c c' h = h.view ∙ sym (ap (λ (m : Me ℕ View). (share 1 m.0.below m.0.past limit, [])) h.view)
seated me limit false c c' h = h.view ∙ sym (ap (λ (m : Me ℕ View). (share 1 m.0.below m.0.past limit, [])) h.view)

pub down_push : {W : Type 0} (number : W → ℕ) (n : ℕ) (hs hs' : List W) (h : W) → GoDown number n hs → hs' ≡ hs ++ h ∷ [] → number h + length hs + 1 ≡ n → GoDown number n hs'
down_push {W} number n hs hs' h d e last = subst (λ l. GoDown number n l) (sym e) (record { at = go n hs d.at last })
  where
    go : (n : ℕ) (hs : List W) → ((k : ℕ) (d : W) → k < length hs → number (slice_index_or hs k d) + k + 1 ≡ n) → number h + length hs + 1 ≡ n → (k : ℕ) (d : W) → k < length (hs ++ h ∷ []) → number (slice_index_or (hs ++ h ∷ []) k d) + k + 1 ≡ n
    go n [] f last zero d l = last
    go n [] f last (suc k) d l = let no : ⊥ = omega arith in absurd no
    go n (x ∷ xs) f last zero d l = f 0 d (omega arith)
    go zero (x ∷ xs) f last (suc k) d l = let no : ⊥ = omega arith in absurd no
    go (suc n) (x ∷ xs) f last (suc k) d l = let r = go n xs (λ j b m. let q = f (suc j) b (omega arith) in omega arith) (omega arith) k d (omega arith) in omega arith

pub none_left : {X : Type 0} (xs : List X) → length xs ≡ 0 → xs ≡ []
none_left [] e = refl
none_left (x ∷ xs) e = let no : ⊥ = omega arith in absurd no

pub met_none : {W : Type 0} (seen : W → GraphHistory) (hs : List W) (log : GraphHistory) → HaveMet seen hs hs log
met_none seen hs log = record { rest = []; whole = sym (append-nil hs); each = λ k d l. let no : ⊥ = omega arith in absurd no }

pub met_more : {W : Type 0} (seen : W → GraphHistory) (hs hs' all : List W) (h : W) (log log' : GraphHistory) → HaveMet seen hs all log → hs ≡ hs' ++ h ∷ [] → IsPrefix (seen h) log' → IsPrefix log log' → HaveMet seen hs' all log'
met_more {W} seen hs hs' all h log log' m e one more = record {
  rest = h ∷ m.rest;
  whole = m.whole ∙ ap (λ l. l ++ m.rest) e ∙ append_assoc hs' (h ∷ []) m.rest;
  each = each;
}
  where
    each : (k : ℕ) (d : W) → k < length (h ∷ m.rest) → IsPrefix (seen (slice_index_or (h ∷ m.rest) k d)) log'
    each zero d l = one
    each (suc k) d l = prefix_trans (seen (slice_index_or m.rest k d)) log log' (m.each k d (omega arith)) more

pub met_all : {W : Type 0} (seen : W → GraphHistory) (hs all : List W) (log : GraphHistory) → hs ≡ [] → HaveMet seen hs all log → All (λ w. IsPrefix (seen w) log) all
met_all {W} seen hs all log e m = subst (λ (l : List W). All (λ w. IsPrefix (seen w) log) l) (sym (m.whole ∙ ap (λ l. l ++ m.rest) e)) m.each

served_push : {L X S : Type 0} (P : ℕ → S → X → X → S → Type 0) (first : ℕ → S) (B : S → Type 0) (given closed : L → Option (List X)) (n k : ℕ) (t : S) (xs ys : List L) (x y : L) → AllServed P first B given closed n xs ys → k ≡ n + length xs → B t → Chained P k k (first k) t (given x) (closed x) (given y) (closed y) → AllServed P first B given closed n (xs ++ x ∷ []) (ys ++ y ∷ [])
served_push P first B given closed n k t [] [] x y p e b q = let same : k ≡ n = omega arith in ((t, b, subst (λ (j : ℕ). Chained P j j (first j) t (given x) (closed x) (given y) (closed y)) same q), tt)
served_push P first B given closed n k t [] (z ∷ ys) x y p e b q = absurd p
served_push P first B given closed n k t (a ∷ xs) [] x y p e b q = absurd p
served_push P first B given closed n k t (a ∷ xs) (z ∷ ys) x y p e b q = (p.0, served_push P first B given closed (n + 1) k t xs ys x y p.1 (omega arith) b q)

chained_from : {X S : Type 0} (P : ℕ → S → X → X → S → Type 0) (k k' : ℕ) (s o t : S) (g c g' c' : Option (List X)) → s ≡ o → Chained P k k' s t g c g' c' → Chained P k k o t g c g' c'
chained_from P k k' s o t g c g' c' e h = subst (λ x. Chained P k k x t g c g' c') e (record { same = refl; all = h.all })

pub served_same : {L X S : Type 0} (P : ℕ → S → X → X → S → Type 0) (first : ℕ → S) (B : S → Type 0) (given closed : L → Option (List X)) (n : ℕ) (xs : List L) → ((k : ℕ) → B (first k)) → AllServed P first B given closed n xs xs
served_same P first B given closed n [] b = tt
served_same P first B given closed n (x ∷ xs) b = ((first n, b n, chained_none P n (first n) (given x) (closed x)), served_same P first B given closed (n + 1) xs b)

module _ {W L X : Type 0} (lis : W → L) (me : W → Me ℕ View) (has_failed : W → Bool) (number : W → ℕ) (seen : W → Point GraphHistory) (given closed : L → Option (List X)) (faults : L → ℕ) (P : ℕ → Point GraphHistory → X → X → Point GraphHistory → Type 0) (limit : ℕ) (limits : Limits) (seed : ℕ) where
  all_served : (hs hs' : List W) (log : GraphHistory) (n : ℕ) → n ≡ length hs → AllZip (λ v w. (seen v ≡ start seed (number v)) × Went lis me has_failed number seen given closed faults P limit v w) hs hs' → ((k : ℕ) (d : W) → k < length hs → number (slice_index_or hs k d) + k + 1 ≡ n) → All (λ w. IsPrefix (seen w).history log) hs' → AllServed P (start seed) (λ t. IsPrefix t.history log) given closed 0 (back lis hs) (back lis hs')
  all_served [] [] log n e p f m = tt
  all_served [] (y ∷ ys) log n e p f m = absurd p
  all_served (x ∷ xs) [] log n e p f m = absurd p
  all_served (x ∷ xs) (y ∷ ys) log zero e p f m = let no : ⊥ = omega arith in absurd no
  all_served (x ∷ xs) (y ∷ ys) log (suc n) e p f m =
      let last = f 0 x (omega arith) in
      let long = length_back lis xs in
      served_push P (start seed) (λ t. IsPrefix t.history log) given closed 0 (number x) (seen y) (back lis xs) (back lis ys) (lis x) (lis y)
      (all_served xs ys log n (omega arith) p.1 (λ k d l. let q = f (suc k) d (omega arith) in omega arith) (λ k d l. m (suc k) d (omega arith)))
      (omega arith)
      (m 0 y (omega arith))
      (chained_from P (number x) (number y) (seen x) (start seed (number x)) (seen y) (given (lis x)) (closed (lis x)) (given (lis y)) (closed (lis y)) p.0.0 p.0.1.3)

  pub ended : (olds news : List L) (hs hs' : List W) (drawn : ℕ) (log : GraphHistory) → GraphLegal limits log → IsGoodThroughout log → length hs' ≡ length hs → AtEach (λ v w. Went lis me has_failed number seen given closed faults P limit v w) hs hs' → All (λ v. seen v ≡ start seed (number v)) hs → GoDown number (length olds) hs → back lis hs ≡ olds → news ≡ back lis hs' → sum_by (λ w. (me w).0.below) hs' ≡ min drawn limit → sum_by (λ w. (me w).0.past) hs' ≡ drawn - limit → 0 < length olds → All (λ w. IsPrefix (seen w).history log) hs' → IsEnded limits seed P given closed faults limit olds news drawn
  ended olds news hs hs' drawn log legal good long went starts down is was served overs some met =
      let zip = at_each_zip (λ v w. Went lis me has_failed number seen given closed faults P limit v w) hs hs' long went in
      let both = at_each_zip (λ v w. (seen v ≡ start seed (number v)) × Went lis me has_failed number seen given closed faults P limit v w) hs hs' long (λ i d l. (starts i d l, went i d l)) in
      let many : length olds ≡ length hs = ap length (sym is) ∙ length_back lis hs in
      let few : 0 < length hs = omega arith in
      subst (λ (xs : List L). IsEnded limits seed P given closed faults limit xs news drawn) is (subst (λ (ys : List L). IsEnded limits seed P given closed faults limit (back lis hs) ys drawn) (sym was) (record {
        done = λ e. is_done lis me has_failed number seen given closed faults P limit hs hs' zip drawn served overs few (e ∙ ap (λ (n : ℕ). limit + n) (length_back lis hs));
        fault = λ e. is_fault lis me has_failed number seen given closed faults P limit hs hs' zip drawn served overs few (λ f. e (f ∙ ap (λ (n : ℕ). limit + n) (sym (length_back lis hs))));
        served = record { log = log; legal = legal; good = good; each = all_served hs hs' log (length olds) many both down.at met };
      }))
