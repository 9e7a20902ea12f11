-- Each kind of step keeps the rule, whatever follows in a history.
use Rattle.std.proofs.Common.{◌≡◌, ◌≢◌, ℕ, zero, suc, ◌+◌, ◌%◌, ◌^◌, ◌<◌, Bool, true, false, ◌==◌, if◌then◌else◌, List, [], ◌∷◌, ◌++◌, length, refl, ap, sym, ◌∙◌, subst, ⊎_elim, arith, length-append}
use Rattle.std.specs.Prelude.{slice_set, slice_index}
use mathlib.Core.List.{IsPrefix}
use mathlib.Core.Option.{some, some-injective, some-ne-none}
use lib.ListN.{get_elem?}
use native.Mathlib.Decide.{ℕ_discrete}
use Rattle.std.proofs.lemmas.Bool.{false≢true}
use Rattle.std.proofs.lemmas.Bool.Decides.{nat_tests}
use Rattle.atomic_table.specs.Table.{State, Me, keeps, Allows, Splits, Joins, opening}
use Rattle.atomic_table.proofs.Lists.{at_set, set_here, set_else, at_longer, at_last}
use Rattle.vs_defs.specs.History.{History, Entry, Legal, own}
use Rattle.vs_thread_defs.specs.Rule.{View, keeper, pass, note, nobody, picked, unled, counted, taken, returned, settled, appended, AllBegin, Fits, Led, Kept, Settled, Appended}
use Rattle.vs_history.proofs.Beginnings.{prefix_self, prefix_trans, prefix_push, each_set, each_push}
use Rattle.vs_history.proofs.Histories.{legal_begin, own_between, own-push-own, own-push-other, below_none, below_more, below_push, longer_begins, all_begin-more}

module _ {S : Type 0} (Follows : History S → Entry S → Type 0) where
  abbrev Keeps : State ℕ (View S) → Type 0
  Keeps s = Kept Follows s.words s.views

  abbrev SettledMe : Me ℕ (View S) → ℕ → Me ℕ (View S) → Type 0
  SettledMe me found now = (now.1 ≡ me.1) × Settled Follows me.0 found now.0

  abbrev AppendedMe : Entry S → Me ℕ (View S) → ℕ → Me ℕ (View S) → Type 0
  AppendedMe e me found now = (now.1 ≡ me.1) × Appended e me.0 found now.0

  get_in : (views : List (View S)) (i : ℕ) (v : View S) → get_elem? views i ≡ some v → i < length views
  get_in [] i v e = absurd (some-ne-none v (sym e))
  get_in (x ∷ xs) zero v e = omega arith
  get_in (x ∷ xs) (suc i) v e = let h = get_in xs i v e in omega arith

  -- a seat that keeps its lead, if it has it, leaves the leader
  led_set : (views : List (View S)) (id leader : ℕ) (v w : View S) → get_elem? views id ≡ some v → (v.lead ≡ true → w.lead ≡ true) → Led views leader → Led (slice_set views id w) leader
  led_set views id leader v w at keeps_it led = go (ℕ_discrete leader id)
    where
      go : Dec (leader ≡ id) → Led (slice_set views id w) leader
      go (yes same) =
          let is : led.view ≡ v = some-injective led.view v (sym led.there ∙ ap (λ (i : ℕ). get_elem? views i) same ∙ at) in
          record { view = w; there = ap (λ (i : ℕ). get_elem? (slice_set views id w) i) same ∙ set_here views id w (get_in views id v at); has = keeps_it (ap (λ (u : View S). u.lead) (sym is) ∙ led.has) }
      go (no other) = record { view = led.view; there = set_else views id leader w other ∙ led.there; has = led.has }

  led_push : (views : List (View S)) (leader : ℕ) (w : View S) → Led views leader → Led (views ++ w ∷ []) leader
  led_push views leader w led = record { view = led.view; there = at_longer views (w ∷ []) leader led.view led.there; has = led.has }

  -- a seat that takes the lead from another is the leader
  led_here : (views : List (View S)) (id other : ℕ) (v w n : View S) → get_elem? views id ≡ some v → ¬ (other ≡ id) → w.lead ≡ true → Led (slice_set (slice_set views id w) other n) id
  led_here views id other v w n at apart has = record { view = w; there = set_else (slice_set views id w) other id n (λ e. apart (sym e)) ∙ set_here views id w (get_in views id v at); has = has }

  -- the first seat is the keeper's
  pub begins : Keeps (opening (0 ∷ []) [] (keeper 0 [] true))
  begins = record { log = []; leader = 0; seat = λ n. 0; made = 0; chief = 0; words_are = refl; legal = tt; led = record { view = keeper 0 [] true; there = refl; has = refl }; below = tt; fits = one }
    where
      one : (by : ℕ) (v : View S) → get_elem? (keeper 0 [] true ∷ []) by ≡ some v → Fits [] 0 (λ n. 0) 0 0 by v
      one zero v e = subst (Fits [] 0 (λ n. 0) 0 0 0) (some-injective _ _ e) (record { lead = λ _. (refl, refl); begins = prefix_self []; olds = tt; passes = λ p. absurd (false≢true p); keeps = λ _. (refl, refl) })
      one (suc by) v e = absurd (some-ne-none v (sym e))

  -- the same view beside another leader
  relead : {log : History S} {leader : ℕ} {seat : ℕ → ℕ} {made chief by : ℕ} {v : View S} (other : ℕ) → Fits log leader seat made chief by v → (v.lead ≡ true → by ≡ other) → Fits log other seat made chief by v
  relead other f h = record { lead = λ l. (h l, (f.lead l).1); begins = f.begins; olds = f.olds; passes = f.passes; keeps = f.keeps }

  -- a seat gives its lead, if it has it, to a note that has its list
  pub shares : (id : ℕ) (v : View S) → Splits Keeps id v (unled v) (note v.seen v.lead)
  shares id v s k at = go v.lead refl
    where
      mine : Fits k.log k.leader k.seat k.made k.chief id v
      mine = k.fits id v at

      views : List (View S)
      views = slice_set s.views id (unled v)

      go : (b : Bool) → v.lead ≡ b → Keeps record { words = s.words; homes = s.homes; views = views ++ note v.seen v.lead ∷ [] }
      go true e = record {
        log = k.log;
        leader = length views;
        seat = k.seat;
        made = k.made;
        chief = k.chief;
        words_are = k.words_are;
        legal = k.legal;
        led = record { view = note v.seen v.lead; there = at_last views (note v.seen v.lead) (length views) refl; has = e };
        below = k.below;
        fits = each_push (Fits k.log (length views) k.seat k.made k.chief) views (note v.seen v.lead)
            (each_set (Fits k.log (length views) k.seat k.made k.chief) s.views id (unled v)
            (λ j u apart h. relead (length views) (k.fits j u h) (λ l. absurd (apart (((k.fits j u h).lead l).0 ∙ sym (mine.lead e).0))))
            (record { lead = λ l. absurd (false≢true l); begins = mine.begins; olds = mine.olds; passes = mine.passes; keeps = mine.keeps }))
            (record { lead = λ l. (refl, (mine.lead e).1); begins = mine.begins; olds = tt; passes = λ p. absurd (false≢true p); keeps = λ p. absurd (false≢true p) });
      }
      go false e = record {
        log = k.log;
        leader = k.leader;
        seat = k.seat;
        made = k.made;
        chief = k.chief;
        words_are = k.words_are;
        legal = k.legal;
        led = led_push views k.leader (note v.seen v.lead) (led_set s.views id k.leader v (unled v) at (λ l. absurd (false≢true (sym e ∙ l))) k.led);
        below = k.below;
        fits = each_push (Fits k.log k.leader k.seat k.made k.chief) views (note v.seen v.lead)
            (each_set (Fits k.log k.leader k.seat k.made k.chief) s.views id (unled v)
            (λ j u apart h. k.fits j u h)
            (record { lead = λ l. absurd (false≢true l); begins = mine.begins; olds = mine.olds; passes = mine.passes; keeps = mine.keeps }))
            (record { lead = λ l. absurd (false≢true (sym e ∙ l)); begins = mine.begins; olds = tt; passes = λ p. absurd (false≢true p); keeps = λ p. absurd (false≢true p) });
      }

  -- the list that is picked goes on from both, and begins the history
  picked_begins : (b : Bool) (xs ys log : History S) → IsPrefix xs log → IsPrefix ys log → (b ≡ true → ys ≡ log) → IsPrefix xs (picked b xs ys) × IsPrefix ys (picked b xs ys) × IsPrefix (picked b xs ys) log
  picked_begins true xs ys log p q whole = (subst (λ l. IsPrefix xs l) (sym (whole refl)) p, prefix_self ys, q)
  picked_begins false xs ys log p q whole = longer_begins xs ys log p q

  -- the leader once the seat id has taken the lead or not
  led_by : Bool → ℕ → ℕ → ℕ
  led_by true id leader = id
  led_by false id leader = leader

  nobody_fits : {log : History S} {leader : ℕ} {seat : ℕ → ℕ} {made chief by : ℕ} → Fits log leader seat made chief by nobody
  nobody_fits {log} = record { lead = λ l. absurd (false≢true l); begins = (log, refl); olds = tt; passes = λ p. absurd (false≢true p); keeps = λ p. absurd (false≢true p) }

  -- a pass without the lead takes a note in, and keeps what both had seen for a load to settle
  pub takes : (id : ℕ) (v : View S) (other : ℕ) (n : View S) → v.lead ≡ false → Joins Keeps id v other n (taken v n) nobody
  takes id v other n no_lead s k at apart there = go n.lead refl
    where
      w : View S
      w = taken v n

      mine : Fits k.log k.leader k.seat k.made k.chief id v
      mine = k.fits id v at

      theirs : Fits k.log k.leader k.seat k.made k.chief other n
      theirs = k.fits other n (⊎_elim (λ (t : (other ≡ id) × (w ≡ n)). absurd (apart t.0)) (λ (t : (other ≢ id) × (get_elem? s.views other ≡ some n)). t.1) (at_set s.views id other w n there))

      lists : IsPrefix v.seen w.seen × IsPrefix n.seen w.seen × IsPrefix w.seen k.log
      lists = picked_begins n.lead v.seen n.seen k.log mine.begins theirs.begins (λ l. (theirs.lead l).1)

      entries : v.passes ≡ true → (id ≡ k.seat v.number) × (v.number < k.made) × (own v.number w.seen ≡ v.own) × (own v.number k.log ≡ v.own)
      entries p = let m = mine.passes p in (m.0, m.1, own_between v.number v.seen w.seen k.log v.own lists.0 lists.2 m.2 m.3, m.3)

      go : (b : Bool) → n.lead ≡ b → Keeps record { words = s.words; homes = s.homes; views = slice_set (slice_set s.views id w) other nobody }
      go true e = record {
        log = k.log;
        leader = id;
        seat = k.seat;
        made = k.made;
        chief = k.chief;
        words_are = k.words_are;
        legal = k.legal;
        led = led_here s.views id other v w nobody at apart e;
        below = k.below;
        fits = each_set (Fits k.log id k.seat k.made k.chief) (slice_set s.views id w) other nobody
            (λ j u away h. each_set (λ j u. j ≢ other → Fits k.log id k.seat k.made k.chief j u) s.views id w
            (λ j u _ h away. relead id (k.fits j u h) (λ l. absurd (away (((k.fits j u h).lead l).0 ∙ sym (theirs.lead e).0))))
            (λ _. record { lead = λ l. (refl, ap (λ (b : Bool). picked b v.seen n.seen) e ∙ (theirs.lead e).1); begins = lists.2; olds = (lists.0, (lists.1, all_begin-more v.olds v.seen w.seen lists.0 mine.olds)); passes = entries; keeps = mine.keeps })
            j u h away)
            nobody_fits;
      }
      go false e = record {
        log = k.log;
        leader = k.leader;
        seat = k.seat;
        made = k.made;
        chief = k.chief;
        words_are = k.words_are;
        legal = k.legal;
        led = led_set (slice_set s.views id w) other k.leader n nobody there (λ l. absurd (false≢true (sym e ∙ l))) (led_set s.views id k.leader v w at (λ l. absurd (false≢true (sym no_lead ∙ l))) k.led);
        below = k.below;
        fits = each_set (Fits k.log k.leader k.seat k.made k.chief) (slice_set s.views id w) other nobody
            (λ j u away h. each_set (Fits k.log k.leader k.seat k.made k.chief) s.views id w
            (λ j u _ h. k.fits j u h)
            (record { lead = λ l. absurd (false≢true (sym e ∙ l)); begins = lists.2; olds = (lists.0, (lists.1, all_begin-more v.olds v.seen w.seen lists.0 mine.olds)); passes = entries; keeps = mine.keeps })
            j u h)
            nobody_fits;
      }

  -- the keeper takes the lead back, with the list that the note has
  pub returns : (id : ℕ) (v : View S) (other : ℕ) (n : View S) → v.passes ≡ false → v.olds ≡ [] → n.lead ≡ true → Joins Keeps id v other n (returned v n) nobody
  returns id v other n no_pass no_olds lead s k at apart there = record {
    log = k.log;
    leader = id;
    seat = k.seat;
    made = k.made;
    chief = k.chief;
    words_are = k.words_are;
    legal = k.legal;
    led = led_here s.views id other v w nobody at apart lead;
    below = k.below;
    fits = each_set (Fits k.log id k.seat k.made k.chief) (slice_set s.views id w) other nobody
        (λ j u away h. each_set (λ j u. j ≢ other → Fits k.log id k.seat k.made k.chief j u) s.views id w
        (λ j u _ h away. relead id (k.fits j u h) (λ l. absurd (away (((k.fits j u h).lead l).0 ∙ sym (theirs.lead lead).0))))
        (λ _. record { lead = λ l. (refl, whole); begins = subst (λ l. IsPrefix l k.log) (sym whole) (prefix_self k.log); olds = subst (λ os. AllBegin os w.seen) (sym no_olds) tt; passes = λ p. absurd (false≢true (sym no_pass ∙ p)); keeps = mine.keeps })
        j u h away)
        nobody_fits;
  }
    where
      w : View S
      w = returned v n

      mine : Fits k.log k.leader k.seat k.made k.chief id v
      mine = k.fits id v at

      theirs : Fits k.log k.leader k.seat k.made k.chief other n
      theirs = k.fits other n (⊎_elim (λ (t : (other ≡ id) × (w ≡ n)). absurd (apart t.0)) (λ (t : (other ≢ id) × (get_elem? s.views other ≡ some n)). t.1) (at_set s.views id other w n there))

      whole : w.seen ≡ k.log
      whole = ap (λ (b : Bool). picked b v.seen n.seen) lead ∙ (theirs.lead lead).1

  -- the keeper makes a pass with the next number
  pub makes : (id : ℕ) (v : View S) → v.keeps ≡ true → v.passes ≡ false → Splits Keeps id v (counted v) (pass v.made v.seen false [] [])
  makes id v chief no_pass s k at = record {
    log = k.log;
    leader = k.leader;
    seat = seat;
    made = k.made + 1;
    chief = k.chief;
    words_are = k.words_are;
    legal = k.legal;
    led = led_push views k.leader new (led_set s.views id k.leader v (counted v) at (λ l. l) k.led);
    below = below_more k.made k.log k.below;
    fits = each_push (Fits k.log k.leader seat (k.made + 1) k.chief) views new
        (each_set (Fits k.log k.leader seat (k.made + 1) k.chief) s.views id (counted v)
        (λ j u apart h. let f = k.fits j u h in record { lead = f.lead; begins = f.begins; olds = f.olds; passes = kept u.seen u.own u.number j f.passes; keeps = λ p. absurd (apart ((f.keeps p).0 ∙ sym (mine.keeps chief).0)) })
        (record { lead = mine.lead; begins = mine.begins; olds = mine.olds; passes = λ p. absurd (false≢true (sym no_pass ∙ p)); keeps = λ p. ((mine.keeps p).0, ap (λ (n : ℕ). n + 1) (mine.keeps p).1) }))
        (record {
          lead = λ l. absurd (false≢true l);
          begins = mine.begins;
          olds = tt;
          passes = λ _. (sym (seat_new v.made made_is), (let h = made_is in omega arith), none_begin, subst (λ (n : ℕ). own n k.log ≡ []) (sym made_is) (below_none k.made k.log k.below));
          keeps = λ p. absurd (false≢true p);
        });
  }
    where
      mine : Fits k.log k.leader k.seat k.made k.chief id v
      mine = k.fits id v at

      made_is : v.made ≡ k.made
      made_is = (mine.keeps chief).1

      views : List (View S)
      views = slice_set s.views id (counted v)

      new : View S
      new = pass v.made v.seen false [] []

      seat : ℕ → ℕ
      seat n = if n == k.made then length views else k.seat n

      seat_new : (n : ℕ) → n ≡ k.made → seat n ≡ length views
      seat_new n e = let same : (n == k.made) ≡ true = grind (arith, nat_tests) in ap (λ (b : Bool). if b then length views else k.seat n) same

      seat_old : (n : ℕ) → n < k.made → seat n ≡ k.seat n
      seat_old n h = let other : (n == k.made) ≡ false = grind (arith, nat_tests) in ap (λ (b : Bool). if b then length views else k.seat n) other

      none_begin : own v.made v.seen ≡ []
      none_begin = subst (λ (n : ℕ). own n v.seen ≡ []) (sym made_is) (own_between k.made [] v.seen k.log [] (v.seen, refl) mine.begins refl (below_none k.made k.log k.below))

      kept : {P : Type 0} (seen entries : History S) (n : ℕ) (j : ℕ) → (P → (j ≡ k.seat n) × (n < k.made) × (own n seen ≡ entries) × (own n k.log ≡ entries)) → P → (j ≡ seat n) × (n < k.made + 1) × (own n seen ≡ entries) × (own n k.log ≡ entries)
      kept seen entries n j f p = let r = f p in let h = r.1 in (r.0 ∙ sym (seat_old n r.1), omega arith, r.2, r.3)

  -- a pass without the lead is ended
  pub ends : (id : ℕ) (v : View S) (other : ℕ) (p : View S) → p.lead ≡ false → Joins Keeps id v other p v nobody
  ends id v other p no_lead s k at apart there = record {
    log = k.log;
    leader = k.leader;
    seat = k.seat;
    made = k.made;
    chief = k.chief;
    words_are = k.words_are;
    legal = k.legal;
    led = led_set (slice_set s.views id v) other k.leader p nobody there (λ l. absurd (false≢true (sym no_lead ∙ l))) (led_set s.views id k.leader v v at (λ l. l) k.led);
    below = k.below;
    fits = each_set (Fits k.log k.leader k.seat k.made k.chief) (slice_set s.views id v) other nobody
        (λ j u away h. each_set (Fits k.log k.leader k.seat k.made k.chief) s.views id v (λ j u _ h. k.fits j u h) (k.fits id v at) j u h)
        nobody_fits;
  }

  -- a load drops the old lists, and tells what is known of them
  pub settles : (slots id : ℕ) (me : Me ℕ (View S)) → Allows Keeps slots id me 0 (λ n. n) (SettledMe me)
  settles slots id me s k homes at small = (
    settled me.0,
    keeps,
    tt,
    record {
      log = k.log;
      leader = k.leader;
      seat = k.seat;
      made = k.made;
      chief = k.chief;
      words_are = subst (λ (ws : List ℕ). slice_set ws 0 (slice_index ws 0) ≡ length k.log ∷ []) (sym k.words_are) refl;
      legal = k.legal;
      led = led_set s.views id k.leader me.0 (settled me.0) at (λ l. l) k.led;
      below = k.below;
      fits = each_set (Fits k.log k.leader k.seat k.made k.chief) s.views id (settled me.0) (λ j u _ h. k.fits j u h)
          (record { lead = mine.lead; begins = mine.begins; olds = tt; passes = mine.passes; keeps = mine.keeps });
    },
    (
      refl,
      record {
        view = refl;
        olds = mine.olds;
        mine = λ p. (mine.passes p).2;
        legal = legal_begin Follows me.0.seen k.log mine.begins k.legal;
        whole = λ l. ap length (mine.lead l).1 ∙ sym (ap (λ (ws : List ℕ). slice_index ws 0) k.words_are);
      },
    ),
  )
    where
      mine : Fits k.log k.leader k.seat k.made k.chief id me.0
      mine = k.fits id me.0 at

  -- a pass with the lead puts an entry of its own last in the history
  pub appends : (e : Entry S) (slots id : ℕ) (me : Me ℕ (View S)) → me.0.lead ≡ true → me.0.passes ≡ true → me.0.olds ≡ [] → e.author ≡ me.0.number → Legal Follows (me.0.seen ++ e ∷ []) → length me.0.seen + 1 < 2 ^ 64
      → Allows Keeps slots id me 0 (λ n. (n + 1) % 2 ^ 64) (AppendedMe e me)
  appends e slots id me lead pass_ olds author legal room s k homes at small = (
    w,
    keeps,
    tt,
    record {
      log = log;
      leader = k.leader;
      seat = k.seat;
      made = k.made;
      chief = k.chief;
      words_are = subst (λ (ws : List ℕ). slice_set ws 0 ((slice_index ws 0 + 1) % 2 ^ 64) ≡ length log ∷ []) (sym k.words_are) (ap (λ (n : ℕ). n ∷ []) counts);
      legal = subst (λ (l : History S). Legal Follows (l ++ e ∷ [])) whole legal;
      led = led_set s.views id k.leader me.0 w at (λ l. l) k.led;
      below = below_push k.made k.log e k.below (subst (λ (n : ℕ). n < k.made) (sym author) (mine.passes pass_).1);
      fits = each_set (Fits log k.leader k.seat k.made k.chief) s.views id w
          (λ j u apart h. let f = k.fits j u h in record {
            lead = λ l. absurd (apart ((f.lead l).0 ∙ sym (mine.lead lead).0));
            begins = prefix_trans u.seen k.log log f.begins (prefix_push k.log e);
            olds = f.olds;
            passes = λ p. let r = f.passes p in (r.0, r.1, r.2, own-push-other u.number k.log e (λ same. apart (r.0 ∙ ap k.seat (sym same ∙ author) ∙ sym (mine.passes pass_).0)) ∙ r.3);
            keeps = f.keeps;
          })
          (record {
            lead = λ l. ((mine.lead lead).0, ap (λ l. l ++ e ∷ []) whole);
            begins = subst (λ l. IsPrefix (me.0.seen ++ e ∷ []) (l ++ e ∷ [])) whole (prefix_self (me.0.seen ++ e ∷ []));
            olds = subst (λ os. AllBegin os w.seen) (sym olds) tt;
            passes = λ p. let r = mine.passes p in (r.0, r.1, own-push-own me.0.number me.0.seen e author ∙ ap (λ l. l ++ e ∷ []) r.2, own-push-own me.0.number k.log e author ∙ ap (λ l. l ++ e ∷ []) r.3);
            keeps = mine.keeps;
          });
    },
    (refl, record { view = refl; whole = ap length whole ∙ sym (ap (λ (ws : List ℕ). slice_index ws 0) k.words_are) }),
  )
    where
      mine : Fits k.log k.leader k.seat k.made k.chief id me.0
      mine = k.fits id me.0 at

      whole : me.0.seen ≡ k.log
      whole = (mine.lead lead).1

      w : View S
      w = appended e me.0

      log : History S
      log = k.log ++ e ∷ []

      counts : (length k.log + 1) % 2 ^ 64 ≡ length log
      counts = let a = ap length whole in omega (arith, length-append k.log (e ∷ []))
