-- A table with pairs joined.
use Rattle.std.proofs.Common.{◌≡◌, ◌≢◌, ℕ, suc, ◌<◌, Bool, true, false, eqb, ◌&&◌, ◌||◌, List, [], ◌∷◌, length, refl, sym, ap, ◌∙◌, subst, arith, inl, inr}
use Rattle.std.specs.Prelude.{AllPairs}
use Rattle.std.specs.Ordering.{nat_cmp, is_lt}
use Rattle.std.specs.Cmp.Lexicographic.{slice_cmp}
use Rattle.std.proofs.lemmas.Cmp.{tied_itself, nat_list_cmp_total}
use Rattle.std.proofs.lemmas.Bool.{eqb-false, both_ways, or_parts}
use Rattle.vs_graph.specs.Bodies.{Bodies, name_at}
use Rattle.vs_graph.specs.Table.{Table, is_in, is_pair, add, joined}
use Rattle.vs_graph.specs.GoodTable.{IsGoodTable}
use Rattle.vs_graph.proofs.Tables.{is_in_joined, joined_good, put_there}
use Rattle.vs_unlink.specs.declared.Pair.{Pair}
use Rattle.vs_unlink.specs.Pairs.{has, share, detached, paired, IsOpen, IsPairing}
use Rattle.vs_graph.proofs.Sorts.{In}
use Rattle.vs_unlink.proofs.Pairing.{in_contains}
use Rattle.vs_unlink.proofs.Detached.{detached_good, room_after}

pub record CanJoin (layers : ℕ → ℕ) (layer most : ℕ) (u : Table) (p : Pair) : Type 0 where
  pub apart : is_in u p.one p.other ≡ false
  pub ne : p.one ≢ p.other
  pub one_room : length (u p.one) < most
  pub other_room : length (u p.other) < most
  pub one_stands : layer < layers p.one
  pub other_stands : layer < layers p.other

no_pair : (a b c d : Bool) → a ≡ false → c ≡ false → ((a && b) || (c && d)) ≡ false
no_pair false b false d h k = refl
no_pair true b c d h k = absurd (both_ways true h refl)
no_pair false b true d h k = absurd (both_ways true k refl)

-- another pair is as it was
pub same_list : (u : Table) (p : Pair) (id : ℕ) → has p id ≡ false → joined u p.one p.other id ≡ u id
same_list u p id h =
    let parts = or_parts (eqb id p.one) (eqb id p.other) h in
    put_there (add u p.other p.one) p.one _ id (eqb-false id p.one parts.0) ∙ put_there u p.other _ id (eqb-false id p.other parts.1)

can_after : (layers : ℕ → ℕ) (layer most : ℕ) (u : Table) (p r : Pair) → share p r ≡ false → CanJoin layers layer most u r → CanJoin layers layer most (joined u p.one p.other) r
can_after layers layer most u p r h can =
    let parts = or_parts (has p r.one) (has p r.other) h in
    let ones = or_parts (eqb r.one p.one) (eqb r.one p.other) parts.0 in
    record {
      apart = is_in_joined u p.one p.other r.one r.other ∙ ap (λ q. q || is_pair p.one p.other r.one r.other) can.apart ∙ no_pair (eqb r.one p.one) (eqb r.other p.other) (eqb r.one p.other) (eqb r.other p.one) ones.0 ones.1;
      ne = can.ne;
      one_room = subst (λ l. length l < most) (sym (same_list u p r.one parts.0)) can.one_room;
      other_room = subst (λ l. length l < most) (sym (same_list u p r.other parts.1)) can.other_room;
      one_stands = can.one_stands;
      other_stands = can.other_stands;
    }

apart_from : (p : Pair) (ps : List Pair) → AllPairs (λ q r. share q r ≡ false) (p ∷ ps) → (r : Pair) → In r ps → share p r ≡ false
apart_from p ps h r k = let c = in_contains r ps k in subst (λ z. share p z ≡ false) c.2 (h 0 (suc c.0) r (omega arith) (omega (arith, c.1)))

pub all_joined_good : (layers : ℕ → ℕ) (layer most : ℕ) (ps : List Pair) (u : Table) → IsGoodTable layers layer most u → ((p : Pair) → In p ps → CanJoin layers layer most u p) → AllPairs (λ p r. share p r ≡ false) ps
    → IsGoodTable layers layer most (paired u ps)
all_joined_good layers layer most [] u good can apart = good
all_joined_good layers layer most (p ∷ ps) u good can apart =
    let here = can p (inl refl) in
    all_joined_good layers layer most ps (joined u p.one p.other) (joined_good layers layer most u p.one p.other good here.ne here.apart here.one_room here.other_room here.one_stands here.other_stands)
    (λ r k. can_after layers layer most u p r (apart_from p ps apart r k) (can r (inr k))) (λ i j d low high. apart (suc i) (suc j) d (omega arith) (omega arith))

-- an open pair may be joined
can_open : (bodies : Bodies) (layers : ℕ → ℕ) (layer most : ℕ) (t : Table) (x : ℕ) (p : Pair) → IsGoodTable layers layer most t → IsOpen bodies (detached t x) (t x) p → CanJoin layers layer most (detached t x) p
can_open bodies layers layer most t x p good free = record {
  apart = free.unlinked;
  ne = λ e. both_ways (is_lt (slice_cmp nat_cmp (name_at bodies p.one) (name_at bodies p.other)))
      (ap (λ k. is_lt (slice_cmp nat_cmp (name_at bodies p.one) (name_at bodies k))) (sym e) ∙ ap is_lt (tied_itself nat_list_cmp_total (name_at bodies p.one))) (ap is_lt free.order);
  one_room = room_after layers layer most t x p.one good free.one;
  other_room = room_after layers layer most t x p.other good free.other;
  one_stands = good.stand x p.one free.one;
  other_stands = good.stand x p.other free.other;
}

pub paired_good : (bodies : Bodies) (layers : ℕ → ℕ) (layer most : ℕ) (t : Table) (x : ℕ) (added : List Pair) → IsGoodTable layers layer most t → IsPairing bodies (detached t x) (t x) added → IsGoodTable layers layer most (paired (detached t x) added)
paired_good bodies layers layer most t x added good pairing =
    all_joined_good layers layer most added (detached t x) (detached_good layers layer most t x good)
    (λ p k. (let c = in_contains p added k in can_open bodies layers layer most t x p good (subst (IsOpen bodies (detached t x) (t x)) c.2 (pairing.are_open c.0 p c.1)))) pairing.matching
