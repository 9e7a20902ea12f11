-- One generated member: its store, and the seven lines that are printed of it.
use Rattle.std.specs.Prelude.{◌≡◌, ◌≢◌, cond, option_map, true, false, zero, suc, [], ◌∷◌, codes, refl, Some, None, pos}
use Rattle.std.specs.Fmt.{digits}
use Rattle.std.proofs.Common.{lit≤, arith, sym}
use Rattle.std.proofs.lemmas.List.Sorted.{IsPermutation-refl}
use mathlib.Core.Bool.{true≢false}
use lib.Pointwise.{bytes_decides}
use lib.Count.{count_trailing_zeros}
use Rattle.vs_defs.specs.Bytes.{Bytes, same_name}
use Rattle.vs_defs.specs.Request as request
use Rattle.vs_defs.specs.Request.{Add, Hit}
use Rattle.vs_defs.specs.Store.{Store, Set, usual_limits, lookup_set}
use Rattle.vs_defs.specs.Step.{wiring_at}
use Rattle.vs_defs.specs.History.{Entry}
use Rattle.vs_thread_defs.specs.Machine.{Follows}
use Rattle.vs_thread_defs.specs.Generator.{Generates}

abbrev add : Add
add = record { key = codes "g"; name = codes "m0"; bits = true ∷ []; cas = false; ef = 64; m = None; attr = None }

abbrev of_one : Set
of_one = record {
  contents = record { dim = 1; m = 16; cut = 1; members = record { name = codes "m0"; bits = true ∷ []; attr = None; level = 0 } ∷ [] };
  wiring = record { links = []; entry = Some (codes "m0") };
}

abbrev first_entry : Entry (Store Set)
first_entry = record {
  author = 0;
  request = request.Vadd add;
  words = 3795398737 ∷ [];
  draft = None;
  answer = request.Int (pos 1);
  store = record { sets = (codes "g", of_one) ∷ []; changes = 1; limits = usual_limits };
}

other_keys_have_none : (k : Bytes) → k ≢ codes "g" → wiring_at k first_entry.store ≡ None
other_keys_have_none k other =
    elim (same_name k (codes "g")) as (λ t. same_name k (codes "g") ≡ t → option_map (λ (x : Set). x.wiring) (cond t (lookup_set (codes "g") first_entry.store.sets) None) ≡ None) [
      | true ↦ λ e. absurd (other ((bytes_decides k (codes "g")).0 e))
      | false ↦ λ e. refl
    ] refl

first_follows : Follows usual_limits [] first_entry
unfolding count_trailing_zeros
first_follows = record {
  in_bounds = record { key = (lit≤ tt, lit≤ tt); name = (lit≤ tt, lit≤ tt); bits = (lit≤ tt, lit≤ tt); ef = (lit≤ tt, lit≤ tt); m = tt; attr = tt };
  words = refl;
  unrefused = refl;
  drafted = None;
  draft = refl;
  step = record {
    contents = record { changes_something = refl; sets = λ key. refl; keys = λ i j d h h' e. absurd (omega arith); answers = refl; number = refl; limits = refl };
    wiring = (other_keys_have_none, record { links = refl; entry = refl });
  };
}

abbrev found_first : Hit
found_first = record { name = codes "m0"; dist = 0; attr = None }

one_member : Generates 1 1 1 (codes "members 1\ndim 1\nmax-level 0\nlinks 0\ntruth m0\nbeam m0\nagree 1\n")
unfolding digits
one_member = record {
  history = first_entry ∷ [];
  generated = record { legal = (first_follows, tt); requests = refl; words = refl };
  set = of_one;
  is_there = refl;
  truth = found_first ∷ [];
  truth_is = record { unrefused = refl; changes_nothing = refl; answer_is = refl };
  beam = found_first ∷ [];
  beam_is = record {
    unrefused = refl;
    changes_nothing = refl;
    answer_is = record {
      stops = [];
      descent = tt;
      start = codes "m0";
      starts = refl;
      tried = codes "m0" ∷ [];
      found = codes "m0" ∷ [];
      beam = record {
        distinct = λ i j d h h'. absurd (omega arith);
        stand = elim [ zero ↦ λ d h. refl | suc k ↦ λ d h. absurd (omega arith) ];
        sorted = elim [
          | zero ↦ elim [ zero ↦ λ d h h'. lit≤ tt | suc j ↦ λ d h h'. absurd (omega arith) ]
          | suc i ↦ elim [ zero ↦ λ d h h'. absurd (omega arith) | suc j ↦ λ d h h'. absurd (omega arith) ]
        ];
        order = codes "m0" ∷ [];
        same = IsPermutation-refl _;
        first = refl;
        reached = λ j d h h'. absurd (omega arith);
        best = refl;
        limit = λ h. absurd (omega arith);
        closed = λ e i d b h h' l. absurd (true≢false (sym l));
      };
      hits = refl;
    };
  };
  printed = refl;
}
