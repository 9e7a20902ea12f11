-- The machine with links: the first addition follows in the empty history, and PING is answered by a whole connection.
use Rattle.std.specs.Prelude.{◌≡◌, ◌≢◌, cond, option_map, true, false, [], ◌∷◌, codes, refl, Some, None, pos}
use Rattle.std.proofs.Common.{inl, inr, lit≤, arith}
use lib.Pointwise.{bytes_decides}
use lib.Count.{count_trailing_zeros}
use Rattle.rand_pcg.specs.Lcg.{Lcg}
use Rattle.vs_defs.specs.Bytes.{Bytes, same_name}
use Rattle.vs_defs.specs.Stream.{Border}
use Rattle.vs_defs.specs.Request as request
use Rattle.vs_defs.specs.Request.{Add}
use Rattle.vs_defs.specs.Read.{read, draws}
use Rattle.vs_defs.specs.Store.{Store, Set, usual_limits, lookup_set}
use Rattle.vs_defs.specs.Step.{wiring_at}
use Rattle.vs_defs.specs.Reply.{Answered}
use Rattle.vs_defs.specs.History.{Entry}
use Rattle.vs_thread_defs.specs.Machine.{Follows, GraphCall}
use Rattle.vs_session_defs.specs.Session.{Session}

abbrev add : Add
add = record { key = codes "s"; name = codes "a"; bits = true ∷ []; cas = false; ef = 200; m = None; attr = None }

abbrev first_entry : Entry (Store Set)
first_entry = record {
  author = 0;
  request = request.Vadd add;
  words = 4 ∷ [];
  draft = None;
  answer = request.Int (pos 1);
  store = record {
    sets = (
      codes "s",
      record {
        contents = record { dim = 1; m = 16; cut = 1; members = record { name = codes "a"; bits = true ∷ []; attr = None; level = 1 } ∷ [] };
        wiring = record { links = []; entry = Some (codes "a") };
      },
    ) ∷ [];
    changes = 1;
    limits = usual_limits;
  };
}

other_keys_have_none : (k : Bytes) → k ≢ codes "s" → wiring_at k first_entry.store ≡ None
other_keys_have_none k other =
    elim (same_name k (codes "s")) as (λ t. same_name k (codes "s") ≡ t → option_map (λ (x : Set). x.wiring) (cond t (lookup_set (codes "s") first_entry.store.sets) None) ≡ None) [
      | true ↦ λ e. absurd (other ((bytes_decides k (codes "s")).0 e))
      | false ↦ λ e. refl
    ] refl

first_follows : Follows usual_limits [] first_entry
unfolding count_trailing_zeros
first_follows = record {
  in_bounds = record { key = (lit≤ tt, lit≤ tt); name = (lit≤ tt, lit≤ tt); bits = (lit≤ tt, lit≤ tt); ef = (lit≤ tt, lit≤ tt); m = tt; attr = tt };
  words = refl;
  unrefused = refl;
  drafted = None;
  draft = refl;
  step = record {
    contents = record { changes_something = refl; sets = λ key. refl; keys = λ i j d h h' e. absurd (omega arith); answers = refl; number = refl; limits = refl };
    wiring = (other_keys_have_none, record { links = refl; entry = refl });
  };
}

ping : (g : Lcg) → Session (GraphCall usual_limits) true read draws 0 g [] (codes "PING\r\n") (codes "+PONG\r\n") [] g
ping g = record {
  messages = (codes "PING" ∷ []) ∷ [];
  ends = Border;
  splits = ([], refl, refl);
  answered = (codes "PING" ∷ []) ∷ [];
  outcomes = Answered request.Pong ∷ [];
  serves = (
    [],
    g,
    inl (
      record {
        goes_on = ([], refl);
        legal_before = tt;
        legal = tt;
        outcome_is = inr (refl, record { unrefused = refl; changes_nothing = refl; answer_is = refl });
      },
      refl,
    ),
    tt,
    (refl, refl),
  );
  written = (refl, refl);
}
