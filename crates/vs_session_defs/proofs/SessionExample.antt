-- A whole connection: a VADD with a drawn word, a request that the store refuses, for which a word is drawn too, and words that don't fit.
use Rattle.std.specs.Prelude.{true, false, [], ◌∷◌, codes, refl, None, pos}
use Rattle.std.specs.Fmt.{digits}
use Rattle.std.proofs.Common.{inl, lit≤, arith}
use lib.Count.{count_trailing_zeros}
use Rattle.vs_defs.specs.Stream.{Message, words_of_line, Border}
use Rattle.vs_defs.specs.Request as request
use Rattle.vs_defs.specs.Request.{Add}
use Rattle.vs_defs.specs.Read.{read, draws}
use Rattle.vs_defs.specs.Store.{PlainStore, usual_limits}
use Rattle.vs_defs.specs.Reply.{Answered, Refused}
use Rattle.vs_defs.specs.History.{Entry}
use Rattle.vs_defs.specs.PlainMachine.{PlainFollows, PlainCall}
use Rattle.vs_session_defs.specs.Words.{generator, after_draws}
use Rattle.vs_session_defs.specs.Session.{Finished, Ended, IsByOne}

abbrev three_components : Message
three_components = words_of_line (codes "VADD s VALUES 3 1 -2 0 a BIN")

abbrev two_components : Message
two_components = words_of_line (codes "VADD s VALUES 2 1 1 b")

abbrev no_such_command : Message
no_such_command = words_of_line (codes "GET s")

abbrev first_add : Add
first_add = record { key = codes "s"; name = codes "a"; bits = true ∷ false ∷ false ∷ []; cas = false; ef = 200; m = None; attr = None }

-- the first word of stream 0 of seed 0 ends in three zeros, so the member has level 1
abbrev first_entry : Entry PlainStore
first_entry = record {
  author = 0;
  request = request.Vadd first_add;
  words = 3837872008 ∷ [];
  draft = None;
  answer = request.Int (pos 1);
  store = record {
    sets = (codes "s", record { dim = 3; m = 16; cut = 1; members = record { name = codes "a"; bits = true ∷ false ∷ false ∷ []; attr = None; level = 1 } ∷ [] }) ∷ [];
    changes = 1;
    limits = usual_limits;
  };
}

first_follows : PlainFollows usual_limits [] first_entry
unfolding count_trailing_zeros
first_follows = record {
  in_bounds = record { key = (lit≤ tt, lit≤ tt); name = (lit≤ tt, lit≤ tt); bits = (lit≤ tt, lit≤ tt); ef = (lit≤ tt, lit≤ tt); m = tt; attr = tt };
  unrefused = refl;
  step = record { changes_something = refl; sets = λ key. refl; keys = λ i j d e below within. absurd (omega arith); answers = refl; number = refl; limits = refl };
  no_draft = refl;
}

-- the refused words draw nothing
session : Finished (PlainCall usual_limits) true read draws 0 (generator 0 0) [] (codes "VADD s VALUES 3 1 -2 0 a BIN\r\nVADD s VALUES 2 1 1 b\r\nGET s\r\n")
    (codes ":1\r\n-ERR vector has 2 components, the set has 3\r\n-ERR unknown command\r\n") (first_entry ∷ []) (after_draws 2 (generator 0 0)) Ended
unfolding digits count_trailing_zeros
session = record {
  session = record {
    messages = three_components ∷ two_components ∷ no_such_command ∷ [];
    ends = Border;
    splits = (codes "VADD s VALUES 2 1 1 b\r\nGET s\r\n", refl, (codes "GET s\r\n", refl, ([], refl, refl)));
    answered = three_components ∷ two_components ∷ no_such_command ∷ [];
    outcomes = Answered (request.Int (pos 1)) ∷ Refused (request.WrongDimension 2 3) ∷ Refused request.UnknownCommand ∷ [];
    serves = (
      first_entry ∷ [],
      after_draws 1 (generator 0 0),
      inl (
        record {
          goes_on = (first_entry ∷ [], refl);
          legal_before = tt;
          legal = (first_follows, tt);
          outcome_is = inl (record { before = []; last = first_entry; is_last = refl; author = refl; request = refl; drawn = refl; answer = refl; draft = tt; others = refl });
        },
        refl,
      ),
      tt,
      (
        first_entry ∷ [],
        after_draws 2 (generator 0 0),
        inl (record { goes_on = ([], refl); legal_before = (first_follows, tt); legal = (first_follows, tt); outcome_is = (refl, refl) }, refl),
        tt,
        (first_entry ∷ [], after_draws 2 (generator 0 0), inl (refl, refl, refl), tt, (refl, refl)),
      ),
    );
    written = (refl, refl);
  };
  ending = refl;
}

by_one : IsByOne 0 (first_entry ∷ [])
by_one = refl
