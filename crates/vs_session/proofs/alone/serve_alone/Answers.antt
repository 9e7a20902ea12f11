use Rattle.std.proofs.Common.{◌∙◌, ap, sym, refl, arith}
use Rattle.vs_defs.specs.Store.{empty_store}
use Rattle.vs_session_defs.specs.Words.{generator}
use Rattle.vs_connection.proofs.Complete.{complete}
use Rattle.vs_session.specs.Alone.{Call, fresh}
use Rattle.vs_session.specs.declared.alone.OwnStore.{OwnStore}
use Rattle.vs_session.proofs.alone.serve_alone.Goals as goal

pub returns-clause-session : goal.returns-clause-session
returns-clause-session g c =
    let i = c.serve_by.ensures.session 0 (fresh (generator c.args.seed 0)) (record {
      known = record {
        own = record { legal = tt; by_one = refl; good = λ k e h. absurd (omega (arith, h)) };
        store_is = sym (ap (λ (m : OwnStore). m.store) c.new-server.ensures.machine ∙ c.new.ensures ∙ ap empty_store c.usual.ensures);
      };
      words = c.new-server.ensures.generator ∙ c.generator.ensures;
    }) in (
      i.0,
      i.1,
      i.2,
      i.3,
      record { now = i.4.now; there = i.4.there.known.own; is_end = i.4.is_end },
    )

pub returns-clause-complete : goal.returns-clause-complete
returns-clause-complete g c messages has in_same out_same =
    let i = returns-clause-session g c in
    let e = c.serve_by.ensures in
    record {
      now = i.4.now;
      own = i.4.there;
      complete = complete Call 0 (fresh (generator c.args.seed 0)) i.4.now c.serve_by.result i.0 i.1 _ _ _ _ _ _ _ _ i.2 i.3 i.4.is_end e.end e.read_fault.0 e.write_fault.0 messages has in_same out_same;
    }
