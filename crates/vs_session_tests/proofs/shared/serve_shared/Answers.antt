use Rattle.std.proofs.Common.{◌∙◌, ap, sym, refl, arith}
use Rattle.vs_defs.specs.Store.{empty_store}
use Rattle.vs_session_defs.specs.Words.{generator}
use Rattle.vs_session.specs.Alone.{fresh}
use Rattle.vs_session_tests.specs.declared.shared.Shared.{Shared}
use Rattle.vs_session_tests.proofs.shared.serve_shared.Goals as goal

pub returns : goal.returns
returns g c =
    let i = c.serve_by.ensures.session 0 (fresh (generator 7 0)) (record {
      known = (
        refl,
        record {
          legal = tt;
          good = λ k e h. absurd (omega (arith, h));
          store_is = sym (ap (λ (m : Shared). m.store) c.new-server.ensures.machine ∙ c.new.ensures ∙ ap empty_store c.usual.ensures);
        },
      );
      words = c.new-server.ensures.generator ∙ c.generator.ensures;
    }) in (i.0, i.1, i.2, i.3, record { now = i.4.now; there = (i.4.there.known.1.legal, i.4.there.known.1.good); is_end = i.4.is_end })
