use Rattle.std.proofs.Common.{ℕ, ◌≡◌, refl, subst, sym}
use Rattle.vs_thread_defs.specs.Machine.{GraphCall, IsGoodThroughout}
use Rattle.vs_pass.specs.Knower.{Knower}
use Rattle.vs_connection.proofs.Complete.{complete}
use Rattle.vs_session.specs.Shared.{point_of, ServesPass}
use Rattle.vs_session.proofs.Lending.{lent_point, loan_stays, serves_pass}
use Rattle.vs_session.proofs.Sharing.{one_keyless}
use Rattle.vs_session.proofs.shared.serve_connection.Goals as goal

pub invariant_of-server : goal.invariant_of-server
invariant_of-server g c = record { single = λ x y i a b o κ. one_keyless (g.row.R.shr_at a b o κ) (x a b o κ) (y a b o κ) i; ready = c.type_bounds.sync-R.shared }

pub returns-clause-session : goal.returns-clause-session
returns-clause-session g c =
    let pass = c.args.pass.now in
    let loan = c.server-1.given in
    let now = c.serve_by-end.new.handler.pass in
    let i = c.serve_by-end.ensures.session pass.number (lent_point pass loan) (record { number = refl; seen = refl; stream = refl; loan_is = refl }) in
    let stays = loan_stays g.N.TableName.limits c.serve_by-end.result pass now.now loan now.ghost_name i.0 i.1 i.4 in
    let serves = serves_pass g.N.TableName.limits c.serve_by-end.result pass now.now loan now.ghost_name i.0 i.1 i.4 in
    let same : c.pass-1.given.0 ≡ now.now = c.pass-1.given.1 (sym stays) in (
      i.0,
      i.1,
      i.2,
      i.3,
      subst (λ (p : Knower). ServesPass g.N.TableName.limits c.serve_by-end.result pass i.0 i.1 p) (sym same) serves,
    )

pub returns-clause-complete : goal.returns-clause-complete
returns-clause-complete g c messages has in_same out_same =
    let i = returns-clause-session g c in
    let e = c.serve_by-end.ensures in
    complete (GraphCall g.N.TableName.limits) c.args.pass.now.number (point_of c.args.pass.now) (point_of c.pass-1.given.0) c.serve_by-end.result i.0 i.1 _ _ _ _ _ _ _ _ i.2 i.3 i.4.is_end e.end e.read_fault.0 e.write_fault.0 messages has in_same out_same

pub returns-clause-good : goal.returns-clause-good
returns-clause-good g c =
    let pass = c.args.pass.now in
    let loan = c.server-1.given in
    let now = c.serve_by-end.new.handler.pass in
    let i = c.serve_by-end.ensures.session pass.number (lent_point pass loan) (record { number = refl; seen = refl; stream = refl; loan_is = refl }) in
    let stays = loan_stays g.N.TableName.limits c.serve_by-end.result pass now.now loan now.ghost_name i.0 i.1 i.4 in
    let same : c.pass-1.given.0 ≡ now.now = c.pass-1.given.1 (sym stays) in
    subst (λ (p : Knower). IsGoodThroughout p.seen) (sym same) c.known-known.ensures.good
