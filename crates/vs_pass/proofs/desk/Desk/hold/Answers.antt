use Rattle.std.proofs.Common.{◌≡◌, sym, ap, ◌∙◌, subst}
use Rattle.vs_defs.specs.Store.{Store, Set}
use Rattle.vs_history.specs.Work.{Work}
use Rattle.vs_pass.specs.Knower.{Knower}
use Rattle.vs_pass.proofs.Holds.{holding, told_did, closed_at, pass_kept, desk_kept}
use Rattle.vs_pass.proofs.desk.Desk.hold.Goals as goal

pub close-requires-clause-counts : goal.close-requires-clause-counts
close-requires-clause-counts g c =
    let limits = g.N.TableName.limits in
    let p = c.pass.invariant in
    let d = c.self.invariant in
    let n = c.pass.inside.number in
    let known = c.pass.inside.known in
    let seat = c.pass.inside.seat in
    let desk = c.self.inside.keeper in
    let old = g.S.Stored.store c.self.inside.store in
    let new = g.S.Stored.store c.run-output.new.store in
    let w : Work = g.T.Task.work c.args.task known old c.run-output.result new in
    let told_is : g.T.Task.work c.of-task_was.result.value known (g.S.Stored.store c.of-store_was.result.value) c.of.result.value (g.S.Stored.store c.of-2.result.value) ≡ w =
    cc (c.of-task_was.ensures, c.of-store_was.ensures, c.of.ensures, c.of-2.ensures) in
    let held = holding limits n known seat desk old p d c.enter.ensures.begins c.enter.ensures.own in
    let needs = subst (λ (k : Knower). g.T.Task.needs c.args.task limits k.seen) (sym c.pass.view_is) c.requires in
    let works = c.run-output.ensures limits n seat.seen desk.seen held d.ends p.counts needs in (
      c.changes-before.ensures ∙ ap (λ (x : Store Set). x.changes) (sym works.old_is) ∙ ap (λ (x : Work). x.old.changes) (sym told_is),
      c.changes-after.ensures ∙ ap (λ (x : Store Set). x.changes) (sym works.new_is) ∙ ap (λ (x : Work). x.new.changes) (sym told_is),
    )

pub close-requires-clause-did : goal.close-requires-clause-did
close-requires-clause-did g c =
    let limits = g.N.TableName.limits in
    let p = c.pass.invariant in
    let d = c.self.invariant in
    let n = c.pass.inside.number in
    let known = c.pass.inside.known in
    let seat = c.pass.inside.seat in
    let desk = c.self.inside.keeper in
    let old = g.S.Stored.store c.self.inside.store in
    let new = g.S.Stored.store c.run-output.new.store in
    let w : Work = g.T.Task.work c.args.task known old c.run-output.result new in
    let told_is : g.T.Task.work c.of-task_was.result.value known (g.S.Stored.store c.of-store_was.result.value) c.of.result.value (g.S.Stored.store c.of-2.result.value) ≡ w =
    cc (c.of-task_was.ensures, c.of-store_was.ensures, c.of.ensures, c.of-2.ensures) in
    let held = holding limits n known seat desk old p d c.enter.ensures.begins c.enter.ensures.own in
    let needs = subst (λ (k : Knower). g.T.Task.needs c.args.task limits k.seen) (sym c.pass.view_is) c.requires in
    let works = c.run-output.ensures limits n seat.seen desk.seen held d.ends p.counts needs in
    told_did limits n known seat desk old p d c.enter.new.pass c.enter.ensures.pass _ w told_is works.did

pub invariant_of-self : goal.invariant_of-self
invariant_of-self g c =
    let limits = g.N.TableName.limits in
    let p = c.pass.invariant in
    let d = c.self.invariant in
    let n = c.pass.inside.number in
    let known = c.pass.inside.known in
    let seat = c.pass.inside.seat in
    let desk = c.self.inside.keeper in
    let old = g.S.Stored.store c.self.inside.store in
    let new = g.S.Stored.store c.run-output.new.store in
    let w : Work = g.T.Task.work c.args.task known old c.run-output.result new in
    let told_is : g.T.Task.work c.of-task_was.result.value known (g.S.Stored.store c.of-store_was.result.value) c.of.result.value (g.S.Stored.store c.of-2.result.value) ≡ w =
    cc (c.of-task_was.ensures, c.of-store_was.ensures, c.of.ensures, c.of-2.ensures) in
    let held = holding limits n known seat desk old p d c.enter.ensures.begins c.enter.ensures.own in
    let needs = subst (λ (k : Knower). g.T.Task.needs c.args.task limits k.seen) (sym c.pass.view_is) c.requires in
    let works = c.run-output.ensures limits n seat.seen desk.seen held d.ends p.counts needs in
    let closed = closed_at limits n known seat desk old p d c.enter.new.pass c.enter.ensures.pass _ w told_is _ _ c.close.ensures.closed in
    desk_kept limits n known seat desk old p d c.enter.new.pass c.enter.ensures.pass _ w told_is new _ c.close.new.pass _ c.close.ensures.keeper closed works.new_is

pub invariant_of-pass : goal.invariant_of-pass
invariant_of-pass g c =
    let limits = g.N.TableName.limits in
    let p = c.pass.invariant in
    let d = c.self.invariant in
    let n = c.pass.inside.number in
    let known = c.pass.inside.known in
    let seat = c.pass.inside.seat in
    let desk = c.self.inside.keeper in
    let old = g.S.Stored.store c.self.inside.store in
    let new = g.S.Stored.store c.run-output.new.store in
    let w : Work = g.T.Task.work c.args.task known old c.run-output.result new in
    let told_is : g.T.Task.work c.of-task_was.result.value known (g.S.Stored.store c.of-store_was.result.value) c.of.result.value (g.S.Stored.store c.of-2.result.value) ≡ w =
    cc (c.of-task_was.ensures, c.of-store_was.ensures, c.of.ensures, c.of-2.ensures) in
    let held = holding limits n known seat desk old p d c.enter.ensures.begins c.enter.ensures.own in
    let needs = subst (λ (k : Knower). g.T.Task.needs c.args.task limits k.seen) (sym c.pass.view_is) c.requires in
    let works = c.run-output.ensures limits n seat.seen desk.seen held d.ends p.counts needs in
    let closed = closed_at limits n known seat desk old p d c.enter.new.pass c.enter.ensures.pass _ w told_is _ _ c.close.ensures.closed in
    pass_kept limits n known seat desk old p d c.enter.new.pass c.enter.ensures.pass _ w told_is _ _ c.close.ensures.pass closed (c.changes-after.ensures ∙ ap (λ (x : Store Set). x.changes) (sym works.new_is))

pub returns-clause-call : goal.returns-clause-call
returns-clause-call g c =
    let limits = g.N.TableName.limits in
    let p = c.pass.invariant in
    let d = c.self.invariant in
    let n = c.pass.inside.number in
    let known = c.pass.inside.known in
    let seat = c.pass.inside.seat in
    let desk = c.self.inside.keeper in
    let old = g.S.Stored.store c.self.inside.store in
    let new = g.S.Stored.store c.run-output.new.store in
    let w : Work = g.T.Task.work c.args.task known old c.run-output.result new in
    let told_is : g.T.Task.work c.of-task_was.result.value known (g.S.Stored.store c.of-store_was.result.value) c.of.result.value (g.S.Stored.store c.of-2.result.value) ≡ w =
    cc (c.of-task_was.ensures, c.of-store_was.ensures, c.of.ensures, c.of-2.ensures) in
    let held = holding limits n known seat desk old p d c.enter.ensures.begins c.enter.ensures.own in
    let needs = subst (λ (k : Knower). g.T.Task.needs c.args.task limits k.seen) (sym c.pass.view_is) c.requires in
    let works = c.run-output.ensures limits n seat.seen desk.seen held d.ends p.counts needs in
    let closed = closed_at limits n known seat desk old p d c.enter.new.pass c.enter.ensures.pass _ w told_is _ _ c.close.ensures.closed in
    subst (λ (k : Knower). g.T.Task.call c.args.task limits k.number k.seen c.run-output.result c.close.new.pass.seen) c.pass.view_is (works.closes _ _ closed)
