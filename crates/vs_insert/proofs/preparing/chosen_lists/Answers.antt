use Rattle.std.proofs.Common.{◌≡◌, ◌+◌, ◌<◌, ℕ, ap, subst}
use Rattle.std.specs.Prelude.{None, IsSome}
use Rattle.std.proofs.lemmas.Result.{IfOk-weaker}
use Rattle.vs_insert.specs.Choosing.{everyone, AreChosenFrom}
use Rattle.vs_insert.proofs.Choices.{own_drafted, own_bodies, drafted_none, chosen_none, entry_none, lists_drafted, lists_chosen}
use Rattle.vs_insert.proofs.preparing.chosen_lists.Goals as goal

pub new-wanted-requires-clause-answers : goal.new-wanted-requires-clause-answers
new-wanted-requires-clause-answers g c = ∣ (everyone, c.requires.everyone) ∣₁

pub returns-then-limit-eq0-clause-drafted : goal.returns-then-limit-eq0-clause-drafted
returns-then-limit-eq0-clause-drafted g c =
    let s = c.args.graph.now in
    own_drafted (g.N.Nodes.at s.nodes) s.m c.args.level _ (drafted_none (g.N.Nodes.at s.nodes) s.m s.dim c.args.level c.args.ef c.args.query.now c.requires.fits c.new.result.items c.new.ensures.items)

pub returns-then-limit-eq0-clause-bodies : goal.returns-then-limit-eq0-clause-bodies
returns-then-limit-eq0-clause-bodies g c =
    let s = c.args.graph.now in
    own_bodies (g.N.Nodes.at s.nodes) s.m c.args.level _ (drafted_none (g.N.Nodes.at s.nodes) s.m s.dim c.args.level c.args.ef c.args.query.now c.requires.fits c.new.result.items c.new.ensures.items)

pub returns-then-limit-eq0-clause-chosen : goal.returns-then-limit-eq0-clause-chosen
returns-then-limit-eq0-clause-chosen g c =
    let s = c.args.graph.now in
    let at = g.N.Nodes.at s.nodes in
    let low : (id : ℕ) → IsSome (at id) → id < c.limit.result = subst (λ a. (id : ℕ) → IsSome (a id) → id < c.limit.result) (ap g.N.Nodes.at c.nodes.ensures.nodes) c.limit.ensures in
    let nobody : s.entry ≡ None = entry_none at s.entry c.limit.result c.nodes.ensures.good.top low c.if-limit-eq0.true in
    λ cut ids are. chosen_none at s.m s.dim c.args.level c.args.ef c.args.query.now c.requires.fits c.new.result.items s.entry cut ids nobody c.new.ensures.items

pub returns-in-Some-clause-drafted : goal.returns-in-Some-clause-drafted
returns-in-Some-clause-drafted g c =
    let s = c.args.graph.now in
    let at = g.N.Nodes.at s.nodes in
    let q = c.args.query.now in
    let d = c.in-Some.field-0 in
    IfOk-weaker c.choose_from.result (λ lists. AreChosenFrom at s.entry s.m s.dim d.start (c.min.result + 1) c.args.ef q lists.items) _
    (λ lists h.
    own_drafted at s.m c.args.level _ (lists_drafted at s.m s.dim c.args.level d.start d.top c.args.ef q d.at c.requires.fits s.entry lists.items c.nodes.ensures.good c.in-Some.ensures.some
    (subst (λ k. AreChosenFrom at s.entry s.m s.dim d.start (k + 1) c.args.ef q lists.items) c.min.ensures h)))
    c.choose_from.ensures

pub returns-in-Some-clause-bodies : goal.returns-in-Some-clause-bodies
returns-in-Some-clause-bodies g c =
    let s = c.args.graph.now in
    let at = g.N.Nodes.at s.nodes in
    let q = c.args.query.now in
    let d = c.in-Some.field-0 in
    IfOk-weaker c.choose_from.result (λ lists. AreChosenFrom at s.entry s.m s.dim d.start (c.min.result + 1) c.args.ef q lists.items) _
    (λ lists h.
    own_bodies at s.m c.args.level _ (lists_drafted at s.m s.dim c.args.level d.start d.top c.args.ef q d.at c.requires.fits s.entry lists.items c.nodes.ensures.good c.in-Some.ensures.some
    (subst (λ k. AreChosenFrom at s.entry s.m s.dim d.start (k + 1) c.args.ef q lists.items) c.min.ensures h)))
    c.choose_from.ensures

pub returns-in-Some-clause-chosen : goal.returns-in-Some-clause-chosen
returns-in-Some-clause-chosen g c =
    let s = c.args.graph.now in
    let at = g.N.Nodes.at s.nodes in
    let q = c.args.query.now in
    let d = c.in-Some.field-0 in
    IfOk-weaker c.choose_from.result (λ lists. AreChosenFrom at s.entry s.m s.dim d.start (c.min.result + 1) c.args.ef q lists.items) _
    (λ lists h.
    lists_chosen at s.m s.dim c.args.level d.start d.top c.args.ef q d.at c.requires.fits s.entry lists.items c.nodes.ensures.good c.in-Some.ensures.some
    (subst (λ k. AreChosenFrom at s.entry s.m s.dim d.start (k + 1) c.args.ef q lists.items) c.min.ensures h))
    c.choose_from.ensures

pub returns-clause-drafted : goal.returns-clause-drafted
returns-clause-drafted g c =
    let s = c.args.graph.now in
    own_drafted (g.N.Nodes.at s.nodes) s.m c.args.level _ (drafted_none (g.N.Nodes.at s.nodes) s.m s.dim c.args.level c.args.ef c.args.query.now c.requires.fits c.new-in-None.result.items c.new-in-None.ensures.items)

pub returns-clause-bodies : goal.returns-clause-bodies
returns-clause-bodies g c =
    let s = c.args.graph.now in
    own_bodies (g.N.Nodes.at s.nodes) s.m c.args.level _ (drafted_none (g.N.Nodes.at s.nodes) s.m s.dim c.args.level c.args.ef c.args.query.now c.requires.fits c.new-in-None.result.items c.new-in-None.ensures.items)

pub returns-clause-chosen : goal.returns-clause-chosen
returns-clause-chosen g c =
    let s = c.args.graph.now in
    λ cut ids are. chosen_none (g.N.Nodes.at s.nodes) s.m s.dim c.args.level c.args.ef c.args.query.now c.requires.fits c.new-in-None.result.items s.entry cut ids c.in-None.ensures.none.0 c.new-in-None.ensures.items
