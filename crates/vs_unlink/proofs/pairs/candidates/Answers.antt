use Rattle.std.proofs.Common.{◌≡◌, length, map, ap, ◌∙◌}
use Rattle.std.specs.Prelude.{All}
use Rattle.std.proofs.lemmas.Result.{IfOk-weaker}
use Rattle.vs_graph.specs.Edits.{overwritten}
use Rattle.vs_graph.specs.Good.{links_at, body_at}
use Rattle.vs_unlink.specs.Candidates.{some_now, node_in, pair_at, IsCandidate, IsPlaced, HasPairsBelow, HasPlacedBelow}
use Rattle.vs_unlink.proofs.Places.{places_alike, sound_by_ids, all_by_ids}
use Rattle.vs_unlink.proofs.pairs.candidates.Goals as goal

pub placed-requires-clause-alike : goal.placed-requires-clause-alike
placed-requires-clause-alike g c =
    let at = overwritten c.args.edit.now (g.N.Nodes.at c.args.base.now) in
    let nodes = c.deref.result.now in
    let same : map some_now nodes ≡ map at c.args.ranked.now = ap (map some_now) c.deref.ensures.value ∙ c.in_ok-nodes.ensures in
    places_alike at nodes c.args.ranked.now c.args.layer same c.requires.alike

pub returns-clause-sound : goal.returns-clause-sound
returns-clause-sound g c =
    let at = overwritten c.args.edit.now (g.N.Nodes.at c.args.base.now) in
    let nodes = c.deref.result.now in
    let ranked = c.args.ranked.now in
    let layer = c.args.layer in
    let same : map some_now nodes ≡ map at ranked = ap (map some_now) c.deref.ensures.value ∙ c.in_ok-nodes.ensures in
    IfOk-weaker c.placed.result (λ found. All (IsPlaced (node_in nodes) layer ranked) found.items) (λ found. All (IsCandidate (body_at at) (links_at at layer) ranked) found.items)
    (λ found sound. sound_by_ids at nodes ranked layer same found.items sound) c.placed.ensures.sound

pub returns-clause-all : goal.returns-clause-all
returns-clause-all g c =
    let at = overwritten c.args.edit.now (g.N.Nodes.at c.args.base.now) in
    let nodes = c.deref.result.now in
    let ranked = c.args.ranked.now in
    let layer = c.args.layer in
    let same : map some_now nodes ≡ map at ranked = ap (map some_now) c.deref.ensures.value ∙ c.in_ok-nodes.ensures in
    IfOk-weaker c.placed.result (λ found. HasPlacedBelow (node_in nodes) layer ranked (length ranked) (map (pair_at ranked) found.items))
    (λ found. HasPairsBelow (links_at at layer) ranked (length ranked) (map (pair_at ranked) found.items)) (λ found all. all_by_ids at nodes ranked layer same (map (pair_at ranked) found.items) all) c.placed.ensures.all
