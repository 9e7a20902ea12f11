use Rattle.std.proofs.Common.{◌≡◌, ◌<◌, length, map, false, ap, ◌∙◌, IsSomeAnd, slice_get}
use Rattle.std.proofs.lemmas.List.Elements.{All-same}
use Rattle.std.proofs.lemmas.Result.{IfOk-weaker}
use Rattle.vs_defs.specs.Answers.{layer_hits}
use Rattle.vs_command.specs.Answers.{hits_of}
use Rattle.vs_set.specs.Found.{linked_to}
use Rattle.vs_truth.specs.declared.candidate.Hit.{Hit}
use Rattle.vs_truth.specs.Nearest.{AreHits}
use Rattle.vs_query.specs.Found.{hit_at}
use Rattle.vs_query.proofs.Named.{all_within}
use Rattle.vs_query.proofs.Depths.{layer_is}
use Rattle.vs_query.proofs.Places.{some_and}
use Rattle.vs_query.proofs.layers.layer_at.Goals as goal

pub named-requires : goal.named-requires
named-requires g c =
    let snap = c.args.snap.now in
    let members = snap.contents.members in
    let at = some_and (slice_get members c.args.place) (λ x. AreHits x.bits members (linked_to snap x.name c.args.layer) c.in_ok-hits.hits) c.in_ok-hits.ensures in
    All-same (λ (h : Hit). h.place < length members) c.as_slice.result.now c.in_ok-hits.hits c.as_slice.ensures
    (all_within at.0.bits members (linked_to snap at.0.name c.args.layer) c.in_ok-hits.hits at.2)

pub returns : goal.returns
returns g c =
    let snap = c.args.snap.now in
    let members = snap.contents.members in
    IfOk-weaker c.named.result (λ named. hits_of named ≡ map (hit_at false members) c.as_slice.result.now)
    (λ hits. IsSomeAnd (slice_get members c.args.place) (λ x. hits_of hits ≡ layer_hits snap x.name x.bits c.args.layer))
    (λ named e. layer_is snap c.args.place c.args.layer c.in_ok-hits.hits named c.dim-dim.ensures.sound.good.names c.in_ok-hits.ensures (e ∙ ap (map (hit_at false members)) c.as_slice.ensures)) c.named.ensures
