use Rattle.std.proofs.Common.{◌≡◌, length, map, sym, ap, ◌∙◌, subst, arith, IsSomeAnd, slice_get}
use Rattle.vs_defs.specs.Answers.{layer_hits, layers_of}
use Rattle.vs_defs.specs.Beam.{layers_down}
use Rattle.vs_defs.specs.Request as request
use Rattle.vs_defs.specs.Store.{Member, Set}
use Rattle.vs_command.specs.Answers.{hits_of}
use Rattle.vs_query.proofs.Depths.{layers_few}
use Rattle.vs_query.proofs.Places.{found_nowhere, member_there, some_and, all_there}
use Rattle.vs_query.proofs.layers.links.Goals as goal

pub returns-in_default-clause-answer : goal.returns-in_default-clause-answer
returns-in_default-clause-answer g c =
    let set = c.args.set.now in
    ap (layers_of set c.args.name.now c.args.scores) (sym (found_nowhere c.args.name.now set.contents.members (sym c.place_of.ensures ∙ c.in_default.is)))

pub returns-clause-answer : goal.returns-clause-answer
returns-clause-answer g c =
    let set = c.args.set.now in
    let name = c.args.name.now in
    let scores = c.args.scores in
    let place = c.in-Some.place in
    let layers = c.in_ok-layers.layers in
    let has : IsSomeAnd (slice_get set.contents.members place) (λ x. map hits_of layers ≡ map (layer_hits set x.name x.bits) (layers_down x.level 0))
    = subst (λ (s : Set). IsSomeAnd (slice_get s.contents.members place) (λ x. map hits_of layers ≡ map (layer_hits s x.name x.bits) (layers_down x.level 0))) c.in_ok-snap.ensures c.in_ok-layers.ensures in
    let at = member_there name set.contents.members place (λ x. map hits_of layers ≡ map (layer_hits set x.name x.bits) (layers_down x.level 0)) (sym c.in-Some.ensures) has in
    let x : Member = at.0 in
    let dim : c.dim-dim.result ≡ set.contents.dim = c.dim-dim.ensures.value ∙ ap (λ (s : Set). s.contents.dim) c.in_ok-snap.ensures in
    (λ t. request.Layers (dim t) scores (at.3 t))
    ∙ ap (λ n. request.Layers set.contents.dim scores (map (layer_hits set n x.bits) (layers_down x.level 0))) at.2
    ∙ ap (layers_of set name scores) (sym at.1)

pub returns-clause-scores : goal.returns-clause-scores
returns-clause-scores g c =
    let snap = c.in_ok-snap.snap in
    let members = snap.contents.members in
    let place = c.in-Some.place in
    let layers = c.in_ok-layers.layers in
    let sound = c.dim-dim.ensures.sound in
    let is : c.dim-dim.result ≡ snap.contents.dim = c.dim-dim.ensures.value in
    let at = some_and (slice_get members place) (λ x. (length x.bits ≡ snap.contents.dim) × (map hits_of layers ≡ map (layer_hits snap x.name x.bits) (layers_down x.level 0)))
    (all_there members place (λ x. length x.bits ≡ snap.contents.dim) (λ x. map hits_of layers ≡ map (layer_hits snap x.name x.bits) (layers_down x.level 0)) sound.good.dims c.in_ok-layers.ensures) in
    let x : Member = at.0 in (
      (omega (arith, is, sound.dim_low), omega (arith, is, sound.dim_high)),
      layers_few snap x.name x.bits c.dim-dim.result (at.2.0 ∙ sym is) (layers_down x.level 0) layers at.2.1,
    )
