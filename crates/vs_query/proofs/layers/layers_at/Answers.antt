use Rattle.std.proofs.Common.{◌≡◌, ◌+◌, ◌-◌, ◌≤◌, ◌<◌, ℕ, List, map, take, refl, ap, ◌∙◌, arith, IsSomeAnd, slice_get}
use Rattle.vs_defs.specs.Answers.{layer_hits}
use Rattle.vs_defs.specs.Beam.{layers_down}
use Rattle.vs_defs.specs.Request.{Hit}
use Rattle.vs_defs.specs.Store.{Member}
use Rattle.vs_command.specs.Answers.{hits_of}
use Rattle.vs_query.proofs.Depths.{one_more, all_of}
use Rattle.vs_query.proofs.Places.{both_there}
use Rattle.vs_query.proofs.layers.layers_at.Goals.{else-loop-depth-test, then-loop-depth-test+in_ok-layer_at+in_ok-push+else-depth-level}
use Rattle.vs_query.proofs.layers.layers_at.Goals as goal

pub loop-depth-preserved : goal.loop-depth-preserved
loop-depth-preserved g c =
    let snap = c.args.snap.now in
    let level = c.args.level in
    let depth = c.loop-depth.depth in
    let f : Member → ℕ → List Hit = λ x. layer_hits snap x.name x.bits in
    let hits = c.in_ok-layer_at.field-0 in
    let within : depth ≤ level = omega (arith, c.loop-depth-test.true) in
    both_there (slice_get snap.contents.members c.args.place) (λ x. map hits_of c.loop-depth.layers ≡ map (f x) (take depth (layers_down level 0))) (λ x. hits_of hits ≡ f x (level - depth))
    (λ x. map hits_of c.push.new.self ≡ map (f x) (take (depth + 1) (layers_down level 0)))
    (λ x before this. ap (map hits_of) c.in_ok-push.ensures.ok ∙ one_more (f x) level depth (level - depth) c.loop-depth.layers hits within refl before this)
    c.loop-depth.invariant c.in_ok-layer_at.ensures

pub returns : goal.returns
returns g c =
    let snap = c.args.snap.now in
    let level = c.args.level in
    let depth = c.loop-depth.depth in
    let at = slice_get snap.contents.members c.args.place in
    let f : Member → ℕ → List Hit = λ x. layer_hits snap x.name x.bits in
    let before : Member → Type 0 = λ x. map hits_of c.loop-depth.layers ≡ map (f x) (take depth (layers_down level 0)) in
    let all : Member → Type 0 = λ x. map hits_of c.loop-depth-test.layers ≡ map (f x) (layers_down x.level 0) in
    elim c.loop-depth-test.branch [
      | else-loop-depth-test w ↦
          let over : level < depth = omega (arith, w.loop-depth-test) in
          both_there at before (λ x. level ≡ x.level) all
          (λ x b e. ap (map hits_of) w.layers-is ∙ all_of (f x) level depth c.loop-depth.layers over b ∙ ap (λ l. map (f x) (layers_down l 0)) e)
          c.loop-depth.invariant c.requires
      | then-loop-depth-test+in_ok-layer_at+in_ok-push+else-depth-level w ↦
          let hits = w.in_ok-layer_at.field-0 in
          let within : depth ≤ level = omega (arith, w.loop-depth-test.true) in
          let over : level < depth + 1 = omega arith in
          let next : Member → Type 0 = λ x. map hits_of w.push.new.self ≡ map (f x) (take (depth + 1) (layers_down level 0)) in
          let more : IsSomeAnd at next
          = both_there at before (λ x. hits_of hits ≡ f x (level - depth)) next
          (λ x b this. ap (map hits_of) w.in_ok-push.ensures.ok ∙ one_more (f x) level depth (level - depth) c.loop-depth.layers hits within refl b this)
          c.loop-depth.invariant w.in_ok-layer_at.ensures in
          both_there at next (λ x. level ≡ x.level) all
          (λ x b e. ap (map hits_of) w.layers-is ∙ all_of (f x) level (depth + 1) w.push.new.self over b ∙ ap (λ l. map (f x) (layers_down l 0)) e)
          more c.requires
    ]
