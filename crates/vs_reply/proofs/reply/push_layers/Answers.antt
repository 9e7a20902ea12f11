use Rattle.std.proofs.Common.{◌≤◌, ◌∙◌, false, length, arith, ap, sym}
use Rattle.std.proofs.lemmas.Simd.{map-map}
use Rattle.vs_defs.specs.Reply.{array_of, hits_reply}
use Rattle.vs_command.specs.Answers.{hits_of}
use Rattle.vs_reply.proofs.Arrays.{array_map, all_parts}
use Rattle.vs_reply.proofs.reply.push_layers.Goals as goal

pub returns : goal.returns
returns c =
    let layers = c.args.layers.now in
    let reply = hits_reply c.args.dim c.args.scores false in
    let le : length layers ≤ c.loop-layer.layer-index = omega arith in
    all_parts (λ hits. reply (hits_of hits)) c.args.out.now c.loop-layer.out _ (length layers) c.loop-layer.layer-index layers le
    (array_map (λ hits. reply (hits_of hits)) layers ∙ ap array_of (sym (map-map reply hits_of layers))) c.loop-layer.invariant
