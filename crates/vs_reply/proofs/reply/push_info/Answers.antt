use Rattle.std.proofs.Common.{◌∙◌, ◌∷◌, [], codes}
use Rattle.vs_defs.specs.Reply.{bulk, count}
use Rattle.vs_reply.proofs.Arrays.{head, in_turn, grown, grown_twice}
use Rattle.vs_reply.proofs.reply.push_info.Goals as goal

pub returns : goal.returns
returns c =
    let i = c.args.info.now in
    let form = grown (bulk (codes "bin")) c.in_ok-push_bulk-2.ensures (grown (bulk (codes "quant-type")) c.in_ok-push_bulk.ensures c.in_ok-push_number.ensures) in
    let links = grown_twice (bulk (codes "hnsw-m")) (count i.m) c.in_ok-push_field.ensures form in
    let dim = grown_twice (bulk (codes "vector-dim")) (count i.dim) c.in_ok-push_field-2.ensures links in
    let size = grown_twice (bulk (codes "size")) (count i.size) c.in_ok-push_field-3.ensures dim in
    let level = grown_twice (bulk (codes "max-level")) (count i.max_level) c.in_ok-push_field-4.ensures size in
    grown_twice (bulk (codes "attributes-count")) (count i.attributes) c.in_ok-push_field-5.ensures level
    ∙ in_turn c.args.out.now (head 12 ∷ bulk (codes "quant-type") ∷ bulk (codes "bin") ∷ bulk (codes "hnsw-m") ∷ count i.m ∷ bulk (codes "vector-dim") ∷ count i.dim
    ∷ bulk (codes "size") ∷ count i.size ∷ bulk (codes "max-level") ∷ count i.max_level ∷ bulk (codes "attributes-count") ∷ count i.attributes ∷ [])
