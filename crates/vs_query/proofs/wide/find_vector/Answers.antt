use Rattle.std.proofs.Common.{◌≡◌, ◌<◌, length, map, sym, ap, ◌∙◌, arith}
use Rattle.std.proofs.lemmas.List.Elements.{All-same}
use Rattle.vs_command.specs.Answers.{hits_of}
use Rattle.vs_command.specs.Requests.{search_of}
use Rattle.vs_defs.specs.Truth as truth
use Rattle.vs_truth.specs.declared.candidate.Hit.{Hit}
use Rattle.vs_query.specs.Found.{hit_at}
use Rattle.vs_query.proofs.Named.{all_within, named_is, all_few}
use Rattle.vs_query.proofs.Searches.{are_hits, answers_vector}
use Rattle.vs_query.proofs.wide.find_vector.Goals as goal

pub named-requires : goal.named-requires
named-requires g c =
    let search = c.args.search.now in
    let snap = c.args.snap.now in
    let q = c.args.query.now in
    let hits = c.in_ok-found.found in
    let are = are_hits (search_of search) search.filter snap q hits 0 c.in_ok-found.ensures in
    All-same (λ (h : Hit). h.place < length snap.contents.members) c.as_slice.result.now hits c.as_slice.ensures (all_within q snap.contents.members are.0 hits are.1)

pub returns-clause-found : goal.returns-clause-found
returns-clause-found g c =
    let search = c.args.search.now in
    let snap = c.args.snap.now in
    let found = c.in_ok-found.found in
    let same : map (hit_at search.attrs snap.contents.members) c.as_slice.result.now ≡ map (hit_at search.attrs snap.contents.members) found
    = ap (map (hit_at search.attrs snap.contents.members)) c.as_slice.ensures in
    let named : hits_of c.in_ok-hits.hits ≡ map (hit_at search.attrs snap.contents.members) found = c.in_ok-hits.ensures ∙ same in
    answers_vector (search_of search) snap c.args.query.now found c.in_ok-hits.hits c.dim-dim.result 0 c.dim-dim.ensures.value named c.in_ok-found.ensures

pub returns-clause-scores : goal.returns-clause-scores
returns-clause-scores g c =
    let search = c.args.search.now in
    let snap = c.args.snap.now in
    let members = snap.contents.members in
    let q = c.args.query.now in
    let hits = c.in_ok-found.found in
    let is : c.dim-dim.result ≡ snap.contents.dim = c.dim-dim.ensures.value in
    let are = are_hits (search_of search) search.filter snap q hits 0 c.in_ok-found.ensures in
    let same : map (hit_at search.attrs members) c.as_slice.result.now ≡ map (hit_at search.attrs members) hits = ap (map (hit_at search.attrs members)) c.as_slice.ensures in
    let named : hits_of c.in_ok-hits.hits ≡ map (truth.hit_of q search.attrs) are.0 = c.in_ok-hits.ensures ∙ same ∙ named_is search.attrs q members are.0 hits are.1 in (
      (omega (arith, is, c.dim-dim.ensures.sound.dim_low), omega (arith, is, c.dim-dim.ensures.sound.dim_high)),
      all_few search.attrs q c.dim-dim.result are.0 c.in_ok-hits.hits (c.requires.dim ∙ sym is) named,
    )
