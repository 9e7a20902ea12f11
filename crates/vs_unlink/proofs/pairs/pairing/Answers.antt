use Rattle.std.proofs.Common.{◌≡◌, length, map, sym, ap, ◌∙◌, subst}
use Rattle.std.specs.Prelude.{All, IsSome, nat_eq}
use Rattle.std.specs.List.{IsDistinct}
use Rattle.std.proofs.lemmas.List.Sorted.{All-permutation}
use Rattle.std.proofs.lemmas.Map.Keys.{IsDistinct-IsPermutation}
use Rattle.std.proofs.lemmas.Result.{IfOk-weaker}
use Rattle.vs_graph.specs.Edits.{overwritten}
use Rattle.vs_graph.specs.Good.{links_at, body_at}
use Rattle.vs_laws.proofs.Tests.{nat_eq_flips}
use Rattle.vs_unlink.specs.Candidates.{pair_at, IsCandidate, IsWithin, HasPairsBelow}
use Rattle.vs_unlink.specs.Pairs.{matched, IsPairing}
use Rattle.vs_unlink.proofs.Ranked.{within_from, pairing_from}
use Rattle.vs_unlink.proofs.pairs.pairing.Goals as goal

pub candidates-requires-clause-live : goal.candidates-requires-clause-live
candidates-requires-clause-live g c =
    let at = overwritten c.args.edit.now (g.N.Nodes.at c.args.base.now) in
    subst (All (λ id. IsSome (at id))) (sym c.as_slice.ensures) (All-permutation (λ id. IsSome (at id)) c.args.ids.now c.in_ok-ranked.ranked c.in_ok-ranked.ensures.same c.requires.live)

pub matching-requires-clause-once : goal.matching-requires-clause-once
matching-requires-clause-once g c = subst (IsDistinct nat_eq) (sym c.as_slice-2.ensures) (IsDistinct-IsPermutation nat_eq nat_eq_flips c.args.ids.now c.in_ok-ranked.ranked c.in_ok-ranked.ensures.same c.requires.once)

pub matching-requires-clause-within : goal.matching-requires-clause-within
matching-requires-clause-within g c =
    let at = overwritten c.args.edit.now (g.N.Nodes.at c.args.base.now) in
    let t = links_at at c.args.layer in
    let sound = subst (λ r. All (IsCandidate (body_at at) t r) c.in_ok-found.found.items) (c.as_slice.ensures ∙ sym c.as_slice-2.ensures) c.in_ok-found.ensures.sound in
    subst (All (IsWithin c.as_slice-2.result.now)) (sym c.deref.ensures.value)
    (within_from (body_at at) t c.as_slice-2.result.now c.sort_unstable.new.self.items (All-permutation (IsCandidate (body_at at) t c.as_slice-2.result.now) c.in_ok-found.found.items c.sort_unstable.new.self.items c.sort_unstable.ensures.permutation sound))

pub returns : goal.returns
returns g c =
    let at = overwritten c.args.edit.now (g.N.Nodes.at c.args.base.now) in
    let t = links_at at c.args.layer in
    let ranked = c.in_ok-ranked.ranked in
    let found = c.in_ok-found.found.items in
    let sorted = c.sort_unstable.new.self.items in
    let sound = subst (λ r. All (IsCandidate (body_at at) t r) found) c.as_slice.ensures c.in_ok-found.ensures.sound in
    let all = subst (λ r. HasPairsBelow t r (length r) (map (pair_at r) found)) c.as_slice.ensures c.in_ok-found.ensures.all in
    IfOk-weaker c.matching.result (λ added. added ≡ matched (map (pair_at c.as_slice-2.result.now) c.deref.result.now)) (IsPairing (body_at at) t c.args.ids.now)
    (λ added e.
    subst (IsPairing (body_at at) t c.args.ids.now) (sym (e ∙ ap (λ r. matched (map (pair_at r) c.deref.result.now)) c.as_slice-2.ensures ∙ ap (λ l. matched (map (pair_at ranked) l)) c.deref.ensures.value))
    (pairing_from (body_at at) t c.args.ids.now ranked c.requires.once c.requires.differ c.in_ok-ranked.ensures found sorted sound all c.sort_unstable.ensures.permutation c.sort_unstable.ensures.sorted))
    c.matching.ensures
