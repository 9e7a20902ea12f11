use Rattle.std.proofs.Common.{◌-◌, length, take, drop, refl}
use Rattle.std.proofs.lemmas.List.{take_rest}
use Rattle.vs_resp.proofs.WholeBulks.{bulk_at_front}
use Rattle.vs_resp.proofs.whole.whole_bulk.Goals as goal

pub returns-clause-bulk : goal.returns-clause-bulk
returns-clause-bulk c =
    let p = c.args.bytes.now in
    let s = c.in_ok-line.line.size in
    bulk_at_front p (take (length p - s) (drop s p)) s c.in_ok-line.line.value (take_rest p s) c.if-end-bytes.false (c.if-not-ends_line.ensures.line_end refl) c.in_ok-line.ensures.leads

pub returns-clause-within : goal.returns-clause-within
returns-clause-within c = c.if-not-ends_line.ensures.within refl
