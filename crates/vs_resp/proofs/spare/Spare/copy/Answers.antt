use Rattle.std.proofs.Common.{◌∙◌, ◌++◌, sym, ap, length, take, List, ℕ}
use Rattle.std.proofs.Math.Seq.{take-take}
use Rattle.vs_resp.proofs.spare.Spare.copy.Goals as goal

pub returns-then-from-ge-LEAST_BYTES : goal.returns-then-from-ge-LEAST_BYTES
returns-then-from-ge-LEAST_BYTES c =
    let n = length c.args.word.now in
    c.truncate.ensures.items
    ∙ ap (λ (l : List ℕ). take n l) (c.in_ok-extend_from_slice.ensures.items ∙ ap (λ (l : List ℕ). l ++ take 16 c.args.from.now) c.in_ok-copy.ensures)
    ∙ take-take n 16 c.args.from.now c.if-word-le-LEAST_BYTES.true
    ∙ sym c.requires
