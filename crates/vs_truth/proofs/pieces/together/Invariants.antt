use Rattle.std.proofs.Common.{◌≡◌, ℕ, List, take, map}
use Rattle.std.specs.Prelude.{IfOk}
use Rattle.std.specs.List.{AllZip, range_with_len, flat_map}
use Rattle.vs_truth.specs.Nears.{Near, near_of}
use Rattle.vs_truth.proofs.pieces.together.Given as goal

-- the pieces before this one are put together
abbrev pub invariant-loop-piece : goal.invariant-loop-piece
invariant-loop-piece l = (f : ℕ → List Near) (n : ℕ) → AllZip (λ i r. IfOk r (λ v. map near_of v.items ≡ f i)) (range_with_len 0 n) l.pieces → map near_of l.all.items ≡ flat_map f (take l.piece-index (range_with_len 0 n))
