-- How many nodes are read where a member is joined layer by layer.
use Rattle.std.proofs.Common.{◌≡◌, ℕ, zero, suc, ◌+◌, ◌-◌, ◌*◌, ◌≤◌, eqb, sym, ap, ◌∙◌, subst, arith}
use Rattle.std.proofs.Math.Nat.{mul-le-mul_left, add-mul, mul-one}
use Rattle.std.proofs.lemmas.Bool.{ne_eqb, cond-false}
use Rattle.vs_graph.specs.Good.{most_links}
use Rattle.vs_beam.proofs.Turns.{one_more_times}
use Rattle.vs_defs.specs.Counts.{commit_reads}
use Rattle.vs_insert.specs.Joined.{reads_of}

-- layer 0 alone takes all that a layer may take; each other one leaves a read
abbrev pub ground : ℕ → ℕ
ground zero = 1
ground (suc n) = 0

pub layer_reads : (m layer : ℕ) → 4 ≤ m → reads_of m layer + 1 ≤ reads_of m 0 + ground layer
layer_reads m zero h = omega arith
layer_reads m (suc n) h =
    let most : most_links m (suc n) ≡ m = cond-false (eqb (suc n) 0) (2 * m) m (ne_eqb (suc n) 0 (λ e. absurd (omega (arith, e)))) in
    let more : m * (m + 4) ≤ m * (2 * m + 4) = mul-le-mul_left m (omega arith) in
    subst (λ k. m * (k + 4) + (k + 4) + 1 ≤ m * (2 * m + 4) + (2 * m + 4) + 0) (sym most) (omega (arith, more, h))

pub told_more : (m layer reads after start done : ℕ) → 4 ≤ m → reads + done ≤ start + done * reads_of m 0 + 0 → after ≤ reads + reads_of m layer → after + (done + 1) ≤ start + (done + 1) * reads_of m 0 + ground layer
told_more m layer reads after start done h before cost = omega (arith, before, cost, layer_reads m layer h, one_more_times done (reads_of m 0))

one_step : (m n layer : ℕ) (reads start count done : ℕ) → layer ≡ suc n → done + n ≡ count → layer ≤ count → ((d : ℕ) → d + layer ≡ count → reads + d ≤ start + d * reads_of m 0 + ground layer)
    → reads + (done - 1) ≤ start + (done - 1) * reads_of m 0 + 0
one_step m n layer reads start count done is sum within told =
    subst (λ k. reads + (done - 1) ≤ start + (done - 1) * reads_of m 0 + ground k) is (told (done - 1) (omega (arith, is, sum, within)))

-- a layer is joined
pub told_next : (m n layer reads after start count done : ℕ) → 4 ≤ m → layer ≡ suc n → done + n ≡ count → layer ≤ count → ((d : ℕ) → d + layer ≡ count → reads + d ≤ start + d * reads_of m 0 + ground layer)
    → after ≤ reads + reads_of m n → after + done ≤ start + done * reads_of m 0 + ground n
told_next m n layer reads after start count done h is sum within told cost =
    let one : done - 1 + 1 ≡ done = omega (arith, is, sum, within) in
    subst (λ k. after + k ≤ start + k * reads_of m 0 + ground n) one (told_more m n reads after start (done - 1) h (one_step m n layer reads start count done is sum within told) cost)

ground_low : (n : ℕ) → ground n ≤ 1
ground_low zero = omega arith
ground_low (suc n) = omega arith

-- where a layer is refused, those below are not looked at
pub told_refused : (m n layer reads after start count : ℕ) → 4 ≤ m → layer ≡ suc n → layer ≤ count → ((d : ℕ) → d + layer ≡ count → reads + d ≤ start + d * reads_of m 0 + ground layer)
    → after ≤ reads + reads_of m n → after + count ≤ start + count * reads_of m 0 + 1
told_refused m n layer reads after start count h is within told cost =
    let done = count - n in
    let sum : done + n ≡ count = omega (arith, is, within) in
    let here = told_next m n layer reads after start count done h is sum within told cost in
    let all : count * reads_of m 0 ≡ done * reads_of m 0 + n * reads_of m 0 = ap (λ k. k * reads_of m 0) (sym sum) ∙ add-mul done n (reads_of m 0) in
    let one : n * 1 ≤ n * reads_of m 0 = mul-le-mul_left n (omega (arith, h)) in
    omega (arith, here, all, one, mul-one n, ground_low n, sum)

-- with the look at the entry
pub told_whole : (m level count before first after : ℕ) → count ≡ level + 1 → first ≤ before + level → after + count ≤ first + count * reads_of m 0 + 1 → after ≤ before + commit_reads level m
told_whole m level count before first after is look joined =
    let one : reads_of m 0 ≡ m * (2 * m + 4) + 2 * m + 4 = omega arith in
    let all : count * reads_of m 0 ≡ commit_reads level m = ap (λ n. n * reads_of m 0) is ∙ ap (λ k. (level + 1) * k) one in
    omega (arith, is, look, joined, all)
