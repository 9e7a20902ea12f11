use Rattle.std.proofs.Common.{◌≡◌, ℕ, ◌==◌, ◌&&◌, Bool, take, drop, get_or, sym, ap, ◌∙◌, arith}
use Rattle.std.proofs.lemmas.List.Folds.{length-prefix_len}
use Rattle.std.proofs.lemmas.List.Sums.{prefix_len-le-length}
use Rattle.std.specs.List.{prefix_len}
use Rattle.std.specs.Char.{is_ascii_digit}
use Rattle.vs_defs.specs.Numeral.{are_zeros}
use Rattle.vs_bits.proofs.Numerals.{one_passes, one_stops, zeros_more}
use Rattle.vs_bits.proofs.sign.leading_digits.Goals as goal
use Rattle.vs_bits.proofs.sign.leading_digits.Goals.{then-is_zeros, else-is_zeros, then-digits-test+else-is_ascii_digit, else-digits-test}

pub digits-preserved : goal.digits-preserved
digits-preserved c =
    let text = c.args.text.now in
    let k = c.digits.count in
    let more = zeros_more text k c.digits.is_zeros c.digits-test.true c.digits.invariant.zeros in
    record {
      read = one_passes is_ascii_digit text k 0 c.digits-test.true (sym c.is_ascii_digit.ensures.value ∙ c.if-is_ascii_digit.true) c.digits.invariant.read;
      within = omega (arith, c.digits-test.true);
      zeros = elim c.if-is_zeros.branch [
        | then-is_zeros w ↦ w.is_zeros-is ∙ sym (more ∙ ap (λ (b : Bool). b && (get_or text k 0 == 48)) w.if-is_zeros.true)
        | else-is_zeros w ↦ w.is_zeros-is ∙ w.if-is_zeros.false ∙ sym (more ∙ ap (λ (b : Bool). b && (get_or text k 0 == 48)) w.if-is_zeros.false)
      ];
    }

pub returns-clause-zeros : goal.returns-clause-zeros
returns-clause-zeros c =
    let text = c.args.text.now in
    let k = c.digits.count in
    let all : prefix_len is_ascii_digit text ≡ k =
    elim c.digits-test.branch [
      | then-digits-test+else-is_ascii_digit w ↦ one_stops is_ascii_digit text k 0 w.digits-test.true (sym w.is_ascii_digit.ensures.value ∙ w.if-is_ascii_digit.false) c.digits.invariant.read
      | else-digits-test w ↦ omega (arith, w.digits-test.false, c.digits.invariant.read, prefix_len-le-length is_ascii_digit text)
    ] in
    c.digits.invariant.zeros ∙ ap (λ (n : ℕ). are_zeros (take n text)) (sym all)

pub returns-clause-rest : goal.returns-clause-rest
returns-clause-rest c =
    let text = c.args.text.now in
    let k = c.digits.count in
    let all : prefix_len is_ascii_digit text ≡ k =
    elim c.digits-test.branch [
      | then-digits-test+else-is_ascii_digit w ↦ one_stops is_ascii_digit text k 0 w.digits-test.true (sym w.is_ascii_digit.ensures.value ∙ w.if-is_ascii_digit.false) c.digits.invariant.read
      | else-digits-test w ↦ omega (arith, w.digits-test.false, c.digits.invariant.read, prefix_len-le-length is_ascii_digit text)
    ] in
    c.split_at.ensures.back ∙ ap (λ (n : ℕ). drop n text) (sym (length-prefix_len is_ascii_digit text ∙ all))
