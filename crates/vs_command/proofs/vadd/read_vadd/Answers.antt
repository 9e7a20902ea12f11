use Rattle.std.proofs.Common.{◌≡◌, ◌+◌, length, drop, ap, sym, ◌∙◌, arith}
use Rattle.vs_bits.specs.Requests.{add_of}
use Rattle.vs_defs.specs.Request as request
use Rattle.vs_defs.specs.Read.{read_key, read_add_form, read_name, read_options, find_add_option, no_add_options, word}
use Rattle.vs_command.proofs.Steps.{refused, addition_refused}
use Rattle.vs_command.proofs.vadd.read_vadd.Goals as goal

pub returns-in_err-options-clause-add : goal.returns-in_err-options-clause-add
returns-in_err-options-clause-add c =
    let words = c.args.words.now in
    let behind : 5 + length c.in_ok-bits.bits ≡ 4 + c.dim.result + 1 = omega arith in
    refused (λ add. request.Vadd (add_of add)) c.from_residual-in_err-options.result c.in_err-options.field-0.0 _ _ c.from_residual-in_err-options.ensures.1 c.in_err-options.ensures.options
    (λ k h.
    addition_refused words c.in_ok-key.key.now c.in_ok-name.name.now c.in_ok-bits.bits k (ap read_key (sym c.word.ensures.word) ∙ c.in_ok-key.ensures.key)
    (ap read_add_form (sym c.word-2.ensures.word) ∙ c.in_ok-read_add_form.ensures) c.in_ok-bits.ensures.bits
    (ap (λ d. read_name (word words (4 + d))) (sym c.dim.ensures.value) ∙ ap read_name (sym c.word-3.ensures.word) ∙ c.in_ok-name.ensures.name)
    (ap (λ n. read_options find_add_option no_add_options n (drop n words)) behind ∙ h))
