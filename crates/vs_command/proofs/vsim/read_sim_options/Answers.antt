use Rattle.std.proofs.Common.{◌≡◌, Some, None, option_map, ap, sym, ◌∙◌}
use Rattle.vs_defs.specs.Read.{find_sim_option, sim_option, sim_options, named, word}
use Rattle.vs_command.specs.Options.{taken}
use Rattle.vs_command.specs.Words.{sim_option_seen, sim_options_seen}
use Rattle.vs_command.proofs.OptionSteps.{options_more, options_refused, options_unknown}
use Rattle.vs_command.proofs.Steps.{refused}
use Rattle.vs_command.proofs.vsim.read_sim_options.Goals as goal

pub returns-in_default-clause-options : goal.returns-in_default-clause-options
returns-in_default-clause-options c =
    let o = sim_options_seen c.loop-at.options in
    let found : find_sim_option o c.loop-at.at (word c.args.words.now c.loop-at.at) ≡ None = ap (option_map (sim_option o c.loop-at.at)) (sym (c.in_default.ensures ∙ ap (λ w. named w sim_options) c.word.ensures.word)) in
    c.loop-at.invariant.rest ∙ options_unknown find_sim_option o c.loop-at.at c.args.words.now c.loop-at-test.true found

pub returns-in_err-at-clause-options : goal.returns-in_err-at-clause-options
returns-in_err-at-clause-options c =
    let o = sim_options_seen c.loop-at.options in
    let t = sim_option o c.loop-at.at (sim_option_seen c.in-Some.option) in
    let found : find_sim_option o c.loop-at.at (word c.args.words.now c.loop-at.at) ≡ Some t = ap (option_map (sim_option o c.loop-at.at)) (sym (c.in-Some.ensures ∙ ap (λ w. named w sim_options) c.word.ensures.word)) in
    refused sim_options_seen c.from_residual.result c.in_err-at.field-0.0 (taken t c.loop-at.at c.args.words.now) _ c.from_residual.ensures.1 c.in_err-at.ensures.options
    (λ k h. c.loop-at.invariant.rest ∙ options_refused find_sim_option o c.loop-at.at c.args.words.now t k c.loop-at-test.true found h)

pub loop-at-preserved : goal.loop-at-preserved
loop-at-preserved c =
    let o = sim_options_seen c.loop-at.options in
    let t = sim_option o c.loop-at.at (sim_option_seen c.in-Some.option) in
    let found : find_sim_option o c.loop-at.at (word c.args.words.now c.loop-at.at) ≡ Some t = ap (option_map (sim_option o c.loop-at.at)) (sym (c.in-Some.ensures ∙ ap (λ w. named w sim_options) c.word.ensures.word)) in
    record {
      rest = c.loop-at.invariant.rest ∙ options_more find_sim_option o (sim_options_seen c.take.new.self) c.loop-at.at c.in_ok-at.at c.args.words.now t c.loop-at-test.true found c.in_ok-at.ensures.options;
      within = c.in_ok-at.ensures.within.1;
      bounds = c.in_ok-at.ensures.bounds c.loop-at.invariant.bounds;
    }
