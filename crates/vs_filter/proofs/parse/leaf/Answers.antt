use Rattle.std.proofs.Common.{rules, ◌≡◌, Ok, ap, sym, ◌∙◌, [], ◌∷◌, ◌++◌}
use Rattle.vs_filter.proofs.Built.{adds_operand}
use Rattle.vs_filter.proofs.parse.leaf.Goals as goal

pub returns : goal.returns
returns c = λ parse e puts read.
    let pushed : c.push.new.code ≡ c.args.code.now ++ c.args.instruction ∷ [] = search rules in
    (e, (read ∙ ap (λ rest. Ok (e, rest)) (sym c.rest_of.ensures)), adds_operand c.args.instruction e puts pushed)
