use Rattle.std.proofs.Common.{◌≡◌, ◌≤◌, ◌++◌, ◌∙◌, List, length, flat_map, codes, ap, arith}
use Rattle.std.proofs.lemmas.List.{take_all}
use Rattle.vs_command.specs.declared.answer.NamedHit.{NamedHit}
use Rattle.vs_defs.specs.Bytes.{Bytes}
use Rattle.vs_generate.proofs.Lines.{ended, names_line, spaced}
use Rattle.vs_generate.proofs.printing.push_names.Goals as goal

pub returns : goal.returns
returns c =
    let hits = c.args.hits.now in
    let le : length hits ≤ c.loop-hit.hit-index = omega (arith, ap (λ (l : List NamedHit). length l) c.as_slice-hit-items.ensures) in
    let all : c.loop-hit.text ≡ (c.args.text.now ++ c.args.word.now) ++ flat_map spaced hits =
    c.loop-hit.invariant ∙ ap (λ l. (c.args.text.now ++ c.args.word.now) ++ flat_map spaced l) (take_all c.loop-hit.hit-index hits le) in
    ended c.push-2.result c.loop-hit.text c.push-2.new.self _ c.push-2.ensures.ok (ap (λ (l : Bytes). l ++ codes "\n") all ∙ names_line c.args.text.now c.args.word.now hits)
