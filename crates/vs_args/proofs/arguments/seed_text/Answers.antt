use Rattle.std.proofs.Common.{rules, ◌≡◌, ◌∙◌, ap, Some, None, codes, option_map, map}
use Rattle.clap.specs.Words.{found_of, first_value, rows_of, subcommand_rows_of}
use Rattle.clap.proofs.WalkLemmas.{first_value-rows}
use Rattle.vs_defs.specs.ProgramWords.{value_in, seed}
use Rattle.vs_defs.specs.ProgramWords.Job.{Script}
use Rattle.vs_args.proofs.ReadByClap.{seed_law, value_in_rows, no_rows, seed_in}
use Rattle.vs_args.proofs.arguments.seed_text.Goals as goal

pub unreachable-requires : goal.unreachable-requires
unreachable-requires c =
    let law = seed_law (map (λ w. w.now) c.args.words.now) c.requires in
    no_rows (subcommand_rows_of c.in_ok-found.found) law.0 (ap seed_in c.in_ok-found.ensures.ok ∙ law.1.read) c.in_default.ensures.rows

pub unreachable-requires-in-None : goal.unreachable-requires-in-None
unreachable-requires-in-None c =
    let law = seed_law (map (λ w. w.now) c.args.words.now) c.requires in
    let read = ap seed_in c.in_ok-found.ensures.ok ∙ law.1.read in
    let inner = found_of c.in-Some.inner.now in
    let value : first_value inner (codes "seed") ≡ Some law.0 =
    first_value-rows inner (codes "seed") ∙ value_in_rows (subcommand_rows_of c.in_ok-found.found) (rows_of inner) law.0 read c.in-Some.ensures.rows in
    let none : None ≡ first_value inner (codes "seed") = c.in-None.ensures in
    cc (none, value)

pub returns-clause-text : goal.returns-clause-text
returns-clause-text c =
    let law = seed_law (map (λ w. w.now) c.args.words.now) c.requires in
    let read = ap seed_in c.in_ok-found.ensures.ok ∙ law.1.read in
    let inner = found_of c.in-Some.inner.now in
    let value : first_value inner (codes "seed") ≡ Some law.0 =
    first_value-rows inner (codes "seed") ∙ value_in_rows (subcommand_rows_of c.in_ok-found.found) (rows_of inner) law.0 read c.in-Some.ensures.rows in
    let told : Some c.in-Some-get_str.text.now ≡ first_value inner (codes "seed") = c.in-Some-get_str.ensures in
    let text : c.in-Some-get_str.text.now ≡ law.0 = cc (told, value) in
    ap (λ t. option_map Script (value_in seed t)) text ∙ law.1.job

pub returns-in_err-found-clause-err : goal.returns-in_err-found-clause-err
returns-in_err-found-clause-err c =
    let taken = (seed_law (map (λ w. w.now) c.args.words.now) c.requires).1.taken in
    search rules
