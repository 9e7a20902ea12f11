use Rattle.std.proofs.Common.{ap, sym, subst, ◌∙◌}
use Rattle.std.specs.Prelude.{Some}
use Rattle.std.specs.Option.{option_copied}
use Rattle.vs_page.specs.Changes.{items_of}
use Rattle.vs_page.specs.Rows.{IsPut}
use Rattle.vs_page.specs.Told.{row_at}
use Rattle.vs_page.proofs.Words.{put_here, put_there}
use Rattle.vs_page.proofs.page_words.tell.Goals as goal

pub returns-in-Some-clause-there : goal.returns-in-Some-clause-there
returns-in-Some-clause-there c =
    put_here (items_of c.args.map.now) c.args.rows.now c.put.new.self c.args.id c.in-Some.node.now (sym c.get.ensures ∙ ap option_copied c.in-Some.is)
    (subst (λ w. IsPut (row_at c.args.rows.now) (row_at c.put.new.self) c.args.id (Some w)) c.bits.ensures c.put.ensures)

pub returns-in-Some-clause-others : goal.returns-in-Some-clause-others
returns-in-Some-clause-others c =
    put_there (items_of c.args.map.now) c.args.rows.now c.put.new.self c.args.id c.in-Some.node.now (sym c.get.ensures ∙ ap option_copied c.in-Some.is)
    (subst (λ w. IsPut (row_at c.args.rows.now) (row_at c.put.new.self) c.args.id (Some w)) c.bits.ensures c.put.ensures)
