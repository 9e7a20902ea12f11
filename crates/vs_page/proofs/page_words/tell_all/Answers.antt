use Rattle.std.proofs.Common.{get_or, arith}
use Rattle.vs_page.specs.Changes.{items_of}
use Rattle.vs_page.specs.PagedWords.{TellsAt}
use Rattle.vs_page.proofs.Words.{so_far, of_all}
use Rattle.vs_page.proofs.page_words.tell_all.Goals as goal

pub loop-id-preserved : goal.loop-id-preserved
loop-id-preserved c = record {
  there = so_far (TellsAt c.tell.new.rows (items_of c.args.map.now)) c.args.ids.now c.loop-id.id-index
      (λ j less. c.tell.ensures.others (get_or c.args.ids.now j 0) (c.loop-id.invariant.there j less)) c.tell.ensures.there;
  others = λ q tells. c.tell.ensures.others q (c.loop-id.invariant.others q tells);
}

pub returns-clause-there : goal.returns-clause-there
returns-clause-there c = of_all (TellsAt c.loop-id.rows (items_of c.args.map.now)) c.args.ids.now (λ j less. c.loop-id.invariant.there j (omega (arith, less)))
