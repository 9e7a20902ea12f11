use Rattle.std.proofs.Common.{ℕ, ◌<◌, get_or}
use Rattle.vs_page.specs.Changes.{items_of}
use Rattle.vs_page.specs.PagedWords.{TellsAt}
use Rattle.vs_page.proofs.page_words.tell_all.Given as goal

abbrev pub invariant-loop-id : goal.invariant-loop-id
invariant-loop-id l = record {
  there : (j : ℕ) → j < l.id-index → TellsAt l.rows (items_of l.map) (get_or l.ids j 0);
  others : (q : ℕ) → TellsAt l.fn.rows (items_of l.map) q → TellsAt l.rows (items_of l.map) q;
}
