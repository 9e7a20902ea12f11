-- A search that isn't refused looks.
use Rattle.std.proofs.Common.{◌≡◌, ℕ, None, sym, ap, ◌∙◌, arith}
use Rattle.vs_defs.specs.Refuse.{store_refusal}
use Rattle.vs_defs.specs.Request as request
use Rattle.vs_defs.specs.Request.{Search}
use Rattle.vs_defs.specs.Store.{Store, Set, Limits, set_of, plain}
use Rattle.vs_thread_defs.specs.Core.{Looked}
use Rattle.vs_thread_defs.specs.Machine.{GraphHistory, store_of}
use Rattle.vs_shared.specs.Calls.{LooksUnrefused}
use Rattle.vs_pass.specs.Task.{Holding, Works, watching}
use Rattle.vs_pass.proofs.Tasks.{at_the_end, watching_works}

pub looks : (limits : Limits) (n : ℕ) (s log : GraphHistory) (h : Holding limits n s log) (old : Store Set) (search : Search) (looked : Looked) → old ≡ store_of limits log → looked.search ≡ search → looked.set ≡ set_of search.key old
    → store_refusal (plain old) (request.Vsim search) ≡ None → Works limits n log old old (watching old) (λ t. LooksUnrefused limits n s search looked t)
looks limits n s log h old search looked begins search_is set_is unrefused =
    watching_works limits n s log h old (λ t. LooksUnrefused limits n s search looked t) begins (λ t watches ends. (
      record {
        watches = watches;
        looked_at = record { before = omega arith; search_is = search_is; set_is = set_is ∙ ap (set_of search.key) (ends ∙ sym (at_the_end limits t)) };
      },
      ap (λ (x : Store Set). store_refusal (plain x) (request.Vsim search)) (sym ends) ∙ unrefused,
    ))
