use Rattle.std.proofs.Common.{◌≡◌, Some, codes}
use Rattle.vs_defs.specs.Store.{Set, set_of}
use Rattle.vs_generate.specs.Asked.{links_below}
use Rattle.vs_generate.proofs.linking.links_of_all.Given as goal

abbrev pub invariant-loop-number : goal.invariant-loop-number
invariant-loop-number l = (l.store ≡ l.fn.store) × ((x : Set) → set_of (codes "g") l.fn.store ≡ Some x → l.total ≡ links_below l.number x)
