-- Items in pages, pages in branches, branches in a root. Lists may be short: what they lack is no item.
--     item_at, list_at        an item of a page, or none; a list of lists' list, or none
--     at_root                 the item at an id
--     page_with, branch_with, root_with       the same with another item in one place that is there
use Rattle.std.specs.Prelude.{◌/◌, ◌%◌, ℕ, List, [], None, slice_index_or, slice_set}
use Rattle.std.specs.declared.option.Option.{Option}

abbrev pub item_at : {X : Type 0} → List (Option X) → ℕ → Option X
item_at items place = slice_index_or items place None

abbrev pub list_at : {X : Type 0} → List (List X) → ℕ → List X
list_at lists place = slice_index_or lists place []

abbrev pub at_digits : {X : Type 0} → List (List (List (Option X))) → ℕ → ℕ → ℕ → Option X
at_digits root branch page place = item_at (list_at (list_at root branch) page) place

abbrev pub at_root : {X : Type 0} → List (List (List (Option X))) → ℕ → Option X
at_root root id = at_digits root (id / 4096) (id / 16 % 256) (id % 16)

abbrev pub page_with : {X : Type 0} → List (Option X) → ℕ → Option X → List (Option X)
page_with items place item = slice_set items place item

abbrev pub branch_with : {X : Type 0} → List (List (Option X)) → ℕ → ℕ → Option X → List (List (Option X))
branch_with pages page place item = slice_set pages page (page_with (list_at pages page) place item)

abbrev pub root_with : {X : Type 0} → List (List (List (Option X))) → ℕ → ℕ → ℕ → Option X → List (List (List (Option X)))
root_with root branch page place item = slice_set root branch (branch_with (list_at root branch) page place item)
