use Rattle.std.proofs.Common.{◌≡◌, ◌∙◌, ◌∷◌, ◌++◌, [], List, ap, refl, sym}
use Rattle.std.specs.Prelude.{unwrap_or, None}
use Rattle.std.proofs.lemmas.Result.{on_ok_weaker}
use Rattle.vs_page.specs.declared.page_map.Change.{Change}
use Rattle.vs_page.specs.Changes.{says, items_of}
use Rattle.vs_page.proofs.Puts.{says_here, says_else}
use Rattle.vs_page.proofs.page_map.PageMap.take_to.Goals as goal

pub returns-clause-from : goal.returns-clause-from
returns-clause-from g c =
    let old = c.args.self.now in
    let out : Change g.row.T.Denot = record { id = c.args.from; item = None } in
    let in' : Change g.row.T.Denot = record { id = c.args.to; item = c.in_ok-item.item } in
    let first : c.push_reserved.new.self.items ≡ out ∷ [] = c.push_reserved.ensures.items ∙ ap (λ (xs : List (Change g.row.T.Denot)). xs ++ out ∷ []) c.in_ok-changes.ensures.items in
    let made : c.push_reserved-2.new.self.items ≡ out ∷ in' ∷ [] = c.push_reserved-2.ensures.items ∙ ap (λ (xs : List (Change g.row.T.Denot)). xs ++ in' ∷ []) first in
    on_ok_weaker c.publish.result
    (λ h. h c.args.from ∙ ap (λ o. unwrap_or o (items_of old c.args.from)) (ap (λ l. says l c.args.from) made ∙ says_here out (in' ∷ []) c.args.from refl))
    c.publish.ensures.ok

pub returns-clause-to : goal.returns-clause-to
returns-clause-to g c =
    let old = c.args.self.now in
    let out : Change g.row.T.Denot = record { id = c.args.from; item = None } in
    let in' : Change g.row.T.Denot = record { id = c.args.to; item = c.in_ok-item.item } in
    let first : c.push_reserved.new.self.items ≡ out ∷ [] = c.push_reserved.ensures.items ∙ ap (λ (xs : List (Change g.row.T.Denot)). xs ++ out ∷ []) c.in_ok-changes.ensures.items in
    let made : c.push_reserved-2.new.self.items ≡ out ∷ in' ∷ [] = c.push_reserved-2.ensures.items ∙ ap (λ (xs : List (Change g.row.T.Denot)). xs ++ in' ∷ []) first in
    let copy : c.in_ok-item.item ≡ items_of old c.args.from = c.in_ok-item.ensures ∙ c.get.ensures in
    on_ok_weaker c.publish.result
    (λ h ne. h c.args.to
    ∙ ap (λ o. unwrap_or o (items_of old c.args.to)) (ap (λ l. says l c.args.to) made ∙ says_else out (in' ∷ []) c.args.to (λ e. ne (sym e)) ∙ says_here in' [] c.args.to refl)
    ∙ copy)
    c.publish.ensures.ok

pub returns-clause-others : goal.returns-clause-others
returns-clause-others g c =
    let old = c.args.self.now in
    let out : Change g.row.T.Denot = record { id = c.args.from; item = None } in
    let in' : Change g.row.T.Denot = record { id = c.args.to; item = c.in_ok-item.item } in
    let first : c.push_reserved.new.self.items ≡ out ∷ [] = c.push_reserved.ensures.items ∙ ap (λ (xs : List (Change g.row.T.Denot)). xs ++ out ∷ []) c.in_ok-changes.ensures.items in
    let made : c.push_reserved-2.new.self.items ≡ out ∷ in' ∷ [] = c.push_reserved-2.ensures.items ∙ ap (λ (xs : List (Change g.row.T.Denot)). xs ++ in' ∷ []) first in
    on_ok_weaker c.publish.result
    (λ h q ne nt. h q
    ∙ ap (λ o. unwrap_or o (items_of old q)) (ap (λ l. says l q) made ∙ says_else out (in' ∷ []) q (λ e. ne (sym e)) ∙ says_else in' [] q (λ e. nt (sym e))))
    c.publish.ensures.ok
