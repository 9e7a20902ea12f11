use Rattle.std.proofs.Common.{◌≡◌, ◌∙◌, ◌∷◌, ◌++◌, [], List, ap, refl, sym}
use Rattle.std.specs.Prelude.{unwrap_or}
use Rattle.std.proofs.lemmas.Result.{on_ok_weaker}
use Rattle.vs_page.specs.declared.page_map.Change.{Change}
use Rattle.vs_page.specs.Changes.{says, items_of}
use Rattle.vs_page.proofs.Puts.{says_here, says_else}
use Rattle.vs_page.proofs.page_map.PageMap.put.Goals as goal

pub returns-clause-there : goal.returns-clause-there
returns-clause-there g c =
    let old = c.args.self.now in
    let one : Change g.row.T.Denot = record { id = c.args.id; item = c.args.item } in
    let made : c.push_reserved.new.self.items ≡ one ∷ [] = c.push_reserved.ensures.items ∙ ap (λ (xs : List (Change g.row.T.Denot)). xs ++ one ∷ []) c.in_ok-changes.ensures.items in
    on_ok_weaker c.publish.result
    (λ h. h c.args.id ∙ ap (λ o. unwrap_or o (items_of old c.args.id)) (ap (λ l. says l c.args.id) made ∙ says_here one [] c.args.id refl))
    c.publish.ensures.ok

pub returns-clause-others : goal.returns-clause-others
returns-clause-others g c =
    let old = c.args.self.now in
    let one : Change g.row.T.Denot = record { id = c.args.id; item = c.args.item } in
    let made : c.push_reserved.new.self.items ≡ one ∷ [] = c.push_reserved.ensures.items ∙ ap (λ (xs : List (Change g.row.T.Denot)). xs ++ one ∷ []) c.in_ok-changes.ensures.items in
    on_ok_weaker c.publish.result
    (λ h q ne. h q ∙ ap (λ o. unwrap_or o (items_of old q)) (ap (λ l. says l q) made ∙ says_else one [] q (λ e. ne (sym e))))
    c.publish.ensures.ok
