use Rattle.std.proofs.Common.{rules, ◌≡◌, ◌-◌, ◌<◌, [], ◌∷◌, ◌++◌, map, true, Ok, ap, ap₂, sym, ◌∙◌}
use Rattle.std.proofs.lemmas.List.{map-append}
use Rattle.vs_defs.specs.FilterText.{literals_within, next, is_comma, is_close_list}
use Rattle.vs_filter.specs.Seen.{tokens_seen}
use Rattle.vs_filter.specs.Code.{single_seen}
use Rattle.vs_filter.proofs.ItemSteps.{with_items, items_comma, items_close}
use Rattle.vs_filter.proofs.literal.literals.Goals as goal

pub loop-left-preserved : goal.loop-left-preserved
loop-left-preserved c =
    let more = tokens_seen c.in_ok-item.more.now in
    let a = single_seen c.in_ok-item.item in
    let some : 0 < c.loop-left.left = search rules in
    let comma : is_comma (next more) ≡ true = search rules in
    let pushed : c.push.new.self ≡ c.loop-left.items ++ c.in_ok-item.item ∷ [] = search rules in
    ap₂ (λ items rest. with_items items (literals_within (c.loop-left.left - 1) rest)) (ap (map single_seen) pushed ∙ map-append single_seen c.loop-left.items (c.in_ok-item.item ∷ [])) c.rest_of-rest.ensures
    ∙ items_comma c.loop-left.left (map single_seen c.loop-left.items) (tokens_seen c.loop-left.rest.now) more a some c.in_ok-item.ensures comma
    ∙ c.loop-left.invariant

pub returns-then-is_close_list : goal.returns-then-is_close_list
returns-then-is_close_list c =
    let more = tokens_seen c.in_ok-item.more.now in
    let a = single_seen c.in_ok-item.item in
    let some : 0 < c.loop-left.left = search rules in
    let close : is_close_list (next more) ≡ true = search rules in
    let pushed : c.push.new.self ≡ c.loop-left.items ++ c.in_ok-item.item ∷ [] = search rules in
    sym c.loop-left.invariant
    ∙ items_close c.loop-left.left (map single_seen c.loop-left.items) (tokens_seen c.loop-left.rest.now) more a some c.in_ok-item.ensures close
    ∙ ap₂ (λ items rest. Ok (items, rest)) (sym (ap (map single_seen) pushed ∙ map-append single_seen c.loop-left.items (c.in_ok-item.item ∷ []))) (sym c.rest_of.ensures)
