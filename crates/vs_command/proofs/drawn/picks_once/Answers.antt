use Rattle.std.proofs.Common.{◌≡◌, ◌<◌, ◌+◌, ◌-◌, ◌++◌, [], ◌∷◌, length, get_or, take, ap, sym, subst, ◌∙◌, arith}
use Rattle.std.specs.Prelude.{Some}
use Rattle.std.specs.Option.{unwrap_or}
use Rattle.std.specs.List.{swap}
use Rattle.std.specs.Ordering.{nat_cmp}
use Rattle.std.specs.BTreeMap.{Updates}
use Rattle.vs_command.proofs.Displaced.{until, standing, StandFrom, all_stand, length-until, next_turn, still_stand, one_picked}
use Rattle.vs_command.proofs.drawn.picks_once.Goals as goal

pub loop-turn-init : goal.loop-turn-init
loop-turn-init c = record {
  picked = c.new-picked.ensures.items;
  stand = all_stand c.args.members c.new-displaced.result c.new-displaced.ensures.empty;
  few = c.requires;
}

pub loop-turn-preserved : goal.loop-turn-preserved
loop-turn-preserved c =
    let i = c.loop-turn.turn in
    let place = i + c.place_of_word.result in
    let before = c.loop-turn.displaced in
    let xs = until c.args.members c.args.words.now i in
    let below : c.place_of_word.result < c.args.members - i = c.place_of_word.ensures.within (omega arith) in
    let inside : place < length xs = omega (arith, length-until c.args.members c.args.words.now i) in
    let turned : until c.args.members c.args.words.now (i + 1) ≡ swap xs i place = next_turn c.args.members i c.place_of_word.result c.args.words.now c.loop-turn-test.true c.place_of_word.ensures.place in
    let moved : c.unwrap_or-moved.result ≡ standing before i = c.unwrap_or-moved.ensures ∙ ap (λ o. unwrap_or o i) (c.copied.ensures ∙ c.get.ensures.value) in
    let there : c.unwrap_or.result ≡ get_or xs place 0 = c.unwrap_or.ensures ∙ ap (λ o. unwrap_or o place) c.in_ok-insert.ensures.old ∙ sym (c.loop-turn.invariant.stand place (omega arith) inside) in
    record {
      picked = c.in_ok-push.ensures.items ∙ ap (λ l. l ++ c.unwrap_or.result ∷ []) c.loop-turn.invariant.picked ∙ ap (λ x. take i xs ++ x ∷ []) there ∙ sym (one_picked i place xs (omega arith) inside) ∙ ap (take (i + 1)) (sym turned);
      stand = subst (λ ys. StandFrom (i + 1) ys c.insert.new.self) (sym turned) (still_stand i place xs before c.insert.new.self (omega arith) inside c.loop-turn.invariant.stand (subst (λ x. Updates nat_cmp before c.insert.new.self place (Some x)) moved c.in_ok-insert.ensures.updates));
      few = c.loop-turn.invariant.few;
    }
