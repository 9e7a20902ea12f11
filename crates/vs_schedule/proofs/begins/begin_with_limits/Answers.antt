use Rattle.std.proofs.Common.{rules, ◌≡◌, ◌∙◌, true, codes, option_map, ap}
use Rattle.vs_defs.specs.Bytes.{same_name}
use Rattle.vs_defs.specs.Limits.{max_actors}
use Rattle.vs_thread_defs.specs.Schedule.{number_within}
use Rattle.vs_store.specs.Seen.{limits_seen}
use Rattle.vs_schedule.specs.Lines.{beginning_by}
use Rattle.vs_schedule.proofs.Lines.{five_begin}
use Rattle.vs_schedule.proofs.begins.begin_with_limits.Goals as goal

pub returns-clause-means : goal.returns-clause-means
returns-clause-means c =
    let is : same_name c.args.name.now (codes "actors") ≡ true = search rules in
    c.begun.ensures.is ∙ ap (λ a. beginning_by a (option_map limits_seen c.lesser_limits.result)) c.number_within.ensures
    ∙ ap (λ l. beginning_by (number_within 1 max_actors c.args.actors.now) l) c.lesser_limits.ensures.named
    ∙ five_begin c.args.name.now c.args.actors.now c.args.set.now c.args.keys.now c.args.all.now is
