use Rattle.std.proofs.Common.{◌≡◌, ◌++◌, sym, subst}
use Rattle.std.specs.Prelude.{OnOk}
use Rattle.vs_defs.specs.Bytes.{Bytes}
use Rattle.vs_command.specs.Refusals.{refusal_of}
use Rattle.vs_schedule.proofs.Lines.{refused_same}
use Rattle.vs_schedule.proofs.print.push_refusal.Goals as goal

pub returns : goal.returns
returns c = subst (λ (t : Bytes). OnOk c.push_result.result (c.push_result.new.out ≡ c.args.out.now ++ t)) (sym (refused_same (refusal_of c.args.refusal))) c.push_result.ensures
