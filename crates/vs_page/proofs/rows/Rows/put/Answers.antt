use Rattle.std.proofs.Common.{◌∙◌, ap, sym, cond}
use Rattle.std.specs.Prelude.{None}
use Rattle.std.specs.Option.{option_copied}
use Rattle.vs_page.specs.Changes.{items_of}
use Rattle.vs_page.specs.Rows.{IsPut, row_of}
use Rattle.vs_page.specs.Told.{row_at}
use Rattle.vs_page.proofs.Chunks.{put_seen, ok_said}
use Rattle.vs_page.proofs.rows.Rows.put.Goals as goal

pub returns-else-is_err : goal.returns-else-is_err
returns-else-is_err c =
    let begun = c.begin.new.self in
    let said = row_of begun.width (items_of begun.chunks) in
    let told = row_of begun.width (items_of c.put_in.new.chunks) in
    put_seen (row_at c.args.self.now) said told (λ q. cond begun.is_lost None (told q)) c.args.place (option_copied c.args.words)
    (λ q. sym (ap (λ b. cond b None (said q)) c.if-self.false) ∙ c.begin.ensures q)
    (λ q. ap (λ b. cond b None (told q)) c.if-self.false)
    (ok_said c.put_in.result (IsPut said told c.args.place (option_copied c.args.words)) (sym c.is_err.ensures.value ∙ c.if-is_err.false) c.put_in.ensures)
