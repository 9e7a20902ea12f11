use Rattle.std.proofs.Common.{◌∙◌, sym, subst}
use Rattle.std.specs.Option.{option_copied}
use Rattle.vs_page.specs.Changes.{items_of}
use Rattle.vs_page.specs.Rows.{IsPut, row_of}
use Rattle.vs_page.proofs.Chunks.{put_chunk}
use Rattle.vs_page.proofs.rows.put_in.Goals as goal

pub returns-in-Ok : goal.returns-in-Ok
returns-in-Ok c =
    let old = items_of c.args.chunks.now in
    let new = items_of c.put.new.self in
    subst (λ o. IsPut (row_of c.args.width old) (row_of c.args.width new) c.args.place (option_copied o)) (sym c.in-Some.is)
    (put_chunk c.args.width c.args.place old new (λ q far. c.in-Ok.ensures.others q far ∙ c.in_ok-taken.ensures.others q far) c.in-Some.words.now c.in_ok-taken.taken c.chunk_with-chunk.result c.in_ok-taken.ensures.taken c.in-Ok.ensures.there
    c.chunk_with-chunk.ensures.wide c.chunk_with-chunk.ensures.some c.chunk_with-chunk.ensures.written)
