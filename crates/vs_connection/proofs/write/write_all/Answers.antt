use Rattle.std.proofs.Common.{List, ◌++◌, ℕ, take, drop, sym, ap, ◌∙◌, append_assoc}
use Rattle.std.proofs.lemmas.List.{take-append-drop}
use Rattle.vs_outside.proofs.KnownBytes.{Adds-trans}
use Rattle.vs_connection.proofs.write.write_all.Goals as goal

pub loop-rest-preserved : goal.loop-rest-preserved
loop-rest-preserved g c =
    let w = c.loop-rest.invariant.written in
    let n = c.in-Bytes.n in
    let r = c.loop-rest.rest.now in
    record {
      written = (
        w.0 ++ take n r,
        w.1 ∙ ap (λ (l : List ℕ). w.0 ++ l) (sym (take-append-drop n r)) ∙ sym (append_assoc w.0 (take n r) (drop n r)) ∙ ap (λ (l : List ℕ). (w.0 ++ take n r) ++ l) (sym c.split_at.ensures.back),
        Adds-trans _ _ _ w.0 (take n r) w.2 c.in-Bytes.ensures.put.2,
      );
      faults = c.in-Bytes.ensures.unfailed (λ e. cc) ∙ c.loop-rest.invariant.faults;
    }
