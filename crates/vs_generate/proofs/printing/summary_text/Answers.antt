use Rattle.std.proofs.Common.{◌++◌, ◌∙◌, ℕ, [], ◌∷◌, ap, codes, decimal}
use Rattle.vs_command.specs.Answers.{hits_of}
use Rattle.vs_defs.specs.Bytes.{Bytes}
use Rattle.vs_thread_defs.specs.Generator.{hit_names, summary_line}
use Rattle.vs_generate.proofs.Lines.{seven_lines, agreed_by}
use Rattle.vs_generate.proofs.printing.summary_text.Goals as goal

pub returns : goal.returns
returns c =
    let facts = c.args.facts.now in
    let t0 = c.new-text.result in
    let t1 = c.push_number.new.text in
    let t2 = c.push_number-2.new.text in
    let t6 = c.push_names-2.new.text in
    let line = λ (word : Bytes) (n : ℕ). summary_line (word ∷ decimal n ∷ []) in
    let count = agreed_by c.agreed.result c.args.truth.now c.args.beam.now c.as_slice.result.now c.as_slice-2.result.now c.agreed.ensures c.as_slice.ensures c.as_slice-2.ensures in
    seven_lines t0 t1 t2 c.push_number-3.new.text c.push_number-4.new.text c.push_names.new.text t6 c.push_number-5.new.text
    (codes "members" ∷ decimal facts.size ∷ []) (codes "dim" ∷ decimal facts.dim ∷ []) (codes "max-level" ∷ decimal facts.max_level ∷ []) (codes "links" ∷ decimal c.args.pairs ∷ [])
    (codes "truth" ∷ hit_names (hits_of c.args.truth.now)) (codes "beam" ∷ hit_names (hits_of c.args.beam.now)) (codes "agree" ∷ decimal _ ∷ [])
    c.new-text.ensures
    (c.in_ok-push_number.ensures ∙ ap (λ (n : ℕ). t0 ++ line (codes "members") n) c.from.ensures)
    (c.in_ok-push_number-2.ensures ∙ ap (λ (n : ℕ). t1 ++ line (codes "dim") n) c.from-2.ensures)
    (c.in_ok-push_number-3.ensures ∙ ap (λ (n : ℕ). t2 ++ line (codes "max-level") n) c.from-3.ensures)
    c.in_ok-push_number-4.ensures c.in_ok-push_names.ensures c.in_ok-push_names-2.ensures
    (c.in_ok-push_number-5.ensures ∙ ap (λ (n : ℕ). t6 ++ line (codes "agree") n) count)
