use Rattle.std.proofs.Common.{◌≡◌, length, sym, ◌∙◌}
use Rattle.std.proofs.lemmas.List.Elements.{All-map}
use Rattle.vs_defs.specs.Store.{Member}
use Rattle.vs_truth.specs.declared.tests.Row.{Row}
use Rattle.vs_truth.proofs.tests.found.Goals as goal

pub nearest-requires : goal.nearest-requires
nearest-requires g c = record {
  fits = All-map (λ (m : Member). length m.bits ≡ length c.in_ok-query.query) (λ (row : Row). record { name = row.name; bits = row.bits; attr = row.attr; level = 0 }) c.args.table.now.rows
      (λ k d h. c.args.table.now.three k d h ∙ sym c.in_ok-query.ensures);
}
