use Rattle.std.proofs.Common.{◌≡◌, length, sym, ◌∙◌}
use Rattle.std.specs.Prelude.{None}
use Rattle.std.proofs.lemmas.List.Elements.{All-map}
use Rattle.vs_defs.specs.Store.{Member}
use Rattle.vs_measure.specs.declared.table.Row.{Row}
use Rattle.vs_measure.proofs.comparing.bound_of.Goals as goal

pub nearest-requires : goal.nearest-requires
nearest-requires g c = record {
  fits = All-map (λ (m : Member). length m.bits ≡ length c.args.query.now) (λ (row : Row). record { name = row.name; bits = row.bits; attr = None; level = 0 }) c.args.table.now.rows
      (λ k d h. c.args.table.now.wide k d h ∙ sym c.requires.long);
}
