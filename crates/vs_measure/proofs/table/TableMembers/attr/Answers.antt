use Rattle.std.proofs.Common.{◌≡◌, [], map, refl, sym, subst}
use Rattle.std.specs.Prelude.{None, IsSomeAnd}
use Rattle.std.proofs.lemmas.List.Elements.{All-map}
use Rattle.std.proofs.lemmas.Option.{slice_get-get_or}
use Rattle.vs_defs.specs.Store.{Member}
use Rattle.vs_measure.specs.declared.table.Row.{Row}
use Rattle.vs_measure.proofs.table.TableMembers.attr.Goals as goal

abbrev as_member : Row → Member
as_member row = record { name = row.name; bits = row.bits; attr = None; level = 0 }

-- no member has an attribute
pub returns : goal.returns
returns c =
    let members = map as_member c.args.self.now.rows in
    let other = as_member (record { name = []; bits = [] }) in
    subst (λ o. IsSomeAnd o (λ (member : Member). None ≡ member.attr)) (sym (slice_get-get_or members c.args._place other c.requires))
    (All-map (λ (member : Member). None ≡ member.attr) as_member c.args.self.now.rows (λ k d h. refl) c.args._place other c.requires)
