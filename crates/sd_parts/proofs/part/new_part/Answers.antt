-- The part is that of its number.
use Rattle.std.proofs.Common.{◌∙◌, ap}
use Rattle.sd_model.specs.Seen.{tree_of}
use Rattle.sd_vtree.specs.Numbered.{plain_tree}
use Rattle.sd_manager.specs.Table.{Table}
use Rattle.sd_parts.proofs.Made.{part_made}
use Rattle.sd_parts.proofs.part.new_part.Goals as goal

pub returns : goal.returns
returns g c =
    part_made c.args.f.now c.in_ok-formula.formula (tree_of c.args.tree.now) (plain_tree c.in_ok-manager.manager.vtree)
    c.args.bounds.limit c.args.bounds.bound c.args.count c.args.number c.groups-groups.result
    c.begin_of_part-first.result c.begin_of_part-end.result c.groups-groups.ensures.value
    c.begin_of_part-first.ensures.value c.begin_of_part-end.ensures.value c.in_ok-formula.ensures
    (ap (λ (m : Table). plain_tree m.vtree) c.in_ok-manager.ensures.ok ∙ c.in_ok-vtree.ensures.tree)
