use Rattle.std.proofs.Common.{◌≡◌, true, false, ◌∙◌, rules, arith}
use Rattle.std.specs.List.{list_any}
use Rattle.std.proofs.lemmas.Grind.{common_steps}
use Rattle.sd_vfile.specs.Steps.{has_child}
use Rattle.sd_vfile.proofs.Growing.{is_child_entries_of}
use Rattle.sd_vfile.proofs.nodes.is_child.Goals as goal

-- a line was found, and so a node
pub returns-then-has_child : goal.returns-then-has_child
returns-then-has_child c =
    let found : true ≡ list_any (has_child c.args.id) c.args.forms.now =
    first_of (search rules, grind (arith, common_steps)) in
    found ∙ is_child_entries_of c.args.id c.args.forms.now

-- no line was found, and so no node
pub returns : goal.returns
returns c =
    let none : false ≡ list_any (has_child c.args.id) c.args.forms.now =
    first_of (search rules, grind (arith, common_steps)) in
    none ∙ is_child_entries_of c.args.id c.args.forms.now
