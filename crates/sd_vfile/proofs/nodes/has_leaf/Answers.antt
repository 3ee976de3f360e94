use Rattle.std.proofs.Common.{◌≡◌, true, false, ◌∙◌, rules, arith}
use Rattle.std.specs.List.{list_any}
use Rattle.std.proofs.lemmas.Grind.{common_steps}
use Rattle.sd_vfile.specs.Steps.{is_leaf_line}
use Rattle.sd_vfile.proofs.Growing.{has_leaf_entries_of}
use Rattle.sd_vfile.proofs.nodes.has_leaf.Goals as goal

-- a line was found, and so a node
pub returns-then-is_leaf_of : goal.returns-then-is_leaf_of
returns-then-is_leaf_of c =
    let found : true ≡ list_any (is_leaf_line c.args.variable) c.args.forms.now =
    first_of (search rules, grind (arith, common_steps)) in
    found ∙ has_leaf_entries_of c.args.variable c.args.forms.now

-- no line was found, and so no node
pub returns : goal.returns
returns c =
    let none : false ≡ list_any (is_leaf_line c.args.variable) c.args.forms.now =
    first_of (search rules, grind (arith, common_steps)) in
    none ∙ has_leaf_entries_of c.args.variable c.args.forms.now
