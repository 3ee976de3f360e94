use Rattle.std.proofs.Common.{◌≡◌, ◌==◌, true, false, ◌∙◌, rules, arith}
use Rattle.std.specs.List.{list_any}
use Rattle.std.proofs.lemmas.Grind.{common_steps}
use Rattle.sd_vfile.specs.Steps.{id_of}
use Rattle.sd_vfile.proofs.Growing.{has_id_entries_of}
use Rattle.sd_vfile.proofs.nodes.has_id.Goals as goal

-- a line was found, and so a node
pub returns-then-id : goal.returns-then-id
returns-then-id c =
    let found : true ≡ list_any (λ f. id_of f == c.args.id) c.args.forms.now =
    first_of (search rules, grind (arith, common_steps)) in
    found ∙ has_id_entries_of c.args.id c.args.forms.now

-- no line was found, and so no node
pub returns : goal.returns
returns c =
    let none : false ≡ list_any (λ f. id_of f == c.args.id) c.args.forms.now =
    first_of (search rules, grind (arith, common_steps)) in
    none ∙ has_id_entries_of c.args.id c.args.forms.now
