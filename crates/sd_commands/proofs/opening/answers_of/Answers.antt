-- The answers are those of all parts.
use Rattle.std.proofs.Common.{◌∙◌, ap}
use Rattle.std.proofs.lemmas.Result.{IfOk-weaker}
use Rattle.sd_model.specs.Seen.{tree_of}
use Rattle.sd_vtree.specs.Numbered.{plain_tree}
use Rattle.sd_commands.proofs.ByParts.{whole_answers}
use Rattle.sd_commands.proofs.opening.answers_of.Goals as goal

pub returns-clause-answers : goal.returns-clause-answers
returns-clause-answers g c =
    IfOk-weaker c.run_tasks.result _ _
    (λ v h. (whole_answers c.args.input.now c.args.state.now (tree_of c.in_ok-tree.tree) _ c.in_ok-tasks.tasks.items
    v.items c.requires.at_least_one c.requires.at_most c.in_ok-tasks.ensures
    (c.in_ok-tree.ensures.tree ∙ ap plain_tree c.vtree-vtree.ensures.vtree) h).0)
    c.run_tasks.ensures

pub returns-clause-count : goal.returns-clause-count
returns-clause-count g c =
    IfOk-weaker c.run_tasks.result _ _
    (λ v h. (whole_answers c.args.input.now c.args.state.now (tree_of c.in_ok-tree.tree) _ c.in_ok-tasks.tasks.items
    v.items c.requires.at_least_one c.requires.at_most c.in_ok-tasks.ensures
    (c.in_ok-tree.ensures.tree ∙ ap plain_tree c.vtree-vtree.ensures.vtree) h).1)
    c.run_tasks.ensures
