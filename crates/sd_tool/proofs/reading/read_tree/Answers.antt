-- A start tree, or the tree of a vtree file, goes on to the commands.
use Rattle.std.proofs.Common.{ℕ, List, refl, sym, ap, ◌∙◌}
use Rattle.sd_commands.specs.Standing.{lines_of}
use Rattle.sd_model.specs.StartTrees.{balanced_tree, right_tree, left_tree}
use Rattle.sd_vfile.specs.Reads.{vtree_file}
use Rattle.sd_vtree.specs.Numbered.{plain_tree}
use Rattle.sd_tool.specs.Readings.{reads, with_tree, with_tree_word}
use Rattle.sd_tool.proofs.AskLemmas.{asks_none}
use Rattle.sd_tool.proofs.InputLemmas.{start_gives}
use Rattle.sd_tool.proofs.ReadingLemmas.{leads_same, made_leads}
use Rattle.sd_tool.proofs.StartTrees.{balanced_leaves, right_leaves, left_leaves}
use Rattle.sd_tool.proofs.reading.read_tree.Goals as goal

pub returns-in-Balanced-clause-leads : goal.returns-in-Balanced-clause-leads
returns-in-Balanced-clause-leads g c =
    let job = c.args.job.now in
    let f = c.args.source.now.formula in
    let circuit = lines_of c.args.source.now.circuit in
    let faults = g.F.Shelf.read_faults c.args.shelf.now in
    let reading = with_tree_word job f circuit job.tree in
    made_leads _ (g.F.Shelf.files c.args.shelf.now) reading (λ t. with_tree job f circuit (plain_tree t))
    c.kept.result faults faults (asks_none g.F.Shelf.asked c.args.shelf.now)
    (start_gives reading job f circuit (balanced_tree c.variables-variables.result) c.balanced.result c.kept.result
    (ap (with_tree_word job f circuit) c.in-Balanced.is
    ∙ ap (λ (v : ℕ). with_tree job f circuit (balanced_tree v)) (sym c.variables-variables.ensures.value))
    c.balanced.ensures.tree c.kept.ensures)

pub returns-in-Balanced-clause-variables : goal.returns-in-Balanced-clause-variables
returns-in-Balanced-clause-variables g c =
    balanced_leaves c.variables-variables.result c.args.source.now.formula.variables c.balanced.result c.kept.result
    c.variables-variables.ensures.range.0 c.variables-variables.ensures.value c.balanced.ensures.tree c.kept.ensures

pub returns-in-Right-clause-leads : goal.returns-in-Right-clause-leads
returns-in-Right-clause-leads g c =
    let job = c.args.job.now in
    let f = c.args.source.now.formula in
    let circuit = lines_of c.args.source.now.circuit in
    let faults = g.F.Shelf.read_faults c.args.shelf.now in
    let reading = with_tree_word job f circuit job.tree in
    made_leads _ (g.F.Shelf.files c.args.shelf.now) reading (λ t. with_tree job f circuit (plain_tree t))
    c.kept-in-Right.result faults faults (asks_none g.F.Shelf.asked c.args.shelf.now)
    (start_gives reading job f circuit (right_tree c.variables-variables.result) c.right.result c.kept-in-Right.result
    (ap (with_tree_word job f circuit) c.in-Right.is
    ∙ ap (λ (v : ℕ). with_tree job f circuit (right_tree v)) (sym c.variables-variables.ensures.value))
    c.right.ensures.tree c.kept-in-Right.ensures)

pub returns-in-Right-clause-variables : goal.returns-in-Right-clause-variables
returns-in-Right-clause-variables g c =
    right_leaves c.variables-variables.result c.args.source.now.formula.variables c.right.result c.kept-in-Right.result
    c.variables-variables.ensures.range.0 c.variables-variables.ensures.value c.right.ensures.tree
    c.kept-in-Right.ensures

pub returns-in-Left-clause-leads : goal.returns-in-Left-clause-leads
returns-in-Left-clause-leads g c =
    let job = c.args.job.now in
    let f = c.args.source.now.formula in
    let circuit = lines_of c.args.source.now.circuit in
    let faults = g.F.Shelf.read_faults c.args.shelf.now in
    let reading = with_tree_word job f circuit job.tree in
    made_leads _ (g.F.Shelf.files c.args.shelf.now) reading (λ t. with_tree job f circuit (plain_tree t))
    c.kept-in-Left.result faults faults (asks_none g.F.Shelf.asked c.args.shelf.now)
    (start_gives reading job f circuit (left_tree c.variables-variables.result) c.left.result c.kept-in-Left.result
    (ap (with_tree_word job f circuit) c.in-Left.is
    ∙ ap (λ (v : ℕ). with_tree job f circuit (left_tree v)) (sym c.variables-variables.ensures.value))
    c.left.ensures.tree c.kept-in-Left.ensures)

pub returns-in-Left-clause-variables : goal.returns-in-Left-clause-variables
returns-in-Left-clause-variables g c =
    left_leaves c.variables-variables.result c.args.source.now.formula.variables c.left.result c.kept-in-Left.result
    c.variables-variables.ensures.range.0 c.variables-variables.ensures.value c.left.ensures.tree c.kept-in-Left.ensures

pub returns-in-File-clause-leads : goal.returns-in-File-clause-leads
returns-in-File-clause-leads g c =
    let job = c.args.job.now in
    let f = c.args.source.now.formula in
    let circuit = lines_of c.args.source.now.circuit in
    let next = with_tree job f circuit in
    leads_same _ (g.F.Shelf.files c.args.shelf.now) (with_tree_word job f circuit job.tree)
    (reads 2 (vtree_file c.variables-variables.result) c.as_str.result.now next)
    (λ t. next (plain_tree t)) (λ t. next (plain_tree t)) c.read.result
    (g.F.Shelf.read_faults c.args.shelf.now) (g.F.Shelf.read_faults c.read.new.shelf)
    (ap (with_tree_word job f circuit) c.in-File.is
    ∙ ap (λ (n : List ℕ). reads 2 (vtree_file f.variables) n next) (sym c.as_str.ensures)
    ∙ ap (λ (v : ℕ). reads 2 (vtree_file v) c.as_str.result.now next) (sym c.variables-variables.ensures.value))
    (λ t. refl) (c.read.ensures.leads next)
