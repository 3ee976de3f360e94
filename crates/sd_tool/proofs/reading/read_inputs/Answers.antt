-- The input, its tree and its commands, one after another.
use Rattle.std.proofs.Common.{◌≤◌, ℕ, List, ◌++◌, Ok, Err, refl, sym, ap, ◌∙◌, arith}
use Rattle.sd_base.specs.Asked.{Adds}
use Rattle.sd_vtree.specs.Numbered.{plain_tree}
use Rattle.sd_commands.specs.Standing.{lines_of}
use Rattle.sd_commands.specs.declared.command.NumberedCommand.{NumberedCommand}
use Rattle.sd_tool.specs.Orders.{inputs_point, orders_lines}
use Rattle.sd_tool.specs.Readings.{Point, Stands, announcement, first_state, with_check, with_input_word, with_tree}
use Rattle.sd_tool.specs.Readings.{with_tree_word}
use Rattle.sd_tool.specs.inside.Asks.{ComesTo}
use Rattle.sd_tool.proofs.AskLemmas.{joined}
use Rattle.sd_tool.proofs.ReadingLemmas.{leads_on, leads_same, handed_on}
use Rattle.sd_tool.proofs.reading.read_inputs.Goals as goal

-- the stop at the input
pub returns-in_err-source-clause-leads : goal.returns-in_err-source-clause-leads
returns-in_err-source-clause-leads g c =
    let job = c.args.job.now in
    handed_on _ (g.F.Shelf.files c.args.shelf.now) (with_input_word job job.input) (inputs_point job) _ _
    (g.F.Shelf.read_faults c.args.shelf.now) (g.F.Shelf.read_faults c.read_source.new.shelf)
    c.from_residual.ensures.1 c.in_err-source.ensures.leads

-- at the tree
pub returns-in_err-vtree-clause-leads : goal.returns-in_err-vtree-clause-leads
returns-in_err-vtree-clause-leads g c =
    let job = c.args.job.now in
    let told = g.F.Shelf.files c.args.shelf.now in
    let source = c.in_ok-source.source in
    let mid = with_tree_word job source.formula (lines_of source.circuit) job.tree in
    handed_on _ told (with_input_word job job.input) (inputs_point job) _ _
    (g.F.Shelf.read_faults c.args.shelf.now) (g.F.Shelf.read_faults c.read_tree.new.shelf)
    c.from_residual-in_err-vtree.ensures.1
    (leads_on told (g.F.Shelf.files c.read_source.new.shelf) (with_input_word job job.input) mid (inputs_point job)
    (Err _) (g.F.Shelf.read_faults c.args.shelf.now) (g.F.Shelf.read_faults c.read_source.new.shelf)
    (g.F.Shelf.read_faults c.read_tree.new.shelf)
    (joined g.F.Shelf.asked c.args.shelf.now c.read_source.new.shelf c.read_tree.new.shelf)
    c.in_ok-source.ensures.files c.in_ok-source.ensures.read_faults c.in_ok-source.ensures.leads
    c.in_err-vtree.ensures.leads)

-- at the commands
pub returns-in_err-orders-clause-leads : goal.returns-in_err-orders-clause-leads
returns-in_err-orders-clause-leads g c =
    let job = c.args.job.now in
    let told = g.F.Shelf.files c.args.shelf.now in
    let first = g.F.Shelf.read_faults c.args.shelf.now in
    let source = c.in_ok-source.source in
    let circuit = lines_of source.circuit in
    let tree = plain_tree c.in_ok-vtree.vtree in
    let reading = with_input_word job job.input in
    let begin : List NumberedCommand → Point =
    λ lines. Stands source.formula (first_state job tree circuit) (announcement job.input source.formula ++ lines) in
    let two : ComesTo (Adds g.F.Shelf.asked c.args.shelf.now c.read_tree.new.shelf) told reading
    (with_tree job source.formula circuit tree) =
    leads_on told (g.F.Shelf.files c.read_source.new.shelf) reading
    (with_tree_word job source.formula circuit job.tree) (λ t. with_tree job source.formula circuit (plain_tree t))
    (Ok c.in_ok-vtree.vtree) first (g.F.Shelf.read_faults c.read_source.new.shelf)
    (g.F.Shelf.read_faults c.read_tree.new.shelf)
    (joined g.F.Shelf.asked c.args.shelf.now c.read_source.new.shelf c.read_tree.new.shelf)
    c.in_ok-source.ensures.files c.in_ok-source.ensures.read_faults c.in_ok-source.ensures.leads
    c.in_ok-vtree.ensures.leads in
    let later : first ≤ g.F.Shelf.read_faults c.read_tree.new.shelf =
    omega (arith, c.in_ok-source.ensures.read_faults, c.in_ok-vtree.ensures.read_faults) in
    handed_on _ told reading (inputs_point job) _ _ first (g.F.Shelf.read_faults c.read_orders.new.shelf)
    c.from_residual-in_err-orders.ensures.1
    (leads_on told (g.F.Shelf.files c.read_tree.new.shelf) reading (with_tree job source.formula circuit tree)
    (inputs_point job) (Err _) first (g.F.Shelf.read_faults c.read_tree.new.shelf)
    (g.F.Shelf.read_faults c.read_orders.new.shelf)
    (joined g.F.Shelf.asked c.args.shelf.now c.read_tree.new.shelf c.read_orders.new.shelf)
    (c.in_ok-vtree.ensures.files ∙ c.in_ok-source.ensures.files) later two (c.in_err-orders.ensures.leads begin))

-- all inputs
pub returns-clause-leads : goal.returns-clause-leads
returns-clause-leads g c =
    let job = c.args.job.now in
    let told = g.F.Shelf.files c.args.shelf.now in
    let first = g.F.Shelf.read_faults c.args.shelf.now in
    let source = c.in_ok-source.source in
    let circuit = lines_of source.circuit in
    let tree = plain_tree c.in_ok-vtree.vtree in
    let reading = with_input_word job job.input in
    let begin : List NumberedCommand → Point =
    λ lines. Stands source.formula (first_state job tree circuit) (announcement job.input source.formula ++ lines) in
    let two : ComesTo (Adds g.F.Shelf.asked c.args.shelf.now c.read_tree.new.shelf) told reading
    (with_tree job source.formula circuit tree) =
    leads_on told (g.F.Shelf.files c.read_source.new.shelf) reading
    (with_tree_word job source.formula circuit job.tree) (λ t. with_tree job source.formula circuit (plain_tree t))
    (Ok c.in_ok-vtree.vtree) first (g.F.Shelf.read_faults c.read_source.new.shelf)
    (g.F.Shelf.read_faults c.read_tree.new.shelf)
    (joined g.F.Shelf.asked c.args.shelf.now c.read_source.new.shelf c.read_tree.new.shelf)
    c.in_ok-source.ensures.files c.in_ok-source.ensures.read_faults c.in_ok-source.ensures.leads
    c.in_ok-vtree.ensures.leads in
    let later : first ≤ g.F.Shelf.read_faults c.read_tree.new.shelf =
    omega (arith, c.in_ok-source.ensures.read_faults, c.in_ok-vtree.ensures.read_faults) in
    leads_on told (g.F.Shelf.files c.read_tree.new.shelf) reading (with_tree job source.formula circuit tree)
    (λ orders. begin (orders_lines orders)) (Ok c.in_ok-orders.orders) first
    (g.F.Shelf.read_faults c.read_tree.new.shelf) (g.F.Shelf.read_faults c.read_orders.new.shelf)
    (joined g.F.Shelf.asked c.args.shelf.now c.read_tree.new.shelf c.read_orders.new.shelf)
    (c.in_ok-vtree.ensures.files ∙ c.in_ok-source.ensures.files) later two (c.in_ok-orders.ensures.leads begin)

pub returns-clause-ready : goal.returns-clause-ready
returns-clause-ready g c = record {
  over = c.in_ok-source.ensures.source.over;
  variables = c.in_ok-vtree.ensures.variables;
  opens = c.in_ok-orders.ensures.opens (plain_tree c.in_ok-vtree.vtree);
  orders = c.in_ok-orders.ensures.fit;
}

-- a check
pub returns-in-Check-clause-leads : goal.returns-in-Check-clause-leads
returns-in-Check-clause-leads g c =
    let job = c.args.job.now in
    leads_same _ (g.F.Shelf.files c.args.shelf.now) (with_input_word job job.input)
    (with_check job c.as_str.result.now job.tree) (inputs_point job) (inputs_point job) c.read_checked.result
    (g.F.Shelf.read_faults c.args.shelf.now) (g.F.Shelf.read_faults c.read_checked.new.shelf)
    (ap (with_input_word job) c.in-Check.is ∙ ap (λ (f : List ℕ). with_check job f job.tree) (sym c.as_str.ensures))
    (λ x. refl) c.read_checked.ensures.leads
