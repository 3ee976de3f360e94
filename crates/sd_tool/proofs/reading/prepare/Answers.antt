-- The words, the inputs, and the plan that is made of them.
use Rattle.std.proofs.Common.{List, map, string_bytes, refl, sym, subst, Ok, Err, arith, inl}
use Rattle.sd_base.specs.Asked.{Request, Adds}
use Rattle.sd_tool.specs.Orders.{inputs_point}
use Rattle.sd_tool.specs.PlanViews.{plan_of}
use Rattle.sd_tool.specs.Readings.{Point, reading_of, with_input_word}
use Rattle.sd_tool.specs.inside.Asks.{ComesTo}
use Rattle.sd_tool.specs.inside.Plans.{point_of}
use Rattle.sd_tool.proofs.AskLemmas.{joined_first, asks_none}
use Rattle.sd_tool.proofs.ReadingLemmas.{leads_on, stops_with, handed_on}
use Rattle.sd_tool.proofs.reading.prepare.Goals as goal

-- the stop at the words
pub returns-in_err-job-clause-leads : goal.returns-in_err-job-clause-leads
returns-in_err-job-clause-leads g c =
    let told = g.F.Shelf.files c.args.shelf.now in
    let first = g.F.Shelf.read_faults c.args.shelf.now in
    let reading = reading_of (map string_bytes c.args.words.now) in
    handed_on _ told reading (λ plan. point_of (plan_of plan)) _ _ first first c.from_residual.ensures.1
    (stops_with _ told reading first first
    (λ (xs : List Request) none. subst (Adds g.F.Shelf.asked c.args.shelf.now c.args.shelf.now) (sym none)
    (asks_none g.F.Shelf.asked c.args.shelf.now)) (c.in_err-job.ensures.leads told first first))

-- at the inputs
pub returns-in_err-inputs-clause-leads : goal.returns-in_err-inputs-clause-leads
returns-in_err-inputs-clause-leads g c =
    let told = g.F.Shelf.files c.args.shelf.now in
    let first = g.F.Shelf.read_faults c.args.shelf.now in
    let job = c.in_ok-job.job in
    let reading = reading_of (map string_bytes c.args.words.now) in
    handed_on _ told reading (λ plan. point_of (plan_of plan)) _ _ first
    (g.F.Shelf.read_faults c.read_inputs.new.shelf) c.from_residual-in_err-inputs.ensures.1
    (leads_on told told reading (with_input_word job job.input) (inputs_point job) (Err _) first first
    (g.F.Shelf.read_faults c.read_inputs.new.shelf) (joined_first _) refl (omega arith)
    (c.in_ok-job.ensures.leads told first first) c.in_err-inputs.ensures.leads)

-- the plan
pub returns-in-Ok-clause-leads : goal.returns-in-Ok-clause-leads
returns-in-Ok-clause-leads g c =
    let told = g.F.Shelf.files c.args.shelf.now in
    let first = g.F.Shelf.read_faults c.args.shelf.now in
    let job = c.in_ok-job.job in
    let reading = reading_of (map string_bytes c.args.words.now) in
    subst (λ (p : Point). ComesTo (Adds g.F.Shelf.asked c.args.shelf.now c.read_inputs.new.shelf) told reading p)
    (sym c.in-Ok.ensures.made)
    (leads_on told told reading (with_input_word job job.input) (inputs_point job) (Ok c.in_ok-inputs.inputs) first
    first
    (g.F.Shelf.read_faults c.read_inputs.new.shelf) (joined_first _) refl (omega arith)
    (c.in_ok-job.ensures.leads told first first) c.in_ok-inputs.ensures.leads)

-- no memory for it
pub returns-clause-leads : goal.returns-clause-leads
returns-clause-leads g c =
    let told = g.F.Shelf.files c.args.shelf.now in
    let first = g.F.Shelf.read_faults c.args.shelf.now in
    let job = c.in_ok-job.job in
    let reading = reading_of (map string_bytes c.args.words.now) in
    inl (
      _,
      leads_on told told reading (with_input_word job job.input) (inputs_point job) (Ok c.in_ok-inputs.inputs)
          first first
          (g.F.Shelf.read_faults c.read_inputs.new.shelf) (joined_first _) refl (omega arith)
          (c.in_ok-job.ensures.leads told first first) c.in_ok-inputs.ensures.leads,
    )
