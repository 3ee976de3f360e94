-- The file of the input, or the generated formula.
use Rattle.std.proofs.Common.{ℕ, List, Some, None, Ok, Err, refl, sym, ap, subst, ◌∙◌}
use Rattle.sd_aiger.specs.Reads.{aiger}
use Rattle.sd_base.specs.Asked.{Adds}
use Rattle.sd_circuit.specs.Circuits.{OrderedCircuit}
use Rattle.sd_commands.specs.Standing.{lines_of}
use Rattle.sd_formula.specs.Dimacs.{dimacs}
use Rattle.sd_formula.specs.declared.formula.Kind.TheVariants.{Cnf, Dnf}
use Rattle.sd_tool.specs.Readings.{Point, reads, with_circuit, with_formula, with_input_word, with_tree_word}
use Rattle.sd_tool.specs.Stops.{StopsReading}
use Rattle.sd_tool.specs.declared.plan.Source.{Source}
use Rattle.sd_tool.proofs.AskLemmas.{asks_none, breaks_here}
use Rattle.sd_tool.proofs.InputLemmas.{source_leads}
use Rattle.sd_tool.proofs.ReadingLemmas.{leads_same, handed_on}
use Rattle.sd_tool.proofs.reading.read_source.Goals as goal

-- ---- a formula file

pub returns-in_err-read-in-Cnf-clause-leads : goal.returns-in_err-read-in-Cnf-clause-leads
returns-in_err-read-in-Cnf-clause-leads g c =
    let job = c.args.job.now in
    let told = g.F.Shelf.files c.args.shelf.now in
    let next : Source → Point = λ s. with_tree_word job s.formula (lines_of s.circuit) job.tree in
    let same = ap (with_input_word job) c.in-Cnf.is
    ∙ ap (λ (f : List ℕ). reads 2 (dimacs Cnf) f (with_formula job)) (sym c.as_str.ensures) in
    handed_on _ told (with_input_word job job.input) next _ _ (g.F.Shelf.read_faults c.args.shelf.now)
    (g.F.Shelf.read_faults c.read.new.shelf) c.from_residual.ensures.1
    (leads_same _ told (with_input_word job job.input) (reads 2 (dimacs Cnf) c.as_str.result.now (with_formula job))
    (with_formula job) (with_formula job) (Err _) (g.F.Shelf.read_faults c.args.shelf.now)
    (g.F.Shelf.read_faults c.read.new.shelf) same (λ x. refl) (c.in_err-read-in-Cnf.ensures.leads (with_formula job)))

pub returns-in_ok-read-in-Cnf-clause-leads : goal.returns-in_ok-read-in-Cnf-clause-leads
returns-in_ok-read-in-Cnf-clause-leads g c =
    let job = c.args.job.now in
    let told = g.F.Shelf.files c.args.shelf.now in
    let same = ap (with_input_word job) c.in-Cnf.is
    ∙ ap (λ (f : List ℕ). reads 2 (dimacs Cnf) f (with_formula job)) (sym c.as_str.ensures) in
    source_leads _ told (with_input_word job job.input) job c.of_formula.result _ None
    c.of_formula.ensures.formula c.of_formula.ensures.circuit
    (leads_same _ told (with_input_word job job.input) (reads 2 (dimacs Cnf) c.as_str.result.now (with_formula job))
    (with_formula job) (with_formula job) (Ok _) (g.F.Shelf.read_faults c.args.shelf.now)
    (g.F.Shelf.read_faults c.read.new.shelf) same (λ x. refl) (c.in_ok-read-in-Cnf.ensures.leads (with_formula job)))

pub returns-in_err-read-in-Dnf-clause-leads : goal.returns-in_err-read-in-Dnf-clause-leads
returns-in_err-read-in-Dnf-clause-leads g c =
    let job = c.args.job.now in
    let told = g.F.Shelf.files c.args.shelf.now in
    let next : Source → Point = λ s. with_tree_word job s.formula (lines_of s.circuit) job.tree in
    let same = ap (with_input_word job) c.in-Dnf.is
    ∙ ap (λ (f : List ℕ). reads 2 (dimacs Dnf) f (with_formula job)) (sym c.as_str-in-Dnf.ensures) in
    handed_on _ told (with_input_word job job.input) next _ _ (g.F.Shelf.read_faults c.args.shelf.now)
    (g.F.Shelf.read_faults c.read-in-Dnf.new.shelf) c.from_residual-in_err-read-in-Dnf.ensures.1
    (leads_same _ told (with_input_word job job.input)
    (reads 2 (dimacs Dnf) c.as_str-in-Dnf.result.now (with_formula job))
    (with_formula job) (with_formula job) (Err _) (g.F.Shelf.read_faults c.args.shelf.now)
    (g.F.Shelf.read_faults c.read-in-Dnf.new.shelf) same (λ x. refl)
    (c.in_err-read-in-Dnf.ensures.leads (with_formula job)))

pub returns-in_ok-read-in-Dnf-clause-leads : goal.returns-in_ok-read-in-Dnf-clause-leads
returns-in_ok-read-in-Dnf-clause-leads g c =
    let job = c.args.job.now in
    let told = g.F.Shelf.files c.args.shelf.now in
    let same = ap (with_input_word job) c.in-Dnf.is
    ∙ ap (λ (f : List ℕ). reads 2 (dimacs Dnf) f (with_formula job)) (sym c.as_str-in-Dnf.ensures) in
    source_leads _ told (with_input_word job job.input) job c.of_formula-in-Dnf.result _ None
    c.of_formula-in-Dnf.ensures.formula c.of_formula-in-Dnf.ensures.circuit
    (leads_same _ told (with_input_word job job.input)
    (reads 2 (dimacs Dnf) c.as_str-in-Dnf.result.now (with_formula job))
    (with_formula job) (with_formula job) (Ok _) (g.F.Shelf.read_faults c.args.shelf.now)
    (g.F.Shelf.read_faults c.read-in-Dnf.new.shelf) same (λ x. refl)
    (c.in_ok-read-in-Dnf.ensures.leads (with_formula job)))

-- ---- a generated formula

pub returns-in_err-make_formula-in-Generate-clause-leads :
    goal.returns-in_err-make_formula-in-Generate-clause-leads
returns-in_err-make_formula-in-Generate-clause-leads g c =
    let job = c.args.job.now in
    let told = g.F.Shelf.files c.args.shelf.now in
    let next : Source → Point = λ s. with_tree_word job s.formula (lines_of s.circuit) job.tree in
    let faults = g.F.Shelf.read_faults c.args.shelf.now in
    handed_on _ told (with_input_word job job.input) next _ _ faults faults
    c.from_residual-in_err-make_formula-in-Generate.ensures.1
    (subst (λ s. StopsReading (Adds g.F.Shelf.asked c.args.shelf.now c.args.shelf.now) s told
    (with_input_word job job.input) faults faults)
    (sym c.in_err-make_formula-in-Generate.ensures)
    (breaks_here _ told (with_input_word job job.input) (asks_none g.F.Shelf.asked c.args.shelf.now)))

-- ---- a circuit

pub returns-in_err-circuit-in-Aag-clause-leads : goal.returns-in_err-circuit-in-Aag-clause-leads
returns-in_err-circuit-in-Aag-clause-leads g c =
    let job = c.args.job.now in
    let told = g.F.Shelf.files c.args.shelf.now in
    let next : Source → Point = λ s. with_tree_word job s.formula (lines_of s.circuit) job.tree in
    let same = ap (with_input_word job) c.in-Aag.is
    ∙ ap (λ (f : List ℕ). reads 2 aiger f (with_circuit job)) (sym c.as_str-in-Aag.ensures) in
    handed_on _ told (with_input_word job job.input) next _ _ (g.F.Shelf.read_faults c.args.shelf.now)
    (g.F.Shelf.read_faults c.read-in-Aag.new.shelf) c.from_residual-in_err-circuit-in-Aag.ensures.1
    (leads_same _ told (with_input_word job job.input) (reads 2 aiger c.as_str-in-Aag.result.now (with_circuit job))
    (λ (circuit : OrderedCircuit). with_circuit job circuit.text)
    (λ (circuit : OrderedCircuit). with_circuit job circuit.text) (Err _)
    (g.F.Shelf.read_faults c.args.shelf.now)
    (g.F.Shelf.read_faults c.read-in-Aag.new.shelf) same (λ x. refl)
    (c.in_err-circuit-in-Aag.ensures.leads (with_circuit job)))

pub returns-in_ok-circuit-in-Aag-clause-leads : goal.returns-in_ok-circuit-in-Aag-clause-leads
returns-in_ok-circuit-in-Aag-clause-leads g c =
    let job = c.args.job.now in
    let told = g.F.Shelf.files c.args.shelf.now in
    let same = ap (with_input_word job) c.in-Aag.is
    ∙ ap (λ (f : List ℕ). reads 2 aiger f (with_circuit job)) (sym c.as_str-in-Aag.ensures) in
    source_leads _ told (with_input_word job job.input) job c.of_circuit.result _ (Some c.in_ok-circuit-in-Aag.circuit)
    c.of_circuit.ensures.formula c.of_circuit.ensures.circuit
    (leads_same _ told (with_input_word job job.input) (reads 2 aiger c.as_str-in-Aag.result.now (with_circuit job))
    (λ (circuit : OrderedCircuit). with_circuit job circuit.text)
    (λ (circuit : OrderedCircuit). with_circuit job circuit.text)
    (Ok c.in_ok-circuit-in-Aag.circuit) (g.F.Shelf.read_faults c.args.shelf.now)
    (g.F.Shelf.read_faults c.read-in-Aag.new.shelf) same (λ x. refl)
    (c.in_ok-circuit-in-Aag.ensures.leads (with_circuit job)))
