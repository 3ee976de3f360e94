-- The vtree file, and then the file that is checked.
use Rattle.std.proofs.Common.{ℕ, List, Ok, Err, refl, sym, ap, subst, ◌∙◌, inl}
use Rattle.sd_base.specs.Asked.{Adds}
use Rattle.sd_file.specs.Reads.{sdd_file}
use Rattle.sd_tool.specs.Formats.{checked_of}
use Rattle.sd_tool.specs.Orders.{inputs_point}
use Rattle.sd_tool.specs.Readings.{CheckedVtree, Point, checked_vtree, reads, with_check, with_checked}
use Rattle.sd_tool.specs.inside.Asks.{ComesTo}
use Rattle.sd_tool.proofs.AskLemmas.{joined}
use Rattle.sd_tool.proofs.ReadingLemmas.{leads_on, leads_same, handed_on}
use Rattle.sd_tool.proofs.reading.read_checked.Goals as goal

-- the stop at the vtree file
pub returns-in_err-checked-clause-leads : goal.returns-in_err-checked-clause-leads
returns-in_err-checked-clause-leads g c =
    let job = c.args.job.now in
    let file = c.args.file.now in
    let told = g.F.Shelf.files c.args.shelf.now in
    let next : CheckedVtree → Point = λ v. reads 2 (sdd_file v.variables) file (with_checked job v) in
    handed_on _ told (with_check job file job.tree) (inputs_point job) _ _
    (g.F.Shelf.read_faults c.args.shelf.now) (g.F.Shelf.read_faults c.read.new.shelf) c.from_residual.ensures.1
    (leads_same _ told (with_check job file job.tree) (reads 2 checked_vtree c.as_str.result.now next)
    (λ v. next (checked_of v)) (λ v. next (checked_of v)) (Err _) (g.F.Shelf.read_faults c.args.shelf.now)
    (g.F.Shelf.read_faults c.read.new.shelf)
    (ap (with_check job file) c.in-File.is ∙ ap (λ (f : List ℕ). reads 2 checked_vtree f next) (sym c.as_str.ensures))
    (λ x. refl) (c.in_err-checked.ensures.leads next))

-- at the file that is checked
pub returns-in_err-read_file-clause-leads : goal.returns-in_err-read_file-clause-leads
returns-in_err-read_file-clause-leads g c =
    let job = c.args.job.now in
    let file = c.args.file.now in
    let told = g.F.Shelf.files c.args.shelf.now in
    let first = g.F.Shelf.read_faults c.args.shelf.now in
    let vtree = checked_of c.in_ok-checked.checked in
    let w = c.variables-variables.result in
    let next : CheckedVtree → Point = λ v. reads 2 (sdd_file v.variables) file (with_checked job v) in
    let one : ComesTo (Adds g.F.Shelf.asked c.args.shelf.now c.read.new.shelf) told (with_check job file job.tree)
    (next vtree) =
    leads_same _ told (with_check job file job.tree) (reads 2 checked_vtree c.as_str.result.now next)
    (λ v. next (checked_of v)) (λ v. next (checked_of v)) (Ok c.in_ok-checked.checked) first
    (g.F.Shelf.read_faults c.read.new.shelf)
    (ap (with_check job file) c.in-File.is ∙ ap (λ (f : List ℕ). reads 2 checked_vtree f next) (sym c.as_str.ensures))
    (λ x. refl) (c.in_ok-checked.ensures.leads next) in
    let same = ap (λ (n : ℕ). reads 2 (sdd_file n) file (with_checked job vtree))
    (sym c.variables-variables.ensures.count) in
    handed_on _ told (with_check job file job.tree) (inputs_point job) _ _ first
    (g.F.Shelf.read_faults c.read-2.new.shelf) c.from_residual-in_err-read_file.ensures.1
    (leads_on told (g.F.Shelf.files c.read.new.shelf) (with_check job file job.tree) (next vtree)
    (with_checked job vtree) (Err _) first (g.F.Shelf.read_faults c.read.new.shelf)
    (g.F.Shelf.read_faults c.read-2.new.shelf)
    (joined g.F.Shelf.asked c.args.shelf.now c.read.new.shelf c.read-2.new.shelf)
    c.in_ok-checked.ensures.files c.in_ok-checked.ensures.read_faults one
    (leads_same _ (g.F.Shelf.files c.read.new.shelf) (next vtree)
    (reads 2 (sdd_file w) file (with_checked job vtree)) (with_checked job vtree) (with_checked job vtree) (Err _)
    (g.F.Shelf.read_faults c.read.new.shelf) (g.F.Shelf.read_faults c.read-2.new.shelf) same (λ x. refl)
    (c.in_err-read_file.ensures.leads (with_checked job vtree))))

-- the inputs
pub returns-in-Ok-clause-leads : goal.returns-in-Ok-clause-leads
returns-in-Ok-clause-leads g c =
    let job = c.args.job.now in
    let file = c.args.file.now in
    let told = g.F.Shelf.files c.args.shelf.now in
    let first = g.F.Shelf.read_faults c.args.shelf.now in
    let vtree = checked_of c.in_ok-checked.checked in
    let w = c.variables-variables.result in
    let next : CheckedVtree → Point = λ v. reads 2 (sdd_file v.variables) file (with_checked job v) in
    let one : ComesTo (Adds g.F.Shelf.asked c.args.shelf.now c.read.new.shelf) told (with_check job file job.tree)
    (next vtree) =
    leads_same _ told (with_check job file job.tree) (reads 2 checked_vtree c.as_str.result.now next)
    (λ v. next (checked_of v)) (λ v. next (checked_of v)) (Ok c.in_ok-checked.checked) first
    (g.F.Shelf.read_faults c.read.new.shelf)
    (ap (with_check job file) c.in-File.is ∙ ap (λ (f : List ℕ). reads 2 checked_vtree f next) (sym c.as_str.ensures))
    (λ x. refl) (c.in_ok-checked.ensures.leads next) in
    let same = ap (λ (n : ℕ). reads 2 (sdd_file n) file (with_checked job vtree))
    (sym c.variables-variables.ensures.count) in
    subst (λ (p : Point). ComesTo (Adds g.F.Shelf.asked c.args.shelf.now c.read-2.new.shelf) told
    (with_check job file job.tree) p) (sym (c.in-Ok.ensures.point job file c.requires.check))
    (leads_on told (g.F.Shelf.files c.read.new.shelf) (with_check job file job.tree) (next vtree)
    (with_checked job vtree) (Ok c.in_ok-read_file.read_file) first (g.F.Shelf.read_faults c.read.new.shelf)
    (g.F.Shelf.read_faults c.read-2.new.shelf)
    (joined g.F.Shelf.asked c.args.shelf.now c.read.new.shelf c.read-2.new.shelf)
    c.in_ok-checked.ensures.files c.in_ok-checked.ensures.read_faults one
    (leads_same _ (g.F.Shelf.files c.read.new.shelf) (next vtree)
    (reads 2 (sdd_file w) file (with_checked job vtree)) (with_checked job vtree) (with_checked job vtree)
    (Ok c.in_ok-read_file.read_file)
    (g.F.Shelf.read_faults c.read.new.shelf) (g.F.Shelf.read_faults c.read-2.new.shelf) same (λ x. refl)
    (c.in_ok-read_file.ensures.leads (with_checked job vtree))))

-- no memory for them
pub returns-in-Err-clause-leads : goal.returns-in-Err-clause-leads
returns-in-Err-clause-leads g c =
    let job = c.args.job.now in
    let file = c.args.file.now in
    let told = g.F.Shelf.files c.args.shelf.now in
    let first = g.F.Shelf.read_faults c.args.shelf.now in
    let vtree = checked_of c.in_ok-checked.checked in
    let w = c.variables-variables.result in
    let next : CheckedVtree → Point = λ v. reads 2 (sdd_file v.variables) file (with_checked job v) in
    let one : ComesTo (Adds g.F.Shelf.asked c.args.shelf.now c.read.new.shelf) told (with_check job file job.tree)
    (next vtree) =
    leads_same _ told (with_check job file job.tree) (reads 2 checked_vtree c.as_str.result.now next)
    (λ v. next (checked_of v)) (λ v. next (checked_of v)) (Ok c.in_ok-checked.checked) first
    (g.F.Shelf.read_faults c.read.new.shelf)
    (ap (with_check job file) c.in-File.is ∙ ap (λ (f : List ℕ). reads 2 checked_vtree f next) (sym c.as_str.ensures))
    (λ x. refl) (c.in_ok-checked.ensures.leads next) in
    let same = ap (λ (n : ℕ). reads 2 (sdd_file n) file (with_checked job vtree))
    (sym c.variables-variables.ensures.count) in
    inl (
      _,
      leads_on told (g.F.Shelf.files c.read.new.shelf) (with_check job file job.tree) (next vtree)
          (with_checked job vtree) (Ok c.in_ok-read_file.read_file) first (g.F.Shelf.read_faults c.read.new.shelf)
          (g.F.Shelf.read_faults c.read-2.new.shelf)
          (joined g.F.Shelf.asked c.args.shelf.now c.read.new.shelf c.read-2.new.shelf)
          c.in_ok-checked.ensures.files c.in_ok-checked.ensures.read_faults one
          (leads_same _ (g.F.Shelf.files c.read.new.shelf) (next vtree)
          (reads 2 (sdd_file w) file (with_checked job vtree)) (with_checked job vtree) (with_checked job vtree)
          (Ok c.in_ok-read_file.read_file)
          (g.F.Shelf.read_faults c.read.new.shelf) (g.F.Shelf.read_faults c.read-2.new.shelf) same (λ x. refl)
          (c.in_ok-read_file.ensures.leads (with_checked job vtree))),
    )

pub returns-in-Ok-clause-ready : goal.returns-in-Ok-clause-ready
returns-in-Ok-clause-ready g c = c.in-Ok.ensures.ready c.args.job.now
