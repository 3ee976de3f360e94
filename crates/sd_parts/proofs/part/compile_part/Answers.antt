-- The answer of a part, by the clauses of compiling.
use Rattle.std.proofs.Common.{length, refl, sym, ap, subst}
use Rattle.sd_vtree.specs.Numbered.{plain_tree}
use Rattle.sd_manager.specs.Table.{Table}
use Rattle.sd_manager.specs.Marking.{AreUnmarked}
use Rattle.sd_manager.proofs.Marking.{unmarked_new}
use Rattle.sd_parts.specs.Work.{IsPartRefused, work_of}
use Rattle.sd_parts.proofs.Alone.{few_roots, none_left, fits_alone, refused_alone, fits_behind}
use Rattle.sd_parts.proofs.Alone.{outcome_of, answer_refused, answer_compiled}
use Rattle.sd_parts.proofs.part.compile_part.Goals as goal

pub compile-requires-clause-room : goal.compile-requires-clause-room
compile-requires-clause-room c = few_roots c.args.manager.roots (ap (λ (t : Table). t.roots) c.requires.new)

pub compile-requires-clause-unmarked : goal.compile-requires-clause-unmarked
compile-requires-clause-unmarked c =
    subst AreUnmarked (sym c.requires.new) (unmarked_new c.args.manager.vtree c.args.bounds.bound)

pub emptied-manager-requires-clause-alone : goal.emptied-manager-requires-clause-alone
emptied-manager-requires-clause-alone c =
    none_left c.args.manager c.compile.new.m c.in-Ok.root (ap (λ (t : Table). t.roots) c.requires.new)
    c.in-Ok.ensures.kept

pub returns-in-Ok : goal.returns-in-Ok
returns-in-Ok c number =
    let tree = plain_tree c.args.manager.vtree in
    let work = work_of number c.args.formula.now c.args.first tree c.args.bounds.limit c.args.bounds.bound in
    let kept = c.in-Ok.ensures.kept in
    let none = ap (λ (t : Table). t.roots) c.requires.new in
    answer_compiled work c.args.manager c.requires.new refl c.compile.new.m c.emptied-manager.result c.in-Ok.root
    c.records_of-outcome.result kept c.emptied-manager.ensures
    (outcome_of work c.compile.new.m c.emptied-manager.result c.in-Ok.root c.records_of-outcome.result
    (ap plain_tree kept.reached.vtree)
    (fits_alone c.args.manager none c.total_of_formulas.ensures.total c.args.formula.now c.args.bounds.limit
    (length c.args.formula.now.groups) c.in-Ok.ensures.within) c.in-Ok.ensures.ok c.records_of-outcome.ensures.records
    c.records_of-outcome.ensures.value c.records_of-outcome.ensures.err)

pub returns : goal.returns
returns c number =
    let tree = plain_tree c.args.manager.vtree in
    let limit = c.args.bounds.limit in
    let bound = c.args.bounds.bound in
    let work = work_of number c.args.formula.now c.args.first tree limit bound in
    let none = ap (λ (t : Table). t.roots) c.requires.new in
    answer_refused work c.args.manager c.requires.new refl c.compile.new.m c.in_whole.result c.in-Err.ensures.all_kept
    (subst (IsPartRefused work c.compile.new.m) (sym c.in_whole.ensures)
    (refused_alone c.args.manager none c.total_of_formulas.ensures.total c.args.formula.now limit c.compile.new.m number
    c.args.first bound c.in-Err.error c.in-Err.ensures.err))

pub in_whole-requires : goal.in_whole-requires
in_whole-requires c =
    fits_behind c.args.manager c.compile.new.m c.args.formula.now c.args.bounds.limit c.args.first c.in-Err.error
    c.requires.groups c.in-Err.ensures.err
