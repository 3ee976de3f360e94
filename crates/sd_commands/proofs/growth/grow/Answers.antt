use Rattle.std.proofs.Common.{refl, sym, ap, subst, ◌∙◌, arith}
use Rattle.sd_manager.specs.Making.{without_root}
use Rattle.sd_vtree.specs.Numbered.{plain_tree}
use Rattle.sd_model.specs.Tree.{leaves}
use Rattle.sd_commands.proofs.Growing.{growing_first, grown_all, one_grown, none_grown, left_released, stops_released}
use Rattle.sd_commands.proofs.Growing.{roots_again}
use Rattle.sd_commands.specs.Growing.{IsSameBeside, IsBrokenOff}
use Rattle.std.specs.Option.{IsSome}
use Rattle.std.specs.FinMap.{get, len, remove}
use Rattle.sd_commands.specs.declared.state.RunState.{RunState}
use Rattle.sd_commands.proofs.Growing.{left_at_once}
use Rattle.sd_commands.proofs.growth.grow.Goals as goal

pub returns-in-Err-clause-err : goal.returns-in-Err-clause-err
returns-in-Err-clause-err c =
    left_at_once c.args.input.now c.args.state.now _
    (ap (λ t. record c.args.state.now { manager = t }) c.in-Err.ensures.err)

pub grow_all-requires-clause-growing : goal.grow_all-requires-clause-growing
grow_all-requires-clause-growing c = (
  c.requires.represents.0,
  growing_first c.args.input.now c.requires.represents.0 c.args.state.now c.begin.new.m c.in-Ok.work
      c.requires.represents.1 c.requires.forgotten c.in-Ok.ensures.ok,
)

pub returns-in-Ok-grow_all-clause-ok : goal.returns-in-Ok-grow_all-clause-ok
returns-in-Ok-grow_all-clause-ok c = λ seen was.
    grown_all c.args.input.now seen c.grow_all.new.state c.grow_all.new.work _
    (c.in-Ok-grow_all.ensures.ok seen
    (growing_first c.args.input.now seen c.args.state.now c.begin.new.m c.in-Ok.work was c.requires.forgotten
    c.in-Ok.ensures.ok))
    c.in-Ok-grow_all.ensures.all c.finish.ensures

pub returns-in-Ok-grow_all-clause-others : goal.returns-in-Ok-grow_all-clause-others
returns-in-Ok-grow_all-clause-others c =
    ap (λ r. remove c.grow_all.new.state.manager.roots r) (c.finish.ensures ∙ c.in-Ok-grow_all.ensures.root)
    ∙ roots_again c.args.input.now c.args.state.now c.begin.new.m c.in-Ok.work c.in-Ok.ensures.ok
    c.requires.forgotten c.grow_all.new.state c.in-Ok-grow_all.ensures.beside

pub returns-in-Ok-grow_all-clause-rest : goal.returns-in-Ok-grow_all-clause-rest
returns-in-Ok-grow_all-clause-rest c = c.in-Ok-grow_all.ensures.beside.rest

pub returns-in-Ok-grow_all-clause-roots : goal.returns-in-Ok-grow_all-clause-roots
returns-in-Ok-grow_all-clause-roots c =
    one_grown c.args.input.now c.args.state.now c.begin.new.m c.in-Ok.work c.in-Ok.ensures.ok
    c.requires.forgotten c.grow_all.new.state c.in-Ok-grow_all.ensures.beside

pub returns-in-Ok-grow_all-clause-variables : goal.returns-in-Ok-grow_all-clause-variables
returns-in-Ok-grow_all-clause-variables c =
    c.in-Ok-grow_all.ensures.beside.variables ∙ ap (λ t. leaves (plain_tree t.vtree)) c.in-Ok.ensures.ok.is

pub returns-in-Err-grow_all-clause-err : goal.returns-in-Err-grow_all-clause-err
returns-in-Err-grow_all-clause-err c =
    let same = c.finish-in-Err-grow_all.ensures ∙ c.in-Err-grow_all.ensures.root in
    left_released c.args.input.now c.args.state.now c.begin.new.m c.in-Ok.work c.in-Ok.ensures.ok
    c.requires.forgotten c.grow_all.new.state c.in-Err-grow_all.ensures.beside c.release.new.self
    (c.release.ensures.released ∙ ap (without_root c.grow_all.new.state.manager) same)
    (λ seen was.
    subst (IsBrokenOff c.args.input.now seen c.grow_all.new.state) c.in-Err-grow_all.ensures.root
    (c.in-Err-grow_all.ensures.broken seen was))

pub returns-in-Err-grow_all-clause-stops : goal.returns-in-Err-grow_all-clause-stops
returns-in-Err-grow_all-clause-stops c = λ seen was name.
    stops_released c.args.input.now seen name c.grow_all.new.state.manager c.release.new.self _ c.in-Err-grow_all.error
    c.release.ensures.released
    (c.in-Err-grow_all.ensures.stops seen
    (growing_first c.args.input.now seen c.args.state.now c.begin.new.m c.in-Ok.work was c.requires.forgotten
    c.in-Ok.ensures.ok) name)

pub returns-in-Err-grow_all-clause-roots : goal.returns-in-Err-grow_all-clause-roots
returns-in-Err-grow_all-clause-roots c =
    none_grown c.args.input.now c.args.state.now c.begin.new.m c.in-Ok.work c.in-Ok.ensures.ok
    c.requires.forgotten c.grow_all.new.state c.in-Err-grow_all.ensures.beside c.release.new.self
    (c.release.ensures.released
    ∙ ap (without_root c.grow_all.new.state.manager)
    (c.finish-in-Err-grow_all.ensures ∙ c.in-Err-grow_all.ensures.root))

pub returns-in-Err-clause-variables : goal.returns-in-Err-clause-variables
returns-in-Err-clause-variables c = ap (λ t. leaves (plain_tree t.vtree)) c.in-Err.ensures.err

pub returns-in-Err-clause-roots : goal.returns-in-Err-clause-roots
returns-in-Err-clause-roots c = let same = ap (λ t. len t.roots) c.in-Err.ensures.err in omega (arith, same)

pub grow_all-requires-clause-variables : goal.grow_all-requires-clause-variables
grow_all-requires-clause-variables c =
    ap (λ t. leaves (plain_tree t.vtree)) c.in-Ok.ensures.ok.is ∙ c.requires.variables

pub release-requires-clause-no_move : goal.release-requires-clause-no_move
release-requires-clause-no_move c =
    (c.in-Err-grow_all.ensures.broken c.requires.represents.0
    (growing_first c.args.input.now c.requires.represents.0 c.args.state.now c.begin.new.m c.in-Ok.work
    c.requires.represents.1 c.requires.forgotten c.in-Ok.ensures.ok)).represents.no_move

pub release-requires-clause-root : goal.release-requires-clause-root
release-requires-clause-root c =
    subst (λ r. IsSome (get c.grow_all.new.state.manager.roots r)) (sym c.finish-in-Err-grow_all.ensures)
    (c.in-Err-grow_all.ensures.broken c.requires.represents.0
    (growing_first c.args.input.now c.requires.represents.0 c.args.state.now c.begin.new.m c.in-Ok.work
    c.requires.represents.1 c.requires.forgotten c.in-Ok.ensures.ok)).held

pub returns-in-Err-grow_all-clause-rest : goal.returns-in-Err-grow_all-clause-rest
returns-in-Err-grow_all-clause-rest c =
    ap (λ (s : RunState). record s { manager = c.release.new.self }) c.in-Err-grow_all.ensures.beside.rest

pub returns-in-Err-grow_all-clause-variables : goal.returns-in-Err-grow_all-clause-variables
returns-in-Err-grow_all-clause-variables c =
    ap (λ t. leaves (plain_tree t.vtree)) c.release.ensures.released ∙ c.in-Err-grow_all.ensures.beside.variables
    ∙ ap (λ t. leaves (plain_tree t.vtree)) c.in-Ok.ensures.ok.is
