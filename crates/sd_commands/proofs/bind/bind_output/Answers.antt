use Rattle.std.proofs.Common.{Err, sym, ap, subst, ◌∙◌, arith}
use Rattle.std.specs.BTreeMap as maps
use Rattle.std.specs.Ordering.{nat_cmp}
use Rattle.std.specs.FinMap.{len}
use Rattle.sd_model.specs.Expression.{OutputOf}
use Rattle.sd_commands.specs.Commands.{with_name}
use Rattle.sd_commands.specs.Standing.{StopsAt}
use Rattle.sd_commands.specs.declared.command.RunCommand.TheVariants as commands
use Rattle.sd_commands.proofs.Standing.{before_both}
use Rattle.sd_commands.proofs.Stepping.{settled_stops, operation_stops}
use Rattle.sd_commands.proofs.Settling.{settles_within}
use Rattle.sd_commands.proofs.bind.bind_output.Goals as goal

pub bind_unswept-requires-clause-represents : goal.bind_unswept-requires-clause-represents
bind_unswept-requires-clause-represents c = (
  c.requires.represents.0,
  c.output.ensures.kept.represents c.requires.represents.0 c.requires.represents.1,
)

pub bind_unswept-requires-clause-shown : goal.bind_unswept-requires-clause-shown
bind_unswept-requires-clause-shown c = (
  OutputOf c.requires.represents.0.circuit c.args.index,
  c.in-Ok.ensures.ok c.requires.represents.0 c.requires.represents.1,
)

pub returns-in-Ok-bind_unswept-clause-done : goal.returns-in-Ok-bind_unswept-clause-done
returns-in-Ok-bind_unswept-clause-done c = λ input seen was.
    let f = OutputOf seen.circuit c.args.index in
    let mid = c.output.ensures.kept.represents seen was in
    let shows = c.in-Ok.ensures.ok seen was in
    record {
      next = with_name seen c.args.name f;
      step = settles_within (with_name seen c.args.name f) (c.in-Ok-bind_unswept.ensures.within seen f mid shows);
      represents = c.in-Ok-bind_unswept.ensures.represents seen f mid shows;
    }

pub bind_unswept-requires-clause-free : goal.bind_unswept-requires-clause-free
bind_unswept-requires-clause-free c =
    ap (λ names. maps.get nat_cmp names c.args.name) c.output.ensures.names ∙ c.requires.free

pub bind_unswept-requires-clause-room : goal.bind_unswept-requires-clause-room
bind_unswept-requires-clause-room c =
    let same = ap (λ r. len r) c.output.ensures.kept.roots in omega (arith, same, c.requires.room)

pub returns-in-Err-bind_unswept-clause-stops : goal.returns-in-Err-bind_unswept-clause-stops
returns-in-Err-bind_unswept-clause-stops c = λ input seen was.
    let f = OutputOf seen.circuit c.args.index in
    settled_stops input seen (with_name seen c.args.name f) (commands.Output c.args.name c.args.index)
    c.bind_unswept.new.self.manager (Err c.in-Err-bind_unswept.e) (λ outcome h. h)
    (c.in-Err-bind_unswept.ensures.refused seen f (c.output.ensures.kept.represents seen was)
    (c.in-Ok.ensures.ok seen was))

pub returns-in-Err-clause-stops : goal.returns-in-Err-clause-stops
returns-in-Err-clause-stops c = λ input seen was.
    let command = commands.Output c.args.name c.args.index in
    subst (λ e. StopsAt input seen command c.output.new.self.manager e) (sym c.operation_error.ensures)
    (operation_stops input seen command c.output.new.self.manager c.in-Err.e tt (c.output.ensures.bound ∙ was.bound)
    c.in-Err.ensures.rule)

pub returns-in-Err-clause-err : goal.returns-in-Err-clause-err
returns-in-Err-clause-err c = c.output.ensures.kept

pub returns-in-Err-bind_unswept-clause-err : goal.returns-in-Err-bind_unswept-clause-err
returns-in-Err-bind_unswept-clause-err c =
    before_both c.args.state.now c.output.new.self c.bind_unswept.new.self c.output.ensures.kept
    c.in-Err-bind_unswept.ensures.err

pub returns-in-Ok-bind_unswept-clause-vtree : goal.returns-in-Ok-bind_unswept-clause-vtree
returns-in-Ok-bind_unswept-clause-vtree c =
    c.bind_unswept.ensures.vtree ∙ c.output.ensures.vtree

pub returns-in-Err-bind_unswept-clause-vtree : goal.returns-in-Err-bind_unswept-clause-vtree
returns-in-Err-bind_unswept-clause-vtree c = c.bind_unswept.ensures.vtree ∙ c.output.ensures.vtree

pub returns-in-Ok-bind_unswept-clause-roots : goal.returns-in-Ok-bind_unswept-clause-roots
returns-in-Ok-bind_unswept-clause-roots c =
    let same = ap (λ r. len r) c.output.ensures.kept.roots in
    let more = c.bind_unswept.ensures.roots in
    omega (arith, same, more)

pub returns-in-Err-bind_unswept-clause-roots : goal.returns-in-Err-bind_unswept-clause-roots
returns-in-Err-bind_unswept-clause-roots c =
    let same = ap (λ r. len r) c.output.ensures.kept.roots in
    let more = c.bind_unswept.ensures.roots in
    omega (arith, same, more)

pub returns-in-Err-clause-roots : goal.returns-in-Err-clause-roots
returns-in-Err-clause-roots c =
    let same = ap (λ r. len r) c.output.ensures.kept.roots in omega (arith, same)
