use Rattle.std.proofs.Common.{◌≡◌, Some, ap}
use Rattle.std.specs.BTreeMap as maps
use Rattle.std.specs.Ordering.{nat_cmp}
use Rattle.sd_commands.specs.Commands.{formula_named}
use Rattle.sd_commands.proofs.Standing.{name_in, name_held}
use Rattle.sd_commands.proofs.Values.{sized}
use Rattle.sd_commands.proofs.state.RunState.size.Goals as goal

pub size_of-requires : goal.size_of-requires
size_of-requires c =
    let at : maps.get nat_cmp c.args.self.now.names c.args.name ≡ Some c.in-Some.root.now =
    let e = c.in-Some.ensures.value in cc in
    let was = c.requires.represents.1 in
    record {
      no_move = was.no_move;
      unmarked = was.unmarked;
      held = name_in c.args.self.now c.requires.represents.0 c.args.name _ was at;
    }

pub returns-clause-size : goal.returns-clause-size
returns-clause-size c = λ seen was.
    let at : maps.get nat_cmp c.args.self.now.names c.args.name ≡ Some c.in-Some.root.now =
    let e = c.in-Some.ensures.value in cc in
    sized c.args.self.now.manager seen.tree _ (formula_named seen c.args.name) _ was.tree
    (name_held c.args.self.now seen c.args.name _ was at) c.size_of.ensures.size

pub returns-clause-same : goal.returns-clause-same
returns-clause-same c = ap (λ t. record c.args.self.now { manager = t }) c.size_of.ensures.same
