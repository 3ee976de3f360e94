use Rattle.std.proofs.Common.{◌≡◌, Some}
use Rattle.std.specs.BTreeMap as maps
use Rattle.std.specs.Ordering.{nat_cmp}
use Rattle.sd_commands.proofs.Standing.{name_held}
use Rattle.sd_commands.proofs.state.RunState.root.Goals as goal

pub returns-clause-value : goal.returns-clause-value
returns-clause-value c = λ seen was.
    let at : maps.get nat_cmp c.args.self.now.names c.args.name ≡ Some c.in-Some.root.now =
    let e = c.in-Some.ensures.value in cc in
    name_held c.args.self.now seen c.args.name _ was at
