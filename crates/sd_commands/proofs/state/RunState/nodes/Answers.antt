use Rattle.std.proofs.Common.{take, ◌+◌, sym, subst}
use Rattle.std.specs.List.{AllZip}
use Rattle.std.proofs.lemmas.List.Elements.{All-from_recursion}
use Rattle.sd_commands.specs.Standing.{HasRoot, ShowsNamed}
use Rattle.sd_commands.proofs.Values.{named_more}
use Rattle.sd_commands.proofs.state.RunState.nodes.Goals as goal

-- each name has a root
pub node-requires-clause-bound : goal.node-requires-clause-bound
node-requires-clause-bound c =
    All-from_recursion (HasRoot c.args.self.now) c.args.names.now c.requires.bound c.loop-name.name-index _
    c.loop-name-test.true

pub loop-name-preserved : goal.loop-name-preserved
loop-name-preserved c = λ seen was.
    let shows = ShowsNamed c.args.self.now.manager seen in
    subst (AllZip shows (take (c.loop-name.name-index + 1) c.args.names.now)) (sym c.in_ok-push.ensures.items)
    (named_more shows c.args.names.now c.loop-name.nodes.items c.loop-name.name-index _ _ c.loop-name-test.true
    (c.loop-name.invariant seen was) (c.node.ensures seen was))
