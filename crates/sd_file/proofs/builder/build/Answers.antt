use Rattle.std.proofs.Common.{arith, subst}
use Rattle.sd_file.specs.Built.{AreBuilt}
use Rattle.sd_file.proofs.Building.{last_built}
use Rattle.sd_file.proofs.builder.build.Goals as goal

-- the last node has the file's value
pub returns-clause-ok : goal.returns-clause-ok
returns-clause-ok c =
    let marks = c.in_ok-reached.reached.items in
    let built = c.in_ok-built.built.items in
    last_built c.args.file.now _ marks built _ c.index.result.now c.in_ok-reached.ensures
    (subst (λ l. AreBuilt c.build_nodes.new.m c.args.file.now l built) c.deref.ensures.value c.in_ok-built.ensures.ok)
    c.in_ok-built.ensures.all (omega (arith, c.in_ok-built.ensures.all, c.build_nodes.ensures.file.filled))
    c.index.ensures
