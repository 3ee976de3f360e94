use Rattle.std.proofs.Common.{arith}
use Rattle.sd_file.proofs.Growing.{taken}
use Rattle.sd_file.proofs.id_table.IdTable.decomposition.Goals as goal

-- there are no more pairs than ids
pub overflow_cast-count : goal.overflow_cast-count
overflow_cast-count c =
    let before = c.args.pairs.now.items in
    let after = c.put_pairs.new.pairs.items in
    let t = taken _ before after c.args.vtree c.args.children.now c.in_ok-put_pairs.ensures in
    omega (arith, c.len.ensures, c.len-start.ensures, t.within_limit, t.longer, c.requires.within_limit)

-- the list is not shorter than before
pub returns-clause-within : goal.returns-clause-within
returns-clause-within c =
    let before = c.args.pairs.now.items in
    let after = c.put_pairs.new.pairs.items in
    let t = taken _ before after c.args.vtree c.args.children.now c.in_ok-put_pairs.ensures in
    omega (arith, c.len.ensures, c.len-start.ensures, t.longer)
