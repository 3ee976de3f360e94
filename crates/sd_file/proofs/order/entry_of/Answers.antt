use Rattle.std.proofs.Common.{◌≡◌, length, rules}
use Rattle.sd_file.proofs.Grouping.{entry_is}
use Rattle.sd_file.proofs.order.entry_of.Goals as goal

pub returns-clause-entry : goal.returns-clause-entry
returns-clause-entry c =
    let count : c.len.result ≡ length c.sort_elements.new.elements.items = search rules in
    entry_is c.args.m.now c.args.o.now c.requires.ranks c.args.code c.len.result c.in_ok-elements.elements.items
    c.sort_elements.new.elements c.in_ok-elements.ensures.pairs c.in_ok-elements.ensures.ranked
    c.sort_elements.ensures.permutation c.sort_elements.ensures.sorted count
