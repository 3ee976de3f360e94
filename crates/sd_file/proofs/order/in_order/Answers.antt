use Rattle.std.proofs.Common.{◌∙◌, ap, arith}
use Rattle.sd_model.specs.Tree.{leaves}
use Rattle.sd_vtree.specs.Numbered.{plain_tree, number_of}
use Rattle.sd_laws.proofs.Lists.{all_weaker}
use Rattle.sd_file.specs.Ranks.{HasRankOrGroup}
use Rattle.sd_file.proofs.Collected.{nothing_collected}
use Rattle.sd_file.proofs.Collecting.{all_left}
use Rattle.sd_file.proofs.Roots.{within_levels, all_ordered}
use Rattle.sd_file.proofs.order.in_order.Goals as goal

pub collect_all-requires-clause-collected : goal.collect_all-requires-clause-collected
collect_all-requires-clause-collected c =
    nothing_collected c.args.m.now c.new-o.result (record { groups = c.new.result; seen = c.new-2.result })
    c.new-o.ensures c.new.ensures.empty c.new-2.ensures.items

pub collect_all-requires-clause-shown : goal.collect_all-requires-clause-shown
collect_all-requires-clause-shown c =
    within_levels c.args.m.now c.variables-levels.result c.args.nodes.now
    (omega (arith, c.variables-levels.ensures.count, ap (λ t. leaves (plain_tree t)) c.vtree.ensures.vtree)) c.requires

pub rank_below-requires-clause-left : goal.rank_below-requires-clause-left
rank_below-requires-clause-left c =
    all_left c.args.m.now c.vtree.ensures.table c.collect_all.new.o c.collect_all.new.found
    c.in_ok-collect_all.ensures.collected

pub returns : goal.returns
returns c =
    let w = c.in_ok-rank_below.ensures in
    all_ordered c.args.m.now c.vtree.ensures.table c.rank_below.new.o c.rank_below.new.groups c.root.result
    (c.root.ensures.root ∙ ap number_of c.vtree-2.ensures.vtree) w.left.ranks w.none c.args.nodes.now
    (all_weaker (HasRankOrGroup c.collect_all.new.o c.collect_all.new.found.groups)
    (HasRankOrGroup c.rank_below.new.o c.rank_below.new.groups) w.keeps_all c.args.nodes.now
    c.in_ok-collect_all.ensures.stand)
