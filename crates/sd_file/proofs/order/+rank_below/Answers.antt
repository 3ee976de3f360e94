use Rattle.std.proofs.Common.{◌≡◌, sym, ◌∙◌, ap, subst, Some, slice_get}
use Rattle.std.specs.List.{AllByRecursion}
use Rattle.sd_vtree.specs.Numbered.{children_at, numbers, NumberedNode}
use Rattle.sd_vtree.proofs.Subtrees.{inner_pair, size_at}
use Rattle.sd_vtree.proofs.Times.{smaller}
use Rattle.sd_laws.proofs.Numbers.{part_of_subtree}
use Rattle.sd_file.specs.Ranks.{IsGroup, HasRankedPairs}
use Rattle.sd_file.proofs.Grouping.{group_taken, fresh_fewer}
use Rattle.sd_file.proofs.RankedBelow.{nothing_below, ready_group, ranked_node, still_ranked, still_nothing}
use Rattle.sd_file.proofs.order.+rank_below.Goals as goal

pub rank_below-requires : goal.rank_below-requires
rank_below-requires t c =
    let at : Some c.in-Some.children ≡ children_at c.args.m.now.vtree c.args.node =
    c.in-Some.ensures.children ∙ ap (λ v. children_at v c.args.node) c.vtree.ensures.vtree in
    let p = inner_pair c.requires.table.numbered at in
    let d : size_at c.args.m.now.vtree c.args.node ≡ t = c.decreases in
    (smaller p.left_smaller d, (c.requires.table, (c.requires.left, p.left_within)))

pub rank_below-requires-in-Some : goal.rank_below-requires-in-Some
rank_below-requires-in-Some t c =
    let at : Some c.in-Some.children ≡ children_at c.args.m.now.vtree c.args.node =
    c.in-Some.ensures.children ∙ ap (λ v. children_at v c.args.node) c.vtree.ensures.vtree in
    let p = inner_pair c.requires.table.numbered at in
    let d : size_at c.args.m.now.vtree c.args.node ≡ t = c.decreases in
    (smaller p.right_smaller d, (c.requires.table, (c.in_ok-rank_below.ensures.left, p.right_within)))

pub rank_group-requires-clause-group : goal.rank_group-requires-clause-group
rank_group-requires-clause-group t c =
    subst (IsGroup c.args.m.now c.position-position.result) (sym c.deref.ensures.value)
    (group_taken c.args.m.now c.rank_below-in-Some.new.o c.rank_below-in-Some.new.groups c.position-position.result
    c.in-Some-take_group.group c.in_ok-rank_below-2.ensures.left (sym c.in-Some-take_group.ensures.taken)).0

pub rank_group-requires-clause-ready : goal.rank_group-requires-clause-ready
rank_group-requires-clause-ready t c =
    let at : Some c.in-Some.children ≡ children_at c.args.m.now.vtree c.args.node =
    c.in-Some.ensures.children ∙ ap (λ v. children_at v c.args.node) c.vtree.ensures.vtree in
    let i = inner_pair c.requires.table.numbered at in
    let stands : slice_get (numbers c.args.m.now.vtree) c.position-position.result ≡ Some c.args.node =
    subst (λ v. slice_get (numbers v) c.position-position.result ≡ Some c.args.node) c.vtree-in-Some.ensures.vtree
    c.position-position.ensures.position in
    subst (AllByRecursion (HasRankedPairs c.args.m.now c.rank_below-in-Some.new.o)) (sym c.deref.ensures.value)
    (ready_group c.args.m.now c.requires.table c.args.o.now c.rank_below.new.o c.rank_below-in-Some.new.o
    c.args.groups.now c.rank_below.new.groups c.rank_below-in-Some.new.groups c.args.node c.in-Some.children.0
    c.in-Some.children.1 c.position-position.result i stands c.in_ok-rank_below.ensures c.in_ok-rank_below-2.ensures
    c.in-Some-take_group.group (sym c.in-Some-take_group.ensures.taken)
    (part_of_subtree c.args.m.now.vtree c.args.node (NumberedNode c.args.node i.left i.right) 0 i.is))

pub returns-in_ok-rank_group : goal.returns-in_ok-rank_group
returns-in_ok-rank_group t c =
    let at : Some c.in-Some.children ≡ children_at c.args.m.now.vtree c.args.node =
    c.in-Some.ensures.children ∙ ap (λ v. children_at v c.args.node) c.vtree.ensures.vtree in
    let i = inner_pair c.requires.table.numbered at in
    let stands : slice_get (numbers c.args.m.now.vtree) c.position-position.result ≡ Some c.args.node =
    subst (λ v. slice_get (numbers v) c.position-position.result ≡ Some c.args.node) c.vtree-in-Some.ensures.vtree
    c.position-position.ensures.position in
    let left = c.in_ok-rank_below-2.ensures.left in
    let taken = sym c.in-Some-take_group.ensures.taken in
    let none = (group_taken c.args.m.now c.rank_below-in-Some.new.o c.rank_below-in-Some.new.groups
    c.position-position.result c.in-Some-take_group.group left taken).1 in
    let r = c.in_ok-rank_group.ensures.ranks c.take_group.new.groups
    (fresh_fewer c.args.m.now c.rank_below-in-Some.new.o c.rank_below-in-Some.new.groups c.take_group.new.groups
    c.in-Some-take_group.ensures.rest left.fresh) none c.in-Some-take_group.ensures.gone in
    let keeps_all = still_ranked c.rank_below-in-Some.new.o c.rank_group.new.o c.rank_below-in-Some.new.groups
    c.take_group.new.groups c.position-position.result c.in-Some-take_group.group taken
    c.in-Some-take_group.ensures.others c.in_ok-rank_group.ensures.kept
    (subst (AllByRecursion _) c.deref.ensures.value c.in_ok-rank_group.ensures.given) in
    ranked_node c.args.m.now c.requires.table c.args.o.now c.rank_below.new.o c.rank_below-in-Some.new.o
    c.args.groups.now c.rank_below.new.groups c.rank_below-in-Some.new.groups c.args.node c.in-Some.children.0
    c.in-Some.children.1 c.position-position.result i stands c.in_ok-rank_below.ensures c.in_ok-rank_below-2.ensures
    c.rank_group.new.o c.take_group.new.groups r.0 r.1 keeps_all c.in-Some-take_group.ensures.gone
    c.in-Some-take_group.ensures.rest

pub returns-in_default-take_group : goal.returns-in_default-take_group
returns-in_default-take_group t c =
    let at : Some c.in-Some.children ≡ children_at c.args.m.now.vtree c.args.node =
    c.in-Some.ensures.children ∙ ap (λ v. children_at v c.args.node) c.vtree.ensures.vtree in
    let i = inner_pair c.requires.table.numbered at in
    let stands : slice_get (numbers c.args.m.now.vtree) c.position-position.result ≡ Some c.args.node =
    subst (λ v. slice_get (numbers v) c.position-position.result ≡ Some c.args.node) c.vtree-in-Some.ensures.vtree
    c.position-position.ensures.position in
    let left = c.in_ok-rank_below-2.ensures.left in
    let keeps_all = still_nothing c.rank_below-in-Some.new.o c.rank_below-in-Some.new.groups c.take_group.new.groups
    c.position-position.result (sym c.in_default-take_group.ensures.taken) c.in_default-take_group.ensures.others in
    ranked_node c.args.m.now c.requires.table c.args.o.now c.rank_below.new.o c.rank_below-in-Some.new.o
    c.args.groups.now c.rank_below.new.groups c.rank_below-in-Some.new.groups c.args.node c.in-Some.children.0
    c.in-Some.children.1 c.position-position.result i stands c.in_ok-rank_below.ensures c.in_ok-rank_below-2.ensures
    c.rank_below-in-Some.new.o c.take_group.new.groups left.ranks
    (fresh_fewer c.args.m.now c.rank_below-in-Some.new.o c.rank_below-in-Some.new.groups c.take_group.new.groups
    c.in_default-take_group.ensures.rest left.fresh) keeps_all c.in_default-take_group.ensures.gone
    c.in_default-take_group.ensures.rest

pub returns-in_default : goal.returns-in_default
returns-in_default t c =
    nothing_below c.args.m.now c.requires.table c.args.o.now c.args.groups.now c.args.node c.requires.left
    (c.in_default.ensures.children ∙ ap (λ v. children_at v c.args.node) c.vtree.ensures.vtree)
