use Rattle.std.proofs.Common.{sym, subst}
use Rattle.std.specs.List.{AllByRecursion}
use Rattle.std.specs.Option.{IsSome}
use Rattle.sd_file.specs.Ordered.{rank_of}
use Rattle.sd_file.specs.Ranks.{IsGiving, RankedNode}
use Rattle.sd_file.proofs.Grouping.{on_ok, giving_start, ranks_codes}
use Rattle.sd_file.proofs.order.rank_group.Goals as goal

pub returns-clause-ranks : goal.returns-clause-ranks
returns-clause-ranks c =
    on_ok c.give_all.result
    (λ give groups fresh none gone.
    let start = giving_start c.args.m.now c.args.o.now groups c.args.position c.args.group.now
    c.in_ok-entries.entries.items c.sort_entries.new.entries.items c.requires.ranks c.requires.group
    c.in_ok-entries.ensures.codes (c.in_ok-entries.ensures.entries c.args.position c.requires.group.each)
    c.sort_entries.ensures.permutation c.sort_entries.ensures.sorted fresh none gone in
    let done = give c.args.m.now groups c.requires.table
    (subst (IsGiving c.args.m.now c.args.o.now groups c.args.position 0) (sym c.deref.ensures.value) start) in
    (done.ranks, done.fresh))
    c.give_all.ensures.giving

pub returns-clause-given : goal.returns-clause-given
returns-clause-given c =
    on_ok c.give_all.result
    (λ h.
    ranks_codes c.give_all.new.o c.args.group.now c.in_ok-entries.entries.items c.sort_entries.new.entries.items
    c.in_ok-entries.ensures.codes c.sort_entries.ensures.permutation
    (subst (AllByRecursion (λ (e : RankedNode). IsSome (rank_of c.give_all.new.o e.2))) c.deref.ensures.value h))
    c.give_all.ensures.given
