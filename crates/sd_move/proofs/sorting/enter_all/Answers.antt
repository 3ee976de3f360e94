use Rattle.std.proofs.Common.{◌+◌, ◌++◌, map, drop, sym, ◌∙◌, ap, append_assoc, arith}
use Rattle.std.proofs.lemmas.List.{append-nil, at_drop_more, at_drop_all}
use Rattle.sd_move.specs.Sorting.{place_entry}
use Rattle.sd_move.proofs.sorting.enter_all.Goals as goal

pub loop-index-preserved : goal.loop-index-preserved
loop-index-preserved c =
    let numbers = c.args.numbers.now in
    let f = place_entry c.args.place in
    let rest = map f (drop (c.loop-index.index + 1) numbers) in
    ap (λ l. l ++ rest) c.in_ok-push.ensures.items
    ∙ append_assoc c.loop-index.entries.items _ rest
    ∙ ap (λ l. c.loop-index.entries.items ++ map f l)
    (sym (at_drop_more (λ l. l) numbers c.loop-index.index 0 (omega (arith, c.loop-index-test.true))))
    ∙ c.loop-index.invariant

pub returns : goal.returns
returns c =
    let numbers = c.args.numbers.now in
    record {
      ok = sym (append-nil c.loop-index.entries.items)
          ∙ ap (λ l. c.loop-index.entries.items ++ map (place_entry c.args.place) l)
          (sym (at_drop_all (λ l. l) numbers c.loop-index.index (omega (arith, c.loop-index-test.false))))
          ∙ c.loop-index.invariant;
    }
