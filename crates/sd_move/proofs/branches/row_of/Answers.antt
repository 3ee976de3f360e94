use Rattle.std.proofs.Common.{◌+◌, ◌∙◌, Option, Some, get_or, take, ap, sym, subst}
use Rattle.std.proofs.lemmas.Option.{slice_get_within}
use Rattle.sd_move.specs.Branches.{Branch, IsRow, sub_at}
use Rattle.sd_move.proofs.Branching.{row_takes, row_passes, prime_read}
use Rattle.sd_move.proofs.branches.row_of.Goals.{in-Some+in-Ok, in_default+in-Ok-push}
use Rattle.sd_move.proofs.branches.row_of.Goals as goal

pub loop-index-preserved : goal.loop-index-preserved
loop-index-preserved c =
    let own = c.args.own.now in
    let l = c.args.branches.now in
    let i = c.loop-index.index in
    let prime = (get_or own i c.index-own-index.result).0 in
    let read = prime_read own i (0, 0) c.index-own-index.result c.loop-index-test.true in
    elim c.match-inner_at.branch [
      | in-Some+in-Ok w ↦
          let e : Branch = (sub_at l c.args.from, prime, w.in-Some.inner) in
          let at = w.in-Some.ensures
          ∙ ap {B = Option Branch} (λ p. Some (sub_at l c.args.from, p, w.in-Some.inner)) c.prime.view_is in
          subst (λ n. IsRow (take (i + 1) own) l c.args.from c.match-inner_at.row.items n) (sym w.next-is)
          (row_takes own l c.args.from c.loop-index.row.items c.match-inner_at.row.items c.loop-index.next i prime
          w.in-Some.inner c.loop-index.invariant c.loop-index-test.true read
          (slice_get_within l c.loop-index.next e at) at (ap (λ r. r.items) w.row-is ∙ w.in-Ok.ensures.ok))
      | in_default+in-Ok-push w ↦
          subst (λ n. IsRow (take (i + 1) own) l c.args.from c.match-inner_at.row.items n) (sym w.next-is)
          (row_passes own l c.args.from c.loop-index.row.items c.match-inner_at.row.items c.loop-index.next i prime
          c.loop-index.invariant c.loop-index-test.true read
          (ap (λ r. r.items) w.row-is ∙ w.in-Ok-push.ensures.ok))
    ]
