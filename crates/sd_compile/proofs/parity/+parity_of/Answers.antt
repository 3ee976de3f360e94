use Rattle.std.proofs.Common.{subst, length}
use Rattle.std.proofs.lemmas.List.{take_rest}
use Rattle.std.proofs.Common.{take, drop, slice_range}
use Rattle.std.proofs.lemmas.Result.{IfOk-weaker}
use Rattle.sd_model.specs.declared.trees.Operation.TheVariants.{Xor}
use Rattle.sd_model.specs.Expression.{combine}
use Rattle.sd_compile.specs.Joined.{HasBothAnswers}
use Rattle.sd_compile.proofs.Grouping.{placed_value}
use Rattle.sd_compile.proofs.Parities.{both_on, parts_parity}
use Rattle.sd_compile.proofs.parity.+parity_of.Goals as goal

pub parity_of_both-requires-clause-first : goal.parity_of_both-requires-clause-first
parity_of_both-requires-clause-first t c = (
  placed_value Xor (take c.parting-split.result c.args.placed.now),
  both_on c.parity_of.new.m c.parity_of-2.new.m (placed_value Xor (take c.parting-split.result c.args.placed.now))
      c.in_ok-first.first.odd c.in_ok-first.first.even c.in_ok-second.ensures.kept c.in_ok-first.ensures.ok,
)

pub parity_of_both-requires-clause-second : goal.parity_of_both-requires-clause-second
parity_of_both-requires-clause-second t c = (
  placed_value Xor (slice_range c.args.placed.now c.parting-split.result (length c.args.placed.now)),
  c.in_ok-second.ensures.ok,
)

pub returns-clause-ok : goal.returns-clause-ok
returns-clause-ok t c =
    let n = c.parting-split.result in
    let placed = c.args.placed.now in
    let new = c.parity_of_both.new.m in
    let f = placed_value Xor (take n placed) in
    let g = placed_value Xor (drop n placed) in
    IfOk-weaker c.parity_of_both.result (λ r. HasBothAnswers new (λ s. combine Xor (f s) (g s)) r.odd r.even)
    (λ r. HasBothAnswers new (placed_value Xor placed) r.odd r.even)
    (λ r h. parts_parity new n placed r.odd r.even h)
    (c.parity_of_both.ensures.ok f g
    (both_on c.parity_of.new.m c.parity_of-2.new.m f c.in_ok-first.first.odd c.in_ok-first.first.even
    c.in_ok-second.ensures.kept c.in_ok-first.ensures.ok)
    (subst (λ l. HasBothAnswers c.parity_of-2.new.m (placed_value Xor l) c.in_ok-second.second.odd
    c.in_ok-second.second.even) (take_rest placed n) c.in_ok-second.ensures.ok))
