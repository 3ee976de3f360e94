use Rattle.std.proofs.Common.{Bool, List, true, map, sym, subst}
use Rattle.std.specs.FinMap.{get}
use Rattle.std.proofs.lemmas.Result.{IfOk-weaker}
use Rattle.sd_laws.specs.Values.{pairs_value}
use Rattle.sd_laws.proofs.Evaluated.{value_of}
use Rattle.sd_manager.specs.Views.{pairs_at}
use Rattle.sd_apply.specs.Partitions.{IsPartitionOf}
use Rattle.sd_move.specs.Cells.{IsCell, IsCut, ArePartitions}
use Rattle.sd_move.proofs.Calls.{step_on}
use Rattle.sd_move.proofs.Cutting.{inner_on, whole_cell_on, whole_cut}
use Rattle.sd_move.proofs.cells.by_products.Goals as goal

pub cut_in_turn-requires-clause-place : goal.cut_in_turn-requires-clause-place
cut_in_turn-requires-clause-place c =
    inner_on c.args.m.now c.products_of.new.m c.products_of.ensures.step.kept c.args.place c.requires.place

pub cut_in_turn-requires-clause-cell : goal.cut_in_turn-requires-clause-cell
cut_in_turn-requires-clause-cell c = (
  (λ _. true),
  whole_cell_on c.args.m.now c.products_of.new.m c.products_of.ensures.step.table c.products_of.ensures.step.kept
      c.args.place
      c.requires.place,
)

pub cut_in_turn-requires-clause-parts : goal.cut_in_turn-requires-clause-parts
cut_in_turn-requires-clause-parts c =
    let g = pairs_value (value_of (get c.args.m.now.linked)) (pairs_at c.args.m.now c.args.node) in (
      g,
      subst (λ l. ArePartitions c.products_of.new.m c.args.place (map (λ q. q.items) l) g) (sym c.deref.ensures.value)
          c.in_ok-products.ensures.ok,
    )

pub returns-clause-ok : goal.returns-clause-ok
returns-clause-ok c =
    let m = c.args.m.now in
    let n = c.products_of.new.m in
    let o = c.cut_in_turn.new.m in
    let p = c.args.place in
    let g = pairs_value (value_of (get m.linked)) (pairs_at m c.args.node) in
    let lists = map (λ q. q.items) c.deref.result.now in
    IfOk-weaker c.cut_in_turn.result
    (λ r. (f h : List Bool → Bool) → IsCell n p 1 f → ArePartitions n p lists h → IsCut o p r.items f h)
    (λ r. IsPartitionOf o p r.items g)
    (λ k h. whole_cut o p k.items g (h (λ _. true) g
    (whole_cell_on m n c.products_of.ensures.step.table c.products_of.ensures.step.kept p c.requires.place)
    (subst (λ l. ArePartitions n p (map (λ q. q.items) l) g) (sym c.deref.ensures.value)
    c.in_ok-products.ensures.ok)))
    c.cut_in_turn.ensures.ok

pub returns-clause-step : goal.returns-clause-step
returns-clause-step c = step_on c.products_of.ensures.step c.cut_in_turn.ensures.step

pub returns-in_err-products-clause-step : goal.returns-in_err-products-clause-step
returns-in_err-products-clause-step c = c.products_of.ensures.step
