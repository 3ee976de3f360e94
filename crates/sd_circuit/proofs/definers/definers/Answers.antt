use Rattle.std.proofs.Common.{◌≡◌, ◌+◌, ◌-◌, ◌^◌, ◌/◌, sym, ◌∙◌, ap, subst, arith}
use Rattle.std.proofs.Math.ListN.{set}
use Rattle.sd_model.specs.Circuit.{AndLine}
use Rattle.sd_circuit.specs.Order.{line_at, defined_at}
use Rattle.sd_circuit.specs.Definers.{AreDefiners}
use Rattle.sd_circuit.proofs.Paths.{line_is}
use Rattle.sd_circuit.proofs.Defined.{defined_more, defined_none}
use Rattle.sd_circuit.proofs.definers.definers.Goals as goal

pub loop-index-init : goal.loop-index-init
loop-index-init c =
    subst (λ table. AreDefiners c.args.variables c.args.ands.now 0 table)
    (sym (c.in_ok-table.ensures.items_if_clones_equal (λ x e. e)))
    (defined_none c.args.variables c.args.ands.now (2 ^ 32 - 1) (omega (arith, c.requires.few)))

pub index_mut-requires : goal.index_mut-requires
index_mut-requires c =
    let is : line_at c.args.ands.now c.loop-index.index ≡ c.index-ands-index.result =
    line_is c.args.ands.now c.loop-index.index c.index-ands-index.result c.loop-index-test.true c.index-ands-index.is in
    let variable : c.and.inside.defined / 2 ≡ defined_at c.args.ands.now c.loop-index.index =
    ap (λ (l : AndLine). l.defined / 2) (c.and.view_is ∙ sym is) in
    omega (
      arith,
      variable,
      c.loop-index.invariant.size,
      c.requires.lines.defined c.loop-index.index c.loop-index-test.true,
    )

pub loop-index-preserved : goal.loop-index-preserved
loop-index-preserved c =
    let is : line_at c.args.ands.now c.loop-index.index ≡ c.index-ands-index.result =
    line_is c.args.ands.now c.loop-index.index c.index-ands-index.result c.loop-index-test.true c.index-ands-index.is in
    let variable : c.and.inside.defined / 2 ≡ defined_at c.args.ands.now c.loop-index.index =
    ap (λ (l : AndLine). l.defined / 2) (c.and.view_is ∙ sym is) in
    subst (λ v. AreDefiners c.args.variables c.args.ands.now (c.loop-index.index + 1)
    (set c.loop-index.table.items v c.loop-index.index)) (sym variable)
    (defined_more c.args.variables c.args.ands.now c.loop-index.index c.loop-index.table.items c.requires.lines
    c.loop-index.invariant c.loop-index-test.true)
