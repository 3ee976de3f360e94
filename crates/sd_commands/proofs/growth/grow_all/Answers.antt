use Rattle.std.proofs.Common.{refl, ap, ◌∙◌, subst, arith}
use Rattle.sd_commands.specs.Growing.{IsSameBeside}
use Rattle.sd_commands.proofs.Growing.{beside_both}
use Rattle.sd_commands.proofs.growth.grow_all.Goals as goal

pub loop-index-init : goal.loop-index-init
loop-index-init c = record {
  growing = λ seen was. was;
  groups = c.requires.begun;
  root = refl;
  beside = record { rest = refl; roots = refl; variables = refl };
}

pub grow_next-requires-clause-growing : goal.grow_next-requires-clause-growing
grow_next-requires-clause-growing c =
    (c.requires.growing.0, c.loop-index.invariant.growing c.requires.growing.0 c.requires.growing.1)

pub grow_next-requires-clause-variables : goal.grow_next-requires-clause-variables
grow_next-requires-clause-variables c = c.loop-index.invariant.beside.variables ∙ c.requires.variables

pub grow_next-requires-clause-every : goal.grow_next-requires-clause-every
grow_next-requires-clause-every c = ap (λ s. s.every) c.loop-index.invariant.beside.rest ∙ c.requires.every

pub loop-index-preserved : goal.loop-index-preserved
loop-index-preserved c = record {
  growing = λ seen was. c.in_default.ensures.ok seen (c.loop-index.invariant.growing seen was);
  groups = c.in_default.ensures.next;
  root = c.in_default.ensures.root ∙ c.loop-index.invariant.root;
  beside =
      beside_both c.args.state.now c.loop-index.state c.grow_next.new.state c.args.work.now.root
      c.loop-index.invariant.beside
      (subst (IsSameBeside c.loop-index.state c.grow_next.new.state) c.loop-index.invariant.root
      c.in_default.ensures.beside);
}

pub returns-in-Err-clause-stops : goal.returns-in-Err-clause-stops
returns-in-Err-clause-stops c = λ seen was name.
    c.in-Err.ensures.stops seen (c.loop-index.invariant.growing seen was) name

pub returns-in-Err-clause-broken : goal.returns-in-Err-clause-broken
returns-in-Err-clause-broken c = λ seen was.
    c.in-Err.ensures.broken seen (c.loop-index.invariant.growing seen was)

pub returns-in-Err-clause-beside : goal.returns-in-Err-clause-beside
returns-in-Err-clause-beside c =
    beside_both c.args.state.now c.loop-index.state c.grow_next.new.state c.args.work.now.root
    c.loop-index.invariant.beside
    (subst (IsSameBeside c.loop-index.state c.grow_next.new.state) c.loop-index.invariant.root
    c.in-Err.ensures.beside)

pub returns-clause-ok : goal.returns-clause-ok
returns-clause-ok c = λ seen was. c.loop-index.invariant.growing seen was

pub grow_next-requires-clause-left : goal.grow_next-requires-clause-left
grow_next-requires-clause-left c =
    let most = c.groups-index-end.ensures.value in omega (arith, most, c.loop-index-test.true)

pub returns-clause-all : goal.returns-clause-all
returns-clause-all c =
    let here = c.loop-index.invariant.groups in
    let most = c.groups-index-end.ensures.value in
    omega (arith, here, most, c.loop-index-test.false, c.loop-index.auto.index-end)
