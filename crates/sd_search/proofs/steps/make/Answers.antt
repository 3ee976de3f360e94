use Rattle.std.proofs.Common.{refl, sym, subst, arith}
use Rattle.sd_model.specs.declared.trees.Move.TheVariants.{RotateLeft, Swap as SwapMove}
use Rattle.sd_search.specs.Walking.{move_of}
use Rattle.sd_search.specs.declared.steps.Step.TheVariants.{Swap, Rotate, SwapChild}
use Rattle.sd_model.specs.Moves.{moved}
use Rattle.std.proofs.Common.{◌≡◌, None, ◌++◌}
use Rattle.sd_vtree.specs.Numbered.{plain_tree}
use Rattle.sd_search.proofs.OneStep.{stands_here, stands_child, made_stepped, made_sized, made_refused, no_child}
use Rattle.sd_sweep.proofs.NeverFalling.{never_same}
use Rattle.sd_search.proofs.NeverFalling.{made_never}
use Rattle.sd_search.proofs.steps.make.Goals as goal

pub returns-in-Swap-clause-stepped : goal.returns-in-Swap-clause-stepped
returns-in-Swap-clause-stepped c =
    made_stepped (λ r. r.journal) (λ r. r.size) Swap c.args.step c.in-Swap.is c.args.m.now c.swap.new.m c.args.place
    c.args.place c.args.most c.vtree.ensures.table c.requires.place
    (stands_here c.args.m.now.vtree SwapMove c.args.place)
    c.swap.result c.swap.ensures.moved

pub returns-in-Swap-clause-sized : goal.returns-in-Swap-clause-sized
returns-in-Swap-clause-sized c =
    made_sized (λ r. r.journal) (λ r. r.size) Swap c.args.step c.in-Swap.is c.args.m.now c.swap.new.m c.args.place
    c.args.place c.args.most c.vtree.ensures.table c.requires.place
    (stands_here c.args.m.now.vtree SwapMove c.args.place)
    c.swap.result c.swap.ensures.moved c.swap.ensures.size

pub returns-in-Swap-clause-refused : goal.returns-in-Swap-clause-refused
returns-in-Swap-clause-refused c =
    made_refused (λ r. r.journal) (λ r. r.size) Swap c.args.step c.in-Swap.is c.args.m.now c.swap.new.m c.args.place
    c.args.place c.args.most c.vtree.ensures.table c.requires.place
    (stands_here c.args.m.now.vtree SwapMove c.args.place)
    c.swap.result c.swap.ensures.refused

pub returns-in-Rotate-clause-stepped : goal.returns-in-Rotate-clause-stepped
returns-in-Rotate-clause-stepped c =
    made_stepped (λ r. r.journal) (λ r. r.size) Rotate c.args.step c.in-Rotate.is c.args.m.now c.rotate_left.new.m
    c.args.place c.args.place c.args.most c.vtree.ensures.table c.requires.place
    (stands_here c.args.m.now.vtree RotateLeft c.args.place) c.rotate_left.result c.rotate_left.ensures.moved

pub returns-in-Rotate-clause-sized : goal.returns-in-Rotate-clause-sized
returns-in-Rotate-clause-sized c =
    made_sized (λ r. r.journal) (λ r. r.size) Rotate c.args.step c.in-Rotate.is c.args.m.now c.rotate_left.new.m
    c.args.place c.args.place c.args.most c.vtree.ensures.table c.requires.place
    (stands_here c.args.m.now.vtree RotateLeft c.args.place) c.rotate_left.result c.rotate_left.ensures.moved
    c.rotate_left.ensures.size

pub returns-in-Rotate-clause-refused : goal.returns-in-Rotate-clause-refused
returns-in-Rotate-clause-refused c =
    made_refused (λ r. r.journal) (λ r. r.size) Rotate c.args.step c.in-Rotate.is c.args.m.now c.rotate_left.new.m
    c.args.place c.args.place c.args.most c.vtree.ensures.table c.requires.place
    (stands_here c.args.m.now.vtree RotateLeft c.args.place) c.rotate_left.result c.rotate_left.ensures.refused

pub returns-in-Some-clause-stepped : goal.returns-in-Some-clause-stepped
returns-in-Some-clause-stepped c =
    made_stepped (λ r. r.journal) (λ r. r.size) (SwapChild c.in-SwapChild.side) c.args.step c.in-SwapChild.is
    c.args.m.now c.swap-in-Some.new.m c.args.place c.in-Some.child c.args.most c.vtree.ensures.table
    c.in-Some.ensures.node
    (stands_child c.args.m.now.vtree c.in-SwapChild.side c.args.place c.in-Some.child c.vtree.ensures.table.numbered
    c.in-Some.ensures.child)
    c.swap-in-Some.result c.swap-in-Some.ensures.moved

pub returns-in-Some-clause-sized : goal.returns-in-Some-clause-sized
returns-in-Some-clause-sized c =
    made_sized (λ r. r.journal) (λ r. r.size) (SwapChild c.in-SwapChild.side) c.args.step c.in-SwapChild.is
    c.args.m.now c.swap-in-Some.new.m c.args.place c.in-Some.child c.args.most c.vtree.ensures.table
    c.in-Some.ensures.node
    (stands_child c.args.m.now.vtree c.in-SwapChild.side c.args.place c.in-Some.child c.vtree.ensures.table.numbered
    c.in-Some.ensures.child)
    c.swap-in-Some.result c.swap-in-Some.ensures.moved c.swap-in-Some.ensures.size

pub returns-in-Some-clause-refused : goal.returns-in-Some-clause-refused
returns-in-Some-clause-refused c =
    made_refused (λ r. r.journal) (λ r. r.size) (SwapChild c.in-SwapChild.side) c.args.step c.in-SwapChild.is
    c.args.m.now c.swap-in-Some.new.m c.args.place c.in-Some.child c.args.most c.vtree.ensures.table
    c.in-Some.ensures.node
    (stands_child c.args.m.now.vtree c.in-SwapChild.side c.args.place c.in-Some.child c.vtree.ensures.table.numbered
    c.in-Some.ensures.child)
    c.swap-in-Some.result c.swap-in-Some.ensures.refused

pub returns-in-None-clause-refused : goal.returns-in-None-clause-refused
returns-in-None-clause-refused c path at =
    subst (λ s. moved (move_of s).kind (plain_tree c.args.m.now.vtree) (path ++ (move_of s).below) ≡ None)
    (sym c.in-SwapChild.is)
    (no_child c.args.m.now.vtree c.in-SwapChild.side c.args.place c.vtree.ensures.table.numbered
    c.in-None.ensures.child path at)

pub returns-in-Swap-clause-never_falls : goal.returns-in-Swap-clause-never_falls
returns-in-Swap-clause-never_falls c =
    made_never (λ r. r.journal) c.args.m.now c.swap.new.m SwapMove c.args.place c.swap.result
    (omega (arith, c.epoch.type_inv, c.epoch.ensures.epoch)) c.swap.ensures.moved c.swap.ensures.never_falls

pub returns-in-Rotate-clause-never_falls : goal.returns-in-Rotate-clause-never_falls
returns-in-Rotate-clause-never_falls c =
    made_never (λ r. r.journal) c.args.m.now c.rotate_left.new.m RotateLeft c.args.place c.rotate_left.result
    (omega (arith, c.epoch.type_inv, c.epoch.ensures.epoch)) c.rotate_left.ensures.moved
    c.rotate_left.ensures.never_falls

pub returns-in-Some-clause-never_falls : goal.returns-in-Some-clause-never_falls
returns-in-Some-clause-never_falls c =
    made_never (λ r. r.journal) c.args.m.now c.swap-in-Some.new.m SwapMove c.in-Some.child c.swap-in-Some.result
    (omega (arith, c.epoch.type_inv, c.epoch.ensures.epoch)) c.swap-in-Some.ensures.moved
    c.swap-in-Some.ensures.never_falls

pub returns-in-None-clause-never_falls : goal.returns-in-None-clause-never_falls
returns-in-None-clause-never_falls c = never_same c.args.m.now c.args.m.now refl
