use Rattle.std.proofs.Common.{◌+◌, ◌∷◌, [], ℕ, map, Some, refl, sym, ◌∙◌, subst, arith}
use Rattle.std.specs.Option.{IsSome}
use Rattle.std.specs.FinMap.{get}
use Rattle.std.proofs.lemmas.Result.{on_err_weaker}
use Rattle.sd_model.specs.Tree.{AreDistinct}
use Rattle.sd_laws.specs.Values.{pairs_value}
use Rattle.sd_laws.proofs.Evaluated.{value_of}
use Rattle.sd_manager.specs.Table.{Table}
use Rattle.sd_manager.specs.Views.{pairs_at}
use Rattle.sd_apply.proofs.Refused.{at_error}
use Rattle.sd_apply.proofs.Tried.{listed_slice}
use Rattle.sd_move.specs.Rewriting.{AreRewritten}
use Rattle.sd_move.proofs.RewrittenAll.{grown_rewritten}
use Rattle.sd_move.proofs.RewrittenOne.{place_inner, node_there, codes_below, list_whole}
use Rattle.sd_move.proofs.RewritingStep.{waits_still, new_list_fits, new_list_absent, goes_still}
use Rattle.sd_move.proofs.RewritingStep.{rewritten_answer, linked_answer, going_answer, still_answer}
use Rattle.sd_move.proofs.RewritingLoop.{knows_either}
use Rattle.sd_move.proofs.rewriting.rewrite_one.Goals as goal

-- the list of the node is made

pub new_list-requires-clause-place : goal.new_list-requires-clause-place
new_list-requires-clause-place c =
    let w = c.requires.may in
    place_inner w.1.0 c.args.m.now c.args.place w.1.1 w.1.2 c.args.number w.0 c.requires.table w.1.3

pub new_list-requires-clause-node : goal.new_list-requires-clause-node
new_list-requires-clause-node c =
    let w = c.requires.may in
    node_there w.1.0 c.args.m.now c.args.place w.1.1 w.1.2 c.args.number w.0 c.requires.table w.1.3
    (c.args.number + 2050) (omega arith)

pub new_list-requires-clause-codes : goal.new_list-requires-clause-codes
new_list-requires-clause-codes c =
    let w = c.requires.may in
    codes_below w.1.0 c.args.m.now c.args.place w.1.1 w.1.2 c.args.number w.0 c.requires.table w.1.3
    (c.args.number + 2050) (omega arith)

pub new_list-requires-clause-whole : goal.new_list-requires-clause-whole
new_list-requires-clause-whole c =
    let w = c.requires.may in
    list_whole w.1.0 c.args.m.now c.args.place w.1.1 w.1.2 c.args.number w.0 c.requires.table w.1.3
    (c.args.number + 2050) (omega arith)

-- the node is linked with it

pub rewrite-requires-clause-moving : goal.rewrite-requires-clause-moving
rewrite-requires-clause-moving c =
    subst IsSome (sym (c.new_list.ensures.step.kept.moving ∙ c.requires.may.1.3.going.moving)) refl

pub rewrite-requires-clause-node : goal.rewrite-requires-clause-node
rewrite-requires-clause-node c =
    let w = c.requires.may in
    subst IsSome (sym (waits_still w.1.0 c.args.m.now c.new_list.new.m c.args.place w.1.1 w.1.2 c.args.number w.0
    c.requires.table c.new_list.ensures.step.table w.1.3 c.new_list.ensures.step.kept c.new_list.ensures.step.grown))
    refl

pub rewrite-requires-clause-fits : goal.rewrite-requires-clause-fits
rewrite-requires-clause-fits c =
    let w = c.requires.may in
    let f = pairs_value (value_of (get c.args.m.now.linked)) (pairs_at c.args.m.now (c.args.number + 2050)) in
    new_list_fits w.1.0 c.args.m.now c.new_list.new.m c.args.place w.1.1 w.1.2 c.args.number w.0
    c.requires.table c.new_list.ensures.step.table w.1.3 c.new_list.ensures.step.kept c.new_list.ensures.step.grown
    (c.args.number + 2050) (omega arith) c.as_slice.result.now
    (listed_slice c.new_list.new.m c.args.place c.in_ok-list.list.items c.as_slice.result.now f
    c.in_ok-list.ensures.ok c.as_slice.ensures)
    (subst (λ l. AreDistinct (map (λ (e : ℕ × ℕ). e.1) l)) (sym c.as_slice.ensures) c.in_ok-list.ensures.differ)

pub rewrite-requires-clause-absent : goal.rewrite-requires-clause-absent
rewrite-requires-clause-absent c =
    let w = c.requires.may in
    let f = pairs_value (value_of (get c.args.m.now.linked)) (pairs_at c.args.m.now (c.args.number + 2050)) in
    new_list_absent w.1.0 c.args.m.now c.new_list.new.m c.args.place w.1.1 w.1.2 c.args.number w.0
    c.requires.table c.new_list.ensures.step.table w.1.3 c.new_list.ensures.step.kept c.new_list.ensures.step.grown
    (c.args.number + 2050) (omega arith) c.as_slice.result.now
    (listed_slice c.new_list.new.m c.args.place c.in_ok-list.list.items c.as_slice.result.now f
    c.in_ok-list.ensures.ok c.as_slice.ensures)

-- where the list was refused

pub returns-in_err-list-clause-err : goal.returns-in_err-list-clause-err
returns-in_err-list-clause-err c =
    at_error c.from_residual.result
    (grown_rewritten c.args.m.now c.new_list.new.m c.args.place c.new_list.ensures.step.table
    c.new_list.ensures.step.kept
    c.new_list.ensures.step.grown)

pub returns-in_err-list-clause-still : goal.returns-in_err-list-clause-still
returns-in_err-list-clause-still c =
    at_error c.from_residual.result (λ m0 h v rest can. goes_still m0 c.args.m.now c.new_list.new.m c.args.place h v
    c.args.number rest c.requires.table c.new_list.ensures.step.table can c.new_list.ensures.step.kept
    c.new_list.ensures.step.grown)

-- where the node was linked or refused

pub returns-clause-ok : goal.returns-clause-ok
returns-clause-ok c =
    let w = c.requires.may in
    rewritten_answer w.1.0 c.args.m.now c.new_list.new.m c.args.place w.1.1 w.1.2 c.args.number w.0
    c.requires.table c.new_list.ensures.step.table w.1.3 c.new_list.ensures.step.kept c.new_list.ensures.step.grown
    c.rewrite.new.self c.as_slice.result.now c.rewrite.result c.rewrite.ensures.ok

pub returns-clause-err : goal.returns-clause-err
returns-clause-err c =
    on_err_weaker c.rewrite.result
    (λ same. subst (λ (u : Table). AreRewritten c.args.m.now u c.args.place []) (sym same)
    (grown_rewritten c.args.m.now c.new_list.new.m c.args.place c.new_list.ensures.step.table
    c.new_list.ensures.step.kept
    c.new_list.ensures.step.grown)) c.rewrite.ensures.err

pub returns-clause-going : goal.returns-clause-going
returns-clause-going c =
    let f = pairs_value (value_of (get c.args.m.now.linked)) (pairs_at c.args.m.now (c.args.number + 2050)) in
    going_answer c.args.m.now c.new_list.new.m c.rewrite.new.self c.args.place c.args.number c.requires.table
    c.new_list.ensures.step.table c.rewrite.ensures.table c.new_list.ensures.step.kept c.new_list.ensures.step.grown
    c.as_slice.result.now
    (listed_slice c.new_list.new.m c.args.place c.in_ok-list.list.items c.as_slice.result.now f
    c.in_ok-list.ensures.ok c.as_slice.ensures) c.rewrite.result c.rewrite.ensures.ok

pub returns-clause-still : goal.returns-clause-still
returns-clause-still c =
    still_answer c.args.m.now c.new_list.new.m c.rewrite.new.self c.args.place c.args.number c.requires.table
    c.new_list.ensures.step.table c.new_list.ensures.step.kept c.new_list.ensures.step.grown c.rewrite.result
    c.rewrite.ensures.err

pub returns-clause-knows : goal.returns-clause-knows
returns-clause-knows c =
    let w = c.requires.may in
    knows_either c.new_list.new.recent c.new_list.new.m c.rewrite.new.self c.args.place c.rewrite.result
    (λ run. record { number = c.args.number; place = c.args.place; run = Some run } ∷ [])
    (linked_answer c.new_list.new.m c.rewrite.new.self c.args.place c.args.number w.1.3.each.0.list
    c.as_slice.result.now c.new_list.ensures.step.table
    (waits_still w.1.0 c.args.m.now c.new_list.new.m c.args.place w.1.1 w.1.2 c.args.number w.0
    c.requires.table c.new_list.ensures.step.table w.1.3 c.new_list.ensures.step.kept c.new_list.ensures.step.grown)
    c.rewrite.result c.rewrite.ensures.ok) c.rewrite.ensures.err c.new_list.ensures.step.knows
