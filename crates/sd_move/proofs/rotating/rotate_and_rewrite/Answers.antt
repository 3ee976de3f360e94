use Rattle.std.proofs.Common.{◌≤◌, [], map, sym, subst, arith}
use Rattle.std.specs.FinMap.{get}
use Rattle.std.proofs.lemmas.Result.{on_ok_weaker}
use Rattle.sd_laws.proofs.Evaluated.{value_of}
use Rattle.sd_move.specs.Moving.{no_progress}
use Rattle.sd_move.specs.Rewriting.{CanRewriteAll, HasRewritten}
use Rattle.sd_move.specs.Sorting.{HasRotated, place_entry}
use Rattle.sd_move.proofs.MoveEnd.{none_waits}
use Rattle.sd_move.proofs.RotationOnTheWay.{later_turned, sorted_on_way, rewritten_on_way, epoch_begun}
use Rattle.sd_move.proofs.ServesLater.{serves_later}
use Rattle.sd_move.proofs.SortedRewrite.{rotated_can_rewrite}
use Rattle.sd_move.proofs.rotating.rotate_and_rewrite.Goals as goal

pub rotate_and_sort-requires-clause-may : goal.rotate_and_sort-requires-clause-may
rotate_and_sort-requires-clause-may c = let k = c.requires.may in (k.0, k.1, k.2)

pub rewrite_all-requires-clause-may : goal.rewrite_all-requires-clause-may
rewrite_all-requires-clause-may c =
    let k = c.requires.may in
    let m = c.args.m.now in
    let m1 = c.rotate_and_sort.new.m in
    let side = c.args.rotation.side in
    let x = c.args.rotation.upper in
    let w = c.args.rotation.lower in
    let us = c.args.upper_nodes.now in
    let ls = c.args.lower_nodes.now in
    let es = c.rotate_and_sort.new.entries.items in
    let ws = c.rotate_and_sort.new.waiting.items in
    let t1 = c.rotate_and_sort.ensures.table in
    let r : HasRotated m m1 side x w us ls [] (map (place_entry w) ls) es [] ws =
    subst (λ a. HasRotated m m1 side x w us ls [] a es [] ws) c.requires.entered
    (subst (λ z. HasRotated m m1 side x w us ls [] c.args.named.now.items es z ws) c.new-waiting.ensures.items
    c.in-Ok.ensures.all) in
    let g = c.rotate_and_sort.ensures.going k.0 k.1 k.2 in
    let waits = rotated_can_rewrite k.0 m m1 side x w us ls k.1 (map (place_entry w) ls) es ws k.2 r g in
    let v = value_of (get (k.0).linked) in
    let may = subst (CanRewriteAll k.0 m1 x no_progress v) (sym c.deref.ensures.value) waits in
    (k.0, no_progress, v, may)

pub rewrite_all-requires-clause-serves : goal.rewrite_all-requires-clause-serves
rewrite_all-requires-clause-serves c =
    let k = c.requires.may in
    let m = c.args.m.now in
    let m1 = c.rotate_and_sort.new.m in
    let side = c.args.rotation.side in
    let x = c.args.rotation.upper in
    let w = c.args.rotation.lower in
    let us = c.args.upper_nodes.now in
    let ls = c.args.lower_nodes.now in
    let es = c.rotate_and_sort.new.entries.items in
    let ws = c.rotate_and_sort.new.waiting.items in
    let t1 = c.rotate_and_sort.ensures.table in
    let r : HasRotated m m1 side x w us ls [] (map (place_entry w) ls) es [] ws =
    subst (λ a. HasRotated m m1 side x w us ls [] a es [] ws) c.requires.entered
    (subst (λ z. HasRotated m m1 side x w us ls [] c.args.named.now.items es z ws) c.new-waiting.ensures.items
    c.in-Ok.ensures.all) in
    let last : k.0.epoch ≤ 18446744073709551615 =
    (let e = epoch_begun k.0 m side x w us ls k.1 k.2 in omega (arith, c.epoch.type_inv, c.epoch.ensures.epoch, e)) in
    let g = c.rotate_and_sort.ensures.going k.0 k.1 k.2 in
    serves_later _ k.0 m1 last (later_turned k.0 m m1 side x w us ls [] k.1 es [] ws k.2 r t1 g last) k.3

pub returns-in-Ok-clause-way : goal.returns-in-Ok-clause-way
returns-in-Ok-clause-way c old u can =
    let k = c.requires.may in
    let m = c.args.m.now in
    let m1 = c.rotate_and_sort.new.m in
    let side = c.args.rotation.side in
    let x = c.args.rotation.upper in
    let w = c.args.rotation.lower in
    let us = c.args.upper_nodes.now in
    let ls = c.args.lower_nodes.now in
    let es = c.rotate_and_sort.new.entries.items in
    let ws = c.rotate_and_sort.new.waiting.items in
    let t1 = c.rotate_and_sort.ensures.table in
    let r : HasRotated m m1 side x w us ls [] (map (place_entry w) ls) es [] ws =
    subst (λ a. HasRotated m m1 side x w us ls [] a es [] ws) c.requires.entered
    (subst (λ z. HasRotated m m1 side x w us ls [] c.args.named.now.items es z ws) c.new-waiting.ensures.items
    c.in-Ok.ensures.all) in
    let g = c.rotate_and_sort.ensures.going old u can in
    let waits = rotated_can_rewrite old m m1 side x w us ls u (map (place_entry w) ls) es ws can r g in
    let v = value_of (get (old).linked) in
    let may = subst (CanRewriteAll old m1 x no_progress v) (sym c.deref.ensures.value) waits in
    let m2 = c.rewrite_all.new.m in
    let fs = c.rewrite_all.new.named.items in
    let f = c.rewrite_all.ensures.rewritten in
    let h = subst (λ l. HasRewritten m1 m2 x l es fs f.0) c.deref.ensures.value f.1 in
    rewritten_on_way old m m1 side x w us ls [] u es [] ws can r t1 g waits m2 c.rewrite_all.ensures.table fs f.0 h
    (f.2 old no_progress v may)

pub returns-in-Ok-clause-all : goal.returns-in-Ok-clause-all
returns-in-Ok-clause-all c =
    let k = c.requires.may in
    let m = c.args.m.now in
    let m1 = c.rotate_and_sort.new.m in
    let side = c.args.rotation.side in
    let x = c.args.rotation.upper in
    let w = c.args.rotation.lower in
    let us = c.args.upper_nodes.now in
    let ls = c.args.lower_nodes.now in
    let es = c.rotate_and_sort.new.entries.items in
    let ws = c.rotate_and_sort.new.waiting.items in
    let t1 = c.rotate_and_sort.ensures.table in
    let r : HasRotated m m1 side x w us ls [] (map (place_entry w) ls) es [] ws =
    subst (λ a. HasRotated m m1 side x w us ls [] a es [] ws) c.requires.entered
    (subst (λ z. HasRotated m m1 side x w us ls [] c.args.named.now.items es z ws) c.new-waiting.ensures.items
    c.in-Ok.ensures.all) in
    let g = c.rotate_and_sort.ensures.going k.0 k.1 k.2 in
    let waits = rotated_can_rewrite k.0 m m1 side x w us ls k.1 (map (place_entry w) ls) es ws k.2 r g in
    let v = value_of (get (k.0).linked) in
    let may = subst (CanRewriteAll k.0 m1 x no_progress v) (sym c.deref.ensures.value) waits in
    on_ok_weaker c.rewrite_all.result
    (λ f. none_waits k.0 m1 c.rewrite_all.new.m x no_progress v (f k.0 no_progress v may)) c.rewrite_all.ensures.going

pub returns-clause-way : goal.returns-clause-way
returns-clause-way c old u can =
    let k = c.requires.may in
    let m = c.args.m.now in
    let m1 = c.rotate_and_sort.new.m in
    let side = c.args.rotation.side in
    let x = c.args.rotation.upper in
    let w = c.args.rotation.lower in
    let us = c.args.upper_nodes.now in
    let ls = c.args.lower_nodes.now in
    let es = c.rotate_and_sort.new.entries.items in
    let ws = c.rotate_and_sort.new.waiting.items in
    let t1 = c.rotate_and_sort.ensures.table in
    let f = c.rotate_and_sort.ensures.rotated in
    let r = subst (λ a. HasRotated m m1 side x w us ls f.0 a es c.new-waiting.result.items ws) c.requires.entered f.1 in
    let g = c.rotate_and_sort.ensures.going old u can in
    sorted_on_way old m m1 side x w us ls f.0 u es c.new-waiting.result.items ws can r t1 g

pub returns-clause-serves : goal.returns-clause-serves
returns-clause-serves c =
    let k = c.requires.may in
    let m = c.args.m.now in
    let m1 = c.rotate_and_sort.new.m in
    let side = c.args.rotation.side in
    let x = c.args.rotation.upper in
    let w = c.args.rotation.lower in
    let us = c.args.upper_nodes.now in
    let ls = c.args.lower_nodes.now in
    let es = c.rotate_and_sort.new.entries.items in
    let ws = c.rotate_and_sort.new.waiting.items in
    let t1 = c.rotate_and_sort.ensures.table in
    let last : k.0.epoch ≤ 18446744073709551615 =
    (let e = epoch_begun k.0 m side x w us ls k.1 k.2 in omega (arith, c.epoch.type_inv, c.epoch.ensures.epoch, e)) in
    let f = c.rotate_and_sort.ensures.rotated in
    let r = subst (λ a. HasRotated m m1 side x w us ls f.0 a es c.new-waiting.result.items ws) c.requires.entered f.1 in
    let g = c.rotate_and_sort.ensures.going k.0 k.1 k.2 in
    serves_later _ k.0 m1 last
    (later_turned k.0 m m1 side x w us ls f.0 k.1 es c.new-waiting.result.items ws k.2 r t1 g last) k.3
