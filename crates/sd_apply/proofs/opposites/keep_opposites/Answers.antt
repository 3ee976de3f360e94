use Rattle.sd_cache.specs.Entries.{call}
use Rattle.sd_apply.proofs.Opposite.{opposite_right, opposite_back}
use Rattle.sd_apply.proofs.Served.{serves_keep}
use Rattle.sd_apply.proofs.opposites.keep_opposites.Goals as goal

-- both answers are right to keep
pub returns : goal.returns
returns c =
    let t = c.args.m.now in
    let epoch = c.epoch-epoch.result in
    let first = serves_keep c.args.c.now c.keep.new.self t
    (call epoch 3 c.a.inside.0 0) c.b.inside.0
    c.keep.result c.keep.ensures.keeps c.keep.ensures.err c.keep.ensures.late
    c.epoch-epoch.ensures.epoch
    c.requires.serves
    (opposite_right t epoch c.args.a c.args.b c.a.inside.0 c.b.inside.0 c.a.view_is c.b.view_is
    c.requires.first c.requires.second c.requires.opposite) in
    let second = serves_keep c.keep.new.self c.keep-2.new.self t
    (call epoch 3 c.b.inside.0 0) c.a.inside.0
    c.keep-2.result c.keep-2.ensures.keeps c.keep-2.ensures.err c.keep-2.ensures.late
    c.epoch-epoch.ensures.epoch
    first
    (opposite_right t epoch c.args.b c.args.a c.b.inside.0 c.a.inside.0 c.b.view_is c.a.view_is
    c.requires.second c.requires.first (opposite_back t c.args.a c.args.b c.requires.opposite)) in
    record { serves = second }
