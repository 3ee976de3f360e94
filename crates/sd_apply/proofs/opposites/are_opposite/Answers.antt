use Rattle.std.proofs.Common.{◌≡◌}
use Rattle.sd_cache.specs.Entries.{call}
use Rattle.sd_apply.proofs.Opposite.{looked_opposite, from_test}
use Rattle.sd_apply.proofs.Served.{serves_look}
use Rattle.sd_apply.proofs.opposites.are_opposite.Goals as goal

-- what the cache names is right
pub returns-in-Some-clause-opposite : goal.returns-in-Some-clause-opposite
returns-in-Some-clause-opposite c =
    λ same.
    let equal : c.in-Some.code ≡ c.b.inside.0 = from_test c.in-Some.code c.b.inside.0 same in
    looked_opposite c.args.c.now c.args.m.now c.args.a c.args.b c.epoch-epoch.result
    c.a.inside.0 c.b.inside.0 c.in-Some.code c.epoch-epoch.ensures.table c.requires.serves
    c.epoch-epoch.ensures.epoch c.a.view_is c.b.view_is c.in-Some.ensures.early
    c.in-Some.ensures.value equal

pub returns-in-Some-clause-serves : goal.returns-in-Some-clause-serves
returns-in-Some-clause-serves c =
    serves_look c.args.c.now c.look.new.self c.args.m.now
    (call c.epoch-epoch.result 3 c.a.inside.0 0) c.look.ensures.entries c.requires.serves

pub returns-in-None-clause-serves : goal.returns-in-None-clause-serves
returns-in-None-clause-serves c =
    serves_look c.args.c.now c.look.new.self c.args.m.now
    (call c.epoch-epoch.result 3 c.a.inside.0 0) c.look.ensures.entries c.requires.serves
