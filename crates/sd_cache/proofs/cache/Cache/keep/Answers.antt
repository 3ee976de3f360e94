use Rattle.sd_cache.specs.Entries.{call}
use Rattle.sd_cache.proofs.Keeping.{kept_put, put_kept}
use Rattle.sd_cache.proofs.cache.Cache.keep.Goals as goal

-- where memory is refused the entries are as they were
pub invariant_of-self : goal.invariant_of-self
invariant_of-self c = rw c.in_err-put.ensures.err c.self.invariant

-- the call that was put is early
pub invariant_of-self-2 : goal.invariant_of-self-2
invariant_of-self-2 c =
    put_kept c.self.inside.answers c.put.new.self c.new-key.result
    (call c.args.epoch c.args.operation c.args.a c.args.b) c.args.answer
    c.self.invariant c.new-key.ensures c.in_ok-put.ensures.entries
    c.if-epoch-ge-NO_EPOCH.false

pub returns-clause-keeps : goal.returns-clause-keeps
returns-clause-keeps c =
    λ _. kept_put c.self.inside.answers c.put.new.self c.self.inside.computed c.self.inside.epoch
    c.args.self.now c.new-key.result (call c.args.epoch c.args.operation c.args.a c.args.b) c.args.answer
    c.self.invariant.0 c.self.view_is c.new-key.ensures c.in_ok-put.ensures.entries
