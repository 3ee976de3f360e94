use Rattle.std.proofs.Common.{ap, subst, sym}
use Rattle.sd_cache.specs.Entries.{AreEarly, answers_of, call}
use Rattle.sd_cache.proofs.Early.{no_answer, not_promoted}
use Rattle.sd_cache.proofs.Keeping.{looked_kept}
use Rattle.sd_cache.proofs.cache.Cache.look.Goals as goal

-- past all epochs there is no answer, and nothing to move
pub returns-then-epoch-ge-NO_EPOCH-clause-value :
    goal.returns-then-epoch-ge-NO_EPOCH-clause-value
returns-then-epoch-ge-NO_EPOCH-clause-value c =
    let early = subst (λ x. AreEarly x.entries) c.self.view_is c.self.invariant.1 in
    sym (no_answer (call c.args.epoch c.args.operation c.args.a c.args.b)
    c.args.self.now.entries early c.if-epoch-ge-NO_EPOCH.true)

pub returns-then-epoch-ge-NO_EPOCH-clause-entries :
    goal.returns-then-epoch-ge-NO_EPOCH-clause-entries
returns-then-epoch-ge-NO_EPOCH-clause-entries c =
    let early = subst (λ x. AreEarly x.entries) c.self.view_is c.self.invariant.1 in
    ap (λ es. answers_of es c.args.self.now.computed c.args.self.now.epoch)
    (not_promoted (call c.args.epoch c.args.operation c.args.a c.args.b)
    c.args.self.now.entries early c.if-epoch-ge-NO_EPOCH.true)

-- a look-up adds no call
pub invariant_of-self : goal.invariant_of-self
invariant_of-self c =
    looked_kept c.self.inside.answers c.get.follows.lender-at-none c.new-asked.result
    c.self.invariant c.get.follows.holds-at-none
