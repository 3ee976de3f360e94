use Rattle.std.proofs.Common.{sym, subst, arith}
use Rattle.sd_unique.specs.Candidates.{AreCandidates, HasRoom}
use Rattle.sd_unique.proofs.Waiting.{number_added}
use Rattle.sd_unique.proofs.stack.Candidates.add.Goals as goal

pub invariant_of-self : goal.invariant_of-self
invariant_of-self c =
    let room = subst HasRoom (sym c.self.view_is) c.requires.room in
    subst (λ fs. AreCandidates c.self.inside.numbers.items fs c.self.inside.numbers.cap)
    (sym c.push_reserved.ensures.items)
    (number_added c.self.inside.numbers.items c.self.inside.waits.items c.self.inside.numbers.cap c.self.invariant
    (omega (arith, room.0)))
