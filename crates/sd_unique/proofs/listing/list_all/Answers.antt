use Rattle.std.proofs.Common.{subst, arith}
use Rattle.std.proofs.lemmas.List.{take_all}
use Rattle.sd_unique.specs.Chains.{AreInLists, list_under}
use Rattle.sd_unique.proofs.ListsMade.{listed_none}
use Rattle.sd_unique.proofs.listing.list_all.Goals as goal

pub loop-number-init : goal.loop-number-init
loop-number-init c =
    record {
      heads = c.requires.heads;
      listed = listed_none c.args.links.now c.args.places.now c.args.records.now c.requires.empty;
    }

pub returns : goal.returns
returns c =
    subst (λ l. AreInLists c.loop-number.links c.loop-number.places (list_under l))
    (take_all c.loop-number.number c.args.records.now (omega arith)) c.loop-number.invariant.listed
