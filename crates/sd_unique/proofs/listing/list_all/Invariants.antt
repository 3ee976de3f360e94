use Rattle.std.proofs.Common.{◌≡◌, length, take}
use Rattle.sd_unique.specs.Chains.{AreInLists, list_under}
use Rattle.sd_unique.proofs.listing.list_all.Given as goal

abbrev pub invariant-loop-number : goal.invariant-loop-number
invariant-loop-number l = record {
  heads : length l.places ≡ 2049;
  listed : AreInLists l.links l.places (list_under (take l.number l.records));
}
