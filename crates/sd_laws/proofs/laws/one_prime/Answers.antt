use Rattle.sd_model.proofs.Partition.{chosen, value_at_chosen}
use Rattle.sd_laws.proofs.Nodes.{partition_of_canonical}
use Rattle.sd_laws.proofs.OnePrime.{same_element}
use Rattle.sd_laws.proofs.laws.one_prime.Goals as goal

pub returns-clause-some : goal.returns-clause-some
returns-clause-some c t base q es a h =
    let k = chosen es a 0 ((partition_of_canonical h).one_prime a) in (k.prime, k.sub, k.member, k.holds)

pub returns-clause-exclusive : goal.returns-clause-exclusive
returns-clause-exclusive c t base q es a p s r u h m n =
    same_element m n a ((partition_of_canonical h).one_prime a)

pub returns-clause-value : goal.returns-clause-value
returns-clause-value c t base q es a p s h m = value_at_chosen m a ((partition_of_canonical h).one_prime a)
