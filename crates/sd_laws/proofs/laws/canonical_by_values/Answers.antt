use Rattle.std.proofs.Common.{◌+◌}
use Rattle.std.specs.Option.{IsSome}
use Rattle.sd_laws.proofs.ByValues.{shown_by_values}
use Rattle.sd_laws.proofs.Evaluated.{value_of, literals_given, value_of_shown, evaluated}
use Rattle.sd_laws.proofs.Unturned.{valued_orderly, shown_closed}
use Rattle.sd_laws.proofs.Growing.{shown_there}
use Rattle.sd_laws.proofs.laws.canonical_by_values.Goals as goal

pub returns-clause-shown : goal.returns-clause-shown
returns-clause-shown c t at v code n keys o h = shown_by_values t n at (λ k. IsSome (at k)) v keys o code h

pub returns-clause-orderly : goal.returns-clause-orderly
returns-clause-orderly c t at num shown = (
  value_of at,
  valued_orderly t num at (λ k. IsSome (at k)) (value_of at) (literals_given at)
      (λ m n place l there stored stands. let d = shown m there in
      shown_there t num at n
      (shown_closed t num at m n place l (record { diagram = d.0; is = d.1 }) stored stands))
      (λ n there. let d = shown n there in evaluated t at num (2050 + n) d.0 d.1),
  λ code d h. value_of_shown t at num code d h,
)
