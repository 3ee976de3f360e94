-- What the steps from the options to the job give, for the contracts of private functions.
use Rattle.std.specs.Prelude.{◌≡◌, ◌⊎◌, codes, None, Option, Result, Some, MatchResult}
use Rattle.sd_words.specs.ParsedOptions.{ParsedOptions, generated, option_number}
use Rattle.sd_words.specs.declared.faults.WordsFault.{WordsFault}
use Rattle.sd_words.specs.declared.faults.WordsFault.TheVariants as fault
use Rattle.sd_words.specs.declared.values.Numbers.{Numbers}

-- the numbers are those of the options
pub record HasNumbers (parsed : ParsedOptions) (n : Numbers) : Type 0 where
  pub generated : n.generated ≡ generated parsed
  pub minimise : n.minimise ≡ option_number parsed (codes "minimise")
  pub every : n.every ≡ option_number parsed (codes "every")
  pub slack : n.slack ≡ option_number parsed (codes "slack")
  pub limit : n.limit ≡ option_number parsed (codes "limit")
  pub parts : n.parts ≡ option_number parsed (codes "parts")
  pub workers : n.workers ≡ option_number parsed (codes "workers")

-- an error exactly where there is a fault, and then that one
abbrev pub RefusesBy : {T : Type 0} → Option WordsFault → Result T WordsFault → Type 0
RefusesBy found result = MatchResult result (λ _. found ≡ None) (λ f. found ≡ Some f)

-- the same, unless memory ran out
abbrev pub RefusesOrRunsOut : {T : Type 0} → Option WordsFault → Result T WordsFault → Type 0
RefusesOrRunsOut found result = MatchResult result (λ _. found ≡ None)
    (λ f. (f ≡ fault.OutOfMemory) ⊎ (found ≡ Some f))
