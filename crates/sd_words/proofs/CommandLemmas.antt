-- What a call of `clap` for the command says of the words.
use Rattle.std.proofs.Common.{◌≡◌, ◌≢◌, ◌∙◌, ap, sym, refl, true, List, [], ◌∷◌, inl, inr}
use Rattle.clap.specs.Walk.{Row, Text}
use Rattle.clap.specs.Simple.{App, is_simple, matches_of}
use Rattle.clap.specs.Faults.{fault_of, is_simple_and_free}
use Rattle.clap.specs.Kinds.{HasKind, IsAmong, Kinds}
use Rattle.clap.specs.Values.{kind_of}
use Rattle.clap.specs.declared.error.Error.{Error}
use Rattle.clap.specs.declared.error.kind.ErrorKind.{ErrorKind}
use Rattle.clap.specs.declared.error.kind.ErrorKind.TheVariants as kind
use Rattle.sd_words.specs.Command.{rows_found, sddc, usage_faults}

-- the command is of the kind of which `clap` says all
pub sddc_is_simple : is_simple sddc ≡ true
unfolding sddc
sddc_is_simple = refl

sddc_is_free : is_simple_and_free sddc ≡ true
unfolding sddc
sddc_is_free = refl

-- an `Ok` of `clap`: nothing is wrong with the words
pub no_faults : (app : App) (words : List Text) → app ≡ sddc
    → (is_simple_and_free app ≡ true → fault_of app words ≡ []) → usage_faults words ≡ []
unfolding usage_faults
no_faults app words is kinds =
    sym (ap (λ (a : App). fault_of a words) is) ∙ kinds (ap is_simple_and_free is ∙ sddc_is_free)

-- and what it found is what its definition says
pub found_rows : (app : App) (words : List Text) (rows : List Row) → app ≡ sddc
    → rows ≡ matches_of app words → rows ≡ rows_found words
unfolding rows_found
found_rows app words rows is found = found ∙ ap (λ (a : App). matches_of a words) is

among_some : (k : ErrorKind) (kinds : Kinds) → IsAmong k kinds → kinds ≢ []
among_some k [] h e = h
among_some k (x ∷ xs) h e = cc

-- an `Err` for another cause than memory: something is wrong with them
pub some_fault : (app : App) (words : List Text) (e : Error) → app ≡ sddc
    → (is_simple_and_free app ≡ true → HasKind (fault_of app words) e)
    → kind_of e ≢ kind.OutOfMemory → usage_faults words ≢ []
unfolding usage_faults
some_fault app words e is kinds other none = elim (kinds (ap is_simple_and_free is ∙ sddc_is_free)) [
  | inl memory ↦ other memory
  | inr among ↦ among_some (kind_of e) (fault_of app words) among (ap (λ (a : App). fault_of a words) is ∙ none)
]
