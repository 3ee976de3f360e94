use Rattle.std.proofs.Common.{◌∙◌, ap, sym, List, option_map}
use Rattle.sd_words.specs.Command.{parsed_of}
use Rattle.sd_words.specs.ParsedOptions.{first_named_beside}
use Rattle.sd_words.specs.Rows.{with_check}
use Rattle.sd_words.specs.declared.faults.WordsFault.TheVariants as fault
use Rattle.sd_words.specs.declared.options.OptionName.{OptionName}
use Rattle.sd_words.specs.declared.options.OptionName.TheVariants as option
use Rattle.sd_words.proofs.checks.check_checked.Goals as goal

pub returns-in-Some : goal.returns-in-Some
unfolding with_check
returns-in-Some c =
    let parsed = parsed_of c.args.options.now in
    ap (option_map (λ o. fault.WithCheck o))
    (ap (λ (names : List OptionName). first_named_beside option.Check names parsed) (sym c.as_slice.ensures)
    ∙ sym c.first_beside.ensures ∙ c.in-Some.is)
