use Rattle.std.proofs.Common.{◌≡◌, take}
use Rattle.std.specs.Prelude.{fold}
use Rattle.clap.specs.Words.{app_of}
use Rattle.sd_words.specs.Command.{bare_sddc, with_option}
use Rattle.sd_words.specs.Options.{all_option_names}
use Rattle.sd_words.proofs.command.command.Given as goal

abbrev pub invariant-loop-option : goal.invariant-loop-option
invariant-loop-option l = app_of l.command ≡ fold with_option bare_sddc (take l.option-index all_option_names)
