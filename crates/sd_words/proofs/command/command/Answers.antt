use Rattle.std.proofs.Common.{arith, ◌≡◌, ap, ap₂, sym, ◌∙◌, ℕ, length, take}
use Rattle.std.specs.Prelude.{fold}
use Rattle.std.proofs.lemmas.List.Sums.{fold_more}
use Rattle.clap.specs.Words.{with_rule}
use Rattle.sd_words.specs.Command.{bare_sddc, sddc, with_option}
use Rattle.sd_words.specs.Options.{all_option_names}
use Rattle.sd_words.proofs.command.command.Goals as goal

pub loop-option-preserved : goal.loop-option-preserved
loop-option-preserved c =
    c.in_ok-command.ensures.shape c.argument.ensures.local
    ∙ ap₂ with_rule c.loop-option.invariant c.argument.ensures.rule
    ∙ sym (fold_more with_option bare_sddc all_option_names c.loop-option.option-index _ c.loop-option-test.true)

pub returns : goal.returns
unfolding sddc
returns c =
    let all : c.loop-option.option-index ≡ length all_option_names = omega arith in
    c.loop-option.invariant ∙ ap (λ (i : ℕ). fold with_option bare_sddc (take i all_option_names)) all
