use Rattle.std.proofs.Common.{ap, ◌∙◌}
use Rattle.clap.specs.Words.{first_of, found_of, rows_of, Text}
use Rattle.clap.proofs.WalkLemmas.{first_value-rows}
use Rattle.sd_words.specs.Command.{parsed_of, said_of}
use Rattle.sd_words.specs.Options.{word_of}
use Rattle.std.specs.Prelude.{Option}
use Rattle.sd_words.proofs.parsed_options.value.Goals as goal

pub returns : goal.returns
unfolding parsed_of
returns c =
    let found = found_of c.args.options.now in
    c.said.ensures
    ∙ ap (λ (value : Option Text). said_of (word_of c.args.option) value)
    (c.get_str.ensures ∙ first_value-rows found c.word.result.now
    ∙ ap (λ (id : Text). first_of id (rows_of found)) c.word.ensures)
