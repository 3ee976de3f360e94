use Rattle.std.proofs.Common.{◌≡◌, ℕ, ap, subst, ◌∙◌}
use Rattle.std.specs.Prelude.{slice_index_or}
use Rattle.sd_starts.specs.Starts.{IsChosenStart, IsChoiceRefused}
use Rattle.sd_starts.specs.Deciding.{decider, judged}
use Rattle.sd_starts.proofs.Choice.{choice_of_list, taken_answers, if_ok, if_err}
use Rattle.sd_starts.proofs.choosing.choose.Goals as goal

pub returns-clause-chosen : goal.returns-clause-chosen
returns-clause-chosen c = λ f settings answers.
    let decides = c.deciding-start.ensures ∙ ap (λ j. decider j c.judge-2.result c.judge-3.result) c.judge.ensures
    ∙ ap (λ j. decider (judged c.index.result.now) j c.judge-3.result) c.judge-2.ensures
    ∙ ap (λ j. decider (judged c.index.result.now) (judged c.index-2.result.now) j) c.judge-3.ensures in
    let taken = subst (λ (i : ℕ). c.swap_remove-answer.result
    ≡ slice_index_or c.args.answers.items i c.swap_remove-answer.result) c.rank.ensures
    c.swap_remove-answer.ensures.value in
    if_ok (IsChosenStart f settings) (IsChoiceRefused f settings) c.decide.result
    (choice_of_list f settings c.args.answers.items answers c.index.result.now c.index-2.result.now
    c.index-3.result.now c.index.ensures c.index-2.ensures c.index-3.ensures c.deciding-start.result decides
    c.swap_remove-answer.result taken c.decide.result
    (c.decide.ensures f settings
    (taken_answers f settings c.args.answers.items answers c.deciding-start.result c.swap_remove-answer.result taken)))

pub returns-clause-refused : goal.returns-clause-refused
returns-clause-refused c = λ f settings answers.
    let decides = c.deciding-start.ensures ∙ ap (λ j. decider j c.judge-2.result c.judge-3.result) c.judge.ensures
    ∙ ap (λ j. decider (judged c.index.result.now) j c.judge-3.result) c.judge-2.ensures
    ∙ ap (λ j. decider (judged c.index.result.now) (judged c.index-2.result.now) j) c.judge-3.ensures in
    let taken = subst (λ (i : ℕ). c.swap_remove-answer.result
    ≡ slice_index_or c.args.answers.items i c.swap_remove-answer.result) c.rank.ensures
    c.swap_remove-answer.ensures.value in
    if_err (IsChosenStart f settings) (IsChoiceRefused f settings) c.decide.result
    (choice_of_list f settings c.args.answers.items answers c.index.result.now c.index-2.result.now
    c.index-3.result.now c.index.ensures c.index-2.ensures c.index-3.ensures c.deciding-start.result decides
    c.swap_remove-answer.result taken c.decide.result
    (c.decide.ensures f settings
    (taken_answers f settings c.args.answers.items answers c.deciding-start.result c.swap_remove-answer.result taken)))
