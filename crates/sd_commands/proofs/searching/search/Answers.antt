use Rattle.sd_vtree.specs.Numbered.{plain_tree}
use Rattle.sd_search.specs.Search.{Found}
use Rattle.sd_commands.proofs.Searched.{stands_searched, left_by_search, begun_of_names, found_of_names, search_done}
use Rattle.sd_commands.proofs.Searched.{search_stops}
use Rattle.sd_commands.proofs.Standing.{search_left_then}
use Rattle.sd_commands.proofs.searching.search.Goals as goal

pub returns-in-Err-clause-err : goal.returns-in-Err-clause-err
returns-in-Err-clause-err c =
    let code = c.forget_gates.new.self in
    let numbered = c.total_of_formulas.ensures.table.numbered in
    search_left_then c.args.rounds c.args.state.now code _ c.forget_gates.ensures.kept
    (left_by_search code c.minimise.new.m c.minimise.new.c numbered c.in-Err.ensures.kept c.in-Err.ensures.serves
    c.in-Err.ensures.unmarked c.forget_gates.ensures.forgotten c.args.rounds
    (λ seen was. begun_of_names code seen c.args.rounds numbered was (plain_tree c.minimise.new.m.vtree)
    c.in-Err.ensures.begun))

pub returns-in-Ok-search_text-clause-done : goal.returns-in-Ok-search_text-clause-done
returns-in-Ok-search_text-clause-done c = λ input seen was_before.
    let was = c.forget_gates.ensures.represents seen was_before in
    let code = c.forget_gates.new.self in
    let numbered = c.total_of_formulas.ensures.table.numbered in
    let found : Found = record {
      tree = plain_tree c.minimise.new.m.vtree;
      before = c.in-Ok.found.before;
      after = c.in-Ok.found.after;
      rounds = c.in-Ok.found.rounds;
    } in
    search_done code seen c.args.rounds numbered was input _ found c.in-Ok-search_text.line c.in-Ok.ensures.search
    c.in-Ok-search_text.ensures
    (stands_searched code c.minimise.new.m c.minimise.new.c numbered c.in-Ok.ensures.kept c.in-Ok.ensures.serves
    c.in-Ok.ensures.unmarked c.forget_gates.ensures.forgotten seen was)

pub returns-in-Err-search_text-clause-err : goal.returns-in-Err-search_text-clause-err
returns-in-Err-search_text-clause-err c =
    let code = c.forget_gates.new.self in
    let numbered = c.total_of_formulas.ensures.table.numbered in
    let found : Found = record {
      tree = plain_tree c.minimise.new.m.vtree;
      before = c.in-Ok.found.before;
      after = c.in-Ok.found.after;
      rounds = c.in-Ok.found.rounds;
    } in
    search_left_then c.args.rounds c.args.state.now code _ c.forget_gates.ensures.kept
    (left_by_search code c.minimise.new.m c.minimise.new.c numbered c.in-Ok.ensures.kept c.in-Ok.ensures.serves
    c.in-Ok.ensures.unmarked c.forget_gates.ensures.forgotten c.args.rounds
    (λ seen was. found_of_names code seen c.args.rounds numbered was found c.in-Ok.ensures.search))
