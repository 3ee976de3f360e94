use Rattle.std.proofs.Common.{ℕ, sym, ap, subst, ◌∙◌, arith}
use Rattle.std.specs.FinMap.{len, len-empty}
use Rattle.std.specs.Ordering.{nat_cmp}
use Rattle.sd_model.specs.Tree.{Tree}
use Rattle.sd_vtree.specs.Numbered.{plain_tree}
use Rattle.sd_starts.specs.Starts.{IsTreeLeft, IsSearchedTo}
use Rattle.sd_starts.proofs.Working.{nothing_of_empty, refused_alone, nothing_kept, fit_alone, final_size, alone}
use Rattle.sd_starts.proofs.Working.{held_alone, alone_searched, nothing_left, ready_left}
use Rattle.sd_starts.proofs.work.work_alone.Goals as goal

pub compile-requires-clause-room : goal.compile-requires-clause-room
compile-requires-clause-room c =
    omega (arith, ap len c.requires.nothing ∙ len-empty nat_cmp ℕ)

pub returns-in-Err-clause-refused : goal.returns-in-Err-clause-refused
returns-in-Err-clause-refused c =
    refused_alone c.args.m.now c.compile.new.m (nothing_of_empty c.args.m.now c.requires.nothing) c.args.f.now
    c.args.settings c.total_of_formulas.ensures.total c.in-Err.error c.in-Err.ensures.err

pub returns-in-Err-clause-left : goal.returns-in-Err-clause-left
returns-in-Err-clause-left c =
    nothing_kept c.args.m.now c.compile.new.m (nothing_of_empty c.args.m.now c.requires.nothing)
    c.in-Err.ensures.all_kept.reached.roots

-- the formula alone is held once it is compiled
pub returns-in-Ok-searched-clause-done : goal.returns-in-Ok-searched-clause-done
returns-in-Ok-searched-clause-done c =
    let f = c.args.f.now in
    let t = plain_tree c.args.m.now.vtree in
    let none = nothing_of_empty c.args.m.now c.requires.nothing in
    let held = alone c.args.m.now c.compile.new.m f c.in-Ok.root none c.in-Ok.ensures.kept c.in-Ok.ensures.ok in
    let tree = ap plain_tree c.in-Ok.ensures.kept.reached.vtree in
    let found = subst (λ (u : Tree). IsSearchedTo f c.args.settings u c.in-Ok-searched.search c.in-Ok-searched.size
    (plain_tree c.searched.new.m.vtree)) tree
    (c.in-Ok-searched.ensures.searched f
    (held_alone c.compile.new.m f c.in-Ok.root c.in-Ok.ensures.table.numbered held)) in
    record {
      end = (
        fit_alone c.args.m.now none f c.args.settings.limit c.total_of_formulas.ensures.total _
            c.in-Ok.ensures.within,
        final_size f c.args.settings t c.in-Ok-searched.search c.in-Ok-searched.size
            (plain_tree c.searched.new.m.vtree) found,
      );
      holds =
          alone_searched c.compile.new.m c.searched.new.m f c.in-Ok.root c.in-Ok.ensures.table.numbered
          c.in-Ok-searched.ensures.kept held;
      searched = found;
    }

pub returns-in-Err-searched-clause-left : goal.returns-in-Err-searched-clause-left
returns-in-Err-searched-clause-left c =
    let f = c.args.f.now in
    let none = nothing_of_empty c.args.m.now c.requires.nothing in
    let held = alone c.args.m.now c.compile.new.m f c.in-Ok.root none c.in-Ok.ensures.kept c.in-Ok.ensures.ok in
    nothing_left c.searched.new.m c.release.new.self f c.in-Ok.root
    (alone_searched c.compile.new.m c.searched.new.m f c.in-Ok.root c.in-Ok.ensures.table.numbered
    c.in-Err-searched.ensures.kept held) c.release.ensures.released

pub returns-in-Err-searched-clause-tree : goal.returns-in-Err-searched-clause-tree
returns-in-Err-searched-clause-tree c =
    let f = c.args.f.now in
    let none = nothing_of_empty c.args.m.now c.requires.nothing in
    let held = alone c.args.m.now c.compile.new.m f c.in-Ok.root none c.in-Ok.ensures.kept c.in-Ok.ensures.ok in
    let tree = ap plain_tree c.in-Ok.ensures.kept.reached.vtree in
    let found = subst (λ (u : Tree). IsTreeLeft f c.args.settings u (plain_tree c.searched.new.m.vtree)) tree
    (c.in-Err-searched.ensures.tree f
    (held_alone c.compile.new.m f c.in-Ok.root c.in-Ok.ensures.table.numbered held)) in
    subst (λ (u : Tree). IsTreeLeft f c.args.settings (plain_tree c.args.m.now.vtree) u)
    (sym (ap (λ t. plain_tree t.vtree) c.release.ensures.released)) found

pub returns-in-Err-searched-clause-ready : goal.returns-in-Err-searched-clause-ready
returns-in-Err-searched-clause-ready c =
    ready_left c.searched.new.m c.release.new.self c.searched.new.c c.in-Ok.root c.in-Err-searched.ensures.ready
    c.release.ensures.released c.release.ensures.table
