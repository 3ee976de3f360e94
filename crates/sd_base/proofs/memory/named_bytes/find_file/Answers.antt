use Rattle.std.proofs.Common.{◌≡◌, ◌≢◌, suc, sym, ap, subst, ◌∙◌, arith, add-zero}
use Rattle.std.proofs.lemmas.Bool.{false≢true}
use Rattle.std.proofs.lemmas.Slice.Eq.{bytes_eq-Decides}
use Rattle.std.proofs.lemmas.List.{drop_all}
use Rattle.sd_base.specs.Files.{bytes_at}
use Rattle.sd_base.specs.Memory.{files_of, IsFirst}
use Rattle.sd_base.proofs.MemoryLemmas.{first_here, first_further, same_further, none_of_nothing}
use Rattle.sd_base.proofs.memory.named_bytes.find_file.Goals as goal

-- the file at hand has the name, and none before it has
pub returns-then-eq-clause-some : goal.returns-then-eq-clause-some
returns-then-eq-clause-some c =
    let files = c.args.files.now in
    let name = c.args.name.now in
    let file = c.index-files-i.result in
    let same : file.name ≡ name =
    sym c.as_str.ensures ∙ (bytes_eq-Decides c.as_str.result.now name).0 (sym c.if-eq.ensures) in
    let here = first_here files name c.loop-i.i file (omega arith) c.index-files-i.is same in
    subst (IsFirst files name) (add-zero c.loop-i.i) (c.loop-i.invariant.0 0 here)

-- the file at hand has another name
pub loop-i-preserved : goal.loop-i-preserved
loop-i-preserved c =
    let files = c.args.files.now in
    let name = c.args.name.now in
    let i = c.loop-i.i in
    let file = c.index-files-i.result in
    let at = c.index-files-i.is in
    let differs : file.name ≢ name =
    λ same.
    false≢true (c.if-eq.ensures ∙ (bytes_eq-Decides c.as_str.result.now name).1 (c.as_str.ensures ∙ same)) in (
      λ k first.
          let further = first_further files name i k file (omega arith) at differs first in
          subst (IsFirst files name) (omega arith) (c.loop-i.invariant.0 (suc k) further),
      same_further files name i file (omega arith) at differs ∙ c.loop-i.invariant.1,
    )

-- no file is left to look at
pub returns-clause-none : goal.returns-clause-none
returns-clause-none c =
    sym c.loop-i.invariant.1
    ∙ ap (λ fs. bytes_at (files_of fs) c.args.name.now) (drop_all c.loop-i.i c.args.files.now (omega arith))
    ∙ none_of_nothing c.args.name.now
