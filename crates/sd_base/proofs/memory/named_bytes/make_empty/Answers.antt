use Rattle.std.proofs.Common.{◌∙◌, ap, subst}
use Rattle.sd_base.specs.Files.{with_file}
use Rattle.sd_base.specs.Memory.{files_of, IsFirst}
use Rattle.sd_base.proofs.MemoryLemmas.{files_of_set, name_of_first}
use Rattle.sd_base.proofs.memory.named_bytes.make_empty.Goals as goal

pub returns-in-Some-clause-ok : goal.returns-in-Some-clause-ok
returns-in-Some-clause-ok c =
    let files = c.args.files.now.items in
    let first =
    subst (λ fs. IsFirst fs c.args.name.now c.in-Some.i) c.deref.ensures.value c.in-Some.ensures.some in
    let at = c.index_mut-file.ensures.value in
    let named = name_of_first files c.args.name.now c.in-Some.i c.index_mut-file.result.now first at in
    files_of_set files c.args.name.now c.in-Some.i _ first named
    ∙ ap (with_file (files_of files) c.args.name.now) (c.new-in-Some.ensures ∙ c.new.ensures.items)
