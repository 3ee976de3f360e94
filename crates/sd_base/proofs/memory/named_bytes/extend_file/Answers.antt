use Rattle.std.proofs.Common.{◌++◌, sym, ◌∙◌, [], ap, subst}
use Rattle.std.specs.Option.{unwrap_or}
use Rattle.sd_base.specs.Files.{with_file}
use Rattle.sd_base.specs.Memory.{files_of, IsFirst}
use Rattle.sd_base.proofs.MemoryLemmas.{files_of_set, name_of_first, bytes_at_first}
use Rattle.sd_base.proofs.memory.named_bytes.extend_file.Goals as goal

-- the file found has the piece at its end
pub returns-in-Ok-clause-ok : goal.returns-in-Ok-clause-ok
returns-in-Ok-clause-ok c =
    let files = c.args.files.now.items in
    let first =
    subst (λ fs. IsFirst fs c.args.name.now c.in-Some.i) c.deref.ensures.value c.in-Some.ensures.some in
    let at = c.index_mut-file.ensures.value in
    let named = name_of_first files c.args.name.now c.in-Some.i c.index_mut-file.result.now first at in
    let held = bytes_at_first files c.args.name.now c.in-Some.i c.index_mut-file.result.now first at in
    (files_of_set files c.args.name.now c.in-Some.i _ first named
    ∙ ap (with_file (files_of files) c.args.name.now)
    (c.in-Ok.ensures.ok ∙ ap (λ o. unwrap_or o [] ++ c.args.piece.now) (sym held)))
