use Rattle.std.proofs.Common.{Some, ap, sym, ◌∙◌}
use Rattle.sd_base.specs.declared.memory.named_bytes.NamedBytes.{NamedBytes}
use Rattle.sd_base.proofs.MemoryLemmas.{bytes_at_first}
use Rattle.sd_base.proofs.memory.named_bytes.find_bytes.Goals as goal

pub returns-in-Some : goal.returns-in-Some
returns-in-Some c =
    let files = c.args.files.now in
    let at = c.index-files-i.is in
    ap Some (c.as_slice.ensures ∙ ap (λ (f : NamedBytes). f.bytes) (sym c.index-files-i.is))
    ∙ sym (bytes_at_first files c.args.name.now c.in-Some.i c.index-files-i.result c.in-Some.ensures.some at)
