use Rattle.std.proofs.Common.{◌∙◌, ap, sym, subst, refl, slice_get}
use Rattle.std.specs.Option.{IsSome}
use Rattle.std.proofs.lemmas.Option.{slice_get-get_or}
use Rattle.std.proofs.lemmas.Result.{IfOk-weaker}
use Rattle.sd_vtree.specs.Numbered.{numbers}
use Rattle.sd_records.proofs.Making.{position_there, parted, decomposition_made}
use Rattle.sd_records.proofs.reader.make_at.Goals as goal

pub unwrap-place-requires : goal.unwrap-place-requires
unwrap-place-requires c =
    let numbers_same = ap (λ v. slice_get (numbers v) c.args.position) c.vtree.ensures.vtree in
    let there = position_there c.args.m.now.vtree c.args.position c.requires.shown.0 c.requires.shown.1.canonical in
    subst IsSome (sym (c.at_position.ensures.at ∙ numbers_same
    ∙ slice_get-get_or (numbers c.args.m.now.vtree) c.args.position 0 there)) refl

pub make-requires-clause-partition : goal.make-requires-clause-partition
make-requires-clause-partition c =
    let at = sym (c.at_position.ensures.at ∙ ap (λ v. slice_get (numbers v) c.args.position) c.vtree.ensures.vtree)
    ∙ c.unwrap-place.ensures in
    let k = parted c.args.m.now c.requires.table c.args.position c.unwrap-place.result c.args.elements.now
    c.requires.shown.0 c.requires.shown.1 at in
    (k.ds, k.partition)

pub make-requires-clause-differ : goal.make-requires-clause-differ
make-requires-clause-differ c =
    let at = sym (c.at_position.ensures.at ∙ ap (λ v. slice_get (numbers v) c.args.position) c.vtree.ensures.vtree)
    ∙ c.unwrap-place.ensures in
    (parted c.args.m.now c.requires.table c.args.position c.unwrap-place.result c.args.elements.now
    c.requires.shown.0 c.requires.shown.1 at).differ

pub returns-clause-ok : goal.returns-clause-ok
returns-clause-ok c =
    let at = sym (c.at_position.ensures.at ∙ ap (λ v. slice_get (numbers v) c.args.position) c.vtree.ensures.vtree)
    ∙ c.unwrap-place.ensures in
    IfOk-weaker c.make.result _ _
    (λ node made es h. decomposition_made c.args.m.now c.make.new.self c.requires.table c.args.position
    c.unwrap-place.result node c.args.elements.now es h at c.make.ensures.kept made)
    c.make.ensures.ok
