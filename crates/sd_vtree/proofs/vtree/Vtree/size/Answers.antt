use Rattle.std.proofs.Common.{◌<◌, subst, sym, arith}
use Rattle.sd_vtree.specs.Stored.{HasSizes}
use Rattle.sd_vtree.proofs.Reading.{kept_as}
use Rattle.sd_vtree.proofs.Subtrees.{subtree_some}
use Rattle.sd_vtree.proofs.Sized.{size_within, size_read, size_small}
use Rattle.sd_vtree.proofs.vtree.Vtree.size.Goals as goal

pub index-requires-2 : goal.index-requires-2
index-requires-2 c =
    let kept = kept_as c.self.invariant.0 c.self.view_is in
    let st = subst (λ t. HasSizes t c.self.inside.sizes.items) c.self.view_is c.self.invariant.1 in
    let w = size_within c.args.self.now c.self.inside.sizes.items kept.valid st c.args.node c.requires in
    let k = c.self.inside.sizes.ok.0 in
    omega (arith, c.index.ensures)

pub returns-clause-size : goal.returns-clause-size
returns-clause-size c = λ s e.
    let st = subst (λ t. HasSizes t c.self.inside.sizes.items) c.self.view_is c.self.invariant.1 in
    size_read c.args.self.now c.self.inside.sizes.items st c.args.node c.index-2.result.now
    (rw (← c.index.ensures) c.index-2.ensures) s e

pub returns-clause-small : goal.returns-clause-small
returns-clause-small c =
    let kept = kept_as c.self.invariant.0 c.self.view_is in
    let st = subst (λ t. HasSizes t c.self.inside.sizes.items) c.self.view_is c.self.invariant.1 in
    let s = subtree_some c.args.self.now c.args.node (omega (arith, kept.valid.once c.args.node c.requires)) in
    let r = size_read c.args.self.now c.self.inside.sizes.items st c.args.node c.index-2.result.now
    (rw (← c.index.ensures) c.index-2.ensures) s.0 s.1 in
    subst (λ k. k < 2048) (sym r) (size_small c.args.self.now kept.valid c.args.node s.0 s.1)
