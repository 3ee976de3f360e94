use Rattle.std.proofs.Common.{◌+◌, ◌∙◌, ◌∷◌, [], drop, map, ap, refl, sym, subst}
use Rattle.std.proofs.lemmas.List.{map-append}
use Rattle.sd_manager.specs.Views.{pairs_at}
use Rattle.sd_apply.proofs.Listed.{below_on}
use Rattle.sd_move.proofs.NewList.{all_read}
use Rattle.sd_move.proofs.Calls.{as_step, step_on}
use Rattle.sd_move.proofs.Cutting.{IsListing, listing_first, listing_there, listing_more, listing_skips, listing_last}
use Rattle.sd_move.proofs.cells.products_of.Goals as goal

pub loop-index-init : goal.loop-index-init
loop-index-init c = (
  listing_first c.args.m.now c.requires.table c.args.place c.args.node (map (λ q. q.items) c.new-products.result.items)
      (ap (map (λ q. q.items)) c.new-products.ensures.items),
  c.requires.knows,
)

pub product_at-requires-clause-prime : goal.product_at-requires-clause-prime
product_at-requires-clause-prime c =
    let s = c.loop-index.invariant.0 in
    below_on c.args.m.now c.loop-index.m s.kept c.args.place c.element-prime.result.0
    (listing_there c.args.m.now c.loop-index.m c.args.place c.args.node c.loop-index.index
    (map (λ q. q.items) c.loop-index.products.items) c.element-prime.result c.requires.table c.requires.node
    c.requires.code c.requires.codes s c.element-prime.ensures.pair).1.0

pub product_at-requires-clause-sub : goal.product_at-requires-clause-sub
product_at-requires-clause-sub c =
    let s = c.loop-index.invariant.0 in
    below_on c.args.m.now c.loop-index.m s.kept c.args.place c.element-prime.result.1
    (listing_there c.args.m.now c.loop-index.m c.args.place c.args.node c.loop-index.index
    (map (λ q. q.items) c.loop-index.products.items) c.element-prime.result c.requires.table c.requires.node
    c.requires.code c.requires.codes s c.element-prime.ensures.pair).1.1

pub loop-index-preserved : goal.loop-index-preserved
loop-index-preserved c =
    let m = c.args.m.now in
    let now = c.loop-index.m in
    let p = c.args.place in
    let lists = map (λ q. q.items) c.loop-index.products.items in
    let pair = c.element-prime.result in
    let s = c.loop-index.invariant.0 in
    let w = listing_there m now p c.args.node c.loop-index.index lists pair c.requires.table c.requires.node
    c.requires.code c.requires.codes s c.element-prime.ensures.pair in (
      listing_more m now c.product_at.new.m p c.args.node lists (map (λ q. q.items) c.push.new.self.items)
          c.in_ok-product.product.items (drop (c.loop-index.index + 1) (pairs_at m c.args.node)) pair
          c.requires.table w.0 w.1.0 w.1.1 c.product_at.ensures.step.kept c.product_at.ensures.step.grown
          c.product_at.ensures.step.table
          (ap (map (λ q. q.items)) c.in-Ok.ensures.items
          ∙ map-append (λ q. q.items) c.loop-index.products.items (c.in_ok-product.product ∷ []))
          c.in_ok-product.ensures.ok,
      c.product_at.ensures.step.knows,
    )

pub returns-clause-ok : goal.returns-clause-ok
returns-clause-ok c =
    let m = c.args.m.now in
    let now = c.loop-index.m in
    let p = c.args.place in
    let lists = map (λ q. q.items) c.loop-index.products.items in
    listing_last m now p c.args.node lists
    (subst (IsListing m now p c.args.node lists)
    (all_read m c.args.node p c.in-Decomposition.place c.in-Decomposition.count c.loop-index.index
    c.requires.table c.requires.node c.requires.code
    (sym c.in-Decomposition.ensures.view) c.loop-index-test.false) c.loop-index.invariant.0)

pub returns-clause-step : goal.returns-clause-step
returns-clause-step c =
    let s = c.loop-index.invariant in as_step s.0.kept s.0.grown s.1 s.0.table

pub returns-in_err-product-clause-step : goal.returns-in_err-product-clause-step
returns-in_err-product-clause-step c =
    let s = c.loop-index.invariant in step_on (as_step s.0.kept s.0.grown s.1 s.0.table) c.product_at.ensures.step

-- a false sub

pub loop-index-preserved-then-is_false : goal.loop-index-preserved-then-is_false
loop-index-preserved-then-is_false c =
    let m = c.args.m.now in
    let now = c.loop-index.m in
    let lists = map (λ q. q.items) c.loop-index.products.items in
    let s = c.loop-index.invariant.0 in
    let w = listing_there m now c.args.place c.args.node c.loop-index.index lists c.element-prime.result
    c.requires.table c.requires.node c.requires.code c.requires.codes s c.element-prime.ensures.pair in (
      listing_skips m now c.args.place c.args.node lists (drop (c.loop-index.index + 1) (pairs_at m c.args.node))
          c.element-prime.result (c.if-is_false.ensures.0 refl) w.0,
      c.loop-index.invariant.1,
    )

pub returns-in_default-push-clause-step : goal.returns-in_default-push-clause-step
returns-in_default-push-clause-step c =
    let s = c.loop-index.invariant in step_on (as_step s.0.kept s.0.grown s.1 s.0.table) c.product_at.ensures.step
