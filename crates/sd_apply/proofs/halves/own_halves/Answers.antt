use Rattle.std.proofs.Common.{◌≡◌, ◌∙◌, ◌*◌, ℕ, sym, subst, arith}
use Rattle.sd_apply.specs.Places.{HasPlace}
use Rattle.sd_apply.proofs.Standing.{has_node}
use Rattle.sd_apply.proofs.Joining.{decomposed_halves, count_pairs}
use Rattle.sd_apply.proofs.JoiningPlaces.{fork_range}
use Rattle.sd_apply.proofs.halves.own_halves.Goals as goal

pub view-requires : goal.view-requires
view-requires c =
    has_node c.args.m.now c.requires.table c.args.node c.requires.node.diagram c.requires.node.is.shows

pub overflow_mul-split : goal.overflow_mul-split
overflow_mul-split c =
    omega (
      arith,
      fork_range c.args.m.now.vtree c.requires.table.numbered c.args.at c.args.split.now.left c.args.split.now.right
          c.args.split.now.variable
          c.requires.split,
    )

pub returns-then-prime-split : goal.returns-then-prime-split
returns-then-prime-split c =
    let m = c.args.m.now in
    let here : c.place_of.result ≡ c.args.at =
    sym c.place_of-2.view_is ∙ c.if-place_of-at.false ∙ c.at.view_is in
    decomposed_halves m c.args.at c.args.split.now.left c.args.split.now.right c.args.split.now.variable c.args.node
    c.element-prime.result c.element-other.result c.requires.table c.requires.split
    (λ d s. subst (λ u. HasPlace m.vtree u d) here (c.place_of.ensures.place d s))
    c.requires.code
    (count_pairs m c.args.node c.in-Decomposition.place c.in-Decomposition.count c.requires.code
    c.in-Decomposition.ensures.view ∙ c.if-count-ne2.false)
    c.element-prime.ensures.pair c.element-other.ensures.pair
    (subst (λ (n : ℕ). n ≡ 2 * c.args.split.now.variable) c.prime.view_is c.if-prime-split.true)
