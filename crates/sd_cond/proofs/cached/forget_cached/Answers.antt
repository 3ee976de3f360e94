use Rattle.std.proofs.Common.{◌≡◌, ◌∙◌, ◌*◌, refl, sym, ap, subst, Some, true, false}
use Rattle.sd_vtree.specs.Numbered.{number_of, variable_at}
use Rattle.sd_cache.specs.Entries.{call}
use Rattle.sd_apply.proofs.Growing.{both_lowest}
use Rattle.sd_apply.proofs.Served.{serves_look, serves_keep}
use Rattle.sd_apply.proofs.Whole.{root_there, root_below}
use Rattle.sd_cond.specs.Calls.{conditioned, forgotten}
use Rattle.sd_cond.proofs.Answering.{place_each}
use Rattle.sd_cond.proofs.Forgotten.{forget_outside}
use Rattle.sd_cond.proofs.Serving.{looked_forget, forget_right, literal_at, literal_on}
use Rattle.sd_cond.proofs.cached.forget_cached.Goals as goal

-- the cache is asked
pub returns-in-Some-look-clause-ok : goal.returns-in-Some-look-clause-ok
returns-in-Some-look-clause-ok c =
    let m = c.args.m.now in
    let i = c.epoch-epoch.ensures.table in
    let x = c.args.variable in
    looked_forget c.args.c.now m c.epoch-epoch.result c.args.a (2 * x) c.a.inside.0
    c.in-Some-look.code x i c.requires.serves c.epoch-epoch.ensures.epoch c.a.view_is
    (literal_at m i (2 * x) x true refl c.requires.positive c.requires.within)
    c.in-Some-look.ensures.early c.in-Some-look.ensures.value

pub returns-in-Some-look-clause-serves : goal.returns-in-Some-look-clause-serves
returns-in-Some-look-clause-serves c =
    serves_look c.args.c.now c.look.new.self c.args.m.now
    (call c.epoch-epoch.result 5 c.a.inside.0 (2 * c.args.variable)) c.look.ensures.entries
    c.requires.serves

pub returns-then-not-is_over-clause-serves : goal.returns-then-not-is_over-clause-serves
returns-then-not-is_over-clause-serves c =
    serves_look c.args.c.now c.look.new.self c.args.m.now
    (call c.epoch-epoch.result 5 c.a.inside.0 (2 * c.args.variable)) c.look.ensures.entries
    c.requires.serves

pub forget_here-requires-clause-serves : goal.forget_here-requires-clause-serves
forget_here-requires-clause-serves c =
    serves_look c.args.c.now c.look.new.self c.args.m.now
    (call c.epoch-epoch.result 5 c.a.inside.0 (2 * c.args.variable)) c.look.ensures.entries
    c.requires.serves

-- nothing is kept yet
pub forget_here-requires-clause-knows : goal.forget_here-requires-clause-knows
forget_here-requires-clause-knows c =
    let m = c.args.m.now in
    let x = c.args.variable in
    record {
      alone = c.new.ensures m (forgotten x);
      where_true = c.new-2.ensures m (conditioned x true);
      where_false = c.new-3.ensures m (conditioned x false);
    }

-- the root is there, and the node is below it
pub place_with_children-fork-requires-clause-at : goal.place_with_children-fork-requires-clause-at
place_with_children-fork-requires-clause-at c =
    root_there c.args.m.now.vtree c.root-root.result (c.root-root.ensures.root
    ∙ ap number_of c.vtree.ensures.vtree)

pub place_with_children-fork-requires-clause-node :
    goal.place_with_children-fork-requires-clause-node
place_with_children-fork-requires-clause-node c =
    root_below c.args.m.now c.root-root.result c.args.a (c.root-root.ensures.root
    ∙ ap number_of c.vtree.ensures.vtree)
    c.requires.node

-- the leaf stands elsewhere
pub returns-then-not-is_over-clause-ok : goal.returns-then-not-is_over-clause-ok
returns-then-not-is_over-clause-ok c =
    let m = c.args.m.now in
    let i = c.epoch-epoch.ensures.table in
    let p = c.place_with_children-fork in
    forget_outside m i p.result.node c.leaf-leaf.result c.args.variable c.args.a p.ensures.there
    (subst (λ t. variable_at t c.leaf-leaf.result ≡ Some c.args.variable) c.vtree-2.ensures.vtree
    c.leaf-leaf.ensures.leaf)
    (c.is_over.ensures.tells.apart c.if-not-is_over.true)
    (place_each m i p.result.node c.args.a p.ensures.there p.ensures.place)

-- where new nodes stand
pub returns-in_err-code-clause-grown : goal.returns-in_err-code-clause-grown
returns-in_err-code-clause-grown c =
    let p = c.place_with_children-fork in
    both_lowest c.args.m.now c.forget_here.new.m c.forget_here.ensures.step.kept
    c.epoch-epoch.ensures.table.numbered p.result.node c.args.a c.args.a
    (λ n there x y. p.ensures.lowest n there x) c.forget_here.ensures.step.grown

pub returns-clause-grown : goal.returns-clause-grown
returns-clause-grown c =
    let p = c.place_with_children-fork in
    both_lowest c.args.m.now c.forget_here.new.m c.forget_here.ensures.step.kept
    c.epoch-epoch.ensures.table.numbered p.result.node c.args.a c.args.a
    (λ n there x y. p.ensures.lowest n there x) c.forget_here.ensures.step.grown

-- the answer is right to keep
pub returns-clause-serves : goal.returns-clause-serves
returns-clause-serves c =
    let m = c.args.m.now in
    let n = c.forget_here.new.m in
    let e = c.epoch-epoch.result in
    let x = c.args.variable in
    let k = c.forget_here.ensures.step.kept in
    serves_keep c.forget_here.new.c c.keep.new.self n (call e 5 c.a-2.inside.0 (2 * x)) c.code.inside.0
    c.keep.result c.keep.ensures.keeps c.keep.ensures.err c.keep.ensures.late
    (c.epoch-epoch.ensures.epoch ∙ sym k.epoch) c.forget_here.ensures.step.serves
    (forget_right m n k e c.args.a (2 * x) c.a-2.inside.0 (2 * x) c.in_ok-code.code c.code.inside.0 x
    c.a-2.view_is refl c.code.view_is
    (literal_on m n k (2 * x) x true
    (literal_at m c.epoch-epoch.ensures.table (2 * x) x true refl c.requires.positive
    c.requires.within))
    c.requires.node c.in_ok-code.ensures.ok)
