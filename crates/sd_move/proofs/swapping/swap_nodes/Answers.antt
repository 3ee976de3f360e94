use Rattle.std.proofs.Common.{◌≤◌, inl, inr, [], None, sym, subst, arith}
use Rattle.std.specs.FinMap.{get}
use Rattle.std.proofs.lemmas.Result.{on_ok_weaker}
use Rattle.sd_model.specs.declared.trees.Move.TheVariants.{Swap}
use Rattle.sd_laws.proofs.Evaluated.{value_of}
use Rattle.sd_apply.specs.Serving.{Serves}
use Rattle.sd_move.specs.Moving.{no_progress}
use Rattle.sd_move.specs.Rewriting.{CanRewriteAll, HasRewritten}
use Rattle.sd_move.proofs.MoveEnd.{last_way, none_waits}
use Rattle.sd_move.proofs.ServesLater.{serves_later, serves_rest}
use Rattle.sd_move.proofs.SwapEnd.{swap_may, later_turned, swap_on_way}
use Rattle.sd_sweep.proofs.NeverFalling.{never_same}
use Rattle.sd_move.proofs.swapping.swap_nodes.Goals as goal

pub rewrite_all-done-requires-clause-may : goal.rewrite_all-done-requires-clause-may
rewrite_all-done-requires-clause-may c =
    let m0 = c.args.m.now in
    let m1 = c.begin_swap.new.m in
    let x = c.args.place in
    let ns = c.in-Ok.numbers.items in
    let t0 = c.requires.table in
    let still = c.requires.no_move in
    let s = c.in-Ok.ensures.swapped in
    let v = value_of (get m0.linked) in
    let can = subst (CanRewriteAll m0 m1 x no_progress v) (sym c.deref.ensures.value)
    (swap_may m0 m1 x ns t0 still s) in
    (m0, no_progress, v, can)

pub rewrite_all-done-requires-clause-serves : goal.rewrite_all-done-requires-clause-serves
rewrite_all-done-requires-clause-serves c =
    let m0 = c.args.m.now in
    let m1 = c.begin_swap.new.m in
    let x = c.args.place in
    let ns = c.in-Ok.numbers.items in
    let t0 = c.requires.table in
    let still = c.requires.no_move in
    let s = c.in-Ok.ensures.swapped in
    let last : m0.epoch ≤ 18446744073709551615 = omega (arith, c.epoch.type_inv, c.epoch.ensures.epoch) in
    serves_later _ m0 m1 last (later_turned m0 m1 x ns t0 still s last) c.requires.serves

pub end_or_go_back-requires-clause-way : goal.end_or_go_back-requires-clause-way
end_or_go_back-requires-clause-way c =
    let m0 = c.args.m.now in
    let m1 = c.begin_swap.new.m in
    let x = c.args.place in
    let ns = c.in-Ok.numbers.items in
    let t0 = c.requires.table in
    let still = c.requires.no_move in
    let s = c.in-Ok.ensures.swapped in
    let v = value_of (get m0.linked) in
    let can = subst (CanRewriteAll m0 m1 x no_progress v) (sym c.deref.ensures.value)
    (swap_may m0 m1 x ns t0 still s) in
    let m2 = c.rewrite_all-done.new.m in
    let es = c.rewrite_all-done.new.named.items in
    let w = c.rewrite_all-done.ensures.rewritten in
    let r : HasRewritten m1 m2 x ns [] es w.0 =
    subst (λ b. HasRewritten m1 m2 x ns b es w.0) c.new-named.ensures.items
    (subst (λ l. HasRewritten m1 m2 x l c.new-named.result.items es w.0) c.deref.ensures.value w.1) in
    let way = swap_on_way m0 m1 x ns t0 still s c.begin_swap.ensures.table m2 c.rewrite_all-done.ensures.table es w.0 r
    (w.2 m0 no_progress v can) in
    (m0, way)

pub end_or_go_back-requires-clause-all : goal.end_or_go_back-requires-clause-all
end_or_go_back-requires-clause-all c =
    let m0 = c.args.m.now in
    let m1 = c.begin_swap.new.m in
    let x = c.args.place in
    let ns = c.in-Ok.numbers.items in
    let t0 = c.requires.table in
    let still = c.requires.no_move in
    let s = c.in-Ok.ensures.swapped in
    let v = value_of (get m0.linked) in
    let can = subst (CanRewriteAll m0 m1 x no_progress v) (sym c.deref.ensures.value)
    (swap_may m0 m1 x ns t0 still s) in
    on_ok_weaker c.rewrite_all-done.result
    (λ f. none_waits m0 m1 c.rewrite_all-done.new.m x no_progress v (f m0 no_progress v can))
    c.rewrite_all-done.ensures.going

pub returns-in-Ok-clause-bound : goal.returns-in-Ok-clause-bound
returns-in-Ok-clause-bound c =
    let m0 = c.args.m.now in
    let m1 = c.begin_swap.new.m in
    let x = c.args.place in
    let ns = c.in-Ok.numbers.items in
    let t0 = c.requires.table in
    let still = c.requires.no_move in
    let s = c.in-Ok.ensures.swapped in
    let v = value_of (get m0.linked) in
    let can = subst (CanRewriteAll m0 m1 x no_progress v) (sym c.deref.ensures.value)
    (swap_may m0 m1 x ns t0 still s) in
    let m2 = c.rewrite_all-done.new.m in
    let es = c.rewrite_all-done.new.named.items in
    let w = c.rewrite_all-done.ensures.rewritten in
    let r : HasRewritten m1 m2 x ns [] es w.0 =
    subst (λ b. HasRewritten m1 m2 x ns b es w.0) c.new-named.ensures.items
    (subst (λ l. HasRewritten m1 m2 x l c.new-named.result.items es w.0) c.deref.ensures.value w.1) in
    let way = swap_on_way m0 m1 x ns t0 still s c.begin_swap.ensures.table m2 c.rewrite_all-done.ensures.table es w.0 r
    (w.2 m0 no_progress v can) in
    c.end_or_go_back.ensures.bound m0 way

pub returns-in-Ok-clause-moved : goal.returns-in-Ok-clause-moved
returns-in-Ok-clause-moved c =
    let m0 = c.args.m.now in
    let m1 = c.begin_swap.new.m in
    let x = c.args.place in
    let ns = c.in-Ok.numbers.items in
    let t0 = c.requires.table in
    let still = c.requires.no_move in
    let s = c.in-Ok.ensures.swapped in
    let v = value_of (get m0.linked) in
    let can = subst (CanRewriteAll m0 m1 x no_progress v) (sym c.deref.ensures.value)
    (swap_may m0 m1 x ns t0 still s) in
    let m2 = c.rewrite_all-done.new.m in
    let es = c.rewrite_all-done.new.named.items in
    let w = c.rewrite_all-done.ensures.rewritten in
    let r : HasRewritten m1 m2 x ns [] es w.0 =
    subst (λ b. HasRewritten m1 m2 x ns b es w.0) c.new-named.ensures.items
    (subst (λ l. HasRewritten m1 m2 x l c.new-named.result.items es w.0) c.deref.ensures.value w.1) in
    let way = swap_on_way m0 m1 x ns t0 still s c.begin_swap.ensures.table m2 c.rewrite_all-done.ensures.table es w.0 r
    (w.2 m0 no_progress v can) in
    let last : m0.epoch ≤ 18446744073709551615 = omega (arith, c.epoch.type_inv, c.epoch.ensures.epoch) in
    c.end_or_go_back.ensures.moved m0 way c.requires.swept last

pub returns-in-Ok-clause-back : goal.returns-in-Ok-clause-back
returns-in-Ok-clause-back c =
    let m0 = c.args.m.now in
    let m1 = c.begin_swap.new.m in
    let x = c.args.place in
    let ns = c.in-Ok.numbers.items in
    let t0 = c.requires.table in
    let still = c.requires.no_move in
    let s = c.in-Ok.ensures.swapped in
    let v = value_of (get m0.linked) in
    let can = subst (CanRewriteAll m0 m1 x no_progress v) (sym c.deref.ensures.value)
    (swap_may m0 m1 x ns t0 still s) in
    let m2 = c.rewrite_all-done.new.m in
    let es = c.rewrite_all-done.new.named.items in
    let w = c.rewrite_all-done.ensures.rewritten in
    let r : HasRewritten m1 m2 x ns [] es w.0 =
    subst (λ b. HasRewritten m1 m2 x ns b es w.0) c.new-named.ensures.items
    (subst (λ l. HasRewritten m1 m2 x l c.new-named.result.items es w.0) c.deref.ensures.value w.1) in
    let way = swap_on_way m0 m1 x ns t0 still s c.begin_swap.ensures.table m2 c.rewrite_all-done.ensures.table es w.0 r
    (w.2 m0 no_progress v can) in
    c.end_or_go_back.ensures.back m0 way

pub returns-in-Ok-clause-unmarked : goal.returns-in-Ok-clause-unmarked
returns-in-Ok-clause-unmarked c =
    let m0 = c.args.m.now in
    let m1 = c.begin_swap.new.m in
    let x = c.args.place in
    let ns = c.in-Ok.numbers.items in
    let t0 = c.requires.table in
    let still = c.requires.no_move in
    let s = c.in-Ok.ensures.swapped in
    let v = value_of (get m0.linked) in
    let can = subst (CanRewriteAll m0 m1 x no_progress v) (sym c.deref.ensures.value)
    (swap_may m0 m1 x ns t0 still s) in
    let m2 = c.rewrite_all-done.new.m in
    let es = c.rewrite_all-done.new.named.items in
    let w = c.rewrite_all-done.ensures.rewritten in
    let r : HasRewritten m1 m2 x ns [] es w.0 =
    subst (λ b. HasRewritten m1 m2 x ns b es w.0) c.new-named.ensures.items
    (subst (λ l. HasRewritten m1 m2 x l c.new-named.result.items es w.0) c.deref.ensures.value w.1) in
    let way = swap_on_way m0 m1 x ns t0 still s c.begin_swap.ensures.table m2 c.rewrite_all-done.ensures.table es w.0 r
    (w.2 m0 no_progress v can) in
    c.end_or_go_back.ensures.unmarked m0 way

pub returns-in-Ok-clause-serves : goal.returns-in-Ok-clause-serves
returns-in-Ok-clause-serves c =
    let m0 = c.args.m.now in
    let m1 = c.begin_swap.new.m in
    let x = c.args.place in
    let ns = c.in-Ok.numbers.items in
    let t0 = c.requires.table in
    let still = c.requires.no_move in
    let s = c.in-Ok.ensures.swapped in
    let v = value_of (get m0.linked) in
    let can = subst (CanRewriteAll m0 m1 x no_progress v) (sym c.deref.ensures.value)
    (swap_may m0 m1 x ns t0 still s) in
    let m2 = c.rewrite_all-done.new.m in
    let es = c.rewrite_all-done.new.named.items in
    let w = c.rewrite_all-done.ensures.rewritten in
    let r : HasRewritten m1 m2 x ns [] es w.0 =
    subst (λ b. HasRewritten m1 m2 x ns b es w.0) c.new-named.ensures.items
    (subst (λ l. HasRewritten m1 m2 x l c.new-named.result.items es w.0) c.deref.ensures.value w.1) in
    let way = swap_on_way m0 m1 x ns t0 still s c.begin_swap.ensures.table m2 c.rewrite_all-done.ensures.table es w.0 r
    (w.2 m0 no_progress v can) in
    let last : m0.epoch ≤ 18446744073709551615 = omega (arith, c.epoch.type_inv, c.epoch.ensures.epoch) in
    let e = last_way m0 m2 Swap x None es way last in
    elim c.end_or_go_back.ensures.later [
      | inl same ↦ subst (Serves c.rewrite_all-done.new.c) (sym same)
          (serves_rest _ m2 c.rewrite_all-done.ensures.serves)
      | inr later ↦ serves_later _ m2 c.end_or_go_back.new.m e later c.rewrite_all-done.ensures.serves
    ]

pub returns-in-Ok-clause-never_falls : goal.returns-in-Ok-clause-never_falls
returns-in-Ok-clause-never_falls c =
    let m0 = c.args.m.now in
    let m1 = c.begin_swap.new.m in
    let x = c.args.place in
    let ns = c.in-Ok.numbers.items in
    let t0 = c.requires.table in
    let still = c.requires.no_move in
    let s = c.in-Ok.ensures.swapped in
    let v = value_of (get m0.linked) in
    let can = subst (CanRewriteAll m0 m1 x no_progress v) (sym c.deref.ensures.value)
    (swap_may m0 m1 x ns t0 still s) in
    let m2 = c.rewrite_all-done.new.m in
    let es = c.rewrite_all-done.new.named.items in
    let w = c.rewrite_all-done.ensures.rewritten in
    let r : HasRewritten m1 m2 x ns [] es w.0 =
    subst (λ b. HasRewritten m1 m2 x ns b es w.0) c.new-named.ensures.items
    (subst (λ l. HasRewritten m1 m2 x l c.new-named.result.items es w.0) c.deref.ensures.value w.1) in
    let way = swap_on_way m0 m1 x ns t0 still s c.begin_swap.ensures.table m2 c.rewrite_all-done.ensures.table es w.0 r
    (w.2 m0 no_progress v can) in
    let last : m0.epoch ≤ 18446744073709551615 = omega (arith, c.epoch.type_inv, c.epoch.ensures.epoch) in
    c.end_or_go_back.ensures.never_falls m0 way last

pub returns-in-Err-clause-never_falls : goal.returns-in-Err-clause-never_falls
returns-in-Err-clause-never_falls c = never_same c.args.m.now c.begin_swap.new.m c.in-Err.ensures.err
