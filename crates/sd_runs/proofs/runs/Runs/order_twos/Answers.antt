use Rattle.std.proofs.Common.{◌<◌, ◌++◌, take, drop, length, sym, subst, ◌∙◌, arith}
use Rattle.std.proofs.Math.ListN.{set}
use Rattle.sd_runs.specs.Arena.{IsArena}
use Rattle.sd_runs.specs.Fields.{lists_of, stacks_of}
use Rattle.sd_runs.specs.Ordered.{IsRechained}
use Rattle.sd_runs.specs.Stored.{AreMarked, HoldsRuns}
use Rattle.sd_runs.specs.Taking.{IsReordered}
use Rattle.sd_runs.proofs.Arenas.{arena_of, is_arena}
use Rattle.sd_runs.proofs.Reordered.{kept_after, marks_after, arena_after}
use Rattle.sd_runs.proofs.Written.{written_back}
use Rattle.sd_runs.proofs.runs.Runs.order_twos.Goals as goal

pub returns-else-len-gt2-clause-arena : goal.returns-else-len-gt2-clause-arena
returns-else-len-gt2-clause-arena c = subst IsArena c.self.view_is (is_arena c.self.invariant.0.stored)

pub invariant_of-self : goal.invariant_of-self
invariant_of-self c =
    let has_head : 2 < length c.self.inside.heads.items = omega (arith, c.if-len-gt2.true) in
    let rechained = subst (λ e. IsRechained c.self.inside.marks.items e c.chain_marked.new.elements
    c.chain_marked.result) c.deref_mut.ensures.value
    (subst (λ m. IsRechained m c.deref_mut.result.now c.chain_marked.new.elements c.chain_marked.result)
    c.deref.ensures.value c.chain_marked.ensures) in
    let written = written_back c.self.inside.elements.items c.chain_marked.new.elements c.self.inside.elements.len
    (c.chain_marked.auto.elements ∙ c.deref_mut.ensures.len) in
    subst (λ e. HoldsRuns e c.self.inside.marks.items (set c.self.inside.heads.items 2 c.chain_marked.result)
    c.self.inside.used c.self.inside.bound
    × AreMarked c.self.inside.marks.items (stacks_of e (set c.self.inside.heads.items 2 c.chain_marked.result))
    (length e))
    (sym written) (
      kept_after c.self.inside.elements.items c.self.inside.marks.items c.self.inside.heads.items
          c.self.inside.used c.self.inside.bound 2 c.self.invariant.0 has_head c.chain_marked.new.elements
          c.chain_marked.result c.self.invariant.1.marked rechained,
      marks_after c.self.inside.elements.items c.self.inside.marks.items c.self.inside.heads.items
          c.self.inside.used c.self.inside.bound 2 c.self.invariant.0 has_head c.chain_marked.new.elements
          c.chain_marked.result c.self.invariant.1.marked rechained c.self.invariant.1,
    )

pub returns-then-index-clause-reordered : goal.returns-then-index-clause-reordered
returns-then-index-clause-reordered c =
    let rechained = subst (λ e. IsRechained c.self.inside.marks.items e c.chain_marked.new.elements
    c.chain_marked.result) c.deref_mut.ensures.value
    (subst (λ m. IsRechained m c.deref_mut.result.now c.chain_marked.new.elements c.chain_marked.result)
    c.deref.ensures.value c.chain_marked.ensures) in
    let written = written_back c.self.inside.elements.items c.chain_marked.new.elements c.self.inside.elements.len
    (c.chain_marked.auto.elements ∙ c.deref_mut.ensures.len) in
    subst (λ a. IsReordered a (arena_of
    (lists_of (take c.self.inside.elements.len (c.chain_marked.new.elements
    ++ drop (length c.chain_marked.new.elements) c.self.inside.elements.items)) c.self.inside.marks.items
    (set c.self.inside.heads.items 2 c.chain_marked.result))
    (stacks_of (take c.self.inside.elements.len (c.chain_marked.new.elements
    ++ drop (length c.chain_marked.new.elements) c.self.inside.elements.items))
    (set c.self.inside.heads.items 2 c.chain_marked.result))
    (length (take c.self.inside.elements.len (c.chain_marked.new.elements
    ++ drop (length c.chain_marked.new.elements) c.self.inside.elements.items))) c.self.inside.bound) 2)
    c.self.view_is
    (subst (λ e. IsReordered (arena_of
    (lists_of c.self.inside.elements.items c.self.inside.marks.items c.self.inside.heads.items)
    (stacks_of c.self.inside.elements.items c.self.inside.heads.items) (length c.self.inside.elements.items)
    c.self.inside.bound)
    (arena_of (lists_of e c.self.inside.marks.items (set c.self.inside.heads.items 2 c.chain_marked.result))
    (stacks_of e (set c.self.inside.heads.items 2 c.chain_marked.result)) (length e) c.self.inside.bound) 2)
    (sym written)
    (arena_after c.self.inside.elements.items c.self.inside.marks.items c.self.inside.heads.items
    c.self.inside.used c.self.inside.bound 2 c.self.invariant.0 (omega (arith, c.if-len-gt2.true))
    c.chain_marked.new.elements c.chain_marked.result c.self.invariant.1.marked
    rechained))

pub returns-then-index-clause-arena : goal.returns-then-index-clause-arena
returns-then-index-clause-arena c = is_arena (invariant_of-self c).0.stored
