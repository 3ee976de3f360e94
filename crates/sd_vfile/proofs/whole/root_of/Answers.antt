use Rattle.std.proofs.Common.{◌≡◌, ◌<◌, length, get_or, sym, ◌∙◌, ap, arith}
use Rattle.sd_vfile.specs.Reads.{is_child}
use Rattle.sd_vfile.specs.Steps.{entries_of, no_entry}
use Rattle.sd_vfile.proofs.Places.{length_entries_of, line_id}
use Rattle.sd_vfile.proofs.Roots.{roots_yes, roots_no, root_is, roots_are}
use Rattle.sd_vfile.proofs.whole.root_of.Goals as goal
use Rattle.sd_vfile.proofs.whole.root_of.Goals.{then-not-is_child, else-not-is_child}

-- the node in hand is a root, or a child
pub loop-index-preserved : goal.loop-index-preserved
loop-index-preserved c =
    let nodes = entries_of c.args.forms.now in
    let index = c.loop-index.index in
    let within : index < length nodes = omega (arith, length_entries_of c.args.forms.now) in
    let is : (get_or nodes index no_entry).id ≡ c.id.result =
    line_id c.args.forms.now index _ (omega arith) ∙ sym c.id.ensures in
    let test : is_child (get_or nodes index no_entry).id nodes ≡ c.is_child.result =
    ap (λ i. is_child i nodes) is ∙ sym c.is_child.ensures in
    elim c.if-not-is_child.branch [
      | then-not-is_child w ↦
          rw (w.roots-is, w.root-is)
          (roots_yes nodes index c.loop-index.roots c.loop-index.root c.loop-index.invariant within
          (test ∙ w.if-not-is_child.true))
      | else-not-is_child w ↦
          rw (w.roots-is, w.root-is)
          (roots_no nodes index c.loop-index.roots c.loop-index.root c.loop-index.invariant within
          (test ∙ w.if-not-is_child.false))
    ]

-- there was one root
pub returns-then-roots-eq1-clause-root : goal.returns-then-roots-eq1-clause-root
returns-then-roots-eq1-clause-root c =
    let nodes = entries_of c.args.forms.now in
    root_is nodes c.loop-index.index c.loop-index.roots c.loop-index.root c.loop-index.invariant
    (omega (arith, length_entries_of c.args.forms.now)) c.if-roots-eq1.true

pub returns-then-roots-eq1-clause-within : goal.returns-then-roots-eq1-clause-within
returns-then-roots-eq1-clause-within c =
    let one : c.loop-index.roots ≡ 1 = c.if-roots-eq1.true in
    let within = c.loop-index.invariant.before (omega (arith, one)) in
    omega (arith, within, length_entries_of c.args.forms.now)

-- there was none, or several
pub returns-else-roots-eq1-clause-root : goal.returns-else-roots-eq1-clause-root
returns-else-roots-eq1-clause-root c =
    let nodes = entries_of c.args.forms.now in
    roots_are nodes c.loop-index.index c.loop-index.roots c.loop-index.root c.loop-index.invariant
    (omega (arith, length_entries_of c.args.forms.now)) c.if-roots-eq1.false
