use Rattle.std.proofs.Common.{◌≡◌, true, sym, ap, ◌∙◌, arith}
use Rattle.sd_vfile.specs.Reads.{has_leaf, none_missing}
use Rattle.sd_vfile.specs.Steps.{entries_of}
use Rattle.sd_vfile.proofs.Roots.{leaf_there}
use Rattle.sd_vfile.proofs.whole.none_missing.Goals as goal

-- the variable in hand has a leaf
pub loop-variable-preserved : goal.loop-variable-preserved
loop-variable-preserved c =
    let nodes = entries_of c.args.forms.now in
    let x = c.loop-variable.variable in
    let there : has_leaf x nodes ≡ true =
    ap (λ y. has_leaf y nodes) (sym c.from.ensures) ∙ sym c.has_leaf.ensures ∙ c.if-not-has_leaf.false in
    record {
      low = omega arith;
      high = omega arith;
      same = ap none_missing (sym (leaf_there nodes x c.args.variables (omega arith) there))
          ∙ c.loop-variable.invariant.same;
    }
