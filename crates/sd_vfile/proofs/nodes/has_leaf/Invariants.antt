use Rattle.std.proofs.Common.{◌≡◌, drop}
use Rattle.std.specs.List.{list_any}
use Rattle.sd_vfile.specs.Steps.{is_leaf_line}
use Rattle.sd_vfile.proofs.nodes.has_leaf.Given as goal

-- no line so far is the leaf
abbrev pub invariant-loop-form : goal.invariant-loop-form
invariant-loop-form l =
    list_any (is_leaf_line l.variable) (drop l.form-index l.forms)
    ≡ list_any (is_leaf_line l.variable) l.forms
