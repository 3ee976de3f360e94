use Rattle.std.proofs.Common.{◌≡◌, drop}
use Rattle.std.specs.List.{list_any}
use Rattle.sd_vfile.specs.Steps.{has_child}
use Rattle.sd_vfile.proofs.nodes.is_child.Given as goal

-- no line so far has the child
abbrev pub invariant-loop-form : goal.invariant-loop-form
invariant-loop-form l =
    list_any (has_child l.id) (drop l.form-index l.forms)
    ≡ list_any (has_child l.id) l.forms
