use Rattle.std.proofs.Common.{◌≡◌, ◌==◌, drop}
use Rattle.std.specs.List.{list_any}
use Rattle.sd_vfile.specs.Steps.{id_of}
use Rattle.sd_vfile.proofs.nodes.has_id.Given as goal

-- no line so far has the id
abbrev pub invariant-loop-form : goal.invariant-loop-form
invariant-loop-form l =
    list_any (λ f. id_of f == l.id) (drop l.form-index l.forms)
    ≡ list_any (λ f. id_of f == l.id) l.forms
