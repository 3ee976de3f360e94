use Rattle.std.proofs.Common.{ℕ, refl, ap, ◌∙◌}
use Rattle.std.specs.FinMap.{len, len-empty}
use Rattle.std.specs.Ordering.{nat_cmp}
use Rattle.sd_commands.specs.Standing.{lines_of}
use Rattle.sd_commands.proofs.Standing.{stands_first}
use Rattle.sd_commands.proofs.state.RunState.new.Goals as goal

pub returns-clause-represents : goal.returns-clause-represents
returns-clause-represents c =
    stands_first _ c.args.vtree (lines_of c.args.circuit) c.in_ok-manager.ensures.ok c.in_ok-cache.ensures
    c.new-3.ensures.empty c.new-4.ensures.lines c.new-4.ensures.forgotten c.requires.inputs

pub returns-clause-roots : goal.returns-clause-roots
returns-clause-roots c = ap (λ t. len t.roots) c.in_ok-manager.ensures.ok ∙ len-empty nat_cmp ℕ
