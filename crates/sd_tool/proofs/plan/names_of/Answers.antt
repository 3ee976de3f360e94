-- One name more, and few in all.
use Rattle.std.proofs.Common.{rules, ◌≡◌, ◌≤◌, ℕ, List, length, sym, subst, ◌∙◌}
use Rattle.sd_tool.specs.Readings.{first_names}
use Rattle.sd_tool.proofs.LineLemmas.{numbers_more, first_few}
use Rattle.sd_tool.proofs.plan.names_of.Goals as goal

pub loop-name-preserved : goal.loop-name-preserved
loop-name-preserved c =
    c.in_ok-push.ensures.items ∙ numbers_more c.loop-name.name c.loop-name.names.items c.loop-name.invariant

pub returns-clause-few : goal.returns-clause-few
returns-clause-few c =
    let is : c.loop-name.names.items ≡ first_names c.args.outputs = search rules in
    subst (λ (names : List ℕ). length names ≤ 1024) (sym is) (first_few c.args.outputs c.requires.few)
