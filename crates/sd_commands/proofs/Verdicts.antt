-- What the verdict on a file tells.
use Rattle.std.proofs.Common.{◌≡◌, ℕ, ◌<◌, length, subst}
use Rattle.sd_model.specs.Tree.{Tree}
use Rattle.sd_file.specs.Reads.{File}
use Rattle.sd_check.specs.Rules.{Places, HasVerdict}
use Rattle.sd_check.specs.declared.rules.Rule.{Rule}
use Rattle.sd_check.specs.declared.rules.Verdict.{Verdict}
use Rattle.sd_check.specs.declared.rules.Verdict.TheVariants.{No}

-- the node that breaks a rule is one of the file
pub broken_there : (t : Tree) (ids : Places) (f : File) (verdict : Verdict) (node : ℕ) (rule : Rule)
    → verdict ≡ No node rule → HasVerdict t ids f verdict → node < length f.nodes
broken_there t ids f verdict node rule is h =
    let told : HasVerdict t ids f (No node rule) = subst (HasVerdict t ids f) is h in told.0
