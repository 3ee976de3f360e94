use Rattle.std.proofs.Common.{◌≡◌, ◌+◌, ℕ, drop}
use Rattle.sd_base.specs.Files.{bytes_at}
use Rattle.sd_base.specs.Memory.{files_of, IsFirst}
use Rattle.sd_base.proofs.memory.named_bytes.find_file.Given as goal

-- the first of the name is still to come, wherever it is
abbrev pub invariant-loop-i : goal.invariant-loop-i
invariant-loop-i l =
    ((k : ℕ) → IsFirst (drop l.i l.files) l.name k → IsFirst l.files l.name (l.i + k))
    × (bytes_at (files_of (drop l.i l.files)) l.name ≡ bytes_at (files_of l.files) l.name)
