-- A text is read as its header and the lines after it.
use Rattle.std.proofs.Common.{◌≡◌, ℕ, List, sym}
use Rattle.std.specs.Prelude.{codes}
use Rattle.sd_base.specs.Lines.{content_of}
use Rattle.sd_vfile.proofs.ByLines.{nodes_made}
use Rattle.sd_file.specs.Reads.{entry_of, file_of, sdd_file}
use Rattle.sd_file.specs.Steps.{file_of_lines}

-- what is made of the list of its nodes is made of them line by line
pub sdd_file_is : (v : ℕ) (bytes : List ℕ) → sdd_file v bytes ≡ file_of_lines v (content_of 99 bytes)
unfolding sdd_file
sdd_file_is v bytes = sym (nodes_made (codes "sdd") (entry_of v) (file_of v) (content_of 99 bytes))
