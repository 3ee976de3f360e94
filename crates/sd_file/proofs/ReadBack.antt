-- The text of canonical diagrams is read back as a file with the meaning of the one that is complete last.
use Rattle.std.proofs.Common.{ℕ, List, ◌*◌, ◌^◌, ◌<◌, ◌≤◌, [], ◌∷◌, map, length, ap, ◌∙◌, arith}
use Rattle.std.specs.List.{AllByRecursion}
use Rattle.std.proofs.lemmas.List.{length_push}
use Rattle.sd_model.specs.Tree.{Tree, variables, leaves, IsVtree}
use Rattle.sd_model.specs.Diagram.{Diagram}
use Rattle.sd_model.specs.Canonical.{IsCanonical}
use Rattle.sd_model.specs.Size.{completed}
use Rattle.sd_model.specs.Text.{naming_lines, roots_text}
use Rattle.sd_model.proofs.ClosedLists.{closed_completed}
use Rattle.sd_model.proofs.RootLast.{ends_completed}
use Rattle.sd_model.proofs.PlainTexts.{roots_text_plain}
use Rattle.sd_file.specs.Reads.{sdd_file}
use Rattle.sd_file.specs.RoundTrip.{ReadsBack, IsLastOf}
use Rattle.sd_file.proofs.Comments.{naming_comments}
use Rattle.sd_file.proofs.DiagramPlaces.{new_completed}
use Rattle.sd_file.proofs.NodeLines.{written_entry, IsReadable}
use Rattle.sd_file.proofs.FileValue.{file_means}
use Rattle.sd_file.proofs.LinesRead.{text_read}
use Rattle.sd_file.proofs.Readable.{readable_completed}
use Rattle.sd_file.proofs.WholeText.{sdd_file_is}

-- whatever the roots, if the diagrams under them can be read: the file has the meaning of the last of these
pub readable_back : (v : ℕ) (roots : List Diagram) (d : Diagram) → IsLastOf (completed roots) d
    → AllByRecursion (IsReadable v) (completed roots) → length (completed roots) < 10 ^ 18
    → ReadsBack v (roots_text roots) d
readable_back v roots d last readable within_limit =
    let nodes = completed roots in
    let closed = closed_completed roots in
    let some : 1 ≤ length nodes = omega (arith, ap length last.1 ∙ length_push last.0 d) in
    record {
      file = record { variables = v; nodes = map (written_entry nodes) nodes };
      reads =
          ap (sdd_file v) (roots_text_plain roots)
          ∙ sdd_file_is v _
          ∙ text_read v nodes (naming_lines nodes roots) some within_limit closed (new_completed roots) readable
          (naming_comments nodes roots);
      value = file_means v nodes last.0 d closed readable last.1;
    }

-- canonical roots over a tree whose variables are from 1 to v, where all numbers have at most 18 digits
pub canonical_back : (t : Tree) (v : ℕ) (roots : List Diagram) (d : Diagram)
    → AllByRecursion (λ x. (1 ≤ x) × (x ≤ v)) (variables t) → v < 10 ^ 18 → 2 * leaves t ≤ 10 ^ 18
    → AllByRecursion (IsCanonical t 0) roots → length (completed roots) < 10 ^ 18 → IsLastOf (completed roots) d
    → ReadsBack v (roots_text roots) d
canonical_back t v roots d range small room k within_limit last =
    readable_back v roots d last
    (readable_completed t roots v k range small room within_limit (closed_completed roots)) within_limit

-- ones over a vtree of at most 1,024 variables, with at most 2^32 nodes
pub reads_back : (t : Tree) (roots : List Diagram) (d : Diagram) → IsVtree t → leaves t ≤ 1024
    → AllByRecursion (IsCanonical t 0) roots → length (completed roots) ≤ 2 ^ 32 → IsLastOf (completed roots) d
    → ReadsBack (leaves t) (roots_text roots) d
reads_back t roots d vtree most k within_limit last =
    canonical_back t (leaves t) roots d vtree.in_range (omega arith) (omega arith) k (omega arith) last

-- the only root is the last
pub single_last : (d : Diagram) → IsLastOf (completed (d ∷ [])) d
single_last d = let ends = ends_completed d in (ends.before, ends.whole)
