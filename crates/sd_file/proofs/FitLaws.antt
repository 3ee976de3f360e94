-- What an accepted text says: literals are in range, and children are earlier nodes.
use Rattle.std.proofs.Common.{◌≡◌, ℕ, zero, suc, ◌+◌, ◌≤◌, ◌<◌, ◌==◌, Bool, true, false, not, ◌&&◌, List, [], ◌∷◌, ◌++◌}
use Rattle.std.proofs.Common.{map, length}
use Rattle.std.proofs.Common.{Option, Some, None, ok_or, Result, Ok, Err, refl, sym, ap, subst, arith, ℤ}
use Rattle.std.proofs.Common.{unsigned_abs, slice_get, slice_index_or}
use Rattle.std.specs.Prelude.{nat_le, is_some, codes}
use Rattle.std.specs.List.{AllByRecursion}
use Rattle.std.proofs.lemmas.Bool.{leb-true}
use Rattle.std.proofs.lemmas.List.{length-map, map_push}
use Rattle.std.proofs.lemmas.List.Quantifiers.{position-Some}
use Rattle.sd_base.specs.Lines.{TextLine}
use Rattle.sd_base.specs.Reading.{◌>>=◌, ◌>>◌, fault_if, each, each_after, read_more}
use Rattle.sd_model.specs.Expression.{FileConstant, FileLiteral, FileDecomposition}
use Rattle.sd_model.specs.Tree.{AreDistinct}
use Rattle.sd_file.specs.declared.file.FileNode.{FileNode}
use Rattle.sd_base.specs.FaultTexts.{at_line}
use Rattle.sd_file.specs.Files.{IsEarlier, FitsAt, FitFrom, IsFile, IsKindOver, kind_of}
use Rattle.sd_file.specs.Files.{no_entry, entry_at, pairs_in, entry_pairs}
use Rattle.sd_file.specs.Reads.{Node, Entry, form_of, index_of_id, pair_at, is_literal, node_of}
use Rattle.sd_file.specs.Reads.{File, entry_with, entry_of}
use Rattle.sd_file.proofs.Growing.{two, each_length}
use Rattle.sd_file.proofs.FormPairs.{HasPairs, form_pairs}
use Rattle.sd_file.proofs.Distinct.{distinct_push, not_among}

-- ---- steps that came to an end

-- a chain of two steps that came to an end went through the first
record Through {A B : Type 0} (first : Result A (List ℕ)) (rest : A → Result B (List ℕ)) (end : B) : Type 0 where
  pub middle : A
  pub gave : first ≡ Ok middle
  pub led : rest middle ≡ Ok end

through : {A B : Type 0} (first : Result A (List ℕ)) (rest : A → Result B (List ℕ)) (end : B)
    → (first >>= rest) ≡ Ok end → Through first rest end
through (Ok x) rest end e = record { middle = x; gave = refl; led = e }
through (Err fault) rest end e = absurd cc

-- no fault stood in the way
past : {B : Type 0} (test : Bool) (fault : List ℕ) (rest : Result B (List ℕ)) (end : B)
    → (fault_if test fault >> rest) ≡ Ok end → (test ≡ false) × (rest ≡ Ok end)
past true fault rest end e = absurd cc
past false fault rest end e = (refl, e)

-- an option that gave a value had it
had : {A : Type 0} (o : Option A) (fault : List ℕ) (x : A) → ok_or o fault ≡ Ok x → o ≡ Some x
had (Some y) fault x e = let same : y ≡ x = cc in ap Some same
had None fault x e = absurd cc

-- an end without a fault
abbrev done : {A : Type 0} → A → Result A (List ℕ)
done x = Ok x

ends_at : {A : Type 0} (x y : A) → done x ≡ Ok y → x ≡ y
ends_at x y h = cc

-- ---- the pairs of a decomposition

-- the index of an id is below their number
index_below : (ids : List ℕ) (line id p : ℕ)
    → ok_or (index_of_id id ids) (at_line line (codes ": child unknown")) ≡ Ok p → p < length ids
index_below ids line id p h = (position-Some (λ i. i == id) ids p 0 (had _ _ p h)).0

-- two readings of numbers gave them
two_gave : (r t : Result ℕ (List ℕ)) (pair : ℕ × ℕ) → two r t ≡ Ok pair → (r ≡ Ok pair.0) × (t ≡ Ok pair.1)
two_gave (Ok x) (Ok y) pair h =
    let both : ℕ × ℕ = (x, y) in
    let is : both ≡ pair = ends_at both pair h in
    (ap (λ (q : ℕ × ℕ). done q.0) is, ap (λ (q : ℕ × ℕ). done q.1) is)
two_gave (Ok x) (Err e) pair h = absurd cc
two_gave (Err e) t pair h = absurd cc

-- a prime and a sub are earlier nodes
pair_below : (ids : List ℕ) (line : ℕ) (named pair : ℕ × ℕ) → pair_at ids line named ≡ Ok pair
    → IsEarlier (length ids) pair
pair_below ids line (prime, sub) pair h =
    let unknown = at_line line (codes ": child unknown") in
    let gave = two_gave (ok_or (index_of_id prime ids) unknown) (ok_or (index_of_id sub ids) unknown) pair h in
    record { prime = index_below ids line prime _ gave.0; sub = index_below ids line sub _ gave.1 }

-- what holds of each result
each_all : {A B : Type 0} (f : A → Result B (List ℕ)) (P : B → Type 0) → ((x : A) (y : B) → f x ≡ Ok y → P y)
    → (xs : List A) (ys : List B) → each f xs ≡ Ok ys → AllByRecursion P ys
each_all f P gives [] ys h = subst (AllByRecursion P) (ends_at [] ys h) tt
each_all f P gives (x ∷ xs) ys h =
    let first = through (f x) (λ y. each f xs >>= λ zs. Ok (y ∷ zs)) ys h in
    let later = through (each f xs) (λ zs. Ok (first.middle ∷ zs)) ys first.led in
    subst (AllByRecursion P) (ends_at (first.middle ∷ later.middle) ys later.led)
    (gives x first.middle first.gave, each_all f P gives xs later.middle later.gave)

-- ---- a node

-- a literal is in range
literal_in_range : (v : ℕ) (z : ℤ) → not (is_literal v z) ≡ false → (1 ≤ unsigned_abs z) × (unsigned_abs z ≤ v)
literal_in_range v z h =
    let tests = both_true (nat_le 1 (unsigned_abs z)) (nat_le (unsigned_abs z) v) h in
    (leb-true 1 (unsigned_abs z) tests.0, leb-true (unsigned_abs z) v tests.1)
  where
    both_true : (b c : Bool) → not (b && c) ≡ false → (b ≡ true) × (c ≡ true)
    both_true true true e = (refl, refl)
    both_true true false e = absurd cc
    both_true false c e = absurd cc

-- a node that was read fits behind the earlier ones
node_fits : (v : ℕ) (ids : List ℕ) (line : ℕ) (form node : Node) → HasPairs form
    → node_of v ids line form ≡ Ok node → FitsAt v (length ids) node
node_fits v ids line (vtree, FileConstant value) node some h =
    subst (FitsAt v (length ids)) (ends_at (vtree, FileConstant value) node h) tt
node_fits v ids line (vtree, FileLiteral z) node some h =
    let text = at_line line (codes ": literal out of range") in
    let tested = past (not (is_literal v z)) text (Ok (vtree, FileLiteral z)) node h in
    subst (FitsAt v (length ids)) (ends_at (vtree, FileLiteral z) node tested.1) (literal_in_range v z tested.0)
node_fits v ids line (vtree, FileDecomposition pairs) node some h =
    let read = through (each (pair_at ids line) pairs) (λ places. Ok (vtree, FileDecomposition places)) node h in
    let below = pair_below ids line in
    let earlier = each_all (pair_at ids line) (IsEarlier (length ids)) below pairs read.middle read.gave in
    let filled : 1 ≤ length read.middle =
    omega (arith, each_length (pair_at ids line) pairs read.middle read.gave, some) in
    subst (FitsAt v (length ids)) (ends_at (vtree, FileDecomposition read.middle) node read.led) (filled, earlier)

-- an entry that fits behind others, and has an id of its own
record IsNext (v : ℕ) (ids : List ℕ) (e : Entry) : Type 0 where
  pub fits : FitsAt v (length ids) e.node
  pub new : is_some (index_of_id e.id ids) ≡ false

-- the entry of a line does
entry_fits : (v : ℕ) (ids : List ℕ) (line : TextLine) (e : Entry) → entry_with v ids line ≡ Ok e → IsNext v ids e
entry_fits v ids line e h =
    let node = λ (form : Entry). node_of v ids line.number form.node in
    let entry : Entry → Node → Result Entry (List ℕ) = λ form node. Ok (record { id = form.id; node = node }) in
    let known = λ (form : Entry). is_some (index_of_id form.id ids) in
    let bad = at_line line.number (codes ": bad line") in
    let twice = at_line line.number (codes ": id twice") in
    let rest = λ (form : Entry). fault_if (known form) twice >> (node form >>= entry form) in
    let formed = through (ok_or (form_of line.words) bad) rest e h in
    let form = formed.middle in
    let new = past (known form) twice (node form >>= entry form) e formed.led in
    let read = through (node form) (entry form) e new.1 in
    let is = ends_at (record { id = form.id; node = read.middle }) e read.led in
    let some = form_pairs line.words form (had (form_of line.words) bad form formed.gave) in
    subst (IsNext v ids) is
    (record { fits = node_fits v ids line.number form.node read.middle some read.gave; new = new.0 })

-- ---- all lines

-- one more entry behind the others
fit_push : (v index : ℕ) (es : List Entry) (e : Entry) → FitFrom v index es → FitsAt v (index + length es) e.node
    → FitFrom v index (es ++ e ∷ [])
fit_push v index [] e fit here = (subst (λ i. FitsAt v i e.node) (omega arith) here, tt)
fit_push v index (x ∷ es) e fit here =
    (fit.0, fit_push v (1 + index) es e fit.1 (subst (λ i. FitsAt v i e.node) (omega arith) here))

-- the ids of entries
abbrev ids_in : List Entry → List ℕ
ids_in es = map (λ e. e.id) es

-- entries that fit, of distinct ids
pub record AreEntries (v : ℕ) (es : List Entry) : Type 0 where
  pub fit : FitFrom v 0 es
  pub distinct : AreDistinct (ids_in es)

-- none yet
pub no_entries : {v : ℕ} → AreEntries v []
no_entries = record { fit = tt; distinct = tt }

-- they stay so to the last line
pub after_fits : (v : ℕ) (lines : List TextLine) (earlier all : List Entry) → AreEntries v earlier
    → each_after (entry_of v) earlier lines ≡ Ok all → AreEntries v all
after_fits v [] earlier all are h = subst (AreEntries v) (ends_at earlier all h) are
after_fits v (line ∷ lines) earlier all are h =
    let more = through (read_more (entry_of v) earlier line) (λ now. each_after (entry_of v) now lines) all h in
    let read = through (entry_of v earlier line) (λ e. Ok (earlier ++ e ∷ [])) more.middle more.gave in
    let here = entry_fits v (ids_in earlier) line read.middle read.gave in
    let count : length (ids_in earlier) ≡ 0 + length earlier =
    omega (arith, length-map earlier (λ (e : Entry). e.id)) in
    let at = subst (λ n. FitsAt v n read.middle.node) count here.fits in
    let other = not_among read.middle.id (ids_in earlier) here.new in
    let ids = subst AreDistinct (sym (map_push (λ (e : Entry). e.id) earlier read.middle))
    (distinct_push (ids_in earlier) read.middle.id are.distinct other) in
    let now = subst (AreEntries v) (ends_at (earlier ++ read.middle ∷ []) more.middle read.led)
    (record { fit = fit_push v 0 earlier read.middle are.fit at; distinct = ids }) in
    after_fits v lines more.middle all now more.led

-- ---- the node of a number

-- what fits at each number does at one
pub fit_at : (v index : ℕ) (es : List Entry) (i : ℕ) → FitFrom v index es → i < length es
    → FitsAt v (index + i) (slice_index_or es i no_entry).node
fit_at v index [] i fit below = absurd (omega arith)
fit_at v index (e ∷ es) zero fit below = subst (λ n. FitsAt v n e.node) (omega arith) fit.0
fit_at v index (e ∷ es) (suc i) fit below =
    let later = fit_at v (1 + index) es i fit.1 (omega (arith, below)) in
    subst (λ n. FitsAt v n (slice_index_or es i no_entry).node) (omega arith) later

-- what holds of each element of a list holds of the one at an index
all_at : {X : Type 0} (P : X → Type 0) (xs : List X) (i : ℕ) (x : X) → AllByRecursion P xs → slice_get xs i ≡ Some x
    → P x
all_at P [] i x all at = absurd cc
all_at P (y ∷ ys) zero x all at = let is : y ≡ x = cc in subst P is all.0
all_at P (y ∷ ys) (suc i) x all at = all_at P ys i x all.1 at

-- the pairs of a node are earlier nodes
pairs_earlier : (v index : ℕ) (node : Node) → FitsAt v index node → AllByRecursion (IsEarlier index) (pairs_in node)
pairs_earlier v index (vtree, FileConstant value) fit = tt
pairs_earlier v index (vtree, FileLiteral literal) fit = tt
pairs_earlier v index (vtree, FileDecomposition pairs) fit = fit.1

-- what a node shows of itself fits
kind_fits : (v index : ℕ) (node : Node) → FitsAt v index node → IsKindOver v (kind_of node)
kind_fits v index (vtree, FileConstant value) fit = tt
kind_fits v index (vtree, FileLiteral literal) fit = fit
kind_fits v index (vtree, FileDecomposition pairs) fit = fit.0

-- and so does the node of a number
pub kind_at : (f : File) (i : ℕ) (kind : FileNode) → IsFile f → i < length f.nodes
    → kind ≡ kind_of (entry_at f i).node → IsKindOver f.variables kind
kind_at f i kind is below same =
    subst (IsKindOver f.variables) (sym same)
    (kind_fits f.variables (0 + i) (entry_at f i).node (fit_at f.variables 0 f.nodes i is.fit below))

-- the pair of an element
pub earlier_at : (f : File) (i j : ℕ) (pair : ℕ × ℕ) → IsFile f → i < length f.nodes
    → slice_get (entry_pairs f i) j ≡ Some pair → IsEarlier i pair
earlier_at f i j pair is below at =
    let fit = fit_at f.variables 0 f.nodes i is.fit below in
    let earlier = pairs_earlier f.variables (0 + i) (entry_at f i).node fit in
    let numbered = subst (λ n. AllByRecursion (IsEarlier n) (entry_pairs f i)) (omega arith) earlier in
    all_at (IsEarlier i) (entry_pairs f i) j pair numbered at
