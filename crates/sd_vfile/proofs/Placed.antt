-- What is known of a node line that was placed after others.
use Rattle.std.proofs.Common.{◌≡◌, ℕ, ◌≤◌, Bool, true, false, not, ◌&&◌, ◌||◌, ◌==◌, List, [], ◌∷◌, ◌++◌}
use Rattle.std.proofs.Common.{Option, Some, None, ok_or, Result, Ok, Err, refl, ap, subst}
use Rattle.std.specs.Prelude.{nat_le}
use Rattle.std.proofs.lemmas.Bool.{leb-true}
use Rattle.sd_base.specs.Lines.{TextLine}
use Rattle.sd_base.specs.Reading.{◌>>=◌, ◌>>◌, fault_if, each_after, read_more}
use Rattle.sd_model.specs.Tree.{Tree, Leaf, Node}
use Rattle.sd_vfile.specs.declared.fault.VtreeFault.TheVariants.{BadLine, ChildUnknown, ChildTwice}
use Rattle.sd_vfile.specs.declared.form.Form.{Form}
use Rattle.sd_vfile.specs.declared.form.Form.TheVariants.{LeafLine, InnerLine}
use Rattle.sd_vfile.specs.Reads.{Entry, tree_with_id, has_id, is_child, has_leaf}
use Rattle.sd_vfile.specs.Reads.{form_of, form_placed, entry_of, vtree_fault_text}

-- ---- steps that came to an end

-- a chain of two steps that came to an end went through the first
pub record Through {A B E : Type 0} (first : Result A E) (rest : A → Result B E) (end : B) : Type 0 where
  pub middle : A
  pub gave : first ≡ Ok middle
  pub led : rest middle ≡ Ok end

pub through : {A B E : Type 0} (first : Result A E) (rest : A → Result B E) (end : B) → (first >>= rest) ≡ Ok end
    → Through first rest end
through (Ok x) rest end e = record { middle = x; gave = refl; led = e }
through (Err fault) rest end e = cc

-- no fault stood in the way
pub past : {B E : Type 0} (test : Bool) (fault : E) (rest : Result B E) (end : B)
    → (fault_if test fault >> rest) ≡ Ok end → (test ≡ false) × (rest ≡ Ok end)
past true fault rest end e = cc
past false fault rest end e = (refl, e)

-- an option that gave a value had it
pub had : {A E : Type 0} (o : Option A) (fault : E) (x : A) → ok_or o fault ≡ Ok x → o ≡ Some x
had (Some y) fault x e = let same : y ≡ x = cc in ap Some same
had None fault x e = cc

-- an end without a fault
abbrev pub done : {A : Type 0} → A → Result A (List ℕ)
done x = Ok x

-- ---- the two forms

-- a leaf of a variable of its own, or a node over two nodes that were roots
pub data IsPlaced (v : ℕ) (earlier : List Entry) : Entry → Type 0 where
  leaf_placed : (id x : ℕ) → has_id id earlier ≡ false → 1 ≤ x → x ≤ v → has_leaf x earlier ≡ false →
      IsPlaced v earlier (record { id = id; tree = Leaf x; children = [] })
  inner_placed : (id left right : ℕ) (l r : Tree) → has_id id earlier ≡ false → tree_with_id left earlier ≡ Some l →
      tree_with_id right earlier ≡ Some r → (left == right) ≡ false → is_child left earlier ≡ false →
      is_child right earlier ≡ false →
      IsPlaced v earlier (record { id = id; tree = Node l r; children = left ∷ right ∷ [] })

-- three tests of a leaf that all went well
leaf_tests : (a b c : Bool) → (not (a && b) || c) ≡ false → (a ≡ true) × (b ≡ true) × (c ≡ false)
leaf_tests true true c e = (refl, refl, e)
leaf_tests true false c e = cc
leaf_tests false b c e = cc

-- three tests of children that all went well
child_tests : (a b c : Bool) → (a || b || c) ≡ false → (a ≡ false) × (b ≡ false) × (c ≡ false)
child_tests true true c e = cc
child_tests true false c e = cc
child_tests false true c e = cc
child_tests false false c e = (refl, refl, e)

-- a line that has no fault was placed
pub is_placed : (v : ℕ) (earlier : List Entry) (line : ℕ) (form : Form) (e : Entry)
    → form_placed v earlier line form ≡ Ok e → IsPlaced v earlier e
is_placed v earlier line (LeafLine id x) e h =
    let entry : Entry = record { id = id; tree = Leaf x; children = [] } in
    let wrong : Bool = not (nat_le 1 x && nat_le x v) || has_leaf x earlier in
    let first = past (has_id id earlier) _ _ e h in
    let second = past wrong _ (Ok entry) e first.1 in
    let tests = leaf_tests (nat_le 1 x) (nat_le x v) (has_leaf x earlier) second.0 in
    let whole : done entry ≡ done e = second.1 in
    let is : entry ≡ e = cc in
    subst (IsPlaced v earlier) is
    (leaf_placed id x first.0 (leb-true 1 x tests.0) (leb-true x v tests.1) tests.2)
is_placed v earlier line (InnerLine id left right) e h =
    let twice : Bool = left == right || is_child left earlier || is_child right earlier in
    let rest : Tree → Tree → Result Entry (List ℕ) =
    λ l r. fault_if twice (vtree_fault_text (ChildTwice line))
    >> Ok (record { id = id; tree = Node l r; children = left ∷ right ∷ [] }) in
    let unknown = vtree_fault_text (ChildUnknown line) in
    let l_known : Result Tree (List ℕ) = ok_or (tree_with_id left earlier) unknown in
    let r_known : Result Tree (List ℕ) = ok_or (tree_with_id right earlier) unknown in
    let first = past (has_id id earlier) _ (l_known >>= λ l. r_known >>= λ r. rest l r) e h in
    let second = through l_known (λ l. r_known >>= λ r. rest l r) e first.1 in
    let l = second.middle in
    let third = through r_known (λ r. rest l r) e second.led in
    let r = third.middle in
    let entry : Entry = record { id = id; tree = Node l r; children = left ∷ right ∷ [] } in
    let fourth = past twice _ (Ok entry) e third.led in
    let tests = child_tests (left == right) (is_child left earlier) (is_child right earlier) fourth.0 in
    let whole : done entry ≡ done e = fourth.1 in
    let is : entry ≡ e = cc in
    subst (IsPlaced v earlier) is
    (inner_placed id left right l r first.0 (had (tree_with_id left earlier) unknown l second.gave)
    (had (tree_with_id right earlier) unknown r third.gave) tests.0 tests.1 tests.2)

-- what holds of no line, and of one more line that was placed, holds of all lines that were read
pub read_keeps : (v : ℕ) (P : List Entry → Type 0)
    → ((es : List Entry) (e : Entry) → P es → IsPlaced v es e → P (es ++ e ∷ []))
    → (es : List Entry) (lines : List TextLine) (all : List Entry)
    → each_after (entry_of v) es lines ≡ Ok all → P es → P all
read_keeps v P step es [] all h p =
    let same : done es ≡ done all = h in
    let is : es ≡ all = cc in
    subst P is p
read_keeps v P step es (line ∷ lines) all h p =
    let one = through (read_more (entry_of v) es line) (λ now. each_after (entry_of v) now lines) all h in
    let placed_one = through (entry_of v es line) (λ e. Ok (es ++ e ∷ [])) one.middle one.gave in
    let e = placed_one.middle in
    let form_known = ok_or (form_of line.words) (vtree_fault_text (BadLine line.number)) in
    let form = through form_known (form_placed v es line.number) e placed_one.gave in
    let here = is_placed v es line.number form.middle e form.led in
    let same : done (es ++ e ∷ []) ≡ done one.middle = placed_one.led in
    let is : es ++ e ∷ [] ≡ one.middle = cc in
    read_keeps v P step one.middle lines all one.led (subst P is (step es e p here))
