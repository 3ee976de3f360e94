-- All held diagrams together have one size after a move.
use Rattle.std.proofs.Common.{◌≡◌, ℕ, Bool, true, false, List, [], ◌∷◌, Option, Some, None}
use Rattle.std.proofs.Common.{refl, sym, ◌∙◌, ap, subst, arith, length-append, if◌then◌else◌, ◌==◌}
use Rattle.std.proofs.lemmas.Option.{same_Some, none-some}
use Rattle.std.specs.List.{AllZip}
use Rattle.std.specs.Option.{option_map}
use Rattle.std.specs.FinMap.{get, values}
use Rattle.sd_model.specs.declared.trees.Move.{Move}
use Rattle.sd_model.specs.declared.trees.Move.TheVariants.{RotateLeft, RotateRight, Swap}
use Rattle.sd_model.specs.Diagram.{Diagram}
use Rattle.sd_model.specs.Size.{size_of}
use Rattle.sd_model.specs.Tree.{IsVtree, variables}
use Rattle.sd_model.proofs.OverVtree.{unique_lem}
use Rattle.sd_vtree.specs.Numbered.{Numbered, NumberedLeaf, NumberedNode, numbers, plain_tree, or_else, IsNumbered}
use Rattle.sd_vtree.specs.NumberedMoves.{moved_top, moved_number}
use Rattle.sd_vtree.proofs.Moved.{Rearranged, numbered_again, rearranged_right, rearranged_left, rearranged_swap}
use Rattle.sd_vtree.proofs.Times.{times_append}
use Rattle.sd_laws.proofs.Codes.{one_diagram}
use Rattle.sd_manager.specs.Shown.{ShowsCanonical}
use Rattle.sd_manager.specs.Table.{Table}
use Rattle.sd_move.specs.Moves.{HasMoved, HasSizeAfter}

-- a moved vtree is one

-- the left child has another order
left_rearranged : (m : ℕ) (l k r : Numbered) → Rearranged l k → Rearranged (NumberedNode m l r) (NumberedNode m k r)
left_rearranged m l k r h = record {
  numbers_times = λ i. omega (
    arith,
    times_append i (numbers l) (m ∷ numbers r),
    times_append i (numbers k) (m ∷ numbers r),
    h.numbers_times i,
  );
  numbers_length = omega (
    arith,
    length-append (numbers l) (m ∷ numbers r),
    length-append (numbers k) (m ∷ numbers r),
    h.numbers_length,
  );
  leaves_times = λ i. omega (
    arith,
    times_append i (variables (plain_tree l)) (variables (plain_tree r)),
    times_append i (variables (plain_tree k)) (variables (plain_tree r)),
    h.leaves_times i,
  );
  leaves_length = omega (
    arith,
    length-append (variables (plain_tree l)) (variables (plain_tree r)),
    length-append (variables (plain_tree k)) (variables (plain_tree r)),
    h.leaves_length,
  );
}

-- the right child has another order
right_rearranged : (m : ℕ) (l r k : Numbered) → Rearranged r k → Rearranged (NumberedNode m l r) (NumberedNode m l k)
right_rearranged m l r k h = record {
  numbers_times = λ i. omega (
    arith,
    times_append i (numbers l) (m ∷ numbers r),
    times_append i (numbers l) (m ∷ numbers k),
    times_append i (m ∷ []) (numbers r),
    times_append i (m ∷ []) (numbers k),
    h.numbers_times i,
  );
  numbers_length = omega (
    arith,
    length-append (numbers l) (m ∷ numbers r),
    length-append (numbers l) (m ∷ numbers k),
    h.numbers_length,
  );
  leaves_times = λ i. omega (
    arith,
    times_append i (variables (plain_tree l)) (variables (plain_tree r)),
    times_append i (variables (plain_tree l)) (variables (plain_tree k)),
    h.leaves_times i,
  );
  leaves_length = omega (
    arith,
    length-append (variables (plain_tree l)) (variables (plain_tree r)),
    length-append (variables (plain_tree l)) (variables (plain_tree k)),
    h.leaves_length,
  );
}

-- the root is moved
top_rearranged : (kind : Move) (m : ℕ) (l r u : Numbered) → moved_top kind (NumberedNode m l r) ≡ Some u →
    Rearranged (NumberedNode m l r) u
top_rearranged RotateRight m (NumberedLeaf w y) r u e = absurd (none-some u e)
top_rearranged RotateRight m (NumberedNode w a b) r u e =
    subst (Rearranged (NumberedNode m (NumberedNode w a b) r)) (same_Some _ u e) (rearranged_right m w a b r)
top_rearranged RotateLeft m l (NumberedLeaf w y) u e = absurd (none-some u e)
top_rearranged RotateLeft m l (NumberedNode w b c) u e =
    subst (Rearranged (NumberedNode m l (NumberedNode w b c))) (same_Some _ u e) (rearranged_left m w l b c)
top_rearranged Swap m l r u e = subst (Rearranged (NumberedNode m l r)) (same_Some _ u e) (rearranged_swap m l r)

-- the move of one child
below_rearranged : (m : ℕ) (l r u : Numbered) (o q : Option Numbered) →
    ((k : Numbered) → o ≡ Some k → Rearranged l k) → ((k : Numbered) → q ≡ Some k → Rearranged r k) →
    or_else (option_map (λ t. NumberedNode m t r) o) (option_map (λ t. NumberedNode m l t) q) ≡ Some u →
    Rearranged (NumberedNode m l r) u
below_rearranged m l r u (Some k) q first second e =
    subst (Rearranged (NumberedNode m l r)) (same_Some _ u e) (left_rearranged m l k r (first k refl))
below_rearranged m l r u None (Some k) first second e =
    subst (Rearranged (NumberedNode m l r)) (same_Some _ u e) (right_rearranged m l r k (second k refl))
below_rearranged m l r u None None first second e = absurd (none-some u e)

-- a move by a test of the number
by_test : (kind : Move) (m : ℕ) (l r u : Numbered) (o q : Option Numbered) (b : Bool) →
    ((k : Numbered) → o ≡ Some k → Rearranged l k) → ((k : Numbered) → q ≡ Some k → Rearranged r k) →
    (if b then moved_top kind (NumberedNode m l r)
    else or_else (option_map (λ t. NumberedNode m t r) o) (option_map (λ t. NumberedNode m l t) q)) ≡ Some u →
    Rearranged (NumberedNode m l r) u
by_test kind m l r u o q true first second e = top_rearranged kind m l r u e
by_test kind m l r u o q false first second e = below_rearranged m l r u o q first second e

-- it has the same numbers and leaves
moved_rearranged : (kind : Move) (t u : Numbered) (x : ℕ) → moved_number kind t x ≡ Some u → Rearranged t u
moved_rearranged kind (NumberedLeaf m y) u x e = absurd (none-some u e)
moved_rearranged kind (NumberedNode m l r) u x e =
    by_test kind m l r u (moved_number kind l x) (moved_number kind r x) (m == x)
    (λ k f. moved_rearranged kind l k x f) (λ k f. moved_rearranged kind r k x f) e

-- the lists are one

-- codes show one list of diagrams
held_once : (t : Table) → IsNumbered t.vtree → (cs : List ℕ) (ds es : List Diagram) →
    AllZip (ShowsCanonical t) cs ds → AllZip (ShowsCanonical t) cs es → ds ≡ es
held_once t v [] [] [] h k = refl
held_once t v [] [] (e ∷ es) h k = absurd k
held_once t v [] (d ∷ ds) es h k = absurd h
held_once t v (c ∷ cs) [] es h k = absurd h
held_once t v (c ∷ cs) (d ∷ ds) [] h k = absurd k
held_once t v (c ∷ cs) (d ∷ ds) (e ∷ es) h k =
    ap (λ x. x ∷ ds) (one_diagram t.vtree (get t.linked) v d c e h.0.shows k.0.shows)
    ∙ ap (λ xs. e ∷ xs) (held_once t v cs ds es h.1 k.1)

-- diagrams are moved to one list
moved_once : (tree : Numbered) → IsVtree (plain_tree tree) → (ds es fs : List Diagram) →
    AllZip (HasMoved tree) ds es → AllZip (HasMoved tree) ds fs → es ≡ fs
moved_once tree v [] [] [] h k = refl
moved_once tree v [] [] (f ∷ fs) h k = absurd k
moved_once tree v [] (e ∷ es) fs h k = absurd h
moved_once tree v (d ∷ ds) [] fs h k = absurd h
moved_once tree v (d ∷ ds) (e ∷ es) [] h k = absurd k
moved_once tree v (d ∷ ds) (e ∷ es) (f ∷ fs) h k =
    ap (λ x. x ∷ es)
    (unique_lem (plain_tree tree) e f v h.0.canonical k.0.canonical (λ a n. h.0.same a ∙ sym (k.0.same a)))
    ∙ ap (λ xs. f ∷ xs) (moved_once tree v ds es fs h.1 k.1)

-- so is the size
pub one_size : (t : Table) (kind : Move) (place n k : ℕ) → IsNumbered t.vtree → HasSizeAfter t kind place n →
    HasSizeAfter t kind place k → n ≡ k
one_size t kind place n k v h j =
    let tree : j.tree ≡ h.tree = same_Some j.tree h.tree (sym j.turned ∙ h.turned) in
    let held : j.before ≡ h.before = held_once t v (values t.roots) j.before h.before j.held h.held in
    let there = subst (λ u. AllZip (HasMoved u) j.before j.after) tree j.each in
    let each = subst (λ ds. AllZip (HasMoved h.tree) ds j.after) held there in
    let valid = (numbered_again t.vtree h.tree v (moved_rearranged kind t.vtree h.tree place h.turned)).vtree in
    sym h.size ∙ ap size_of (moved_once h.tree valid h.before h.after j.after h.each each) ∙ j.size
