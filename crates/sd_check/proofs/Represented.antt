-- The diagram that a node of a file stands for where it breaks no rule and its children stand for diagrams.
use Rattle.std.proofs.Common.{◌≡◌, ℕ, zero, suc, ◌<◌, ◌≤◌, Bool, true, false, List, length}
use Rattle.std.proofs.Common.{Option, Some, None, refl, sym, ◌∙◌, ap, subst, arith, option_and_then, ℤ}
use Rattle.std.proofs.Common.{unsigned_abs, pos, negsuc, inl, inr}
use Rattle.std.proofs.lemmas.Bool.{cases_eq}
use Rattle.std.specs.List.{list_all}
use Rattle.sd_model.specs.Assignment.{literal_holds}
use Rattle.sd_model.specs.Tree.{Tree, Node, IsVtree, leaves, position}
use Rattle.sd_model.specs.Diagram.{Diagram, Bottom, Top, Literal, meaning, some_element, subs}
use Rattle.sd_model.specs.Diagram.{is_constant}
use Rattle.sd_model.specs.Canonical.{IsCanonical, AreDifferent, canonical_bottom, canonical_top}
use Rattle.sd_model.specs.Expression.{FileConstant, FileLiteral, FileDecomposition, node_value}
use Rattle.sd_model.proofs.Blend.{IsApart}
use Rattle.sd_model.proofs.OverVtree.{vtree_apart}
use Rattle.sd_laws.specs.Pairs.{from_pairs, IsPartition, IsCompressed, HasValue, decomposed}
use Rattle.sd_laws.specs.Parts.{leaf_position}
use Rattle.sd_laws.proofs.Joining.{decomposed_canonical, decomposed_value, same_values}
use Rattle.sd_laws.proofs.Lists.{zip_length}
use Rattle.sd_laws.proofs.Numbers.{literal_canonical}
use Rattle.sd_laws.proofs.Pairs.{subs_pairs, answers_value}
use Rattle.sd_laws.proofs.Places.{part_apart, canonical_lifts}
use Rattle.sd_file.specs.Built.{value_at, values_of}
use Rattle.sd_file.specs.Files.{FitsAt, IsFile, entry_at}
use Rattle.sd_file.specs.Reads.{Node as NodeLine, File}
use Rattle.sd_file.proofs.Values.{value_there}
use Rattle.sd_file.proofs.FitLaws.{fit_at}
use Rattle.sd_check.specs.declared.rules.Rule.{Rule}
use Rattle.sd_check.specs.declared.rules.Rule.TheVariants.{Vtree, Prime, Sub, Count, Overlap, Cover, Subs, Trim}
use Rattle.sd_check.specs.Rules.{Places, Inner, inner_at, inner_named, node_at, ElementsBreak}
use Rattle.sd_check.specs.Rules.{IsMisplaced}
use Rattle.sd_check.specs.Copies.{IsLiteralOf}
use Rattle.sd_check.specs.Standing.{IsPlacedAs, Represents, RepresentPairs}
use Rattle.sd_check.proofs.Inners.{InnerPart, inner_part}
use Rattle.sd_check.proofs.Elements.{false_else, elements_partition, subs_apart, constant_subs, elements_value}

-- ---- nodes of a file

-- a node that is known fits behind the earlier ones
pub node_fits : (f : File) (i : ℕ) (node : NodeLine) → IsFile f → i < length f.nodes → node_at f i ≡ node →
    FitsAt f.variables i node
node_fits f i node is below e =
    subst (FitsAt f.variables i) e
    (subst (λ n. FitsAt f.variables n (entry_at f i).node) (omega arith)
    (fit_at f.variables 0 f.nodes i is.fit below))

-- and has the value of what it is
pub value_of_node : (f : File) (i : ℕ) (node : NodeLine) (a : List Bool) → IsFile f → i < length f.nodes →
    node_at f i ≡ node → value_at f i a ≡ node_value (values_of f a) node.1 a
value_of_node f i node a is below e =
    value_there f i a is below ∙ ap (λ (n : NodeLine). node_value (values_of f a) n.1 a) e

-- ---- the inner node of an id

-- the inner node that an id names, with its position
pub record Split (t : Tree) (ids : Places) (vtree : ℕ) : Type 0 where
  pub at : ℕ
  pub inner : Inner
  pub has : ids vtree ≡ Some at
  pub part : InnerPart t 0 at inner
  pub named : inner_named t ids vtree ≡ Some inner

-- an id that names one
pub split_named : (t : Tree) (ids : Places) (vtree : ℕ) → (inner_named t ids vtree ≡ None → ⊥) → Split t ids vtree
split_named t ids vtree h = go (ids vtree) refl
  where
    found : (q : ℕ) → ids vtree ≡ Some q → (o : Option Inner) → inner_at t 0 q ≡ o → Split t ids vtree
    found q e None k = absurd (h (ap (option_and_then (inner_at t 0)) e ∙ k))
    found q e (Some i) k =
        record {
          at = q;
          inner = i;
          has = e;
          part = inner_part t 0 q i k;
          named = ap (option_and_then (inner_at t 0)) e ∙ k;
        }

    go : (o : Option ℕ) → ids vtree ≡ o → Split t ids vtree
    go None e = absurd (h (ap (option_and_then (inner_at t 0)) e))
    go (Some q) e = found q e (inner_at t 0 q) refl

-- ---- elements that break no rule

-- the diagrams of elements are a compressed partition of the vtree node of an id, which is not trimmed
pub record IsWholeAt (t : Tree) (ids : Places) (vtree : ℕ) (ds : List (Diagram × Diagram)) : Type 0 where
  pub split : Split t ids vtree
  pub partition : IsPartition split.part.left split.part.right split.part.from ds
  pub compressed : IsCompressed ds
  pub several : 2 ≤ length ds
  pub trimmed : list_all is_constant (subs (from_pairs ds)) ≡ false

-- this is so where no rule is broken
pub unbroken_whole : (t : Tree) (ids : Places) (f : File) (vtree : ℕ) (pairs : List (ℕ × ℕ))
    (ds : List (Diagram × Diagram)) → 1 ≤ length pairs → RepresentPairs t ids f pairs ds →
    ((r : Rule) → ElementsBreak t ids f vtree pairs r → ⊥) → IsWholeAt t ids vtree ds
unbroken_whole t ids f vtree pairs ds some h k =
    let s = split_named t ids vtree (k Vtree) in
    record {
      split = s;
      partition = elements_partition t ids f vtree s.at s.inner s.part s.named pairs ds h (false_else _ (k Prime))
          (false_else _ (k Sub)) (λ a two. k Overlap (a, two)) (λ a none. k Cover (a, none));
      compressed = subst AreDifferent (sym (subs_pairs ds)) (subs_apart t ids f pairs ds h (k Subs));
      several = several (length pairs) some (k Count) (sym (zip_length _ pairs ds h));
      trimmed = constant_subs t ids f pairs ds h ∙ false_else _ (k Trim);
    }
  where
    several : (n : ℕ) → 1 ≤ n → (n ≡ 1 → ⊥) → length ds ≡ n → 2 ≤ length ds
    several zero some one e = absurd (omega arith)
    several (suc zero) some one e = absurd (one refl)
    several (suc (suc n)) some one e = omega arith

-- the decomposition of a whole partition is canonical
pub whole_canonical : (t : Tree) (ids : Places) (vtree : ℕ) (ds : List (Diagram × Diagram)) → IsVtree t →
    (w : IsWholeAt t ids vtree ds) → IsCanonical t 0 (decomposed w.split.at ds)
whole_canonical t ids vtree ds v w =
    let n = leaves t in
    let p = w.split.part in
    let apart : IsApart n (Node p.left p.right) = part_apart n p.part (vtree_apart t v) in
    subst (λ q. IsCanonical t 0 (decomposed q ds)) p.place
    (canonical_lifts p.part (decomposed (position (Node p.left p.right) p.from) ds)
    (decomposed_canonical n p.left p.right p.from ds apart.1 w.partition w.compressed w.several w.trimmed))

-- a value of the partition is that of the node
pub whole_value : (t : Tree) (ids : Places) (f : File) (i vtree : ℕ) (pairs : List (ℕ × ℕ))
    (ds : List (Diagram × Diagram)) → IsFile f → i < length f.nodes → node_at f i ≡ (vtree, FileDecomposition pairs) →
    RepresentPairs t ids f pairs ds → (w : IsWholeAt t ids vtree ds) → (g : List Bool → Bool) → HasValue ds g →
    (a : List Bool) → g a ≡ value_at f i a
whole_value t ids f i vtree pairs ds is below e h w g value a =
    same_values ds g (some_element (from_pairs ds)) value (λ b. answers_value b ds (w.partition.one_true b)) a
    ∙ elements_value t ids f a pairs ds h ∙ sym (value_of_node f i (vtree, FileDecomposition pairs) a is below e)

-- a position of a decomposition is its own
placed_decomposition : (ids : Places) (vtree p : ℕ) (pairs : List (ℕ × ℕ)) (ds : List (Diagram × Diagram))
    (node : NodeLine) → node ≡ (vtree, FileDecomposition pairs) → ids vtree ≡ Some p →
    IsPlacedAs ids node (decomposed p ds)
placed_decomposition ids vtree p pairs ds node e has =
    subst (λ n. IsPlacedAs ids n (decomposed p ds)) (sym e) (p, has, refl)

-- so the node stands for the decomposition
pub whole_represents : (t : Tree) (ids : Places) (f : File) (i vtree : ℕ) (pairs : List (ℕ × ℕ))
    (ds : List (Diagram × Diagram)) → IsVtree t → IsFile f → i < length f.nodes →
    node_at f i ≡ (vtree, FileDecomposition pairs) → RepresentPairs t ids f pairs ds →
    (w : IsWholeAt t ids vtree ds) → Represents t ids f i (decomposed w.split.at ds)
whole_represents t ids f i vtree pairs ds v is below e h w =
    record {
      canonical = whole_canonical t ids vtree ds v w;
      value = whole_value t ids f i vtree pairs ds is below e h w (meaning (decomposed w.split.at ds))
          (decomposed_value w.split.at ds w.partition.one_true);
      place = placed_decomposition ids vtree w.split.at pairs ds (node_at f i) e w.split.has;
    }

-- ---- literals and constants

-- a literal at its leaf
pub record Leaf (t : Tree) (ids : Places) (vtree : ℕ) (z : ℤ) : Type 0 where
  pub at : ℕ
  pub variable : ℕ
  pub positive : Bool
  pub has : ids vtree ≡ Some at
  pub leaf : leaf_position t 0 variable ≡ Some at
  pub is : IsLiteralOf variable positive z

-- the variable and the sign of a literal
record Signed (z : ℤ) : Type 0 where
  variable : ℕ
  positive : Bool
  is : IsLiteralOf variable positive z
  same : variable ≡ unsigned_abs z

signed : (z : ℤ) → Signed z
signed (pos n) = record { variable = n; positive = true; is = (refl, refl); same = refl }
signed (negsuc i) = record { variable = suc i; positive = false; is = (refl, refl); same = refl }

-- a literal whose id is that of its leaf
pub leaf_named : (t : Tree) (ids : Places) (vtree : ℕ) (z : ℤ) → (IsMisplaced t ids vtree (unsigned_abs z) → ⊥) →
    Leaf t ids vtree z
leaf_named t ids vtree z h = go (ids vtree) refl (leaf_position t 0 (unsigned_abs z)) refl
  where
    s : Signed z
    s = signed z

    go : (o : Option ℕ) → ids vtree ≡ o → (l : Option ℕ) → leaf_position t 0 (unsigned_abs z) ≡ l → Leaf t ids vtree z
    go None e l k = absurd (h (λ p f g. absurd (cc (e, f))))
    go (Some q) e None k = absurd (h (λ p f g. absurd (cc (k, g))))
    go (Some q) e (Some r) k = elim (cases_eq q r) [
      | inl same ↦ record {
        at = q;
        variable = s.variable;
        positive = s.positive;
        has = e;
        leaf = ap (leaf_position t 0) s.same ∙ k ∙ ap Some (sym same);
        is = s.is;
      }
      | inr differ ↦ absurd (h (λ p f g. differ (cc (e, f, k, g))))
    ]

-- has the value of its diagram
pub literal_meaning : (p x : ℕ) (positive : Bool) (z : ℤ) (a : List Bool) → IsLiteralOf x positive z →
    meaning (Literal p x positive) a ≡ literal_holds a z
literal_meaning p x true (pos n) a h = ap (λ y. meaning (Literal p y true) a) (sym h.0)
literal_meaning p x false (pos n) a h = absurd (cc (h.1))
literal_meaning p x true (negsuc i) a h = absurd (cc (h.1))
literal_meaning p x false (negsuc i) a h = ap (λ y. meaning (Literal p y false) a) (sym h.0)

-- and stands for it
pub literal_represents : (t : Tree) (ids : Places) (f : File) (i vtree : ℕ) (z : ℤ) → IsFile f →
    i < length f.nodes → node_at f i ≡ (vtree, FileLiteral z) → (l : Leaf t ids vtree z) →
    Represents t ids f i (Literal l.at l.variable l.positive)
literal_represents t ids f i vtree z is below e l =
    record {
      canonical = literal_canonical t 0 l.variable l.at l.positive l.leaf;
      value = λ a. literal_meaning l.at l.variable l.positive z a l.is
          ∙ sym (value_of_node f i (vtree, FileLiteral z) a is below e);
      place = subst (λ n. IsPlacedAs ids n (Literal l.at l.variable l.positive)) (sym e) (l.at, l.has, refl);
    }

-- the diagram of a constant
abbrev pub constant_of : Bool → Diagram
constant_of true = Top
constant_of false = Bottom

-- a constant stands for it
pub constant_represents : (t : Tree) (ids : Places) (f : File) (i vtree : ℕ) (value : Bool) → IsFile f →
    i < length f.nodes → node_at f i ≡ (vtree, FileConstant value) → Represents t ids f i (constant_of value)
constant_represents t ids f i vtree true is below e =
    record {
      canonical = canonical_top;
      value = λ a. sym (value_of_node f i (vtree, FileConstant true) a is below e);
      place = subst (λ n. IsPlacedAs ids n Top) (sym e) refl;
    }
constant_represents t ids f i vtree false is below e =
    record {
      canonical = canonical_bottom;
      value = λ a. sym (value_of_node f i (vtree, FileConstant false) a is below e);
      place = subst (λ n. IsPlacedAs ids n Bottom) (sym e) refl;
    }
