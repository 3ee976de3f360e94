-- Where no rule is broken, each node of a file is a copy of a canonical diagram.
use Rattle.std.proofs.Common.{◌≡◌, ◌⊎◌, inl, inr, ℕ, zero, suc, ◌<◌, ◌≤◌, Bool, true, false, List, [], ◌∷◌, length}
use Rattle.std.proofs.Common.{refl, subst, arith}
use Rattle.std.proofs.lemmas.Bool.{cases_lt}
use Rattle.std.specs.List.{AllByRecursion, AllZip}
use Rattle.sd_model.specs.Tree.{Tree, IsVtree}
use Rattle.sd_model.specs.Diagram.{Diagram, Literal}
use Rattle.sd_model.specs.Canonical.{IsCanonical}
use Rattle.sd_model.specs.Expression.{FileConstant, FileLiteral, FileDecomposition}
use Rattle.sd_laws.specs.Pairs.{from_pairs, sorted, decomposed}
use Rattle.sd_laws.proofs.Joining.{sorted_permutation}
use Rattle.sd_laws.proofs.Lists.{second_permuted}
use Rattle.sd_file.specs.Files.{IsEarlier, IsFile}
use Rattle.sd_file.specs.Reads.{Node as NodeLine, File}
use Rattle.sd_check.specs.declared.rules.Rule.{Rule}
use Rattle.sd_check.specs.declared.rules.Rule.TheVariants.{Vtree}
use Rattle.sd_check.specs.declared.rules.Verdict.TheVariants.{Yes}
use Rattle.sd_check.specs.Rules.{Places, node_at, NodeBreaks, HasVerdict}
use Rattle.sd_check.specs.Copies.{IsCopy, AreCopies}
use Rattle.sd_check.specs.Standing.{Represents, RepresentPairs}
use Rattle.sd_check.proofs.Represented.{node_fits, IsWholeAt, unbroken_whole, whole_represents, Leaf, leaf_named}
use Rattle.sd_check.proofs.Represented.{literal_represents, constant_of, constant_represents}

-- a diagram of which the node is a copy, and for which it stands
record HasCopy (t : Tree) (ids : Places) (f : File) (i : ℕ) : Type 0 where
  diagram : Diagram
  copy : IsCopy ids f i diagram
  represents : Represents t ids f i diagram

-- a prime and a sub that are copies
abbrev CopiesPair : Places → File → ℕ × ℕ → Diagram × Diagram → Type 0
CopiesPair ids f e d = IsCopy ids f e.0 d.0 × IsCopy ids f e.1 d.1

-- pairs of copies, and what they stand for
record HaveCopies (t : Tree) (ids : Places) (f : File) (pairs : List (ℕ × ℕ)) : Type 0 where
  diagrams : List (Diagram × Diagram)
  copies : AllZip (CopiesPair ids f) pairs diagrams
  represent : RepresentPairs t ids f pairs diagrams

-- earlier nodes that are copies
pairs_copied : (t : Tree) (ids : Places) (f : File) (n : ℕ) → ((j : ℕ) → j < n → HasCopy t ids f j) →
    (pairs : List (ℕ × ℕ)) → AllByRecursion (IsEarlier n) pairs → HaveCopies t ids f pairs
pairs_copied t ids f n h [] all = record { diagrams = []; copies = tt; represent = tt }
pairs_copied t ids f n h (e ∷ pairs) all =
    let p = h e.0 all.0.prime in
    let s = h e.1 all.0.sub in
    let rest = pairs_copied t ids f n h pairs all.1 in
    record {
      diagrams = (p.diagram, s.diagram) ∷ rest.diagrams;
      copies = ((p.copy, s.copy), rest.copies);
      represent = ((p.represents, s.represents), rest.represent);
    }

-- copies side by side are copies of elements
elements_copied : (ids : Places) (f : File) (pairs : List (ℕ × ℕ)) (ds : List (Diagram × Diagram)) →
    AllZip (CopiesPair ids f) pairs ds → AreCopies ids f pairs (from_pairs ds)
elements_copied ids f [] [] h = tt
elements_copied ids f [] (d ∷ ds) h = absurd h
elements_copied ids f (e ∷ pairs) [] h = absurd h
elements_copied ids f (e ∷ pairs) (d ∷ ds) h = (h.0.0, h.0.1, elements_copied ids f pairs ds h.1)

-- a constant is a copy
constant_copied : (ids : Places) (f : File) (i vtree : ℕ) (value : Bool) → node_at f i ≡ (vtree, FileConstant value) →
    IsCopy ids f i (constant_of value)
constant_copied ids f i vtree true e = (vtree, e)
constant_copied ids f i vtree false e = (vtree, e)

-- one node more
copied_more : (t : Tree) (ids : Places) (f : File) (i : ℕ) → IsVtree t → IsFile f → i < length f.nodes →
    ((j : ℕ) → j < i → HasCopy t ids f j) → (node : NodeLine) → node_at f i ≡ node →
    ((r : Rule) → NodeBreaks t ids f node r → ⊥) → HasCopy t ids f i
copied_more t ids f i v is below h (vtree, FileConstant value) e k =
    record {
      diagram = constant_of value;
      copy = constant_copied ids f i vtree value e;
      represents = constant_represents t ids f i vtree value is below e;
    }
copied_more t ids f i v is below h (vtree, FileLiteral z) e k =
    let l : Leaf t ids vtree z = leaf_named t ids vtree z (k Vtree) in
    record {
      diagram = Literal l.at l.variable l.positive;
      copy = (vtree, z, e, l.has, l.is);
      represents = literal_represents t ids f i vtree z is below e l;
    }
copied_more t ids f i v is below h (vtree, FileDecomposition pairs) e k =
    let fit = node_fits f i (vtree, FileDecomposition pairs) is below e in
    let c = pairs_copied t ids f i h pairs fit.1 in
    let w : IsWholeAt t ids vtree c.diagrams = unbroken_whole t ids f vtree pairs c.diagrams fit.0 c.represent k in
    let m = second_permuted (CopiesPair ids f) pairs c.diagrams (sorted c.diagrams) c.copies
    (sorted_permutation c.diagrams) in
    record {
      diagram = decomposed w.split.at c.diagrams;
      copy = (vtree, pairs, m.0, e, w.split.has, m.1, elements_copied ids f m.0 (sorted c.diagrams) m.2);
      represents = whole_represents t ids f i vtree pairs c.diagrams v is below e c.represent w;
    }

-- the first nodes
copied_below : (t : Tree) (ids : Places) (f : File) → IsVtree t → IsFile f → HasVerdict t ids f Yes → (n : ℕ) →
    n ≤ length f.nodes → (j : ℕ) → j < n → HasCopy t ids f j
copied_below t ids f v is unbroken zero le j lt = absurd (omega arith)
copied_below t ids f v is unbroken (suc n) le j lt =
    go (λ i below. copied_below t ids f v is unbroken n (omega arith) i below) (cases_lt j n)
  where
    go : ((i : ℕ) → i < n → HasCopy t ids f i) → (j < n) ⊎ (n ≤ j) → HasCopy t ids f j
    go ih (inl below) = ih j below
    go ih (inr last) =
        let same : n ≡ j = omega arith in
        subst (HasCopy t ids f) same
        (copied_more t ids f n v is (omega arith) ih (node_at f n) refl (λ r. unbroken n r (omega arith)))

-- each node is a copy of a canonical diagram
pub all_copied : (t : Tree) (ids : Places) (f : File) → IsVtree t → IsFile f → HasVerdict t ids f Yes → (i : ℕ) →
    i < length f.nodes → (d : Diagram) × IsCanonical t 0 d × IsCopy ids f i d
all_copied t ids f v is unbroken i below =
    let c = copied_below t ids f v is unbroken (length f.nodes) (omega arith) i below in
    (c.diagram, c.represents.canonical, c.copy)
