-- What is found of one node of a file, over plain tables.
use Rattle.std.proofs.Common.{◌≡◌, ◌≢◌, ◌⊎◌, inl, inr, ℕ, suc, ◌+◌, ◌<◌, ◌≤◌, Bool, true, false, cond}
use Rattle.std.proofs.Common.{List, [], ◌∷◌, ◌++◌, length, map, get_or, Some, None, slice_get, ℤ, pos, negsuc}
use Rattle.std.proofs.Common.{unsigned_abs, refl, sym, ◌∙◌, ap, subst, arith, length-append}
use Rattle.std.specs.FinMap.{get}
use Rattle.std.specs.List.{AllByRecursion, AllZip, list_all}
use Rattle.std.proofs.lemmas.Bool.{cases_lt, cases_eq}
use Rattle.std.proofs.lemmas.List.{get_or_append_left}
use Rattle.std.proofs.lemmas.Option.{same_Some}
use Rattle.std.proofs.Math.Seq.{get_or-append_seam}
use Rattle.sd_model.specs.Tree.{Tree, IsVtree, leaves, AreDistinct}
use Rattle.sd_model.specs.Diagram.{Diagram, Literal, meaning}
use Rattle.sd_model.specs.Expression.{FileConstant, FileLiteral, FileDecomposition}
use Rattle.sd_model.proofs.OverVtree.{vtree_apart}
use Rattle.sd_model.proofs.Unique.{unique}
use Rattle.sd_vtree.specs.Numbered.{numbers, plain_tree, variable_at}
use Rattle.sd_laws.specs.Pairs.{decomposed}
use Rattle.sd_laws.specs.Parts.{leaf_position}
use Rattle.sd_laws.specs.Shown.{literal_code}
use Rattle.sd_laws.specs.Values.{IsSame}
use Rattle.sd_laws.proofs.Joining.{decomposed_value, same_values}
use Rattle.sd_laws.proofs.Leaves.{leaf_number, literal_node}
use Rattle.sd_laws.proofs.Lists.{zip_weaker}
use Rattle.sd_manager.specs.Literals.{code_of_literal, IsLiteralTo}
use Rattle.sd_manager.specs.Making.{Extends, IsMade}
use Rattle.sd_manager.specs.Shown.{ShowsCanonical, IsPartitionAt, constant_diagram}
use Rattle.sd_manager.specs.Table.{Table}
use Rattle.sd_manager.specs.Valid.{IsTable}
use Rattle.sd_manager.proofs.Same.{shown_once, code_once}
use Rattle.sd_apply.proofs.Listed.{shown_on}
use Rattle.sd_file.specs.Built.{value_at}
use Rattle.sd_file.specs.Files.{IsEarlier, IsFile, entry_pairs, pairs_in, kind_of}
use Rattle.sd_file.specs.Reads.{Node as NodeLine, File}
use Rattle.sd_file.specs.declared.file.FileNode.TheVariants as kinds
use Rattle.sd_file.proofs.Literals.{same_position}
use Rattle.sd_check.specs.declared.rules.Rule.{Rule}
use Rattle.sd_check.specs.declared.rules.Rule.TheVariants.{Vtree, Prime, Sub, Count, Overlap, Cover, Subs, Trim}
use Rattle.sd_check.specs.Copies.{IsLiteralOf}
use Rattle.sd_check.specs.Judging.{IsFirst, HoldBefore, IsSound, AreSound, TellsNode, IsFormed, built_pair}
use Rattle.sd_check.specs.Rules.{Places, node_at, is_constant_node, primes_true, HasSub, HasEqualSubs, ElementsBreak}
use Rattle.sd_check.specs.Rules.{NodeBreaks, IsBroken, rank}
use Rattle.sd_check.specs.Standing.{Represents, RepresentPairs}
use Rattle.sd_check.specs.Unions.{AreNodes, count_true, CountsTo, TellsPrimes}
use Rattle.sd_check.proofs.Represented.{node_fits, IsWholeAt, unbroken_whole, whole_represents, whole_canonical, Leaf}
use Rattle.sd_check.proofs.Represented.{literal_represents, constant_of, constant_represents}
use Rattle.sd_check.proofs.Unbroken.{literal_unbroken}
use Rattle.sd_check.proofs.Verdicts.{same_rule}

-- ---- rules in their order

-- one rule more
pub hold_next : (B : Rule → Type 0) (n : ℕ) (q : Rule) → rank q ≡ n → HoldBefore B n → (B q → ⊥) → HoldBefore B (n + 1)
hold_next B n q e h k =
    record {
      each = λ r lt b. elim (cases_lt (rank r) n) [
        | inl below ↦ h.each r below b
        | inr le ↦ k (subst B (same_rule r q (omega (arith, e, lt, le))) b)
      ];
    }

-- each rule has a rank
rank_most : (r : Rule) → rank r < 8
rank_most Vtree = omega arith
rank_most Prime = omega arith
rank_most Sub = omega arith
rank_most Count = omega arith
rank_most Overlap = omega arith
rank_most Cover = omega arith
rank_most Subs = omega arith
rank_most Trim = omega arith

-- what a decomposition breaks is what its elements break
pub first_broken : (t : Tree) (ids : Places) (f : File) (i vtree : ℕ) (pairs : List (ℕ × ℕ)) (r : Rule) →
    node_at f i ≡ (vtree, FileDecomposition pairs) → IsFirst (ElementsBreak t ids f vtree pairs) r →
    IsFirst (IsBroken t ids f i) r
first_broken t ids f i vtree pairs r e h =
    record {
      broken = subst (λ n. NodeBreaks t ids f n r) (sym e) h.broken;
      others = λ q lt b. h.others q lt (subst (λ n. NodeBreaks t ids f n q) e b);
    }

-- the same where none is
pub none_broken : (t : Tree) (ids : Places) (f : File) (i vtree : ℕ) (pairs : List (ℕ × ℕ)) →
    node_at f i ≡ (vtree, FileDecomposition pairs) → HoldBefore (ElementsBreak t ids f vtree pairs) 8 →
    HoldBefore (IsBroken t ids f i) 8
none_broken t ids f i vtree pairs e h =
    record { each = λ q lt b. h.each q lt (subst (λ n. NodeBreaks t ids f n q) e b) }

-- ---- tables that grow

-- a node that is there stays
pub sound_on : (old new : Table) (ids : Places) (f : File) (i c : ℕ) → Extends old new → IsSound old ids f i c →
    IsSound new ids f i c
sound_on old new ids f i c x h =
    record {
      diagram = h.diagram;
      is = shown_on old new x c h.diagram h.is;
      represents = subst (λ v. Represents (plain_tree v) ids f i h.diagram) (sym x.vtree) h.represents;
    }

-- all do
pub all_sound_on : (old new : Table) (ids : Places) (f : File) (built : List ℕ) → Extends old new →
    AreSound old ids f built → AreSound new ids f built
all_sound_on old new ids f built x h =
    record { each = λ i below. sound_on old new ids f i (get_or built i 0) x (h.each i below) }

-- one more
pub sound_more : (t : Table) (ids : Places) (f : File) (built later : List ℕ) (n c : ℕ) → AreSound t ids f built →
    length built ≡ n → IsSound t ids f n c → later ≡ built ++ c ∷ [] → AreSound t ids f later
sound_more t ids f built later n c h all is same = subst (AreSound t ids f) (sym same) (record { each = at })
  where
    at : (i : ℕ) → i < length (built ++ c ∷ []) → IsSound t ids f i (get_or (built ++ c ∷ []) i 0)
    at i below = elim (cases_lt i (length built)) [
      | inl earlier ↦
          subst (IsSound t ids f i) (sym (get_or_append_left built (c ∷ []) 0 i earlier)) (h.each i earlier)
      | inr last ↦
          let here : length built ≡ i = omega (arith, length-append built (c ∷ []), below, last) in
          subst (λ k. IsSound t ids f k (get_or (built ++ c ∷ []) k 0)) here
          (subst (IsSound t ids f (length built)) (sym (get_or-append_seam built c [] 0))
          (subst (λ k. IsSound t ids f k c) (sym all) is))
    ]

-- no rule is broken before the next node where none is broken before a node and at it
pub unbroken_more : (old new : Table) (ids : Places) (f : File) (n i : ℕ) → new.vtree ≡ old.vtree → n ≡ i →
    ((j : ℕ) (r : Rule) → j < i → IsBroken (plain_tree old.vtree) ids f j r → ⊥) →
    HoldBefore (IsBroken (plain_tree new.vtree) ids f n) 8 →
    (j : ℕ) (r : Rule) → j < i + 1 → IsBroken (plain_tree old.vtree) ids f j r → ⊥
unbroken_more old new ids f n i same is h k j r lt b = elim (cases_lt j i) [
  | inl below ↦ h j r below b
  | inr le ↦
      let here : j ≡ n = omega (arith, lt, le, is) in
      k.each r (rank_most r) (subst (λ v. IsBroken (plain_tree v) ids f n r) (sym same)
      (subst (λ m. IsBroken (plain_tree old.vtree) ids f m r) here b))
]

-- ---- elements

-- the diagrams of elements whose nodes are there
pub record HasDiagrams (t : Table) (ids : Places) (f : File) (built : List ℕ) (pairs : List (ℕ × ℕ)) : Type 0 where
  pub diagrams : List (Diagram × Diagram)
  pub represent : RepresentPairs (plain_tree t.vtree) ids f pairs diagrams
  pub shown : AllZip (λ (e : ℕ × ℕ) (d : Diagram × Diagram). ShowsCanonical t e.0 d.0 × ShowsCanonical t e.1 d.1)
      (map (built_pair built) pairs) diagrams

pub diagrams_of : (t : Table) (ids : Places) (f : File) (built : List ℕ) (n : ℕ) → AreSound t ids f built →
    length built ≡ n → (pairs : List (ℕ × ℕ)) → AllByRecursion (IsEarlier n) pairs → HasDiagrams t ids f built pairs
diagrams_of t ids f built n h all [] earlier = record { diagrams = []; represent = tt; shown = tt }
diagrams_of t ids f built n h all (e ∷ pairs) earlier =
    let p = h.each e.0 (omega (arith, all, earlier.0.prime)) in
    let s = h.each e.1 (omega (arith, all, earlier.0.sub)) in
    let rest = diagrams_of t ids f built n h all pairs earlier.1 in
    record {
      diagrams = (p.diagram, s.diagram) ∷ rest.diagrams;
      represent = ((p.represents, s.represents), rest.represent);
      shown = ((p.is, s.is), rest.shown);
    }

-- their primes are nodes
pub primes_nodes : (t : Table) (l : List (ℕ × ℕ)) (ds : List (Diagram × Diagram)) →
    AllZip (λ (e : ℕ × ℕ) (d : Diagram × Diagram). ShowsCanonical t e.0 d.0 × ShowsCanonical t e.1 d.1) l ds →
    AreNodes t (map (λ e. e.0) l)
primes_nodes t [] [] h = tt
primes_nodes t [] (d ∷ ds) h = absurd h
primes_nodes t (e ∷ l) [] h = absurd h
primes_nodes t (e ∷ l) (d ∷ ds) h = (record { diagram = d.0; is = h.0.0 }, primes_nodes t l ds h.1)

-- and are shown
primes_shown : (t : Table) (l : List (ℕ × ℕ)) (ds : List (Diagram × Diagram)) →
    AllZip (λ (e : ℕ × ℕ) (d : Diagram × Diagram). ShowsCanonical t e.0 d.0 × ShowsCanonical t e.1 d.1) l ds →
    AllZip (ShowsCanonical t) (map (λ e. e.0) l) (map (λ d. d.0) ds)
primes_shown t [] [] h = tt
primes_shown t [] (d ∷ ds) h = absurd h
primes_shown t (e ∷ l) [] h = absurd h
primes_shown t (e ∷ l) (d ∷ ds) h = (h.0.0, primes_shown t l ds h.1)

-- one prime more
count_one : (b c : Bool) (m n : ℕ) → b ≡ c → m ≡ n → cond b (suc m) m ≡ cond c (suc n) n
count_one true true m n e h = ap suc h
count_one true false m n e h = absurd (cc)
count_one false true m n e h = absurd (cc)
count_one false false m n e h = h

-- as many are true as primes of the file
primes_counted : (t : Tree) (ids : Places) (f : File) (a : List Bool) (pairs : List (ℕ × ℕ))
    (ds : List (Diagram × Diagram)) → RepresentPairs t ids f pairs ds →
    count_true (map (λ d. d.0) ds) a ≡ primes_true f a pairs
primes_counted t ids f a [] [] h = refl
primes_counted t ids f a [] (d ∷ ds) h = absurd h
primes_counted t ids f a (e ∷ pairs) [] h = absurd h
primes_counted t ids f a (e ∷ pairs) (d ∷ ds) h =
    count_one (meaning d.0 a) (value_at f e.0 a) (count_true (map (λ d. d.0) ds) a) (primes_true f a pairs)
    (h.0.0.value a) (primes_counted t ids f a pairs ds h.1)

pub primes_count : (t : Table) (ids : Places) (f : File) (built : List ℕ) (pairs : List (ℕ × ℕ)) →
    HasDiagrams t ids f built pairs →
    CountsTo t (λ a. primes_true f a pairs) (map (λ e. e.0) (map (built_pair built) pairs))
primes_count t ids f built pairs h =
    record {
      diagrams = map (λ d. d.0) h.diagrams;
      shown = primes_shown t (map (built_pair built) pairs) h.diagrams h.shown;
      count = λ a. primes_counted (plain_tree t.vtree) ids f a pairs h.diagrams h.represent;
    }

-- ---- subs

-- one of the codes is this one, or none
among : (c : ℕ) (ys : List ℕ) → AllByRecursion (λ y. c ≢ y) ys ⊎ (AllByRecursion (λ y. c ≢ y) ys → ⊥)
among c [] = inl tt
among c (y ∷ ys) = go (cases_eq c y) (among c ys)
  where
    go : (c ≡ y) ⊎ (c ≡ y → ⊥) → AllByRecursion (λ y. c ≢ y) ys ⊎ (AllByRecursion (λ y. c ≢ y) ys → ⊥) →
        (AllByRecursion (λ y. c ≢ y) (y ∷ ys)) ⊎ (AllByRecursion (λ y. c ≢ y) (y ∷ ys) → ⊥)
    go (inl e) rest = inr (λ h. h.0 e)
    go (inr ne) (inl all) = inl (ne, all)
    go (inr ne) (inr refused) = inr (λ h. refused h.1)

-- a code that stands again is a sub again
sub_again : (t : Table) → IsTable t → (ids : Places) (f : File) (built : List ℕ) (c : ℕ) (x : Diagram)
    (g : List Bool → Bool) → ShowsCanonical t c x → IsSame (meaning x) g → (pairs : List (ℕ × ℕ))
    (ds : List (Diagram × Diagram)) → RepresentPairs (plain_tree t.vtree) ids f pairs ds →
    AllZip (λ (e : ℕ × ℕ) (d : Diagram × Diagram). ShowsCanonical t e.0 d.0 × ShowsCanonical t e.1 d.1)
    (map (built_pair built) pairs) ds →
    (AllByRecursion (λ y. c ≢ y) (map (λ e. e.1) (map (built_pair built) pairs)) → ⊥) → HasSub f g pairs
sub_again t table ids f built c x g is value [] ds h k refused = refused tt
sub_again t table ids f built c x g is value (e ∷ pairs) [] h k refused = absurd h
sub_again t table ids f built c x g is value (e ∷ pairs) (d ∷ ds) h k refused =
    go (sub_again t table ids f built c x g is value pairs ds h.1 k.1) (cases_eq c (get_or built e.1 0))
  where
    go : ((AllByRecursion (λ y. c ≢ y) (map (λ e. e.1) (map (built_pair built) pairs)) → ⊥) → HasSub f g pairs) →
        (c ≡ get_or built e.1 0) ⊎ (c ≡ get_or built e.1 0 → ⊥) → HasSub f g (e ∷ pairs)
    go ih (inl same) =
        let equal : x ≡ d.1 =
        shown_once t table c x d.1 is (subst (λ n. ShowsCanonical t n d.1) (sym same) k.0.1) in
        inl (λ a. sym (value a) ∙ ap (λ y. meaning y a) equal ∙ h.0.1.value a)
    go ih (inr ne) = inr (ih (λ all. refused (ne, all)))

-- two equal codes of subs are two subs of one function
pub equal_subs : (t : Table) → IsTable t → (ids : Places) (f : File) (built : List ℕ) (pairs : List (ℕ × ℕ))
    (ds : List (Diagram × Diagram)) → RepresentPairs (plain_tree t.vtree) ids f pairs ds →
    AllZip (λ (e : ℕ × ℕ) (d : Diagram × Diagram). ShowsCanonical t e.0 d.0 × ShowsCanonical t e.1 d.1)
    (map (built_pair built) pairs) ds →
    (AreDistinct (map (λ e. e.1) (map (built_pair built) pairs)) → ⊥) → HasEqualSubs f pairs
equal_subs t table ids f built [] ds h k refused = refused tt
equal_subs t table ids f built (e ∷ pairs) [] h k refused = absurd h
equal_subs t table ids f built (e ∷ pairs) (d ∷ ds) h k refused =
    go (equal_subs t table ids f built pairs ds h.1 k.1)
    (among (get_or built e.1 0) (map (λ e. e.1) (map (built_pair built) pairs)))
  where
    go : ((AreDistinct (map (λ e. e.1) (map (built_pair built) pairs)) → ⊥) → HasEqualSubs f pairs) →
        AllByRecursion (λ y. get_or built e.1 0 ≢ y) (map (λ e. e.1) (map (built_pair built) pairs))
        ⊎ (AllByRecursion (λ y. get_or built e.1 0 ≢ y) (map (λ e. e.1) (map (built_pair built) pairs)) → ⊥) →
        HasEqualSubs f (e ∷ pairs)
    go ih (inl all) = inr (ih (λ rest. refused (all, rest)))
    go ih (inr again) =
        inl (sub_again t table ids f built (get_or built e.1 0) d.1 (value_at f e.1) k.0.1 h.0.1.value pairs ds h.1
        k.1 again)

-- a sub of one function has one code
sub_once : (t : Table) → IsTable t → (ids : Places) (f : File) (built : List ℕ) (c : ℕ) (x : Diagram)
    (g : List Bool → Bool) → ShowsCanonical t c x → IsSame (meaning x) g → (pairs : List (ℕ × ℕ))
    (ds : List (Diagram × Diagram)) → RepresentPairs (plain_tree t.vtree) ids f pairs ds →
    AllZip (λ (e : ℕ × ℕ) (d : Diagram × Diagram). ShowsCanonical t e.0 d.0 × ShowsCanonical t e.1 d.1)
    (map (built_pair built) pairs) ds →
    AllByRecursion (λ y. c ≢ y) (map (λ e. e.1) (map (built_pair built) pairs)) → HasSub f g pairs → ⊥
sub_once t table ids f built c x g is value [] ds h k all m = m
sub_once t table ids f built c x g is value (e ∷ pairs) [] h k all m = h
sub_once t table ids f built c x g is value (e ∷ pairs) (d ∷ ds) h k all (inl same) =
    let equal : x ≡ d.1 =
    unique (leaves (plain_tree t.vtree)) (vtree_apart (plain_tree t.vtree) table.numbered.vtree) is.canonical
    k.0.1.canonical (λ a. value a ∙ same a ∙ sym (h.0.1.value a)) in
    all.0 (code_once t table c (get_or built e.1 0) d.1 (subst (ShowsCanonical t c) equal is) k.0.1)
sub_once t table ids f built c x g is value (e ∷ pairs) (d ∷ ds) h k all (inr m) =
    sub_once t table ids f built c x g is value pairs ds h.1 k.1 all.1 m

-- subs of different codes are different functions
pub different_subs : (t : Table) → IsTable t → (ids : Places) (f : File) (built : List ℕ) (pairs : List (ℕ × ℕ))
    (ds : List (Diagram × Diagram)) → RepresentPairs (plain_tree t.vtree) ids f pairs ds →
    AllZip (λ (e : ℕ × ℕ) (d : Diagram × Diagram). ShowsCanonical t e.0 d.0 × ShowsCanonical t e.1 d.1)
    (map (built_pair built) pairs) ds →
    AreDistinct (map (λ e. e.1) (map (built_pair built) pairs)) → HasEqualSubs f pairs → ⊥
different_subs t table ids f built [] ds h k all m = m
different_subs t table ids f built (e ∷ pairs) [] h k all m = h
different_subs t table ids f built (e ∷ pairs) (d ∷ ds) h k all (inl m) =
    sub_once t table ids f built (get_or built e.1 0) d.1 (value_at f e.1) k.0.1 h.0.1.value pairs ds h.1 k.1 all.0 m
different_subs t table ids f built (e ∷ pairs) (d ∷ ds) h k all (inr m) =
    different_subs t table ids f built pairs ds h.1 k.1 all.1 m

-- ---- a decomposition

-- its elements fit
pairs_fit : (f : File) (i vtree : ℕ) (pairs : List (ℕ × ℕ)) → IsFile f → i < length f.nodes →
    node_at f i ≡ (vtree, FileDecomposition pairs) → (1 ≤ length pairs) × AllByRecursion (IsEarlier i) pairs
pairs_fit f i vtree pairs is below e = node_fits f i (vtree, FileDecomposition pairs) is below e

-- the diagrams of a formed node's elements
pub formed_diagrams : (t : Table) (ids : Places) (f : File) (i : ℕ) (built : List ℕ) (middle : ℕ) → IsFile f →
    i < length f.nodes → length built ≡ i → IsFormed t ids f i built middle →
    HasDiagrams t ids f built (entry_pairs f i)
formed_diagrams t ids f i built middle is below all h =
    diagrams_of t ids f built i h.sound all (entry_pairs f i)
    (pairs_fit f i h.vtree (entry_pairs f i) is below h.node).1

-- a formed node on a larger table
pub formed_on : (old new : Table) (ids : Places) (f : File) (i : ℕ) (built : List ℕ) (middle : ℕ) → Extends old new →
    IsFormed old ids f i built middle → IsFormed new ids f i built middle
formed_on old new ids f i built middle x h =
    record {
      vtree = h.vtree;
      node = h.node;
      has = h.has;
      forms = subst (λ v. HoldBefore (ElementsBreak (plain_tree v) ids f h.vtree (entry_pairs f i)) 4) (sym x.vtree)
          h.forms;
      sound = all_sound_on old new ids f built x h.sound;
    }

-- the rule that primes break is the first
pub primes_broken : (t : Table) (ids : Places) (f : File) (i : ℕ) (built : List ℕ) (middle : ℕ) (r : Rule) →
    IsFormed t ids f i built middle → TellsPrimes (λ a. primes_true f a (entry_pairs f i)) (Some r) →
    TellsNode t ids f i (Rattle.std.specs.Prelude.Err r)
primes_broken t ids f i built middle Overlap h k =
    first_broken (plain_tree t.vtree) ids f i h.vtree (entry_pairs f i) Overlap h.node
    (record { broken = k; others = h.forms.each })
primes_broken t ids f i built middle Cover h k =
    first_broken (plain_tree t.vtree) ids f i h.vtree (entry_pairs f i) Cover h.node
    (record {
      broken = (k.1, k.2);
      others = (hold_next (ElementsBreak (plain_tree t.vtree) ids f h.vtree (entry_pairs f i)) 4 Overlap refl h.forms
          (λ b. omega (arith, b.1, k.0 b.0))).each;
    })
primes_broken t ids f i built middle Vtree h k = absurd k
primes_broken t ids f i built middle Prime h k = absurd k
primes_broken t ids f i built middle Sub h k = absurd k
primes_broken t ids f i built middle Count h k = absurd k
primes_broken t ids f i built middle Subs h k = absurd k
primes_broken t ids f i built middle Trim h k = absurd k

-- where primes break none, six rules hold
pub six_hold : (t : Table) (ids : Places) (f : File) (i : ℕ) (built : List ℕ) (middle : ℕ) →
    (h : IsFormed t ids f i built middle) → TellsPrimes (λ a. primes_true f a (entry_pairs f i)) None →
    HoldBefore (ElementsBreak (plain_tree t.vtree) ids f h.vtree (entry_pairs f i)) 6
six_hold t ids f i built middle h k =
    let B : Rule → Type 0 = ElementsBreak (plain_tree t.vtree) ids f h.vtree (entry_pairs f i) in
    hold_next B 5 Cover refl
    (hold_next B 4 Overlap refl h.forms (λ b. omega (arith, b.1, k b.0))) (λ b. omega (arith, b.1, k b.0))

-- equal subs are the first rule then
pub subs_broken : (t : Table) (ids : Places) (f : File) (i : ℕ) (built : List ℕ) (middle : ℕ) → IsTable t → IsFile f →
    i < length f.nodes → length built ≡ i → (h : IsFormed t ids f i built middle) →
    TellsPrimes (λ a. primes_true f a (entry_pairs f i)) None →
    (AreDistinct (map (λ e. e.1) (map (built_pair built) (entry_pairs f i))) → ⊥) →
    TellsNode t ids f i (Rattle.std.specs.Prelude.Err Subs)
subs_broken t ids f i built middle table is below all h k refused =
    let d = formed_diagrams t ids f i built middle is below all h in
    first_broken (plain_tree t.vtree) ids f i h.vtree (entry_pairs f i) Subs h.node
    (record {
      broken = equal_subs t table ids f built (entry_pairs f i) d.diagrams d.represent d.shown refused;
      others = (six_hold t ids f i built middle h k).each;
    })

-- where no codes are equal, seven hold
pub seven_hold : (t : Table) (ids : Places) (f : File) (i : ℕ) (built : List ℕ) (middle : ℕ) → IsTable t → IsFile f →
    i < length f.nodes → length built ≡ i → (h : IsFormed t ids f i built middle) →
    TellsPrimes (λ a. primes_true f a (entry_pairs f i)) None →
    AreDistinct (map (λ e. e.1) (map (built_pair built) (entry_pairs f i))) →
    HoldBefore (ElementsBreak (plain_tree t.vtree) ids f h.vtree (entry_pairs f i)) 7
seven_hold t ids f i built middle table is below all h k differ =
    let d = formed_diagrams t ids f i built middle is below all h in
    hold_next (ElementsBreak (plain_tree t.vtree) ids f h.vtree (entry_pairs f i)) 6 Subs refl
    (six_hold t ids f i built middle h k)
    (different_subs t table ids f built (entry_pairs f i) d.diagrams d.represent d.shown differ)

-- constant subs are the first rule then
pub trim_broken : (t : Table) (ids : Places) (f : File) (i : ℕ) (built : List ℕ) (middle : ℕ) → IsTable t → IsFile f →
    i < length f.nodes → length built ≡ i → (h : IsFormed t ids f i built middle) →
    TellsPrimes (λ a. primes_true f a (entry_pairs f i)) None →
    AreDistinct (map (λ e. e.1) (map (built_pair built) (entry_pairs f i))) →
    list_all (λ e. is_constant_node (node_at f e.1)) (entry_pairs f i) ≡ true →
    TellsNode t ids f i (Rattle.std.specs.Prelude.Err Trim)
trim_broken t ids f i built middle table is below all h k differ trim =
    first_broken (plain_tree t.vtree) ids f i h.vtree (entry_pairs f i) Trim h.node
    (record { broken = trim; others = (seven_hold t ids f i built middle table is below all h k differ).each })

-- and where some sub is none, all hold
pub all_hold : (t : Table) (ids : Places) (f : File) (i : ℕ) (built : List ℕ) (middle : ℕ) → IsTable t → IsFile f →
    i < length f.nodes → length built ≡ i → (h : IsFormed t ids f i built middle) →
    TellsPrimes (λ a. primes_true f a (entry_pairs f i)) None →
    AreDistinct (map (λ e. e.1) (map (built_pair built) (entry_pairs f i))) →
    list_all (λ e. is_constant_node (node_at f e.1)) (entry_pairs f i) ≡ false →
    HoldBefore (ElementsBreak (plain_tree t.vtree) ids f h.vtree (entry_pairs f i)) 8
all_hold t ids f i built middle table is below all h k differ trim =
    hold_next (ElementsBreak (plain_tree t.vtree) ids f h.vtree (entry_pairs f i)) 7 Trim refl
    (seven_hold t ids f i built middle table is below all h k differ) (λ b. absurd (cc (b, trim)))

-- ---- the node of a decomposition that breaks no rule

-- its diagrams, which are a partition
pub record IsReady (t : Table) (ids : Places) (f : File) (i : ℕ) (built : List ℕ) (middle : ℕ)
    (formed : IsFormed t ids f i built middle) : Type 0 where
  pub diagrams : HasDiagrams t ids f built (entry_pairs f i)
  pub hold : HoldBefore (ElementsBreak (plain_tree t.vtree) ids f formed.vtree (entry_pairs f i)) 8
  pub whole : IsWholeAt (plain_tree t.vtree) ids formed.vtree diagrams.diagrams
  pub at : whole.split.at ≡ middle

pub ready : (t : Table) (ids : Places) (f : File) (i : ℕ) (built : List ℕ) (middle : ℕ) → IsFile f →
    i < length f.nodes → length built ≡ i → (h : IsFormed t ids f i built middle) →
    HoldBefore (ElementsBreak (plain_tree t.vtree) ids f h.vtree (entry_pairs f i)) 8 → IsReady t ids f i built middle h
ready t ids f i built middle is below all h hold =
    let d = formed_diagrams t ids f i built middle is below all h in
    let w = unbroken_whole (plain_tree t.vtree) ids f h.vtree (entry_pairs f i) d.diagrams
    (pairs_fit f i h.vtree (entry_pairs f i) is below h.node).0 d.represent
    (λ r b. hold.each r (rank_most r) b) in
    record { diagrams = d; hold = hold; whole = w; at = same_Some w.split.at middle (sym w.split.has ∙ h.has) }

-- the pairs of codes show the partition of their vtree node
pub ready_partition : (t : Table) (ids : Places) (f : File) (i : ℕ) (built : List ℕ) (middle place : ℕ)
    (h : IsFormed t ids f i built middle) (r : IsReady t ids f i built middle h) →
    slice_get (numbers t.vtree) middle ≡ Some place →
    IsPartitionAt t place (map (built_pair built) (entry_pairs f i)) r.diagrams.diagrams
ready_partition t ids f i built middle place h r number =
    let p = r.whole.split.part in
    record {
      left = p.left;
      right = p.right;
      base = p.from;
      inner = record {
        part = p.part;
        number = ap (slice_get (numbers t.vtree)) (p.place ∙ r.at) ∙ number;
      };
      shown = zip_weaker
          (λ (e : ℕ × ℕ) (d : Diagram × Diagram). ShowsCanonical t e.0 d.0 × ShowsCanonical t e.1 d.1) _
          (λ e d k. (k.0.shows, k.1.shows)) (map (built_pair built) (entry_pairs f i)) r.diagrams.diagrams
          r.diagrams.shown;
      partition = r.whole.partition;
    }

-- the node that is made stands for the file's
pub ready_sound : (old new : Table) (ids : Places) (f : File) (i : ℕ) (built : List ℕ) (middle c : ℕ)
    (h : IsFormed old ids f i built middle) (r : IsReady old ids f i built middle h) → IsTable old → IsFile f →
    i < length f.nodes → Extends old new → IsMade new c r.diagrams.diagrams →
    TellsNode new ids f i (Rattle.std.specs.Prelude.Ok c)
ready_sound old new ids f i built middle c h r table is below x made =
    let t = plain_tree old.vtree in
    let ds = r.diagrams.diagrams in
    let v : IsVtree t = table.numbered.vtree in
    let own = decomposed r.whole.split.at ds in
    let there = whole_canonical t ids h.vtree ds v r.whole in
    let canonical = subst (λ n. Rattle.sd_model.specs.Canonical.IsCanonical (plain_tree n) 0 made.diagram) x.vtree
    made.is.canonical in
    let same : made.diagram ≡ own =
    unique (leaves t) (vtree_apart t v) canonical there
    (same_values ds (meaning made.diagram) (meaning own) made.value
    (decomposed_value r.whole.split.at ds r.whole.partition.one_true)) in (
      subst (λ n. HoldBefore (IsBroken (plain_tree n) ids f i) 8) (sym x.vtree)
          (none_broken t ids f i h.vtree (entry_pairs f i) h.node r.hold),
      record {
        diagram = own;
        is = subst (ShowsCanonical new c) same made.is;
        represents = subst (λ n. Represents (plain_tree n) ids f i own) (sym x.vtree)
            (whole_represents t ids f i h.vtree (entry_pairs f i) ds v is below h.node r.diagrams.represent r.whole);
      },
    )

-- ---- literals and constants

-- the line of a literal
pub literal_line : (node : NodeLine) (vtree : ℕ) (z : ℤ) → kind_of node ≡ kinds.Literal vtree z →
    node ≡ (vtree, FileLiteral z)
literal_line (own, FileConstant value) vtree z h = absurd (cc)
literal_line (own, FileLiteral y) vtree z h =
    let a : own ≡ vtree = cc in
    let b : y ≡ z = cc in
    ap (λ n. (n, FileLiteral y)) a ∙ ap (λ k. (vtree, FileLiteral k)) b
literal_line (own, FileDecomposition pairs) vtree z h = absurd (cc)

-- the line of a decomposition
pub decomposition_line : (node : NodeLine) (vtree count : ℕ) → kind_of node ≡ kinds.Decomposition vtree count →
    node ≡ (vtree, FileDecomposition (pairs_in node))
decomposition_line (own, FileConstant value) vtree count h = absurd (cc)
decomposition_line (own, FileLiteral y) vtree count h = absurd (cc)
decomposition_line (own, FileDecomposition pairs) vtree count h =
    let a : own ≡ vtree = cc in ap (λ n. (n, FileDecomposition pairs)) a

-- the number of its elements
pub decomposition_count : (node : NodeLine) (vtree count : ℕ) → kind_of node ≡ kinds.Decomposition vtree count →
    count ≡ length (pairs_in node)
decomposition_count (own, FileConstant value) vtree count h = absurd (cc)
decomposition_count (own, FileLiteral y) vtree count h = absurd (cc)
decomposition_count (own, FileDecomposition pairs) vtree count h = cc

-- the line of a constant
pub constant_line : (node : NodeLine) (value : Bool) → kind_of node ≡ kinds.Constant value →
    (vtree : ℕ) × (node ≡ (vtree, FileConstant value))
constant_line (own, FileConstant v) value h =
    let a : v ≡ value = cc in (own, ap (λ k. (own, FileConstant k)) a)
constant_line (own, FileLiteral y) value h = absurd (cc)
constant_line (own, FileDecomposition pairs) value h = absurd (cc)

-- a literal's variable is one of the file's
pub literal_within : (f : File) (i vtree : ℕ) (z : ℤ) → IsFile f → i < length f.nodes →
    kind_of (node_at f i) ≡ kinds.Literal vtree z → (1 ≤ unsigned_abs z) × (unsigned_abs z ≤ f.variables)
literal_within f i vtree z is below h =
    node_fits f i (vtree, FileLiteral z) is below (literal_line (node_at f i) vtree z h)

-- so it is a literal of the vtree
pub literal_to : (n : ℕ) (z : ℤ) → 1 ≤ unsigned_abs z → unsigned_abs z ≤ n → IsLiteralTo n z
literal_to n (pos x) low high = (low, high)
literal_to n (negsuc i) low high = let e : i + 1 ≡ suc i = omega arith in omega (arith, high, e)

-- the variable and sign of a code
literal_parts : (z : ℤ) → (x : ℕ) × (s : Bool) × IsLiteralOf x s z × (x ≡ unsigned_abs z)
    × (code_of_literal z ≡ literal_code x s)
literal_parts (pos n) = (n, true, (refl, refl), refl, refl)
literal_parts (negsuc i) = (suc i, false, (refl, refl), refl, omega arith)

-- a literal at its leaf
pub literal_found : (t : Table) (ids : Places) (f : File) (i vtree own leaf c : ℕ) (z : ℤ) → IsTable t → IsFile f →
    i < length f.nodes → kind_of (node_at f i) ≡ kinds.Literal vtree z →
    variable_at t.vtree leaf ≡ Some (unsigned_abs z) → slice_get (numbers t.vtree) own ≡ Some leaf →
    ids vtree ≡ Some own → c ≡ code_of_literal z → TellsNode t ids f i (Rattle.std.specs.Prelude.Ok c)
literal_found t ids f i vtree own leaf c z table is below kind variable place has code =
    let e = literal_line (node_at f i) vtree z kind in
    let k = literal_parts z in
    let n = leaf_number t.vtree table.numbered leaf (unsigned_abs z) variable in
    let same : own ≡ n.0 = same_position t.vtree table.numbered leaf own n.0 place n.1 in
    let at : leaf_position (plain_tree t.vtree) 0 k.0 ≡ Some own =
    ap (leaf_position (plain_tree t.vtree) 0) k.3 ∙ n.2 ∙ ap Some (sym same) in
    let l : Leaf (plain_tree t.vtree) ids vtree z =
    record { at = own; variable = k.0; positive = k.1; has = has; leaf = at; is = k.2 } in (
      record {
        each = λ r lt b. literal_unbroken (plain_tree t.vtree) ids f vtree own k.0 k.1 z has at (sym k.3) r
            (subst (λ m. NodeBreaks (plain_tree t.vtree) ids f m r) e b);
      },
      record {
        diagram = Literal own k.0 k.1;
        is = subst (λ m. ShowsCanonical t m (Literal own k.0 k.1)) (sym (code ∙ k.4))
            (literal_node t.vtree (get t.linked) k.0 own k.1 at);
        represents = literal_represents (plain_tree t.vtree) ids f i vtree z is below e l;
      },
    )

-- a literal elsewhere
pub literal_misplaced : (t : Table) (ids : Places) (f : File) (i vtree own leaf : ℕ) (z : ℤ) → IsTable t →
    kind_of (node_at f i) ≡ kinds.Literal vtree z → variable_at t.vtree leaf ≡ Some (unsigned_abs z) →
    slice_get (numbers t.vtree) own ≡ Some leaf → ids vtree ≢ Some own →
    TellsNode t ids f i (Rattle.std.specs.Prelude.Err Vtree)
literal_misplaced t ids f i vtree own leaf z table kind variable place differ =
    let e = literal_line (node_at f i) vtree z kind in
    let n = leaf_number t.vtree table.numbered leaf (unsigned_abs z) variable in
    let same : own ≡ n.0 = same_position t.vtree table.numbered leaf own n.0 place n.1 in
    record {
      broken = subst (λ m. NodeBreaks (plain_tree t.vtree) ids f m Vtree) (sym e)
          (λ p has at. differ (has ∙ sym at ∙ n.2 ∙ ap Some (sym same)));
      others = λ r lt b. absurd (omega (arith, lt));
    }

-- a constant
pub constant_found : (t : Table) (ids : Places) (f : File) (i c : ℕ) (value : Bool) → IsFile f → i < length f.nodes →
    kind_of (node_at f i) ≡ kinds.Constant value → ShowsCanonical t c (constant_diagram value) →
    TellsNode t ids f i (Rattle.std.specs.Prelude.Ok c)
constant_found t ids f i c value is below kind shown =
    let e = constant_line (node_at f i) value kind in (
      record { each = λ r lt b. subst (λ m. NodeBreaks (plain_tree t.vtree) ids f m r) e.1 b },
      record {
        diagram = constant_of value;
        is = subst (ShowsCanonical t c) (same value) shown;
        represents = constant_represents (plain_tree t.vtree) ids f i e.0 value is below e.1;
      },
    )
  where
    same : (b : Bool) → constant_diagram b ≡ constant_of b
    same true = refl
    same false = refl
