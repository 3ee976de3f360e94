-- The line of a diagram is read as its node, where ids are places.
use Rattle.std.proofs.Common.{◌≡◌, ℕ, zero, suc, ◌*◌, ◌^◌, ◌<◌, ◌≤◌, Bool, true, false, List, [], ◌∷◌, length}
use Rattle.std.proofs.Common.{Some, None, Ok, refl, sym, ap, ◌∙◌, arith, inl, inr, eq-eqb}
use Rattle.std.proofs.Common.{ℤ, pos, neg_ℤ, ◌==◌}
use Rattle.std.specs.Prelude.{codes}
use Rattle.std.proofs.lemmas.Bool.{le-leb, cases_Bool, eqb-true}
use Rattle.sd_base.specs.Numbers.{natural_value, integer_value}
use Rattle.sd_base.specs.Reading.{each}
use Rattle.sd_model.specs.Diagram.{Diagram, Bottom, Top, Literal, Decomposition, Elements, End, Pair, count}
use Rattle.sd_model.specs.Canonical.{IsElement, first, later}
use Rattle.sd_model.specs.Expression.{FileConstant, FileLiteral, FileDecomposition}
use Rattle.sd_model.specs.Listing.{is_among}
use Rattle.sd_model.specs.Text.{number_text, literal_text, element_words, node_words}
use Rattle.sd_model.specs.Text.{index_of as index_in}
use Rattle.sd_model.proofs.ClosedLists.{ChildrenAmong}
use Rattle.sd_vfile.proofs.Texts.{natural_back}
use Rattle.sd_file.specs.Reads.{Node, Entry, form_of}
use Rattle.sd_file.specs.Reads.{all_values, two_by_two, is_literal, index_of_id, pair_at, entry_with}
use Rattle.sd_file.proofs.DiagramPlaces.{index_most}

-- ---- the node of a diagram in a list

-- the places of the primes and subs
abbrev pub written_numbers : List Diagram → Elements → List ℕ
written_numbers nodes End = []
written_numbers nodes (Pair p s rest) = index_in p nodes ∷ index_in s nodes ∷ written_numbers nodes rest

-- two by two
abbrev pub written_pairs : List Diagram → Elements → List (ℕ × ℕ)
written_pairs nodes End = []
written_pairs nodes (Pair p s rest) = (index_in p nodes, index_in s nodes) ∷ written_pairs nodes rest

-- the literal of a variable
abbrev pub signed : ℕ → Bool → ℤ
signed x true = pos x
signed x false = neg_ℤ (pos x)

-- the node of a diagram
abbrev pub written_node : List Diagram → Diagram → Node
written_node nodes Bottom = (0, FileConstant false)
written_node nodes Top = (0, FileConstant true)
written_node nodes (Literal p x positive) = (p, FileLiteral (signed x positive))
written_node nodes (Decomposition p es) = (p, FileDecomposition (written_pairs nodes es))

-- its entry
abbrev pub written_entry : List Diagram → Diagram → Entry
written_entry nodes d = record { id = index_in d nodes; node = written_node nodes d }

-- literals are of the variables 1 to v, decompositions have an element, and numbers have at most 18 digits
abbrev pub IsReadable : ℕ → Diagram → Type 0
IsReadable v (Literal p x positive) = (p < 10 ^ 18) × (1 ≤ x) × (x ≤ v) × (x < 10 ^ 18)
IsReadable v (Decomposition p es) = (p < 10 ^ 18) × (1 ≤ count es) × (count es < 10 ^ 18)
IsReadable v _ = Unit {0}

-- ---- literals

-- a text that begins with the sign is no natural
no_sign : (bytes : List ℕ) (n : ℕ) → natural_value (45 ∷ bytes) ≡ Some n → ⊥
no_sign bytes n h = grind (arith, h)

-- a natural is an integer
integer_natural : (word : List ℕ) (n : ℕ) → natural_value word ≡ Some n → integer_value word ≡ Some (pos n)
integer_natural [] n h = absurd cc
integer_natural (b ∷ bytes) n h = elim (cases_Bool (b == 45)) [
  | inl sign ↦ absurd (no_sign bytes n (ap (λ c. natural_value (c ∷ bytes)) (sym (eqb-true b 45 sign)) ∙ h))
  | inr none ↦ rw (none, h) refl
]

-- the text of a literal
literal_back : (x : ℕ) (positive : Bool) → x < 10 ^ 18
    → integer_value (literal_text x positive) ≡ Some (signed x positive)
literal_back x true small = integer_natural (number_text x) x (natural_back x small)
literal_back x false small = rw (natural_back x small) refl

-- it is one of a variable of 1 to v
literal_within : (v x : ℕ) (positive : Bool) → 1 ≤ x → x ≤ v → is_literal v (signed x positive) ≡ true
literal_within v zero positive low high = absurd (omega arith)
literal_within v (suc i) true low high = rw (le-leb 1 (suc i) low, le-leb (suc i) v high) refl
literal_within v (suc i) false low high = rw (le-leb 1 (suc i) low, le-leb (suc i) v high) refl

-- ---- elements

-- the numbers of a decomposition's line
numbers_back : (nodes : List Diagram) (es : Elements) → length nodes < 10 ^ 18
    → all_values natural_value (element_words nodes es) ≡ Some (written_numbers nodes es)
numbers_back nodes End small = refl
numbers_back nodes (Pair p s rest) small =
    let prime = natural_back (index_in p nodes) (omega (arith, index_most p nodes)) in
    let sub = natural_back (index_in s nodes) (omega (arith, index_most s nodes)) in
    rw (prime, sub, numbers_back nodes rest small) refl

-- are two for each element
numbers_twice : (nodes : List Diagram) (es : Elements) → length (written_numbers nodes es) ≡ 2 * count es
numbers_twice nodes End = refl
numbers_twice nodes (Pair p s rest) = omega (arith, numbers_twice nodes rest)

-- its prime and its sub
numbers_paired : (nodes : List Diagram) (es : Elements) → two_by_two (written_numbers nodes es) ≡ written_pairs nodes es
numbers_paired nodes End = refl
numbers_paired nodes (Pair p s rest) = ap (λ ps. (index_in p nodes, index_in s nodes) ∷ ps) (numbers_paired nodes rest)

-- an id of a diagram in the list is its place
abbrev pub HaveIds : List Diagram → List Diagram → List ℕ → Type 0
HaveIds before nodes ids =
    (d : Diagram) → is_among d before ≡ true → index_of_id (index_in d nodes) ids ≡ Some (index_in d nodes)

-- the primes and subs are found at their places
pairs_found : (before nodes : List Diagram) (ids : List ℕ) (line : ℕ) (es : Elements) → HaveIds before nodes ids
    → ((q s : Diagram) → IsElement q s es → (is_among q before ≡ true) × (is_among s before ≡ true))
    → each (pair_at ids line) (written_pairs nodes es) ≡ Ok (written_pairs nodes es)
pairs_found before nodes ids line End known there = refl
pairs_found before nodes ids line (Pair p s rest) known there =
    let here = there p s first in
    let others = pairs_found before nodes ids line rest known (λ q t m. there q t (later m)) in
    rw (known p here.0, known s here.1, others) refl

-- ---- the line

-- the line of a decomposition has its form
decomposition_back : (nodes : List Diagram) (id p : ℕ) (es : Elements) → length nodes < 10 ^ 18 → id < 10 ^ 18
    → p < 10 ^ 18 → 1 ≤ count es → count es < 10 ^ 18
    → form_of (codes "D" ∷ number_text id ∷ number_text p ∷ number_text (count es) ∷ element_words nodes es)
    ≡ Some (record { id = id; node = (p, FileDecomposition (written_pairs nodes es)) })
decomposition_back nodes id p es small small_id small_p some within_limit =
    rw (
      natural_back id small_id,
      natural_back p small_p,
      natural_back (count es) within_limit,
      numbers_back nodes es small,
      le-leb 1 (count es) some,
      eq-eqb (length (written_numbers nodes es)) (2 * count es) (numbers_twice nodes es),
      numbers_paired nodes es,
    ) refl

-- the line of a diagram whose primes and subs are known, and whose id is new
pub line_back : (v n : ℕ) (before nodes : List Diagram) (ids : List ℕ) (d : Diagram) → length nodes < 10 ^ 18
    → IsReadable v d → ChildrenAmong before d → HaveIds before nodes ids → index_of_id (index_in d nodes) ids ≡ None
    → entry_with v ids (record { number = n; words = node_words nodes d }) ≡ Ok (written_entry nodes d)
line_back v n before nodes ids Bottom small fits there known new =
    rw (natural_back (index_in Bottom nodes) (omega (arith, index_most Bottom nodes)), new) refl
line_back v n before nodes ids Top small fits there known new =
    rw (natural_back (index_in Top nodes) (omega (arith, index_most Top nodes)), new) refl
line_back v n before nodes ids (Literal p x positive) small fits there known new =
    let id = index_in (Literal p x positive) nodes in
    rw (
      natural_back id (omega (arith, index_most (Literal p x positive) nodes)),
      natural_back p fits.0,
      literal_back x positive fits.3,
      new,
      literal_within v x positive fits.1 fits.2,
    ) refl
line_back v n before nodes ids (Decomposition p es) small fits there known new =
    let id = index_in (Decomposition p es) nodes in
    let form = decomposition_back nodes id p es small (omega (arith, index_most (Decomposition p es) nodes)) fits.0
    fits.1 fits.2 in
    rw (form, new, pairs_found before nodes ids n es known there) refl
