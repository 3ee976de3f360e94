-- The table of the inner nodes of a vtree.
use Rattle.std.proofs.Common.{◌≡◌, ◌⊎◌, inl, inr, ℕ, zero, suc, ◌+◌, ◌-◌, ◌*◌, ◌<◌, ◌≤◌, List, [], ◌∷◌, ◌++◌, length}
use Rattle.std.proofs.Common.{get_or, set, Option, Some, None, refl, sym, ◌∙◌, ap, arith, length-append}
use Rattle.std.proofs.Common.{append_assoc}
use Rattle.std.specs.Prelude.{option_map}
use Rattle.std.proofs.lemmas.Bool.{cases_lt}
use Rattle.std.proofs.lemmas.List.{get_or_append_left}
use Rattle.std.proofs.Math.Seq.{get_or-append_seam, get_or-append_right}
use Rattle.sd_model.specs.Tree.{Tree, Leaf, Node, leaves, position, right_base}
use Rattle.sd_vtree.specs.Numbered.{or_else}
use Rattle.sd_laws.proofs.Places.{leaves_positive}
use Rattle.sd_vtree.proofs.Building.{leaves_node}
use Rattle.sd_check.specs.declared.forks.Fork.{Fork}
use Rattle.sd_check.specs.Rules.{Inner, inner_at}
use Rattle.sd_check.specs.Forks.{inner_view, fork_of, forks_from, AreForks}
use Rattle.sd_check.proofs.Inners.{inner_range, none_behind, other_node, own_node}

-- there are as many as positions
pub length_forks : (t : Tree) (b : ℕ) → length (forks_from t b) + 1 ≡ 2 * leaves t
length_forks (Leaf x) b = omega arith
length_forks (Node l r) b =
    omega (
      arith,
      length-append (forks_from l b) (Some (fork_of l r b) ∷ forks_from r (right_base l b)),
      length_forks l b,
      length_forks r (right_base l b),
      leaves_node l r,
    )

-- behind the left child's
length_left : (old mid : List (Option Fork)) (l : Tree) → mid ≡ old ++ forks_from l (length old) →
    length mid + 1 ≡ length old + 2 * leaves l
length_left old mid l e =
    omega (arith, ap length e, length-append old (forks_from l (length old)), length_forks l (length old))

-- there is room for the right child
pub room_left : (old mid : List (Option Fork)) (l r t : Tree) (n : ℕ) → t ≡ Node l r →
    mid ≡ old ++ forks_from l (length old) → length old + 2 * leaves t < n → length mid + 1 + 2 * leaves r < n
room_left old mid l r t n et e h =
    let p : leaves t ≡ leaves (Node l r) = ap leaves et in
    omega (arith, length_left old mid l e, leaves_node l r)

-- and for the end
pub room_all : (old mid after last : List (Option Fork)) (l r t : Tree) (h : Option Fork) (n : ℕ) → t ≡ Node l r →
    mid ≡ old ++ forks_from l (length old) → after ≡ mid ++ h ∷ [] → last ≡ after ++ forks_from r (length after) →
    length old + 2 * leaves t < n → length last < n
room_all old mid after last l r t h n et e f g k =
    omega (
      arith,
      room_left old mid l r t n et e k,
      ap length f,
      length-append mid (h ∷ []),
      ap length g,
      length-append after (forks_from r (length after)),
      length_forks r (length after),
    )

-- what is written behind a list
set_behind : (xs ys : List (Option Fork)) (h v : Option Fork) → set (xs ++ h ∷ ys) (length xs) v ≡ xs ++ v ∷ ys
set_behind [] ys h v = refl
set_behind (x ∷ xs) ys h v = ap (λ l. x ∷ l) (set_behind xs ys h v)

-- the node's own place is filled when both children's are there
pub node_filled : (old mid after last : List (Option Fork)) (l r t : Tree) (h : Option Fork) (first middle end : ℕ) →
    t ≡ Node l r → first ≡ length old → middle ≡ length mid → end ≡ length last →
    mid ≡ old ++ forks_from l (length old) → after ≡ mid ++ h ∷ [] → last ≡ after ++ forks_from r (length after) →
    set last middle (Some (record { first = first; middle = middle; end = end }))
    ≡ old ++ forks_from t (length old)
node_filled old mid after last l r t h first middle end et e1 e2 e3 e f g =
    let b = length old in
    let left = length_left old mid l e in
    let some = leaves_positive l in
    let next : length after ≡ right_base l b = omega (arith, ap length f, length-append mid (h ∷ []), left) in
    let own : middle ≡ position (Node l r) b = omega (arith, e2, left, some) in
    let ends : end ≡ right_base r (right_base l b) - 1 =
    omega (
      arith,
      e3,
      next,
      ap length g,
      length-append after (forks_from r (length after)),
      length_forks r (length after),
      leaves_positive r,
    ) in
    let v : Option Fork = Some (fork_of l r b) in
    let fork : ◌≡◌ {A = Fork} (record { first = first; middle = middle; end = end }) (fork_of l r b) =
    λ i. record { first = e1 i; middle = own i; end = ends i } in
    let all : last ≡ mid ++ h ∷ forks_from r (right_base l b) =
    g ∙ ap (λ n. after ++ forks_from r n) next ∙ ap (λ xs. xs ++ forks_from r (right_base l b)) f
    ∙ append_assoc mid (h ∷ []) (forks_from r (right_base l b)) in
    ap (λ k. set last middle (Some k)) fork ∙ ap (λ n. set last n v) e2 ∙ ap (λ xs. set xs (length mid) v) all
    ∙ set_behind mid (forks_from r (right_base l b)) h v
    ∙ ap (λ xs. xs ++ v ∷ forks_from r (right_base l b)) e
    ∙ append_assoc old (forks_from l b) (v ∷ forks_from r (right_base l b))
    ∙ ap (λ x. old ++ forks_from x b) (sym et)

-- nothing beside
or_else_none : (o : Option Inner) → o ≡ or_else o None
or_else_none None = refl
or_else_none (Some i) = refl

-- nothing is found before the tree's positions
none_before : (t : Tree) (b p : ℕ) → p < b → inner_at t b p ≡ None
none_before t b p h = go (inner_at t b p) refl
  where
    go : (o : Option Inner) → inner_at t b p ≡ o → inner_at t b p ≡ None
    go None e = e
    go (Some i) e = absurd (omega (arith, h, (inner_range t b p i e).0))

-- each place tells what stands at its position
pub forks_tell : (t : Tree) (b k : ℕ) → option_map inner_view (get_or (forks_from t b) k None) ≡ inner_at t b (b + k)
forks_tell (Leaf x) b zero = refl
forks_tell (Leaf x) b (suc k) = refl
forks_tell (Node l r) b k =
    go (forks_tell l b k) (λ j. forks_tell r (right_base l b) j) (cases_lt k (length ls)) (cases_lt (length ls) k)
  where
    ls : List (Option Fork)
    ls = forks_from l b

    rs : List (Option Fork)
    rs = forks_from r (right_base l b)

    v : Option Fork
    v = Some (fork_of l r b)

    count : length ls + 1 ≡ 2 * leaves l
    count = length_forks l b

    go : option_map inner_view (get_or ls k None) ≡ inner_at l b (b + k) →
        ((j : ℕ) → option_map inner_view (get_or rs j None) ≡ inner_at r (right_base l b) (right_base l b + j)) →
        (k < length ls) ⊎ (length ls ≤ k) → (length ls < k) ⊎ (k ≤ length ls) →
        option_map inner_view (get_or (ls ++ v ∷ rs) k None) ≡ inner_at (Node l r) b (b + k)
    go il ir (inl below) other =
        ap (option_map inner_view) (get_or_append_left ls (v ∷ rs) None k below)
        ∙ il ∙ or_else_none (inner_at l b (b + k))
        ∙ ap (or_else (inner_at l b (b + k)))
        (sym (none_before r (right_base l b) (b + k) (omega (arith, count, below))))
        ∙ sym (other_node l r b (b + k) (λ e. omega (arith, e, count, below)))
    go il ir (inr le) (inr ge) =
        let same : k ≡ length ls = omega arith in
        let own : position (Node l r) b ≡ b + k = omega (arith, count, same) in
        ap (λ n. option_map inner_view (get_or (ls ++ v ∷ rs) n None)) same
        ∙ ap (option_map inner_view) (get_or-append_seam ls v rs None)
        ∙ sym (own_node l r b (b + k) own)
    go il ir (inr le) (inl more) =
        let j = k - (length ls + 1) in
        let cut : (k - length ls) ≡ suc j = omega (arith, more) in
        let place : right_base l b + j ≡ b + k = omega (arith, count, more) in
        ap (option_map inner_view)
        (get_or-append_right ls (v ∷ rs) k None le ∙ ap (λ n. get_or (v ∷ rs) n None) cut)
        ∙ ir j ∙ ap (inner_at r (right_base l b)) place
        ∙ ap (λ o. or_else o (inner_at r (right_base l b) (b + k)))
        (sym (none_behind l b (b + k) (omega (arith, count, more))))
        ∙ sym (other_node l r b (b + k) (λ e. omega (arith, e, count, more)))

-- so they are the forks of the tree
pub forks_all : (t u : Tree) (forks : List (Option Fork)) → u ≡ t → forks ≡ [] ++ forks_from u 0 → AreForks t forks
forks_all t u forks same e p =
    ap (λ xs. option_map inner_view (get_or xs p None)) e ∙ forks_tell u 0 p
    ∙ ap (inner_at u 0) (let e : 0 + p ≡ p = omega arith in e) ∙ ap (λ x. inner_at x 0 p) same
