-- A walk, a round and a search have one result each, and it is a vtree.
use Rattle.std.proofs.Common.{◌≡◌, ℕ, zero, suc, ◌*◌, ◌/◌, List, [], ◌∷◌, ◌++◌}
use Rattle.std.proofs.Common.{Some, refl, sym, ◌∙◌, ap, subst}
use native.Mathlib.Omega.{arith}
use Rattle.std.specs.List.{AllByRecursion}
use Rattle.sd_model.specs.Expression.{Expression}
use Rattle.sd_model.specs.Tree.{Tree, IsVtree}
use Rattle.sd_model.specs.Size.{HasSize}
use Rattle.sd_model.specs.Moves.{moved}
use Rattle.sd_model.specs.declared.trees.Side.{Side}
use Rattle.sd_model.specs.declared.trees.Side.TheVariants.{Left, Right}
use Rattle.sd_model.proofs.Determined.{size_determined}
use Rattle.sd_search.specs.Search.{WalkMove, walk_moves, LeadWithin, State, first_least, IsWalk}
use Rattle.sd_search.specs.Search.{IsRound, round_at_leaf, round_at_node}
use Rattle.sd_search.specs.Search.{Found, IsSearch, no_round, last_round, further_round}
use Rattle.sd_search.proofs.LeastState.{all_middle, least_of, first_of}
use Rattle.sd_search.proofs.Moved.{moved_vtree}

-- ---- a walk

-- the trees that moves lead through are vtrees
through_valid : (fs : List Expression) (bound : ℕ) (t : Tree) (path : List Side) (ms : List WalkMove)
    (states : List State) → IsVtree t → LeadWithin fs bound t path ms states →
    AllByRecursion (λ s. IsVtree s.tree) states
through_valid fs bound t path ms [] v h = tt
through_valid fs bound t path [] (s ∷ states) v h = cc
through_valid fs bound t path (m ∷ ms) (s ∷ states) v h =
    let next = moved_vtree m.kind t (path ++ m.below) s.tree h.0 v in
    (next, through_valid fs bound s.tree path ms states next h.3)

-- a state with the tree and the size of another one is that one
same_state : (a b : State) → a.tree ≡ b.tree → a.size ≡ b.size → a ≡ b
same_state a b e f =
    let with_tree : Tree → State = λ t. record { tree = t; size = a.size } in
    let with_size : ℕ → State = λ n. record { tree = b.tree; size = n } in
    ap with_tree e ∙ ap with_size f

-- a moved tree is one, and has one size
one_size : (fs : List Expression) (t : Tree) (path : List Side) (m : WalkMove) (u v : Tree) (n k : ℕ) → IsVtree t →
    moved m.kind t (path ++ m.below) ≡ Some u → HasSize fs u n →
    moved m.kind t (path ++ m.below) ≡ Some v → HasSize fs v k → (u ≡ v) × (n ≡ k)
one_size fs t path m u v n k valid p q r s =
    let tree : u ≡ v = (let e = sym p ∙ r in cc) in (
      tree,
      size_determined u fs n k (moved_vtree m.kind t (path ++ m.below) u p valid) q
          (subst (λ w. HasSize fs w k) (sym tree) s),
    )

-- moves lead through one list of states within a bound
states_determined : (fs : List Expression) (bound : ℕ) (t : Tree) (path : List Side) (ms : List WalkMove)
    (us vs : List State) → IsVtree t → LeadWithin fs bound t path ms us → LeadWithin fs bound t path ms vs → us ≡ vs
states_determined fs bound t path [] us vs v p q = p ∙ sym q
states_determined fs bound t path (m ∷ ms) [] [] v p q = refl
states_determined fs bound t path (m ∷ ms) [] (b ∷ vs) v p q =
    let one = one_size fs t path m p.0 b.tree p.1 b.size v p.2 p.3 q.0 q.1 in
    absurd (omega (arith, one.1, p.4, q.2))
states_determined fs bound t path (m ∷ ms) (a ∷ us) [] v p q =
    let one = one_size fs t path m a.tree q.0 a.size q.1 v p.0 p.1 q.2 q.3 in
    absurd (omega (arith, one.1, q.4, p.2))
states_determined fs bound t path (m ∷ ms) (a ∷ us) (b ∷ vs) v p q =
    let one = one_size fs t path m a.tree b.tree a.size b.size v p.0 p.1 q.0 q.1 in
    let next = moved_vtree m.kind t (path ++ m.below) a.tree p.0 v in
    let rest : us ≡ vs =
    states_determined fs bound a.tree path ms us vs next p.3
    (subst (λ t. LeadWithin fs bound t path ms vs) (sym one.0) q.3) in
    let head = same_state a b one.0 one.1 in
    cc

pub walk_determined : (fs : List Expression) (slack : ℕ) (t : Tree) (path : List Side) (u v : Tree) → IsVtree t →
    IsWalk fs slack t path u → IsWalk fs slack t path v → u ≡ v
walk_determined fs slack t path u v valid p q =
    let here : p.here ≡ q.here = (let e = sym p.at ∙ q.at in cc) in
    let size : p.size ≡ q.size = size_determined t fs p.size q.size valid p.start q.start in
    let states : p.states ≡ q.states =
    states_determined fs (p.size * slack / 100) t path (walk_moves p.here) p.states q.states valid p.through
    (subst (λ n. LeadWithin fs (n * slack / 100) t path (walk_moves p.here) q.states) (sym size)
    (subst (λ h. LeadWithin fs (q.size * slack / 100) t path (walk_moves h) q.states) (sym here) q.through)) in
    sym p.end ∙ ap (λ n. (first_least (record { tree = t; size = n }) p.states).tree) size
    ∙ ap (λ ss. (first_least (record { tree = t; size = q.size }) ss).tree) states ∙ q.end

pub walk_valid : (fs : List Expression) (slack : ℕ) (t : Tree) (path : List Side) (u : Tree) → IsVtree t →
    IsWalk fs slack t path u → IsVtree u
walk_valid fs slack t path u valid p =
    let all = through_valid fs (p.size * slack / 100) t path (walk_moves p.here) p.states valid p.through in
    let each : AllByRecursion (λ s. IsVtree s.tree) (record { tree = t; size = p.size } ∷ p.states) = (valid, all) in
    subst IsVtree p.end
    (all_middle (λ s. IsVtree s.tree) (first_of p).before (first_of p).behind (least_of p)
    (subst (AllByRecursion (λ s. IsVtree s.tree)) (first_of p).parts each))

-- ---- rounds and searches

pub round_valid : {fs : List Expression} {slack : ℕ} {start end : Tree} {way : List Side} → IsVtree start →
    IsRound fs slack start way end → IsVtree end
round_valid valid (round_at_leaf x e) = valid
round_valid {fs} {slack} {start} {end} {way} valid (round_at_node {u} l r e walk p q) =
    round_valid (round_valid (walk_valid fs slack start way u valid walk) p) q

pub round_determined : {fs : List Expression} {slack : ℕ} {start a b : Tree} {way : List Side} → IsVtree start →
    IsRound fs slack start way a → IsRound fs slack start way b → a ≡ b
round_determined valid (round_at_leaf x e) (round_at_leaf y f) = refl
round_determined valid (round_at_leaf x e) (round_at_node l r f walk p q) = cc
round_determined valid (round_at_node l r e walk p q) (round_at_leaf y f) = cc
round_determined {fs} {slack} {start} {a} {b} {way} valid (round_at_node {u} {v} l r e walk p q)
    (round_at_node {u = u'} {v = v'} l' r' e' walk' p' q') =
    let walked : u ≡ u' = walk_determined fs slack start way u u' valid walk walk' in
    let next = walk_valid fs slack start way u valid walk in
    let left : v ≡ v' =
    round_determined next p (subst (λ x. IsRound fs slack x (way ++ Left ∷ []) v') (sym walked) p') in
    round_determined (round_valid next p) q (subst (λ x. IsRound fs slack x (way ++ Right ∷ []) b) (sym left) q')

-- a search says the size at its start
pub search_before : {fs : List Expression} {slack rounds : ℕ} {start : Tree} {found : Found} →
    IsSearch fs slack rounds start found → HasSize fs start found.before
search_before (no_round size) = size
search_before (last_round size round after no_less) = size
search_before (further_round size round less more) = size

-- what a search finds with one more round before it
abbrev with_round : ℕ → Found → Found
with_round n found = record { tree = found.tree; before = n; after = found.after; rounds = suc found.rounds }

-- one round that does not lessen the size
abbrev with_last : Tree → ℕ → ℕ → Found
with_last u n k = record { tree = u; before = n; after = k; rounds = suc zero }

-- none
abbrev with_none : Tree → ℕ → Found
with_none t n = record { tree = t; before = n; after = n; rounds = zero }

pub search_determined : {fs : List Expression} {slack rounds : ℕ} {start : Tree} {a b : Found} → IsVtree start →
    IsSearch fs slack rounds start a → IsSearch fs slack rounds start b → a ≡ b
search_determined {fs} {slack} {rounds} {start} valid (no_round {n} size) (no_round {n = n'} size') =
    ap (with_none start) (size_determined start fs n n' valid size size')
search_determined {fs} {slack} {rounds} {start} valid (last_round {u} {n} {k} size round after no_less)
    (last_round {u = u'} {n = n'} {k = k'} size' round' after' no_less') =
    let same : u ≡ u' = round_determined valid round round' in
    let sizes : k ≡ k' =
    size_determined u' fs k k' (round_valid valid round') (subst (λ x. HasSize fs x k) same after) after' in
    ap (λ x. with_last x n k) same ∙ ap (λ x. with_last u' x k) (size_determined start fs n n' valid size size')
    ∙ ap (with_last u' n') sizes
search_determined {fs} {slack} {rounds} {start} valid (last_round {u} {n} {k} size round after no_less)
    (further_round {u = u'} {n = n'} {found = found'} size' round' less more) =
    let same : u' ≡ u = round_determined valid round' round in
    let sizes : found'.before ≡ k =
    size_determined u fs found'.before k (round_valid valid round)
    (subst (λ x. HasSize fs x found'.before) same (search_before more)) after in
    absurd (omega (arith, sizes, no_less, less, size_determined start fs n n' valid size size'))
search_determined {fs} {slack} {rounds} {start} valid (further_round {u} {n} {found} size round less more)
    (last_round {u = u'} {n = n'} {k = k'} size' round' after' no_less') =
    let same : u ≡ u' = round_determined valid round round' in
    let sizes : found.before ≡ k' =
    size_determined u' fs found.before k' (round_valid valid round')
    (subst (λ x. HasSize fs x found.before) same (search_before more)) after' in
    absurd (omega (arith, sizes, no_less', less, size_determined start fs n n' valid size size'))
search_determined {fs} {slack} {rounds} {start} valid (further_round {u} {rounds = r} {n} {found} size round less more)
    (further_round {u = u'} {n = n'} {found = found'} size' round' less' more') =
    let same : u' ≡ u = round_determined valid round' round in
    let rest : found ≡ found' =
    search_determined (round_valid valid round) more
    (subst (λ x. IsSearch fs slack r x found') same more') in
    ap (λ x. with_round x found) (size_determined start fs n n' valid size size') ∙ ap (with_round n') rest
