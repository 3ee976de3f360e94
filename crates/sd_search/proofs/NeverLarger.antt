-- A walk, a round and a search never come to a larger size than that at their start.
use Rattle.std.proofs.Common.{ℕ, ◌*◌, ◌/◌, ◌≤◌, List, [], ◌∷◌, subst}
use native.Mathlib.Omega.{arith}
use Rattle.std.specs.List.{AllByRecursion}
use Rattle.sd_model.specs.Expression.{Expression}
use Rattle.sd_model.specs.Tree.{Tree, IsVtree}
use Rattle.sd_model.specs.Size.{HasSize}
use Rattle.sd_model.specs.declared.trees.Side.{Side}
use Rattle.sd_model.proofs.Determined.{size_determined}
use Rattle.sd_search.specs.Search.{WalkMove, walk_moves, LeadWithin, State, IsWalk}
use Rattle.sd_search.specs.Search.{IsRound, round_at_leaf, round_at_node}
use Rattle.sd_search.specs.Search.{Found, IsSearch, no_round, last_round, further_round}
use Rattle.sd_search.proofs.LeastState.{all_middle, least_within, least_of, first_of}
use Rattle.sd_search.proofs.Determined.{walk_valid, round_valid}

-- the formulas have a size under the tree that is at most n
record HasSizeWithin (fs : List Expression) (t : Tree) (n : ℕ) : Type 0 where
  pub size : ℕ
  pub is : HasSize fs t size
  pub within : size ≤ n

-- the states that moves lead through have their sizes
pub through_sized : (fs : List Expression) (bound : ℕ) (t : Tree) (path : List Side) (ms : List WalkMove)
    (states : List State) → LeadWithin fs bound t path ms states → AllByRecursion (λ s. HasSize fs s.tree s.size) states
through_sized fs bound t path ms [] h = tt
through_sized fs bound t path [] (s ∷ states) h = cc
through_sized fs bound t path (m ∷ ms) (s ∷ states) h = (h.1, through_sized fs bound s.tree path ms states h.3)

walk_within : (fs : List Expression) (slack : ℕ) (t : Tree) (path : List Side) (u : Tree) (n : ℕ) → IsVtree t →
    HasSize fs t n → IsWalk fs slack t path u → HasSizeWithin fs u n
walk_within fs slack t path u n valid size p =
    let start : State = record { tree = t; size = p.size } in
    let first = first_of p in
    let sized : AllByRecursion (λ s. HasSize fs s.tree s.size) (start ∷ p.states) =
    (p.start, through_sized fs (p.size * slack / 100) t path (walk_moves p.here) p.states p.through) in
    let least =
    all_middle (λ s. HasSize fs s.tree s.size) first.before first.behind (least_of p)
    (subst (AllByRecursion (λ s. HasSize fs s.tree s.size)) first.parts sized) in
    let within = least_within first.before first.behind p.states (least_of p) start first.parts first.larger in
    record {
      size = (least_of p).size;
      is = subst (λ v. HasSize fs v (least_of p).size) p.end least;
      within = omega (arith, within, size_determined t fs p.size n valid p.start size);
    }

-- a size within a smaller one
within_both : {fs : List Expression} {t : Tree} {m n : ℕ} → m ≤ n → HasSizeWithin fs t m → HasSizeWithin fs t n
within_both le h = record { size = h.size; is = h.is; within = omega (arith, le, h.within) }

round_within : {fs : List Expression} {slack : ℕ} {start end : Tree} {way : List Side} {n : ℕ} → IsVtree start →
    HasSize fs start n → IsRound fs slack start way end → HasSizeWithin fs end n
round_within {n} valid size (round_at_leaf x e) = record { size = n; is = size; within = omega arith }
round_within {fs} {slack} {start} {end} {way} {n} valid size (round_at_node {u} l r e walk p q) =
    let walked = walk_within fs slack start way u n valid size walk in
    let next = walk_valid fs slack start way u valid walk in
    let left = round_within next walked.is p in
    within_both walked.within (within_both left.within (round_within (round_valid next p) left.is q))

-- The result of a search is no larger than its start, and it has the size that the search tells.
pub search_within : {fs : List Expression} {slack rounds : ℕ} {start : Tree} {found : Found} → IsVtree start →
    IsSearch fs slack rounds start found → (found.after ≤ found.before) × HasSize fs found.tree found.after
search_within valid (no_round size) = (omega arith, size)
search_within {fs} valid (last_round {u} {n} {k} size round after no_less) =
    let ended = round_within valid size round in
    (omega (arith, ended.within, size_determined u fs ended.size k (round_valid valid round) ended.is after), after)
search_within valid (further_round size round less more) =
    let rest = search_within (round_valid valid round) more in
    (omega (arith, rest.0, less), rest.1)
