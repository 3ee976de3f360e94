-- A search keeps the number of leaves.
use Rattle.std.proofs.Common.{◌≡◌, ℕ, ◌*◌, ◌/◌, List, [], ◌∷◌, ◌++◌, refl, ◌∙◌, subst}
use Rattle.std.specs.List.{AllByRecursion}
use Rattle.sd_model.specs.Expression.{Expression}
use Rattle.sd_model.specs.Tree.{Tree, leaves}
use Rattle.sd_model.specs.declared.trees.Side.{Side}
use Rattle.sd_search.specs.Search.{WalkMove, walk_moves, LeadWithin, State, IsWalk}
use Rattle.sd_search.specs.Search.{IsRound, round_at_leaf, round_at_node}
use Rattle.sd_search.specs.Search.{Found, IsSearch, no_round, last_round, further_round}
use Rattle.sd_search.proofs.LeastState.{all_middle, least_of, first_of}
use Rattle.sd_search.proofs.Moved.{moved_leaves}

-- the trees that moves lead through have the leaves of the first
through_leaves : (fs : List Expression) (bound : ℕ) (t : Tree) (path : List Side) (ms : List WalkMove)
    (states : List State) → LeadWithin fs bound t path ms states
    → AllByRecursion (λ s. leaves s.tree ≡ leaves t) states
through_leaves fs bound t path ms [] h = tt
through_leaves fs bound t path [] (s ∷ states) h = cc
through_leaves fs bound t path (m ∷ ms) (s ∷ states) h =
    let same = (moved_leaves m.kind t (path ++ m.below) s.tree h.0).count in (
      same,
      subst (λ n. AllByRecursion (λ x. leaves x.tree ≡ n) states) same
          (through_leaves fs bound s.tree path ms states h.3),
    )

-- so has the one that a walk ends with
walk_leaves : (fs : List Expression) (slack : ℕ) (t : Tree) (path : List Side) (u : Tree) → IsWalk fs slack t path u
    → leaves u ≡ leaves t
walk_leaves fs slack t path u p =
    let all = through_leaves fs (p.size * slack / 100) t path (walk_moves p.here) p.states p.through in
    let each : AllByRecursion (λ s. leaves s.tree ≡ leaves t) (record { tree = t; size = p.size } ∷ p.states) =
    (refl, all) in
    subst (λ w. leaves w ≡ leaves t) p.end
    (all_middle (λ s. leaves s.tree ≡ leaves t) (first_of p).before (first_of p).behind (least_of p)
    (subst (AllByRecursion (λ s. leaves s.tree ≡ leaves t)) (first_of p).parts each))

round_leaves : {fs : List Expression} {slack : ℕ} {start end : Tree} {way : List Side}
    → IsRound fs slack start way end → leaves end ≡ leaves start
round_leaves (round_at_leaf x e) = refl
round_leaves {fs} {slack} {start} {end} {way} (round_at_node {u} l r e walk p q) =
    round_leaves q ∙ round_leaves p ∙ walk_leaves fs slack start way u walk

-- and the one that a search finds
pub search_leaves : {fs : List Expression} {slack rounds : ℕ} {start : Tree} {found : Found}
    → IsSearch fs slack rounds start found → leaves found.tree ≡ leaves start
search_leaves (no_round size) = refl
search_leaves (last_round size round after no_less) = round_leaves round
search_leaves (further_round size round less more) = search_leaves more ∙ round_leaves round
