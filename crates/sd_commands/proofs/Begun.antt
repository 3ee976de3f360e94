-- A search that is done has also begun: what holds of a tree where one may have been broken off holds where it is done.
use Rattle.std.proofs.Common.{◌≡◌, ◌⊎◌, ℕ, zero, suc, ◌<◌, Bool, true, false, List, [], refl, sym, subst, inl, inr}
use Rattle.sd_model.specs.Tree.{Tree}
use Rattle.sd_model.specs.Expression.{Expression}
use Rattle.sd_model.specs.Size.{HasSize}
use Rattle.sd_model.specs.declared.trees.Side.{Side}
use Rattle.sd_search.specs.Search.{IsRound, round_at_leaf, round_at_node, IsRoundBegun, nothing_done, begun_on_right}
use Rattle.sd_search.specs.Search.{Found, IsSearch, no_round, last_round, further_round}
use Rattle.sd_search.specs.Search.{IsSearchBegun, in_round, after_round}
use Rattle.sd_formula.specs.Dimacs.{Groups}
use Rattle.sd_commands.specs.Commands.{State, IsSearched, Follows, FollowsBy, Grows, GrowsBy, with_groups}

-- a round that is done has begun
round_begun : {fs : List Expression} {slack : ℕ} {start end : Tree} {path : List Side}
    → IsRound fs slack start path end → IsRoundBegun fs slack start path end
round_begun (round_at_leaf x at) = nothing_done
round_begun (round_at_node l r at walk left right) = begun_on_right l r at walk left (round_begun right)

-- a search says the size at its start
size_before : {fs : List Expression} {slack rounds : ℕ} {start : Tree} {found : Found}
    → IsSearch fs slack rounds start found → HasSize fs start found.before
size_before (no_round size) = size
size_before (last_round size round after no_less) = size
size_before (further_round size round less more) = size

-- a round that lessens the size, before a search that leaves its tree or has begun
begun_after : (fs : List Expression) (slack rounds n k : ℕ) (start mid end : Tree) → HasSize fs start n
    → IsRound fs slack start [] mid → HasSize fs mid k → k < n
    → (end ≡ mid) ⊎ IsSearchBegun fs slack rounds mid end → IsSearchBegun fs slack (suc rounds) start end
begun_after fs slack rounds n k start mid end size round after less (inl same) =
    in_round (subst (λ u. IsRoundBegun fs slack start [] u) (sym same) (round_begun round))
begun_after fs slack rounds n k start mid end size round after less (inr begun) =
    after_round size round after less begun

-- a search that is done has begun, and one of no round leaves its tree
pub search_begun : {fs : List Expression} {slack rounds : ℕ} {start : Tree} {found : Found}
    → IsSearch fs slack rounds start found
    → (found.tree ≡ start) ⊎ IsSearchBegun fs slack rounds start found.tree
search_begun (no_round size) = inl refl
search_begun (last_round size round after no_less) = inr (in_round (round_begun round))
search_begun {fs} {slack} {rounds} {start} (further_round {u} {rounds = r} {n} {found} size round less more) =
    inr (begun_after fs slack r n found.before start u found.tree size round (size_before more) less
    (search_begun more))

-- so has one of one round, whatever it found
begun_once : {fs : List Expression} {slack : ℕ} {before after : Tree} → IsSearched fs slack 1 before after
    → IsSearchBegun fs slack 1 before after
begun_once {fs} {slack} {before} (found, search, is) =
    subst (IsSearchBegun fs slack 1 before) (sym is) (once (search_begun search))
  where
    once : {after : Tree} → (after ≡ before) ⊎ IsSearchBegun fs slack 1 before after
        → IsSearchBegun fs slack 1 before after
    once (inl same) = subst (IsSearchBegun fs slack 1 before) (sym same) (in_round nothing_done)
    once (inr begun) = begun

-- so the one behind a group has, where it was due
follows_begun : (due : Bool) (fs : List Expression) (slack : ℕ) (before after : Tree)
    → Follows due fs slack before after → FollowsBy IsSearchBegun due fs slack before after
follows_begun true fs slack before after done = begun_once done
follows_begun false fs slack before after same = same

-- groups with each search done lead to a tree at which the last one has begun
pub grows_begun : (input : Groups) (state : State) (n : ℕ) (tree : Tree) → Grows input state n tree
    → GrowsBy IsSearchBegun input state n tree
grows_begun input state zero tree p = p
grows_begun input state (suc n) tree (before, course, within, follows) =
    (before, course, within, follows_begun _ (with_groups input state (suc n)) state.slack before tree follows)
