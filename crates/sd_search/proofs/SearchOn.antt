-- A search, round by round.
use Rattle.std.proofs.Common.{◌≡◌, ℕ, zero, suc, ◌+◌, ◌-◌, ◌≤◌, ◌<◌, List, [], Some, None, length, refl, sym}
use Rattle.std.proofs.Common.{ap, subst, arith}
use Rattle.sd_model.specs.Expression.{Expression}
use Rattle.sd_model.specs.Size.{HasSize}
use Rattle.sd_model.specs.Tree.{Tree}
use Rattle.sd_model.specs.Diagram.{Diagram}
use Rattle.sd_model.specs.Size.{size_of}
use Rattle.sd_model.specs.declared.trees.Side.{Side}
use Rattle.sd_vtree.specs.Numbered.{number_of, numbers, plain_tree}
use Rattle.sd_manager.specs.Table.{Table}
use Rattle.sd_manager.specs.Valid.{IsTable}
use Rattle.sd_manager.specs.Marking.{AreUnmarked}
use Rattle.sd_sweep.specs.Reached.{AreHeldDiagrams}
use Rattle.sd_compile.specs.Total.{AreHeldFormulas}
use Rattle.sd_compile.proofs.Named.{held_size}
use Rattle.sd_search.specs.Search.{IsRound, IsRoundBegun, Found, IsSearch, no_round, last_round, further_round}
use Rattle.sd_search.specs.Search.{IsSearchBegun, in_round, after_round}
use Rattle.sd_search.specs.Kept.{KeepsRoots}
use Rattle.sd_search.specs.Walking.{IsSizeOfHeld}
use Rattle.sd_search.specs.Paths.{IsAtPath, KeepsAlong}
use Rattle.sd_search.proofs.AlongPaths.{along_at, place_along}
use Rattle.sd_search.proofs.KeptRoots.{shows_kept, kept_itself, kept_both, formulas_on}

-- what a search finds after so many rounds, by what is found from there on
abbrev pub found_after : ℕ → ℕ → Found → Found
found_after before done found =
    record { tree = found.tree; before = before; after = found.after; rounds = done + found.rounds }

-- After so many rounds a search from the first tree goes on from this one, which has this size.
pub record GoesOn (fs : List Expression) (slack rounds : ℕ) (start : Tree) (before done : ℕ) (now : Tree) (size : ℕ)
    : Type 0 where
  pub finds : (left : ℕ) (found : Found) → done + left ≡ rounds → found.before ≡ size
      → IsSearch fs slack left now found → IsSearch fs slack rounds start (found_after before done found)
  pub begins : (left : ℕ) (u : Tree) → done + left ≡ rounds → IsSearchBegun fs slack left now u
      → IsSearchBegun fs slack rounds start u

pub goes_first : (fs : List Expression) (slack rounds : ℕ) (start : Tree) (size : ℕ)
    → GoesOn fs slack rounds start size 0 start size
goes_first fs slack rounds start size = record {
  finds = λ left found same is h.
      let all : left ≡ rounds = omega (arith, same) in
      let none : found.rounds ≡ 0 + found.rounds = omega arith in
      subst (λ n. IsSearch fs slack n start (found_after size 0 found)) all
      (subst (λ n. IsSearch fs slack left start (found_after n 0 found)) is
      (subst (λ n. IsSearch fs slack left start
      (record { tree = found.tree; before = found.before; after = found.after; rounds = n })) none h));
  begins = λ left u same h.
      let all : left ≡ rounds = omega (arith, same) in subst (λ n. IsSearchBegun fs slack n start u) all h;
}

module _ (fs : List Expression) (slack rounds : ℕ) (start : Tree) (before done : ℕ) (now u : Tree) (size next : ℕ)
    (g : GoesOn fs slack rounds start before done now size) (sized : HasSize fs now size) where
  -- one more round that lessened the size
  pub goes_more : IsRound fs slack now [] u → HasSize fs u next → next < size
      → GoesOn fs slack rounds start before (done + 1) u next
  goes_more round then less = record {
    finds = λ left found same is h.
        let all = g.finds (suc left) (record
        { tree = found.tree; before = size; after = found.after; rounds = suc found.rounds })
        (omega (arith, same)) refl
        (further_round sized round (subst (λ n. n < size) (sym is) less) h) in
        let sum : done + suc found.rounds ≡ done + 1 + found.rounds = omega arith in
        subst (λ n. IsSearch fs slack rounds start
        (record { tree = found.tree; before = before; after = found.after; rounds = n })) sum all;
    begins = λ left v same h. g.begins (suc left) v (omega (arith, same)) (after_round sized round then less h);
  }

  -- one that did not is the last
  pub goes_last : done < rounds → IsRound fs slack now [] u → HasSize fs u next → size ≤ next
      → IsSearch fs slack rounds start (record { tree = u; before = before; after = next; rounds = done + 1 })
  goes_last less round then no_less =
      let left = rounds - done - 1 in
      g.finds (suc left) (record { tree = u; before = size; after = next; rounds = suc zero }) (omega (arith, less))
      refl
      (last_round sized round then no_less)

  -- one that was broken off
  pub goes_broken : done < rounds → IsRoundBegun fs slack now [] u → IsSearchBegun fs slack rounds start u
  goes_broken less h = g.begins (suc (rounds - done - 1)) u (omega (arith, less)) (in_round h)

-- all rounds are done
pub goes_end : (fs : List Expression) (slack rounds : ℕ) (start : Tree) (before done : ℕ) (now : Tree) (size : ℕ)
    → GoesOn fs slack rounds start before done now size → HasSize fs now size → done ≡ rounds
    → IsSearch fs slack rounds start (record { tree = now; before = before; after = size; rounds = rounds })
goes_end fs slack rounds start before done now size g sized same =
    let all = g.finds 0 (record { tree = now; before = size; after = size; rounds = 0 }) (omega (arith, same)) refl
    (no_round sized) in
    let sum : done + 0 ≡ rounds = omega (arith, same) in
    subst (λ n. IsSearch fs slack rounds start (record { tree = now; before = before; after = size; rounds = n })) sum
    all

-- ---- over tables

-- After so many rounds from the first table to this one, which has this size.
pub record IsSearching (old now : Table) (rounds slack root before done after : ℕ) : Type 0 where
  pub start : IsTable old
  pub table : IsTable now
  pub at_root : IsAtPath now.vtree [] root
  pub within : root < length (numbers now.vtree)
  pub kept : KeepsRoots old now
  pub size : IsSizeOfHeld now after
  pub goes : (fs : List Expression) → AreHeldFormulas old fs
      → GoesOn fs slack rounds (plain_tree old.vtree) before done (plain_tree now.vtree) after
  pub unmarked : AreUnmarked now

pub searching_first : (t : Table) (rounds slack root size : ℕ) → IsTable t → t.moving ≡ None → root ≡ number_of t.vtree
    → root < length (numbers t.vtree) → ((ds : List Diagram) → AreHeldDiagrams t ds → size ≡ size_of ds) → AreUnmarked t
    → IsSearching t t rounds slack root size 0 size
searching_first t rounds slack root size table still is within total unmarked = record {
  start = table;
  table = table;
  at_root = ap Some (sym is);
  within = within;
  kept = kept_itself t table still;
  size = λ fs held. held_size t table still fs held size total;
  goes = λ fs held. goes_first fs slack rounds (plain_tree t.vtree) size;
  unmarked = unmarked;
}

module _ (old now new : Table) (rounds slack root before done after : ℕ)
    (h : IsSearching old now rounds slack root before done after) (u : IsTable new) (kept : KeepsRoots now new) where
  -- the formulas before the round, with their size
  held_now : (fs : List Expression) → AreHeldFormulas old fs → AreHeldFormulas now fs
  held_now fs held = formulas_on old now fs h.start h.table (shows_kept old now h.kept) held

  -- and afterwards
  held_new : (fs : List Expression) → AreHeldFormulas old fs → AreHeldFormulas new fs
  held_new fs held = formulas_on now new fs h.table u (shows_kept now new kept) (held_now fs held)

  pub kept_on : KeepsRoots old new
  kept_on = kept_both old now new h.table h.kept kept

  module _ (next : ℕ) (size : IsSizeOfHeld new next)
      (round : (fs : List Expression) (path : List Side) → AreHeldFormulas now fs → IsAtPath now.vtree path root
      → IsRound fs slack (plain_tree now.vtree) path (plain_tree new.vtree)) where
    -- one more round
    pub searching_more : next < after
        → ((path : List Side) → IsAtPath now.vtree path root → KeepsAlong now.vtree new.vtree path) → AreUnmarked new
        → IsSearching old new rounds slack root before (done + 1) next
    searching_more less along unmarked = record {
      start = h.start;
      table = u;
      at_root = along_at now.vtree new.vtree [] root (along [] h.at_root) h.at_root;
      within = place_along now.vtree new.vtree [] root (along [] h.at_root) h.within;
      kept = kept_on;
      size = size;
      goes = λ fs held.
          goes_more fs slack rounds (plain_tree old.vtree) before done (plain_tree now.vtree) (plain_tree new.vtree)
          after next (h.goes fs held) (h.size fs (held_now fs held)) (round fs [] (held_now fs held) h.at_root)
          (size fs (held_new fs held)) less;
      unmarked = unmarked;
    }

    -- the last one
    pub searching_last : done < rounds → after ≤ next → (fs : List Expression) → AreHeldFormulas old fs
        → IsSearch fs slack rounds (plain_tree old.vtree)
        (record { tree = plain_tree new.vtree; before = before; after = next; rounds = done + 1 })
    searching_last less no_less fs held =
        goes_last fs slack rounds (plain_tree old.vtree) before done (plain_tree now.vtree) (plain_tree new.vtree)
        after next (h.goes fs held) (h.size fs (held_now fs held)) less (round fs [] (held_now fs held) h.at_root)
        (size fs (held_new fs held)) no_less

  -- a round that was broken off
  pub searching_broken : done < rounds
      → ((fs : List Expression) (path : List Side) → AreHeldFormulas now fs → IsAtPath now.vtree path root
      → IsRoundBegun fs slack (plain_tree now.vtree) path (plain_tree new.vtree))
      → (fs : List Expression) → AreHeldFormulas old fs
      → IsSearchBegun fs slack rounds (plain_tree old.vtree) (plain_tree new.vtree)
  searching_broken less begun fs held =
      goes_broken fs slack rounds (plain_tree old.vtree) before done (plain_tree now.vtree) (plain_tree new.vtree)
      after after (h.goes fs held) (h.size fs (held_now fs held)) less (begun fs [] (held_now fs held) h.at_root)

-- the root stands where it stood
pub root_stays : (old now new : Table) (rounds slack root before done after : ℕ)
    → IsSearching old now rounds slack root before done after
    → ((path : List Side) → IsAtPath now.vtree path root → KeepsAlong now.vtree new.vtree path)
    → IsAtPath new.vtree [] root
root_stays old now new rounds slack root before done after h along =
    along_at now.vtree new.vtree [] root (along [] h.at_root) h.at_root

-- all rounds are done
pub searching_end : (old now : Table) (rounds slack root before done after : ℕ)
    → IsSearching old now rounds slack root before done after → done ≡ rounds
    → (fs : List Expression) → AreHeldFormulas old fs
    → IsSearch fs slack rounds (plain_tree old.vtree)
    (record { tree = plain_tree now.vtree; before = before; after = after; rounds = rounds })
searching_end old now rounds slack root before done after h same fs held =
    goes_end fs slack rounds (plain_tree old.vtree) before done (plain_tree now.vtree) after (h.goes fs held)
    (h.size fs (formulas_on old now fs h.start h.table (shows_kept old now h.kept) held)) same
