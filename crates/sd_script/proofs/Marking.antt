-- What one more command changes.
use Rattle.std.proofs.Common.{◌≡◌, ℕ, ◌+◌, Bool, true, false, not, ◌&&◌, ◌||◌, List, [], ◌∷◌, ◌++◌}
use Rattle.std.proofs.Common.{refl, ap, ◌∙◌, arith, cond, append-nil, zero-add}
use Rattle.std.proofs.lemmas.Bool.Decides.{nat_tests}
use Rattle.std.proofs.lemmas.List.Concat.{flat_map-append}
use Rattle.std.proofs.lemmas.List.Folds.{list_any-append}
use Rattle.std.proofs.lemmas.List.Sums.{fold_push, sum_by-append}
use Rattle.std.proofs.lemmas.Map.Views.{any-filter_same}
use Rattle.std.specs.Prelude.{◌==◌, filter}
use Rattle.sd_script.specs.declared.command.Command.{Command}
use Rattle.sd_script.specs.Commands.{has, binds, frees, writes, bound, bound_after, written_files}
use Rattle.sd_script.specs.Commands.{is_load, loads}

-- equal numbers pass a test alike
same_test : (numbers : List ℕ) (i k : ℕ)
    → (k == i) ≡ true → not (has numbers k) ≡ not (has numbers i)
same_test numbers i k e =
    let same : k ≡ i = grind (arith, nat_tests) in ap (λ n. not (has numbers n)) same

-- a name is bound if the command binds it, or was bound and is not freed
pub bound_more : (cs : List Command) (c : Command) (i : ℕ)
    → has (bound (cs ++ c ∷ [])) i
    ≡ (has (binds c.action) i || (not (has (frees c.action) i) && has (bound cs) i))
bound_more cs c i =
    ap (λ names. has names i) (fold_push bound_after [] cs c)
    ∙ list_any-append (λ m. m == i) (binds c.action) (filter (λ n. not (has (frees c.action) n)) (bound cs))
    ∙ ap (λ b. has (binds c.action) i || b)
    (any-filter_same (λ m. m == i) (λ n. not (has (frees c.action) n)) (not (has (frees c.action) i))
    (same_test (frees c.action) i) (bound cs))

-- one test or the other
or_swap : (a b : Bool) → (a || b) ≡ (b || a)
or_swap true true = refl
or_swap true false = refl
or_swap false true = refl
or_swap false false = refl

-- a file is written if the command writes it, or was written
pub written_more : (cs : List Command) (c : Command) (i : ℕ)
    → has (written_files (cs ++ c ∷ [])) i ≡ (has (writes c.action) i || has (written_files cs) i)
written_more cs c i =
    ap (λ files. has files i) (flat_map-append (λ d. writes d.action) cs (c ∷ []))
    ∙ ap (λ files. has (written_files cs ++ files) i) (append-nil (writes c.action))
    ∙ list_any-append (λ m. m == i) (written_files cs) (writes c.action)
    ∙ or_swap (has (written_files cs) i) (has (writes c.action) i)

-- a command that loads is counted
pub loads_more : (cs : List Command) (c : Command)
    → loads (cs ++ c ∷ []) ≡ loads cs + cond (is_load c.action) 1 0
loads_more cs c =
    sum_by-append (λ d. cond (is_load d.action) 1 0) cs (c ∷ [])
    ∙ ap (λ n. loads cs + n) (zero-add (cond (is_load c.action) 1 0))

-- the three
pub ruleset more = (bound_more, written_more, loads_more)
