-- The pairs of one more node, and one more node, behind the earlier ones.
use Rattle.std.proofs.Common.{◌≡◌, ℕ, suc, ◌+◌, ◌-◌, ◌≤◌, List, [], ◌∷◌, ◌++◌, map, length, take, drop}
use Rattle.std.proofs.Common.{length-drop, refl, sym, ap, ◌∙◌}
use Rattle.std.proofs.Common.{codes, arith, Result, Ok, Err, ok_or, slice_index_or, append_assoc, length-append}
use Rattle.std.proofs.lemmas.List.{take-append-le, drop-append-le, take_all, map_push}
use Rattle.std.proofs.Math.Seq.{drop-append_seam}
use Rattle.std.specs.List.{AllByRecursion}
use Rattle.sd_base.specs.Reading.{◌>>=◌, each}
use Rattle.sd_file.specs.declared.fault.SddFault.{SddFault}
use Rattle.sd_file.specs.declared.fault.SddFault.TheVariants.{OutOfMemory}
use Rattle.sd_file.specs.declared.file.FileNode.{FileNode}
use Rattle.sd_file.specs.declared.file.FileNode.TheVariants as kinds
use Rattle.sd_file.specs.declared.file.FileEntry.{FileEntry}
use Rattle.sd_base.specs.FaultTexts.{at_line}
use Rattle.sd_model.specs.Expression.{FileDecomposition}
use Rattle.sd_file.specs.Reads.{Node, Fails, two_by_two, index_of_id, pair_at}
use Rattle.sd_file.specs.Steps.{node_in, entry_in, entries_of, count_of, IsWithin, IsPutIn, put_before}

-- ---- one more pair

-- one more in front of what is left
put_more : {B E : Type 0} (front : List B) (y : B) (reading : Result (List B) E)
    → put_before (front ++ y ∷ []) reading ≡ put_before front (reading >>= λ ys. Ok (y ∷ ys))
put_more front y (Ok ys) = ap Ok (append_assoc front (y ∷ []) ys)
put_more front y (Err e) = refl

-- two readings, one after the other
abbrev pub two : {A B E : Type 0} → Result A E → Result B E → Result (A × B) E
two r t = do
  x ← r
  y ← t
  Ok (x, y)

-- they have no fault
both : {A B E : Type 0} (r : Result A E) (t : Result B E) (x : A) (y : B) → r ≡ Ok x → t ≡ Ok y → two r t ≡ Ok (x, y)
both (Ok a) (Ok b) x y r_is t_is = cc
both (Ok a) (Err e) x y r_is t_is = absurd cc
both (Err e) t x y r_is t_is = absurd cc

-- the first two of the numbers are a pair
pub pair_step : (ids : List ℕ) (line : ℕ) (rest : List ℕ) (front : List (ℕ × ℕ)) (p s : ℕ) → 2 ≤ length rest
    → ok_or (index_of_id (slice_index_or rest 0 0) ids) (at_line line (codes ": child unknown")) ≡ Ok p
    → ok_or (index_of_id (slice_index_or rest 1 0) ids) (at_line line (codes ": child unknown")) ≡ Ok s
    → put_before (front ++ (p, s) ∷ []) (each (pair_at ids line) (two_by_two (take (length rest - 2) (drop 2 rest))))
    ≡ put_before front (each (pair_at ids line) (two_by_two rest))
pair_step ids line [] front p s h prime_is sub_is = absurd (omega arith)
pair_step ids line (prime ∷ []) front p s h prime_is sub_is = absurd (omega arith)
pair_step ids line (prime ∷ sub ∷ others) front p s h prime_is sub_is =
    let here : pair_at ids line (prime, sub) ≡ Ok (p, s) = both _ _ p s prime_is sub_is in
    let later = each (pair_at ids line) (two_by_two others) in
    let all : take (length (prime ∷ sub ∷ others) - 2) others ≡ others = take_all _ others (omega arith) in
    ap (λ ns. put_before (front ++ (p, s) ∷ []) (each (pair_at ids line) (two_by_two ns))) all
    ∙ put_more front (p, s) later
    ∙ ap (λ (r : Result (ℕ × ℕ) (List ℕ)). put_before front (r >>= λ y. later >>= λ ys. Ok (y ∷ ys))) (sym here)

-- ---- a decomposition

-- as many results as there are elements
pub each_length : {A B E : Type 0} (f : A → Result B E) (xs : List A) (ys : List B) → each f xs ≡ Ok ys
    → length ys ≡ length xs
each_length f [] ys h = cc
each_length {A} {B} {E} f (x ∷ xs) ys h = go_on (f x) (each f xs) (each_length f xs) h
  where
    go_on : (r : Result B E) (rest : Result (List B) E) → ((zs : List B) → rest ≡ Ok zs → length zs ≡ length xs)
        → (r >>= λ y. rest >>= λ zs. Ok (y ∷ zs)) ≡ Ok ys → length ys ≡ suc (length xs)
    go_on (Ok y) (Ok zs) shorter h =
        let is : ys ≡ y ∷ zs = cc in
        ap length is ∙ ap suc (shorter zs refl)
    go_on (Ok y) (Err e) shorter h = absurd cc
    go_on (Err e) rest shorter h = absurd cc

-- no more pairs than numbers
pairs_short : (ns : List ℕ) → length (two_by_two ns) ≤ length ns
pairs_short [] = omega arith
pairs_short (p ∷ []) = omega arith
pairs_short (p ∷ s ∷ others) = omega (arith, pairs_short others)

-- the node of a vtree id and the pairs that were read
abbrev pub joined : ℕ → Result (List (ℕ × ℕ)) (List ℕ) → Result Node (List ℕ)
joined vtree reading = reading >>= λ places. Ok (vtree, FileDecomposition places)

-- the pairs that were put, and the node that has them
pub record IsTaken (before after : List (ℕ × ℕ)) (vtree : ℕ) (children : List ℕ)
    (reading : Result (List (ℕ × ℕ)) (List ℕ)) : Type 0 where
  pub put : IsPutIn before after
  pub longer : length before ≤ length after
  pub within_limit : length after - length before ≤ length children
  pub node : joined vtree reading
      ≡ Ok (vtree, FileDecomposition (take (length after - length before) (drop (length before) after)))

pub taken : (f : ℕ × ℕ → Result (ℕ × ℕ) (List ℕ)) (before after : List (ℕ × ℕ)) (vtree : ℕ) (children : List ℕ)
    → put_before before (each f (two_by_two children)) ≡ Ok after
    → IsTaken before after vtree children (each f (two_by_two children))
taken f before after vtree children h =
    of_reading (each f (two_by_two children)) (each_length f (two_by_two children)) h
  where
    of_reading : (reading : Result (List (ℕ × ℕ)) (List ℕ))
        → ((ys : List (ℕ × ℕ)) → reading ≡ Ok ys → length ys ≡ length (two_by_two children))
        → put_before before reading ≡ Ok after → IsTaken before after vtree children reading
    of_reading (Err e) counts h = absurd cc
    of_reading (Ok ys) counts h =
        let is : after ≡ before ++ ys = cc in
        let lengths : length after ≡ length before + length ys = ap length is ∙ length-append before ys in
        let rest : drop (length before) after ≡ ys = ap (drop (length before)) is ∙ drop-append_seam before ys in
        let all : take (length after - length before) (drop (length before) after) ≡ ys =
        ap (take (length after - length before)) rest ∙ take_all _ ys (omega (arith, lengths)) in
        record {
          put = record { more = ys; is = is };
          longer = omega (arith, lengths);
          within_limit = omega (arith, lengths, counts ys refl, pairs_short children);
          node = ap (λ zs. joined vtree (Ok zs)) (sym all);
        }

-- a fault of the pairs is that of the node
pub put_fails : (e : SddFault) (before : List (ℕ × ℕ)) (vtree : ℕ) (reading : Result (List (ℕ × ℕ)) (List ℕ))
    → Fails e (put_before before reading) → Fails e (joined vtree reading)
put_fails OutOfMemory before vtree reading h = tt
put_fails e before vtree (Ok ys) h = absurd cc
put_fails e before vtree (Err f) h = cc

-- ---- earlier nodes keep their pairs

-- a node keeps its pairs
node_same : (before more : List (ℕ × ℕ)) (start : ℕ) (node : FileNode) → start + count_of node ≤ length before
    → node_in (before ++ more) start node ≡ node_in before start node
node_same before more start (kinds.Constant value) within = refl
node_same before more start (kinds.Literal vtree literal) within = refl
node_same before more start (kinds.Decomposition vtree count) within =
    let short : count ≤ length (drop start before) = omega (arith, within, length-drop start before) in
    let behind = take-append-le count (drop start before) more short in
    let from = drop-append-le start before more (omega (arith, within)) in
    ap (λ ps. (vtree, FileDecomposition ps)) (ap (take count) from ∙ behind)

-- each node keeps its pairs
entries_same : (before more : List (ℕ × ℕ)) (kept : List FileEntry) → AllByRecursion (IsWithin (length before)) kept
    → entries_of kept (before ++ more) ≡ entries_of kept before
entries_same before more [] within = refl
entries_same before more (k ∷ kept) within =
    let here = node_same before more k.start k.node within.0 in
    rw (here, entries_same before more kept within.1) refl

-- one more node behind the others
pub entries_push : (before after : List (ℕ × ℕ)) (kept : List FileEntry) (k : FileEntry)
    → AllByRecursion (IsWithin (length before)) kept → IsPutIn before after
    → entries_of (kept ++ k ∷ []) after ≡ entries_of kept before ++ entry_in after k ∷ []
entries_push before after kept k within put =
    let same : entries_of kept after ≡ entries_of kept before =
    ap (entries_of kept) put.is ∙ entries_same before put.more kept within in
    map_push (entry_in after) kept k ∙ ap (λ es. es ++ entry_in after k ∷ []) same

-- pairs stay in a longer list
within_more : (total more : ℕ) (kept : List FileEntry) → total ≤ more → AllByRecursion (IsWithin total) kept
    → AllByRecursion (IsWithin more) kept
within_more total more [] h within = tt
within_more total more (k ∷ kept) h within = (omega (arith, h, within.0), within_more total more kept h within.1)

-- and so do those of one more node
pub within_push : (before after : List (ℕ × ℕ)) (kept : List FileEntry) (k : FileEntry)
    → AllByRecursion (IsWithin (length before)) kept → IsPutIn before after → IsWithin (length after) k
    → AllByRecursion (IsWithin (length after)) (kept ++ k ∷ [])
within_push before after [] k within put last = (last, tt)
within_push before after (x ∷ kept) k within put last =
    let longer = ap length put.is ∙ length-append before put.more in
    (omega (arith, longer, within.0), within_push before after kept k within.1 put last)

-- the ids of nodes do not depend on pairs
pub ids_same : (kept : List FileEntry) (pairs : List (ℕ × ℕ))
    → map (λ e. e.id) (entries_of kept pairs) ≡ map (λ k. k.id) kept
ids_same [] pairs = refl
ids_same (k ∷ kept) pairs = ap (λ ids. k.id ∷ ids) (ids_same kept pairs)
