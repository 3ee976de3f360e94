-- What is known of the nodes that wait for another list once the nodes of the upper place were sorted.
use Rattle.std.proofs.Common.{◌≡◌, inl, inr, ℕ, ◌+◌, ◌≤◌, List, [], ◌∷◌, ◌++◌, Some}
use Rattle.std.proofs.Common.{refl, sym, ◌∙◌, ap, subst, arith}
use Rattle.std.specs.Prelude.{if◌then◌else◌, ◌==◌}
use Rattle.std.specs.List.{AllByRecursion, sum_by}
use Rattle.std.specs.List.Sorted.{IsPermutation}
use Rattle.std.specs.Option.{IsSome}
use Rattle.std.specs.FinMap.{get}
use Rattle.std.proofs.lemmas.Bool.{cases_eq, cases_lt}
use Rattle.std.proofs.lemmas.List.Sorted.{sum_by-IsPermutation}
use Rattle.std.proofs.lemmas.List.Sums.{sum_by-cons}
use Rattle.std.proofs.lemmas.Option.{none-some, same_Some}
use Rattle.sd_vtree.specs.Numbered.{Numbered, plain_tree, times}
use Rattle.sd_vtree.proofs.Times.{times_append, times_same, times_other}
use Rattle.sd_runs.specs.Arena.{IsMember, HasNoCopies}
use Rattle.sd_laws.specs.Depends.{DependsOn}
use Rattle.sd_laws.specs.Shown.{Keeps}
use Rattle.sd_laws.specs.Values.{Valuation, pairs_value, ShowsValue}
use Rattle.sd_laws.proofs.Choosing.{two_sided_same}
use Rattle.sd_laws.proofs.Lists.{all_weaker}
use Rattle.sd_manager.specs.Table.{Table}
use Rattle.sd_manager.specs.Valid.{IsTable}
use Rattle.sd_manager.proofs.Reading.{detached_key}
use Rattle.sd_apply.specs.Places.{tree_at}
use Rattle.sd_model.specs.declared.trees.Side.{Side}
use Rattle.sd_move.specs.Moving.{Progress}
use Rattle.sd_move.specs.Sorting.{IsTwoSidedAt, CanSortNode, CanSort, AreSorted}
use Rattle.sd_move.proofs.Divided.{looks_below}
use Rattle.sd_move.proofs.LinkedOn.{lifted}
use Rattle.sd_move.proofs.SortedAll.{member_at}
use Rattle.sd_move.proofs.TurnedMove.{times_cons}

-- how often a number is in a list

-- as a sum
times_sum : (n : ℕ) (xs : List ℕ) → times n xs ≡ sum_by (λ m. if m == n then 1 else 0) xs
times_sum n [] = refl
times_sum n (m ∷ ms) =
    ap (λ k. (if m == n then 1 else 0) + k) (times_sum n ms) ∙ sym (sum_by-cons (λ m. if m == n then 1 else 0) m ms)

-- so it is the same in another order
pub times_permuted : (n : ℕ) (xs ys : List ℕ) → IsPermutation xs ys → times n ys ≡ times n xs
times_permuted n xs ys s =
    times_sum n ys ∙ sum_by-IsPermutation (λ m. if m == n then 1 else 0) xs ys s ∙ sym (times_sum n xs)

-- a member is there
pub member_times : (n : ℕ) (xs : List ℕ) → IsMember n xs → 1 ≤ times n xs
member_times n [] k = absurd k
member_times n (m ∷ ms) (inl e) = omega (arith, times_same n m ms e)
member_times n (m ∷ ms) (inr k) = omega (arith, member_times n ms k, times_cons n m ms)

-- and what is there is a member
pub times_member : (n : ℕ) (xs : List ℕ) → 1 ≤ times n xs → IsMember n xs
times_member n [] h = absurd (omega arith)
times_member n (m ∷ ms) h = elim (cases_eq m n) [
  | inl e ↦ inl e
  | inr d ↦ inr (times_member n ms (omega (arith, h, times_other n m ms d)))
]

-- without copies it is there at most once
pub once_times : (xs : List ℕ) → HasNoCopies xs → (n : ℕ) → times n xs ≤ 1
once_times [] c n = omega arith
once_times (m ∷ ms) c n = elim (cases_eq m n) [
  | inl e ↦ elim (cases_lt 0 (times n ms)) [
    | inl p ↦ absurd (c.0 (subst (λ k. IsMember k ms) (sym e) (times_member n ms (omega (arith, p)))))
    | inr z ↦ omega (arith, z, times_same n m ms e)
  ]
  | inr d ↦ omega (arith, once_times ms c.1 n, times_other n m ms d)
]

-- and the other way round
pub times_once : (xs : List ℕ) → ((n : ℕ) → times n xs ≤ 1) → HasNoCopies xs
times_once [] f = tt
times_once (m ∷ ms) f = (
  λ k. omega (arith, f m, times_same m m ms refl, member_times m ms k),
  times_once ms (λ n. omega (arith, f n, times_cons n m ms)),
)

-- the nodes that wait

module _ (m0 mid new : Table) (t : Numbered) (side : Side) (x w : ℕ) (h : Progress) (v : Valuation)
    (numbers moved kept waits : List ℕ) (i : IsTable mid) (c : CanSort m0 mid t side x w h v numbers)
    (s : AreSorted mid new side x w numbers moved kept waits []) where
  -- each number was linked at one of the two nodes or waits
  all_times : (n : ℕ) → times n numbers ≡ times n moved + (times n kept + times n waits)
  all_times n =
      omega (
        arith,
        times_permuted n numbers (moved ++ (kept ++ (waits ++ []))) s.parts,
        times_append n moved (kept ++ (waits ++ [])),
        times_append n kept (waits ++ []),
        times_append n waits [],
      )

  -- no number waits twice
  pub waits_once : HasNoCopies waits
  waits_once = times_once waits (λ n. omega (arith, once_times numbers c.once n, all_times n))

  -- one that waits is one of the numbers
  pub waits_within : (n : ℕ) → IsMember n waits → IsMember n numbers
  waits_within n z = times_member n numbers (omega (arith, member_times n waits z, all_times n))

  -- where just the nodes of the numbers were detached, just those that wait are
  pub waits_only : ((n : ℕ) → IsSome (get mid.detached n) → IsMember n numbers) → (n : ℕ) →
      IsSome (get new.detached n) → IsMember n waits
  waits_only only n there = elim (cases_lt 0 (times n waits)) [
    | inl p ↦ times_member n waits (omega (arith, p))
    | inr none ↦ elim (cases_lt 0 (times n moved)) [
      | inl p ↦ absurd (cc (subst IsSome (s.lower n (times_member n moved (omega (arith, p)))).gone there))
      | inr none' ↦ elim (cases_lt 0 (times n kept)) [
        | inl p ↦ absurd (cc (subst IsSome (s.upper n (times_member n kept (omega (arith, p)))).gone there))
        | inr none'' ↦
            let out : ¬ IsMember n numbers =
            λ z. omega (arith, member_times n numbers z, all_times n, none, none', none'') in
            absurd (out (only n (subst IsSome (s.others n out).1 there)))
      ]
    ]
  ]

  tree : new.vtree ≡ mid.vtree
  tree = ap (λ (z : Table). z.vtree) s.same

  -- a node that waits looks at both children of the upper node
  pub waits_two_sided : (n : ℕ) → IsMember n waits → IsTwoSidedAt new.vtree x (v (2050 + n))
  waits_two_sided n z =
      let k = s.waits n z in
      let two = (s.divided m0 t h v c n z k.key k.was).two_sided in
      subst (λ u. IsTwoSidedAt u x (v (2050 + n))) (sym tree)
      (record {
        left = two.left;
        right = two.right;
        at = two.at;
        two_sided = two_sided_same (plain_tree two.left) (plain_tree two.right) (v (2050 + n))
            (pairs_value v k.key.1)
            (c.going.value n k.key.0 k.key.1 (detached_key mid i n k.key k.was)) two.two_sided;
      })

  -- each linked node stays linked
  linked_still : Keeps (get mid.linked) (get new.linked)
  linked_still j k e =
      let out : ¬ IsMember j numbers = λ z.
      let a = member_at (CanSortNode m0 mid t x h v) numbers c.each j z in
      none-some (x, a.list) (sym (i.either j k e) ∙ a.was) in
      (s.others j out).0 ∙ e

  -- so what it names shows its value still
  pub waits_sort : (n : ℕ) → IsMember n waits → CanSortNode m0 new t x h v n
  waits_sort n z =
      let k = s.waits n z in
      let a = member_at (CanSortNode m0 mid t x h v) numbers c.each n (waits_within n z) in
      record {
        list = a.list;
        was = k.is ∙ sym k.was ∙ a.was;
        old = a.old;
        placed = a.placed;
        ascending = a.ascending;
        codes = all_weaker
            (λ (e : ℕ × ℕ). ShowsValue mid.vtree (get mid.linked) v e.0 × ShowsValue mid.vtree (get mid.linked) v e.1)
            (λ (e : ℕ × ℕ). ShowsValue new.vtree (get new.linked) v e.0 × ShowsValue new.vtree (get new.linked) v e.1)
            (λ e q. (shown e.0 q.0, shown e.1 q.1)) a.list a.codes;
      }
    where
      shown : (d : ℕ) → ShowsValue mid.vtree (get mid.linked) v d → ShowsValue new.vtree (get new.linked) v d
      shown d q =
          subst (λ u. ShowsValue u (get new.linked) v d) (sym tree)
          (lifted mid.vtree (get mid.linked) (get new.linked) v d linked_still q)

  -- and which looks at what is below the upper node
  pub waits_below : (n : ℕ) → IsMember n waits → (k : ℕ × List (ℕ × ℕ)) → get new.detached n ≡ Some k →
      AllByRecursion (λ (e : ℕ × ℕ). DependsOn (tree_at new.vtree x) (v e.0)
      × DependsOn (tree_at new.vtree x) (v e.1)) k.1
  waits_below n z k e =
      let a = waits_sort n z in
      let list : a.list ≡ k.1 = ap (λ (y : ℕ × List (ℕ × ℕ)). y.1) (same_Some (x, a.list) k (sym a.was ∙ e)) in
      subst (λ l. AllByRecursion (λ (e : ℕ × ℕ). DependsOn (tree_at new.vtree x) (v e.0)
      × DependsOn (tree_at new.vtree x) (v e.1)) l) list
      (subst (λ u. AllByRecursion (λ (e : ℕ × ℕ). DependsOn (tree_at u x) (v e.0)
      × DependsOn (tree_at u x) (v e.1)) a.list) (sym tree)
      (looks_below side t mid.vtree x w v a.list c.rotated a.placed))
