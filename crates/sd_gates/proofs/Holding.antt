-- Roots that are held for a while: one more, one less, and what stays where a sweep comes between.
use Rattle.std.proofs.Common.{◌≡◌, ◌≢◌, ◌⊎◌, ℕ, ◌+◌, ◌-◌, ◌*◌, ◌<◌, ◌≤◌}
use Rattle.std.proofs.Common.{zero, suc, Bool, true, false, List, [], ◌∷◌, ◌++◌}
use Rattle.std.proofs.Common.{length, get_or, Option, Some, None}
use Rattle.std.proofs.Common.{refl, sym, ◌∙◌, ap, subst, arith, inl, inr}
use Rattle.std.specs.Option.{IsSome}
use Rattle.std.specs.Ordering.{nat_cmp}
use Rattle.std.specs.FinMap.{FinMap, get, insert, remove, len}
use Rattle.std.proofs.lemmas.Bool.{cases_eq, cases_lt}
use Rattle.std.proofs.lemmas.List.{length-append}
use Rattle.std.proofs.Math.Seq.{get_or-append_seam}
use Rattle.sd_runs.proofs.Maps.{get_insert_same, get_insert_other, get_remove_same, get_remove_other, same_at_each}
use Rattle.sd_manager.specs.Table.{Table}
use Rattle.sd_manager.specs.Marking.{AreUnmarked}
use Rattle.sd_manager.specs.Shown.{IsNodeOf}
use Rattle.sd_manager.proofs.Holding.{len_more}
use Rattle.sd_manager.proofs.Extending.{extends_self}
use Rattle.sd_cache.specs.Entries.{Answers}
use Rattle.sd_apply.specs.Serving.{Serves}
use Rattle.sd_sweep.specs.Reached.{reached_first, reached_below, IsReached, KeepsReached}
use Rattle.sd_sweep.specs.Falling.{NeverFalls}
use Rattle.sd_sweep.proofs.Keeping.{keeps_both}
use Rattle.sd_compile.specs.Compiling.{KeepsAll}
use Rattle.sd_compile.proofs.Joining.{answer_node}
use Rattle.sd_compile.proofs.Kept.{kept_holds, kept_answer, serves_roots, all_extended}
use Rattle.sd_circuit.specs.Circuits.{OrderedCircuit}
use Rattle.sd_circuit.specs.declared.wire.Wire.TheVariants.{Gate}
use Rattle.sd_circuit.proofs.Grown.{grown_old}
use Rattle.sd_gates.specs.Sharing.{AreShared, wire_function, place_of}
use Rattle.sd_gates.specs.Holding.{AddsRoots, HoldsMore, HoldsOneMore, IsHeldNode, AreHeldBelow, AreHeldNodes}
use Rattle.sd_gates.specs.Holding.{DropsEntries}
use Rattle.sd_gates.specs.declared.sharing.GateNodes.{GateNodes}
use Rattle.sd_gates.specs.Making.{AreCurrent, IsDescent, StaysOrRises, blanks, current, either_at, work_left}
use Rattle.sd_gates.proofs.Shared.{none_at, shared_beside}
use Rattle.sd_gates.proofs.Descending.{current_most}

-- ---- maps of roots

-- no roots were added
pub adds_none : (m : FinMap nat_cmp ℕ) → AddsRoots m m []
adds_none m = record {
  fresh = λ i h. absurd (omega (arith, h));
  held = λ i h. absurd (omega (arith, h));
  apart = λ i j h l. absurd (omega (arith, l));
  kept = λ root h. refl;
}

-- where none are, the maps are one
pub adds_end : (before after : FinMap nat_cmp ℕ) → AddsRoots before after [] → after ≡ before
adds_end before after adds =
    same_at_each after before (λ q. adds.kept q (λ i h. absurd (omega (arith, h))))

-- a place in a list with one more
last_place : (xs : List ℕ) (r i : ℕ) → i < length (xs ++ r ∷ []) → (i < length xs) ⊎ (i ≡ length xs)
last_place xs r i h = go (cases_lt i (length xs))
  where
    go : ((i < length xs) ⊎ (length xs ≤ i)) → (i < length xs) ⊎ (i ≡ length xs)
    go (inl less) = inl less
    go (inr more) = let long : length (xs ++ r ∷ []) ≡ length xs + 1 = length-append xs (r ∷ []) in
        inr (omega (arith, h, more, long))

-- what stands there
last_at : (xs : List ℕ) (r i : ℕ) → i ≡ length xs → get_or (xs ++ r ∷ []) i 0 ≡ r
last_at xs r i e = ap (λ n. get_or (xs ++ r ∷ []) n 0) e ∙ get_or-append_seam xs r [] 0

last_inside : (xs : List ℕ) (r : ℕ) → length xs < length (xs ++ r ∷ [])
last_inside xs r =
    let long : length (xs ++ r ∷ []) ≡ length xs + 1 = length-append xs (r ∷ []) in omega (arith, long)

first_inside : (xs : List ℕ) (r i : ℕ) → i < length xs → i < length (xs ++ r ∷ [])
first_inside xs r i h = let k = last_inside xs r in omega (arith, h, k)

some_none : (o : Option ℕ) → o ≡ None → IsSome o → ⊥
some_none o e h = cc

-- one root more
pub adds_one : (before after : FinMap nat_cmp ℕ) (xs : List ℕ) (r c : ℕ) → AddsRoots before after xs
    → get after r ≡ None → AddsRoots before (insert after r c) (xs ++ r ∷ [])
adds_one before after xs r c adds none = record {
  fresh = λ i h. fresh i (last_place xs r i h);
  held = λ i h. held i (last_place xs r i h);
  apart = λ i j l h. apart i j l (last_place xs r j h);
  kept = λ root others. kept root others;
}
  where
    other : (i : ℕ) → i < length xs → get_or xs i 0 ≢ r
    other i h e = some_none (get after r) none (subst (λ k. IsSome (get after k)) e (adds.held i h))

    was : get before r ≡ None
    was = sym (adds.kept r other) ∙ none

    fresh : (i : ℕ) → ((i < length xs) ⊎ (i ≡ length xs)) → get before (get_or (xs ++ r ∷ []) i 0) ≡ None
    fresh i (inl h) = ap (get before) (grown_old xs r i h) ∙ adds.fresh i h
    fresh i (inr e) = ap (get before) (last_at xs r i e) ∙ was

    held : (i : ℕ) → ((i < length xs) ⊎ (i ≡ length xs)) → IsSome (get (insert after r c) (get_or (xs ++ r ∷ []) i 0))
    held i (inl h) = subst (λ k. IsSome (get (insert after r c) k)) (sym (grown_old xs r i h))
        (subst IsSome (sym (get_insert_other after r c (get_or xs i 0) (other i h))) (adds.held i h))
    held i (inr e) = subst (λ k. IsSome (get (insert after r c) k)) (sym (last_at xs r i e))
        (subst IsSome (sym (get_insert_same after r c)) refl)

    apart : (i j : ℕ) → i < j → ((j < length xs) ⊎ (j ≡ length xs))
        → get_or (xs ++ r ∷ []) i 0 ≢ get_or (xs ++ r ∷ []) j 0
    apart i j l (inl h) e = adds.apart i j l h
        (sym (grown_old xs r i (omega (arith, l, h))) ∙ e ∙ grown_old xs r j h)
    apart i j l (inr is) e = other i (omega (arith, l, is))
        (sym (grown_old xs r i (omega (arith, l, is))) ∙ e ∙ last_at xs r j is)

    kept : (root : ℕ) → ((i : ℕ) → i < length (xs ++ r ∷ []) → get_or (xs ++ r ∷ []) i 0 ≢ root)
        → get (insert after r c) root ≡ get before root
    kept root others =
        get_insert_other after r c root
        (λ e. others (length xs) (last_inside xs r) (last_at xs r (length xs) refl ∙ sym e))
        ∙ adds.kept root (λ i h e. others i (first_inside xs r i h) (grown_old xs r i h ∙ e))

-- the last root is held
pub last_held : (before after : FinMap nat_cmp ℕ) (xs : List ℕ) (r : ℕ) → AddsRoots before after (xs ++ r ∷ [])
    → IsSome (get after r)
last_held before after xs r adds = subst (λ k. IsSome (get after k)) (last_at xs r (length xs) refl)
    (adds.held (length xs) (last_inside xs r))

-- one root less
pub adds_less : (before after : FinMap nat_cmp ℕ) (xs : List ℕ) (r : ℕ) → AddsRoots before after (xs ++ r ∷ [])
    → AddsRoots before (remove after r) xs
adds_less before after xs r adds = record {
  fresh = λ i h. ap (get before) (sym (grown_old xs r i h)) ∙ adds.fresh i (first_inside xs r i h);
  held = λ i h. subst IsSome (sym (get_remove_other after r (get_or xs i 0) (other i h)))
      (subst (λ k. IsSome (get after k)) (grown_old xs r i h) (adds.held i (first_inside xs r i h)));
  apart = λ i j l h e. adds.apart i j l (first_inside xs r j h)
      (grown_old xs r i (omega (arith, l, h)) ∙ e ∙ sym (grown_old xs r j h));
  kept = λ root others. kept root others (cases_eq root r);
}
  where
    other : (i : ℕ) → i < length xs → get_or xs i 0 ≢ r
    other i h e = adds.apart i (length xs) h (last_inside xs r)
        (grown_old xs r i h ∙ e ∙ sym (last_at xs r (length xs) refl))

    was : get before r ≡ None
    was = ap (get before) (sym (last_at xs r (length xs) refl)) ∙ adds.fresh (length xs) (last_inside xs r)

    kept : (root : ℕ) → ((i : ℕ) → i < length xs → get_or xs i 0 ≢ root) → ((root ≡ r) ⊎ (root ≢ r))
        → get (remove after r) root ≡ get before root
    kept root others (inl e) = ap (get (remove after r)) e ∙ get_remove_same after r ∙ sym was ∙ ap (get before) (sym e)
    kept root others (inr ne) = get_remove_other after r root ne
        ∙ adds.kept root (λ i h e. not_listed i e (last_place xs r i h))
      where
        not_listed : (i : ℕ) → get_or (xs ++ r ∷ []) i 0 ≡ root → ((i < length xs) ⊎ (i ≡ length xs)) → ⊥
        not_listed i e (inl h) = others i h (sym (grown_old xs r i h) ∙ e)
        not_listed i e (inr is) = ne (sym (sym (last_at xs r i is) ∙ e))

-- a root that was there holds what it held
pub adds_kept : (before after : FinMap nat_cmp ℕ) (xs : List ℕ) (root c : ℕ) → AddsRoots before after xs
    → get before root ≡ Some c → get after root ≡ Some c
adds_kept before after xs root c adds some =
    adds.kept root (λ i h e. differ (get before root) (ap (get before) (sym e) ∙ adds.fresh i h) some) ∙ some
  where
    differ : (o : Option ℕ) → o ≡ None → o ≡ Some c → ⊥
    differ o n s = cc

-- ---- the manager

-- no roots more
pub more_none : (t : Table) → HoldsMore t t []
more_none t = record { rest = refl; adds = adds_none t.roots }

-- one root more
pub more_one : (old mid new : Table) (xs ys : List ℕ) (node : ℕ) → HoldsMore old mid xs
    → HoldsOneMore mid new xs ys node → HoldsMore old new ys
more_one old mid new xs ys node more one =
    subst (HoldsMore old new) (sym one.added) (subst (λ t. HoldsMore old t (xs ++ one.root ∷ [])) (sym one.is)
    (record {
      rest = ap (λ (t : Table). record t { roots = insert mid.roots one.root node }) more.rest;
      adds = adds_one old.roots mid.roots xs one.root node more.adds one.absent;
    }))

-- where a root is new, what was held is held
pub held_on : (mid new : Table) (xs ys : List ℕ) (node other : ℕ) → HoldsOneMore mid new xs ys node
    → IsHeldNode mid other → IsHeldNode new other
held_on mid new xs ys node other one held = (
  held.0,
  ap (λ (t : Table). get t.roots held.0) one.is
      ∙ get_insert_other mid.roots one.root node held.0
      (λ e. absurd (differ (ap (get mid.roots) e ∙ one.absent) held.1))
      ∙ held.1,
)
  where
    differ : get mid.roots held.0 ≡ None → get mid.roots held.0 ≡ Some other → ⊥
    differ n s = cc

-- and its node too
pub held_new : (mid new : Table) (xs ys : List ℕ) (node : ℕ) → HoldsOneMore mid new xs ys node → IsHeldNode new node
held_new mid new xs ys node one =
    (one.root, ap (λ (t : Table). get t.roots one.root) one.is ∙ get_insert_same mid.roots one.root node)

-- one root more to count
pub count_one : (mid new : Table) (xs ys : List ℕ) (node : ℕ) → HoldsOneMore mid new xs ys node
    → len new.roots ≡ len mid.roots + 1
count_one mid new xs ys node one =
    ap (λ (t : Table). len t.roots) one.is ∙ len_more mid.roots one.root node one.absent

-- nodes are nodes still
pub more_node : (old new : Table) (xs : List ℕ) (node : ℕ) → HoldsMore old new xs → IsNodeOf old node
    → IsNodeOf new node
more_node old new xs node more k = subst (λ t. IsNodeOf t node) (sym more.rest)
    (record { diagram = k.diagram; is = record { shows = k.is.shows; canonical = k.is.canonical } })

-- no mark is on
pub more_unmarked : (old new : Table) (xs : List ℕ) → HoldsMore old new xs → AreUnmarked old → AreUnmarked new
more_unmarked old new xs more h = subst AreUnmarked (sym more.rest) h

-- the cache serves
pub more_serves : (c : Answers) (old new : Table) (xs : List ℕ) → HoldsMore old new xs → Serves c old → Serves c new
more_serves c old new xs more h = subst (Serves c) (sym more.rest) (serves_roots c old new.roots h)

-- what was reached is reached
more_reached : (old new : Table) (xs : List ℕ) → HoldsMore old new xs → {n : ℕ} → IsReached old n → IsReached new n
more_reached old new xs more (reached_first {n = n} (inl h)) =
    reached_first (inl (h.0, adds_kept old.roots new.roots xs h.0 (2050 + n) more.adds h.1))
more_reached old new xs more (reached_first {n = n} (inr h)) =
    reached_first (inr (h.0, h.1, ap (λ (t : Table). get t.loose h.0) more.rest ∙ h.2, h.3))
more_reached old new xs more (reached_below {m = m} {n = n} {place = place} {list = list} h stored stands) =
    reached_below (more_reached old new xs more h) (ap (λ (t : Table). get t.linked m) more.rest ∙ stored) stands

-- the manager when the added roots are released
abbrev pub released : Table → Table → Table
released old swept = record swept { roots = old.roots }

-- what stays where roots are added, a sweep follows, and the roots are released
pub back_kept : (old mid swept : Table) (xs : List ℕ) → HoldsMore old mid xs → KeepsAll mid swept
    → KeepsAll old (released old swept)
back_kept old mid swept xs more k = record {
  reached = reached;
  holds = λ root d h. kept_holds old (released old swept) reached root d h;
  bound = k.bound ∙ ap (λ (t : Table). t.bound) more.rest;
  moving = k.moving ∙ ap (λ (t : Table). t.moving) more.rest;
}
  where
    reached : KeepsReached old (released old swept)
    reached = record {
      vtree = k.reached.vtree ∙ ap (λ (t : Table). t.vtree) more.rest;
      nodes = λ n key r e. k.reached.nodes n key (more_reached old mid xs more r)
          (ap (λ (t : Table). get t.linked n) more.rest ∙ e);
      roots = refl;
      loose = k.reached.loose ∙ ap (λ (t : Table). t.loose) more.rest;
    }

-- the roots that a sweep leaves are those before it
pub swept_adds : (old mid swept : Table) (xs : List ℕ) → HoldsMore old mid xs → KeepsAll mid swept
    → AddsRoots old.roots swept.roots xs
swept_adds old mid swept xs more k = subst (λ m. AddsRoots old.roots m xs) (sym k.reached.roots) more.adds

-- nothing fell
pub back_falls : (old mid swept : Table) (xs : List ℕ) → HoldsMore old mid xs → NeverFalls mid swept
    → NeverFalls old (released old swept)
back_falls old mid swept xs more k =
    let extent = ap (λ (t : Table). t.extent) more.rest in
    let records = ap (λ (t : Table). t.records) more.rest in
    let epoch = ap (λ (t : Table). t.epoch) more.rest in
    record {
      extent = omega (arith, k.extent, extent);
      records = omega (arith, k.records, records);
      epoch = omega (arith, k.epoch, epoch);
    }

-- the manager as it was, where nothing was swept
pub back_same : (old mid : Table) (xs : List ℕ) → HoldsMore old mid xs → released old mid ≡ old
back_same old mid xs more = ap (λ (t : Table). record t { roots = old.roots }) more.rest

-- ---- the nodes of gates

-- what is left shows its gates
pub dropped_shared : (c : OrderedCircuit) (old new : List (Option ℕ)) (t : Table) → DropsEntries old new
    → AreShared c old t → AreShared c new t
dropped_shared c old new t drops shared g node p e = shared g node p (drops (place_of g p) node e)

-- what is held shows its gates behind a sweep
pub held_shared : (c : OrderedCircuit) (nodes : List (Option ℕ)) (old mid swept : Table) (xs : List ℕ)
    → HoldsMore old mid xs → KeepsAll mid swept → AreHeldNodes mid nodes → AreShared c nodes old
    → AreShared c nodes (released old swept)
held_shared c nodes old mid swept xs more k held shared =
    shared_beside c nodes swept (released old swept) refl refl shown
  where
    mid_shared : AreShared c nodes mid
    mid_shared = shared_beside c nodes old mid (ap (λ (t : Table). t.vtree) more.rest)
        (ap (λ (t : Table). t.linked) more.rest) shared

    shown : AreShared c nodes swept
    shown g node p e = let h = held (place_of g p) node e in
        kept_answer mid swept k.reached h.0 node (wire_function c (Gate g p)) h.1 (mid_shared g node p e)

-- ---- between two gates

-- one after the other
pub all_both : (a b c : Table) → KeepsAll a b → KeepsAll b c → KeepsAll a c
all_both a b c h k =
    let reached : KeepsReached a c = keeps_both a b c h.reached k.reached in
    record {
      reached = reached;
      holds = λ root d s. kept_holds a c reached root d s;
      bound = k.bound ∙ h.bound;
      moving = k.moving ∙ h.moving;
    }

-- nothing changed
pub all_self : (t : Table) → KeepsAll t t
all_self t = all_extended t t (extends_self t)

-- a table that is ready stays so where entries are dropped
pub ready_dropped : (c : OrderedCircuit) (old new : GateNodes) (t : Table)
    → DropsEntries old.nodes.items new.nodes.items → length new.nodes.items ≡ length old.nodes.items
    → new.epoch ≡ old.epoch → AreCurrent c old t → AreCurrent c new t
ready_dropped c old new t drops size epoch ready = record {
  epoch = epoch ∙ ready.epoch;
  size = size ∙ ready.size;
  shared = dropped_shared c old.nodes.items new.nodes.items t drops ready.shared;
}

-- what has no node has none where entries are dropped
dropped_blank : (old new : List (Option ℕ)) → DropsEntries old new → (i : ℕ) → get_or old i None ≡ None
    → get_or new i None ≡ None
dropped_blank old new drops i none = go (get_or new i None) refl
  where
    go : (o : Option ℕ) → get_or new i None ≡ o → get_or new i None ≡ None
    go None e = e
    go (Some node) e = absurd (differ (drops i node e))
      where
        differ : get_or old i None ≡ Some node → ⊥
        differ some = let both : None ≡ Some node = sym none ∙ some in cc

-- nor has a gate without a node one then
dropped_gate : (old new : List (Option ℕ)) → DropsEntries old new → (g : ℕ) → either_at old g ≡ None
    → either_at new g ≡ None
dropped_gate old new drops g none =
    rw (dropped_blank old new drops (place_of g true) (none_at old g true none)) (dropped_blank old new drops
    (place_of g false) (none_at old g false none))

-- so the stack of gates without nodes stays one
pub dropped_descent : (old new : List (Option ℕ)) (top : ℕ) (stack : List ℕ) → DropsEntries old new
    → IsDescent old top stack → IsDescent new top stack
dropped_descent old new top stack drops descent = record {
  falls = descent.falls;
  blank = λ i h. dropped_gate old new drops (get_or stack i 0) (descent.blank i h);
}

-- ---- how much is left to do

-- no more places are blank than there are
blanks_within : (nodes : List (Option ℕ)) → blanks nodes ≤ length nodes
blanks_within [] = omega arith
blanks_within (None ∷ nodes) = let h = blanks_within nodes in omega (arith, h)
blanks_within (Some n ∷ nodes) = let h = blanks_within nodes in omega (arith, h)

-- what is left between two sweeps is less than a number that no sweep changes
work_bound : (n top b q : ℕ) → b ≤ n → q ≤ top → b * (top + 1) + q < (n + 1) * (top + 1)
work_bound n top b q most low =
    let more : n ≡ b + (n - b) = omega (arith, most) in
    subst (λ k. b * (top + 1) + q < (k + 1) * (top + 1)) (sym more) (at (n - b))
  where
    at : (d : ℕ) → b * (top + 1) + q < (b + d + 1) * (top + 1)
    at d = omega (arith, low)

-- a sweep less, and that number more
part_less : (a b k u v : ℕ) → a < b → u < k → a * k + u < b * k + v
part_less a b k u v less low =
    let more : b ≡ a + 1 + (b - a - 1) = omega (arith, less) in
    subst (λ w. a * k + u < w * k + v) (sym more) (at (b - a - 1))
  where
    at : (d : ℕ) → a * k + u < (a + 1 + d) * k + v
    at d = omega (arith, low)

-- what is left to do: the sweeps that may come, and the gates
abbrev pub steps_left : ℕ → ℕ → ℕ → List (Option ℕ) → List ℕ → ℕ
steps_left size most top nodes stack =
    (4294967296 - most) * ((size + 1) * (top + 1)) + work_left nodes top stack

-- a step and perhaps a sweep leave less to do
pub paced_less : (size most next top : ℕ) (old mid new : List (Option ℕ)) (before after : List ℕ)
    → StaysOrRises mid new most next → length new ≡ size → IsDescent new top after
    → work_left mid top after < work_left old top before
    → steps_left size next top new after < steps_left size most top old before
paced_less size most next top old mid new before after (inl same) long descent less =
    let left : work_left new top after ≡ work_left mid top after = ap (λ l. work_left l top after) same.0 in
    let sweeps : (4294967296 - next) * ((size + 1) * (top + 1)) ≡ (4294967296 - most) * ((size + 1) * (top + 1)) =
    ap (λ n. (4294967296 - n) * ((size + 1) * (top + 1))) same.1 in
    omega (arith, less, left, sweeps)
paced_less size most next top old mid new before after (inr later) long descent less =
    part_less (4294967296 - next) (4294967296 - most) ((size + 1) * (top + 1)) (work_left new top after)
    (work_left old top before) (omega (arith, later.0, later.1))
    (work_bound size top (blanks new) (current top after) (omega (arith, blanks_within new, long))
    (current_most new top after descent))

-- ---- places

-- each place is that of a gate or of its negation
place_at : (i : ℕ) → (g : ℕ) × (p : Bool) × (place_of g p ≡ i)
place_at zero = (0, true, refl)
place_at (suc zero) = (0, false, refl)
place_at (suc (suc i)) = go (place_at i)
  where
    go : ((g : ℕ) × (p : Bool) × (place_of g p ≡ i)) → (g : ℕ) × (p : Bool) × (place_of g p ≡ suc (suc i))
    go (g, true, e) = (suc g, true, omega (arith, e))
    go (g, false, e) = (suc g, false, omega (arith, e))

-- what stands at a place is a node
pub node_there : (c : OrderedCircuit) (nodes : List (Option ℕ)) (t : Table) → AreShared c nodes t → (i node : ℕ)
    → get_or nodes i None ≡ Some node → IsNodeOf t node
node_there c nodes t shared i node e =
    let k = place_at i in
    answer_node t (wire_function c (Gate k.0 k.1)) node
    (shared k.0 node k.1 (ap (λ n. get_or nodes n None) k.2 ∙ e))

-- nothing stands behind the last place
pub beyond_none : (nodes : List (Option ℕ)) (i node : ℕ) → length nodes ≤ i → get_or nodes i None ≡ Some node → ⊥
beyond_none [] i node h e = cc
beyond_none (o ∷ nodes) zero node h e = absurd (omega (arith, h))
beyond_none (o ∷ nodes) (suc i) node h e = beyond_none nodes i node (omega (arith, h)) e

-- one more place of the list, where a node stands
pub below_more : (now new : Table) (xs ys : List ℕ) (nodes : List (Option ℕ)) (index node : ℕ)
    → AreHeldBelow now nodes index → get_or nodes index None ≡ Some node → HoldsOneMore now new xs ys node
    → AreHeldBelow new nodes (index + 1)
below_more now new xs ys nodes index node held here one i n h e = go (cases_lt i index)
  where
    some_same : (x y : ℕ) → Some x ≡ Some y → x ≡ y
    some_same x y e = cc

    go : ((i < index) ⊎ (index ≤ i)) → IsHeldNode new n
    go (inl less) = held_on now new xs ys node n one (held i n less e)
    go (inr more) =
        let is : i ≡ index = omega (arith, h, more) in
        subst (IsHeldNode new) (some_same node n (sym here ∙ ap (λ k. get_or nodes k None) (sym is) ∙ e))
        (held_new now new xs ys node one)

-- and where none stands
pub below_blank : (now : Table) (nodes : List (Option ℕ)) (index : ℕ) → AreHeldBelow now nodes index
    → get_or nodes index None ≡ None → AreHeldBelow now nodes (index + 1)
below_blank now nodes index held none i n h e = go (cases_lt i index)
  where
    differ : (o : Option ℕ) → o ≡ None → o ≡ Some n → ⊥
    differ o a b = cc

    go : ((i < index) ⊎ (index ≤ i)) → IsHeldNode now n
    go (inl less) = held i n less e
    go (inr more) =
        let is : index ≡ i = omega (arith, h, more) in
        absurd (differ (get_or nodes i None) (ap (λ k. get_or nodes k None) (sym is) ∙ none) e)

-- all of them
pub below_all : (now : Table) (nodes : List (Option ℕ)) (index : ℕ) → length nodes ≤ index
    → AreHeldBelow now nodes index → AreHeldNodes now nodes
below_all now nodes index all held i node e = go (cases_lt i index)
  where
    go : ((i < index) ⊎ (index ≤ i)) → IsHeldNode now node
    go (inl less) = held i node less e
    go (inr more) = absurd (beyond_none nodes i node (omega (arith, all, more)) e)
