-- What stays when nodes are made, a root holds another node, and a sweep follows.
use Rattle.std.proofs.Common.{◌≡◌, ◌≢◌, ◌⊎◌, inl, inr, ℕ, ◌+◌, ◌*◌, ◌/◌, ◌≤◌}
use Rattle.std.proofs.Common.{Some, None, refl, sym, ap, subst, ◌∙◌}
use Rattle.std.proofs.Common.{arith, List, Bool}
use Rattle.std.proofs.lemmas.Bool.{cases_eq}
use Rattle.std.specs.Option.{IsSome}
use Rattle.std.specs.Ordering.{nat_cmp}
use Rattle.std.specs.FinMap.{FinMap, get, insert, remove}
use Rattle.sd_runs.proofs.Maps.{get_insert_same, get_insert_other, get_remove_same, get_remove_other, same_at_each}
use Rattle.sd_model.specs.Diagram.{Diagram}
use Rattle.sd_model.specs.Canonical.{IsCanonical}
use Rattle.sd_model.specs.Tree.{leaves}
use Rattle.sd_vtree.specs.Numbered.{Numbered, plain_tree}
use Rattle.sd_laws.specs.Shown.{Shows as ShowsBy}
use Rattle.sd_laws.proofs.Within.{shows_within}
use Rattle.sd_cache.specs.Entries.{Answers}
use Rattle.sd_manager.specs.Table.{Table}
use Rattle.sd_manager.specs.Shown.{ShowsCanonical, IsNodeOf, HoldsDiagram}
use Rattle.sd_manager.specs.Making.{Extends, IsPastBound, with_root, without_root}
use Rattle.sd_manager.specs.Moving.{IsLater}
use Rattle.sd_manager.proofs.Totals.{left_was}
use Rattle.sd_apply.specs.Answers.{HasAnswer}
use Rattle.sd_apply.specs.Serving.{Serves, last_epoch}
use Rattle.sd_apply.specs.Surviving.{OnlyTakesAway}
use Rattle.sd_apply.proofs.Served.{serves_beside, serves_past}
use Rattle.sd_sweep.specs.Reached.{reached_first, reached_below, IsReached, IsSwept, HasUnreached, KeepsReached}
use Rattle.sd_sweep.proofs.Keeping.{keeps_both, keeps_swept, keeps_extended}
use Rattle.sd_formula.specs.Dimacs.{Groups}
use Rattle.sd_model.specs.Expression.{expression_value}
use Rattle.sd_compile.specs.declared.error.CompileError.{CompileError}
use Rattle.sd_compile.specs.declared.error.CompileError.TheVariants.{OverLimit, ArenaFull, OutOfMemory}
use Rattle.sd_compile.specs.Compiling.{CompiledPrefix, prefix_of, HoldsPrefix}
use Rattle.sd_compile.specs.Compiling.{KeepsOtherRoots, KeepsAll, IsGroupRefused}
use Rattle.sd_compile.specs.Compiling.{MaySweep}

-- ---- what roots hold

-- the node that a root holds shows what it showed
pub kept_shown : (a b : Table) → KeepsReached a b → (root c : ℕ) (d : Diagram) → get a.roots root ≡ Some c →
    ShowsCanonical a c d → ShowsCanonical b c d
kept_shown a b k root c d held is =
    record {
      shows =
          subst (λ x. ShowsBy x (get b.linked) c d) (sym k.vtree)
          (shows_within a.vtree (get a.linked) (get b.linked) (IsReached a)
          (λ m i place list p e stands. reached_below p e stands) (λ i key p e. k.nodes i key p e) d c
          (λ n same. reached_first (inl (root, held ∙ ap Some same))) is.shows);
      canonical = subst (λ x. IsCanonical (plain_tree x) 0 d) (sym k.vtree) is.canonical;
    }

-- so each root holds the diagram that it held
pub kept_holds : (a b : Table) → KeepsReached a b → (root : ℕ) (d : Diagram) → HoldsDiagram a root d →
    HoldsDiagram b root d
kept_holds a b k root d h =
    record {
      code = h.code;
      held = ap (λ m. get m root) k.roots ∙ h.held;
      is = kept_shown a b k root h.code d h.held h.is;
    }

-- and its node the value
pub kept_answer : (a b : Table) → KeepsReached a b → (root c : ℕ) (f : List Bool → Bool) → get a.roots root ≡ Some c →
    HasAnswer a f c → HasAnswer b f c
kept_answer a b k root c f held h =
    record { diagram = h.diagram; is = kept_shown a b k root c h.diagram held h.is; value = h.value }

-- ---- a root left out

-- what is reached without a root is reached
reached_without : (t : Table) (root : ℕ) {n : ℕ} → IsReached (without_root t root) n → IsReached t n
reached_without t root (reached_first {n = n} (inl h)) =
    reached_first (inl (h.0, left_was t.roots root h.0 (2050 + n) h.1))
reached_without t root (reached_first {n = n} (inr h)) = reached_first (inr h)
reached_without t root (reached_below {m = m} {n = n} {place = place} {list = list} h stored stands) =
    reached_below (reached_without t root h) stored stands

-- what stays with all roots stays without one
pub keeps_without : (a b : Table) (root : ℕ) → KeepsReached a b →
    KeepsReached (without_root a root) (without_root b root)
keeps_without a b root k =
    record {
      vtree = k.vtree;
      nodes = λ n key r e. k.nodes n key (reached_without a root r) e;
      roots = ap (λ m. remove m root) k.roots;
      loose = k.loose;
    }

-- an entry that is put in and taken out
removed_again : (m : FinMap nat_cmp ℕ) (k v : ℕ) → remove (insert m k v) k ≡ remove m k
removed_again m k v = same_at_each (remove (insert m k v) k) (remove m k) each
  where
    each : (q : ℕ) → get (remove (insert m k v) k) q ≡ get (remove m k) q
    each q = elim (cases_eq q k) [
      | inl e ↦
          subst (λ x. get (remove (insert m k v) k) x ≡ get (remove m k) x) (sym e)
          (get_remove_same (insert m k v) k ∙ sym (get_remove_same m k))
      | inr ne ↦
          get_remove_other (insert m k v) k q ne ∙ get_insert_other m k v q ne ∙ sym (get_remove_other m k q ne)
    ]

-- a new entry that is taken out again
removed_new : (m : FinMap nat_cmp ℕ) (k v : ℕ) → get m k ≡ None → remove (insert m k v) k ≡ m
removed_new m k v none = same_at_each (remove (insert m k v) k) m each
  where
    each : (q : ℕ) → get (remove (insert m k v) k) q ≡ get m q
    each q = elim (cases_eq q k) [
      | inl e ↦
          subst (λ x. get (remove (insert m k v) k) x ≡ get m x) (sym e)
          (get_remove_same (insert m k v) k ∙ sym none)
      | inr ne ↦ get_remove_other (insert m k v) k q ne ∙ get_insert_other m k v q ne
    ]

-- an entry that gets its value back
inserted_back : (m : FinMap nat_cmp ℕ) (k v w : ℕ) → get m k ≡ Some v → insert (insert m k w) k v ≡ m
inserted_back m k v w some = same_at_each (insert (insert m k w) k v) m each
  where
    each : (q : ℕ) → get (insert (insert m k w) k v) q ≡ get m q
    each q = elim (cases_eq q k) [
      | inl e ↦
          subst (λ x. get (insert (insert m k w) k v) x ≡ get m x) (sym e)
          (get_insert_same (insert m k w) k v ∙ sym some)
      | inr ne ↦ get_insert_other (insert m k w) k v q ne ∙ get_insert_other m k w q ne
    ]

-- what a root holds is nothing to the table without it
pub without_rebound : (t : Table) (root c : ℕ) → without_root (with_root t root c) root ≡ without_root t root
without_rebound t root c = ap (λ (m : FinMap nat_cmp ℕ). record t { roots = m }) (removed_again t.roots root c)

-- a new root that is released leaves the table
pub without_new : (t : Table) (root c : ℕ) → get t.roots root ≡ None → without_root (with_root t root c) root ≡ t
without_new t root c none = ap (λ (m : FinMap nat_cmp ℕ). record t { roots = m }) (removed_new t.roots root c none)

-- a root that is not there is none to take away
removed_absent : (m : FinMap nat_cmp ℕ) (k : ℕ) → get m k ≡ None → remove m k ≡ m
removed_absent m k none = same_at_each (remove m k) m each
  where
    each : (q : ℕ) → get (remove m k) q ≡ get m q
    each q = elim (cases_eq q k) [
      | inl e ↦ subst (λ x. get (remove m k) x ≡ get m x) (sym e) (get_remove_same m k ∙ sym none)
      | inr ne ↦ get_remove_other m k q ne
    ]

pub without_absent : (t : Table) (root : ℕ) → get t.roots root ≡ None → without_root t root ≡ t
without_absent t root none = ap (λ (m : FinMap nat_cmp ℕ). record t { roots = m }) (removed_absent t.roots root none)

-- a root that holds its former node again leaves the table
pub rebound_back : (t : Table) (root c d : ℕ) → get t.roots root ≡ Some c →
    with_root (with_root t root d) root c ≡ t
rebound_back t root c d some =
    ap (λ (m : FinMap nat_cmp ℕ). record t { roots = m }) (inserted_back t.roots root c d some)

-- the same of tables by equations
pub tried_back : (t v w : Table) (root again node former : ℕ) → v ≡ with_root t root node → again ≡ root →
    w ≡ with_root v again former → get t.roots root ≡ Some former → w ≡ t
tried_back t v w root again node former e same f some =
    f ∙ ap (λ r. with_root v r former) same ∙ ap (λ x. with_root x root former) e
    ∙ rebound_back t root former node some

-- the root is held
pub tried_held : (t v : Table) (root again node : ℕ) → v ≡ with_root t root node → again ≡ root →
    IsSome (get v.roots again)
tried_held t v root again node e same =
    subst (λ (x : Table). IsSome (get x.roots again)) (sym e)
    (subst (λ r. IsSome (get (insert t.roots root node) r)) (sym same)
    (subst IsSome (sym (get_insert_same t.roots root node)) refl))

-- and each node is one still
pub tried_node : (t v : Table) (root node c : ℕ) → v ≡ with_root t root node → IsNodeOf t c → IsNodeOf v c
tried_node t v root node c e k =
    subst (λ x. IsNodeOf x c) (sym e)
    (record { diagram = k.diagram; is = record { shows = k.is.shows; canonical = k.is.canonical } })

-- another root holds what it holds without one
left_holds : (t : Table) (root other : ℕ) (d : Diagram) → HoldsDiagram (without_root t root) other d →
    HoldsDiagram t other d
left_holds t root other d h =
    record {
      code = h.code;
      held = left_was t.roots root other h.code h.held;
      is = record { shows = h.is.shows; canonical = h.is.canonical };
    }

holds_left : (t : Table) (root other : ℕ) (d : Diagram) → other ≢ root → HoldsDiagram t other d →
    HoldsDiagram (without_root t root) other d
holds_left t root other d ne h =
    record {
      code = h.code;
      held = get_remove_other t.roots root other ne ∙ h.held;
      is = record { shows = h.is.shows; canonical = h.is.canonical };
    }

-- what stays apart from one root
pub others_kept : (old new : Table) (root : ℕ) → KeepsReached (without_root old root) (without_root new root) →
    new.bound ≡ old.bound → new.moving ≡ old.moving → KeepsOtherRoots old new root
others_kept old new root k bound moving =
    record {
      reached = k;
      holds = λ other d ne h.
          left_holds new root other d
          (kept_holds (without_root old root) (without_root new root) k other d (holds_left old root other d ne h));
      bound = bound;
      moving = moving;
    }

-- where all stays, so does all but one root
pub all_others : (old new : Table) (root : ℕ) → KeepsAll old new → KeepsOtherRoots old new root
all_others old new root k = others_kept old new root (keeps_without old new root k.reached) k.bound k.moving

-- one after the other
pub others_both : (a b c : Table) (root : ℕ) → KeepsOtherRoots a b root → KeepsOtherRoots b c root →
    KeepsOtherRoots a c root
others_both a b c root h k =
    others_kept a c root
    (keeps_both (without_root a root) (without_root b root) (without_root c root) h.reached k.reached)
    (k.bound ∙ h.bound) (k.moving ∙ h.moving)

-- nothing changed
pub others_self : (t : Table) (root : ℕ) → KeepsOtherRoots t t root
others_self t root =
    others_kept t t root (record { vtree = refl; nodes = λ n key r e. e; roots = refl; loose = refl }) refl refl

-- ---- one answer of a group

-- nodes were made
pub extended_all : (old new : Table) → Extends old new → KeepsAll old new
extended_all old new x =
    record {
      reached = keeps_extended old new x;
      holds = λ root d h. kept_holds old new (keeps_extended old new x) root d h;
      bound = x.bound;
      moving = x.moving;
    }

-- nodes were made
pub all_extended : (old new : Table) → Extends old new → KeepsAll old new
all_extended old new x =
    let k : KeepsReached old new = keeps_extended old new x in
    record {
      reached = k;
      holds = λ root d h. kept_holds old new k root d h;
      bound = x.bound;
      moving = x.moving;
    }

-- nodes were made, and one of them is held
pub held_others : (old mid new : Table) (root node : ℕ) → Extends old mid → new ≡ with_root mid root node →
    KeepsOtherRoots old new root
held_others old mid new root node x is =
    others_kept old new root
    (subst (KeepsReached (without_root old root))
    (sym (ap (λ t. without_root t root) is ∙ without_rebound mid root node))
    (keeps_without old mid root (keeps_extended old mid x))) (ap (λ (t : Table). t.bound) is ∙ x.bound)
    (ap (λ (t : Table). t.moving) is ∙ x.moving)

-- ---- a sweep, or nothing

-- all that is reached stays
keeps_may : (old new : Table) → MaySweep old new → KeepsReached old new
keeps_may old new (inl is) =
    subst (KeepsReached old) (sym is)
    (record { vtree = refl; nodes = λ n key r e. e; roots = refl; loose = refl })
keeps_may old new (inr s) = keeps_swept old new s

-- and so do the bound and the move
may_bound : (old new : Table) → MaySweep old new → new.bound ≡ old.bound
may_bound old new (inl is) = ap (λ (t : Table). t.bound) is
may_bound old new (inr s) = s.bound

may_moving : (old new : Table) → MaySweep old new → new.moving ≡ old.moving
may_moving old new (inl is) = ap (λ (t : Table). t.moving) is
may_moving old new (inr s) = s.moving

-- what stayed stays after it
pub all_may : (old mid new : Table) → KeepsAll old mid → MaySweep mid new → KeepsAll old new
all_may old mid new k s =
    let reached : KeepsReached old new = keeps_both old mid new k.reached (keeps_may mid new s) in
    record {
      reached = reached;
      holds = λ root d h. kept_holds old new reached root d h;
      bound = may_bound mid new s ∙ k.bound;
      moving = may_moving mid new s ∙ k.moving;
    }

pub others_may : (old mid new : Table) (root : ℕ) → KeepsOtherRoots old mid root → MaySweep mid new →
    KeepsOtherRoots old new root
others_may old mid new root k s =
    others_kept old new root
    (keeps_both (without_root old root) (without_root mid root) (without_root new root) k.reached
    (keeps_without mid new root (keeps_may mid new s))) (may_bound mid new s ∙ k.bound)
    (may_moving mid new s ∙ k.moving)

-- the prefix is held
pub prefix_may : (old new : Table) (f : Groups) (work : CompiledPrefix) → HoldsPrefix old f work → MaySweep old new →
    HoldsPrefix new f work
prefix_may old new f work h s = (
  h.0,
  record {
    code = h.1.code;
    held = ap (λ m. get m work.root) (keeps_may old new s).roots ∙ h.1.held;
    shown =
        kept_answer old new (keeps_may old new s) work.root h.1.code (expression_value (prefix_of f work.groups))
        h.1.held h.1.shown;
  },
)

-- the arena's rule outlasts a sweep
past_swept : (old new : Table) (elements : ℕ) → IsSwept old new → IsPastBound old elements → IsPastBound new elements
past_swept old new elements s h =
    let bound = s.bound in
    let extent = s.extent in
    record {
      past = omega (arith, h.past, bound);
      least = omega (arith, h.least, extent);
      most =
          subst (λ (v : Numbered). elements ≤ new.extent + (new.extent / 2 + 2 * leaves (plain_tree v) + 2))
          (sym s.vtree)
          (subst (λ x. elements ≤ x + (x / 2 + 2 * leaves (plain_tree old.vtree) + 2)) (sym extent) h.most);
    }

-- so a refusal is one still
pub refused_swept : (others old new : Table) (f : Groups) (limit groups : ℕ) (e : CompileError) →
    IsGroupRefused others old f limit groups e → IsSwept old new → IsGroupRefused others new f limit groups e
refused_swept others old new f limit groups (OverLimit group size most) h s = h
refused_swept others old new f limit groups (ArenaFull elements) h s = past_swept old new elements s h
refused_swept others old new f limit groups OutOfMemory h s = tt

-- also where nothing was swept
pub refused_may : (others old new : Table) (f : Groups) (limit groups : ℕ) (e : CompileError) →
    IsGroupRefused others old f limit groups e → MaySweep old new → IsGroupRefused others new f limit groups e
refused_may others old new f limit groups e h (inl is) =
    subst (λ t. IsGroupRefused others t f limit groups e) (sym is) h
refused_may others old new f limit groups e h (inr s) = refused_swept others old new f limit groups e h s

-- a new root is released, and all else stays
pub released_all : (old mid new : Table) (root again : ℕ) → get old.roots root ≡ None → KeepsOtherRoots old mid root →
    again ≡ root → new ≡ without_root mid again → KeepsAll old new
released_all old mid new root again absent k same is =
    let here : new ≡ without_root mid root = is ∙ ap (without_root mid) same in
    let reached : KeepsReached old new =
    subst (KeepsReached old) (sym here)
    (subst (λ t. KeepsReached t (without_root mid root)) (without_absent old root absent) k.reached) in
    record {
      reached = reached;
      holds = λ other d h. kept_holds old new reached other d h;
      bound = ap (λ (t : Table). t.bound) is ∙ k.bound;
      moving = ap (λ (t : Table). t.moving) is ∙ k.moving;
    }

-- ---- the cache

-- it serves after a sweep
pub serves_swept : (c : Answers) (old new : Table) → old.epoch ≤ last_epoch → IsSwept old new → Serves c old →
    Serves c new
serves_swept c old new last s h = go s.changed
  where
    go : (new ≡ old) ⊎ (IsLater old new × HasUnreached old) → Serves c new
    go (inl same) = subst (Serves c) (sym same) h
    go (inr k) = serves_past c old new last k.0 h

-- a sweep only takes nodes away
pub takes_away : (old new : Table) → old.epoch ≤ last_epoch → IsSwept old new → OnlyTakesAway old new
takes_away old new last s = record {
  vtree = s.vtree;
  nodes = λ n k e. (s.only n k e).0;
  epoch = risen s.changed;
  changed = later s.changed;
}
  where
    later : (new ≡ old) ⊎ (IsLater old new × HasUnreached old) → (new ≡ old) ⊎ IsLater old new
    later (inl same) = inl same
    later (inr k) = inr k.0

    higher : IsLater old new → old.epoch ≤ new.epoch
    higher (inl less) = omega (arith, less)
    higher (inr is) = omega (arith, last, is)

    risen : (new ≡ old) ⊎ (IsLater old new × HasUnreached old) → old.epoch ≤ new.epoch
    risen (inl same) = subst (λ (t : Table). old.epoch ≤ t.epoch) (sym same) (omega arith)
    risen (inr k) = higher k.0

-- whatever the roots hold
pub serves_roots : (c : Answers) (t : Table) (roots : FinMap nat_cmp ℕ) → Serves c t →
    Serves c (record t { roots = roots })
serves_roots c t roots serves = serves_beside c t (record t { roots = roots }) refl refl refl serves

-- so where one holds another node
pub serves_rebound : (c : Answers) (t v : Table) (root node : ℕ) → v ≡ with_root t root node → Serves c t → Serves c v
serves_rebound c t v root node e h = subst (Serves c) (sym e) (serves_roots c t (insert t.roots root node) h)
