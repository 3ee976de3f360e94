-- In the list of the distinct diagrams under some roots each one stands behind those under it, and each root is there.
use Rattle.std.proofs.Common.{◌≡◌, Bool, true, false, cond, List, [], ◌∷◌, ◌++◌}
use Rattle.std.proofs.Common.{refl, sym, ◌∙◌, subst, append_assoc, append-nil}
use Rattle.std.specs.List.{AllByRecursion, flat_map}
use Rattle.sd_model.specs.Diagram.{Diagram, Bottom, Top, Literal, Decomposition, Elements, End, Pair}
use Rattle.sd_model.specs.Canonical.{IsElement, first, later}
use Rattle.sd_model.specs.Size.{is_same, walk, walk_elements, completed}
use Rattle.sd_model.specs.Listing.{is_among, add_one, add}
use Rattle.sd_model.proofs.Blend.{or_left, or_right}
use Rattle.sd_model.proofs.Adding.{same_itself, add_append, add_pair, is_among_append, completed_walks}

-- the primes and subs of a diagram stand in the list
abbrev pub ChildrenAmong : List Diagram → Diagram → Type 0
ChildrenAmong ds (Decomposition p es) =
    (q s : Diagram) → IsElement q s es → (is_among q ds ≡ true) × (is_among s ds ≡ true)
ChildrenAmong ds _ = Unit {0}

-- each diagram of the list stands behind its primes and subs, the earlier ones included
abbrev pub IsClosed : List Diagram → List Diagram → Type 0
IsClosed before [] = Unit {0}
IsClosed before (d ∷ ds) = ChildrenAmong before d × IsClosed (before ++ d ∷ []) ds

-- a diagram may follow whose primes and subs are there
closed_push : (before ds : List Diagram) (d : Diagram) → IsClosed before ds → ChildrenAmong (before ++ ds) d →
    IsClosed before (ds ++ d ∷ [])
closed_push before [] d c h = (rw append-nil at h, tt)
closed_push before (e ∷ ds) d c h =
    (c.0, closed_push (before ++ e ∷ []) ds d c.1 (rw (← append_assoc before (e ∷ []) ds) at h))

-- the second list has what the first has, and is closed
pub record Lists (ds es : List Diagram) : Type 0 where
  pub extends : (x : Diagram) → is_among x ds ≡ true → is_among x es ≡ true
  pub closed : IsClosed [] es

-- a closed list with a diagram in it
pub record Added (ds : List Diagram) (d : Diagram) (es : List Diagram) : Type 0 where
  pub lists : Lists ds es
  pub among : is_among d es ≡ true

-- adding a diagram whose primes and subs are there
add_one_lists : (ds : List Diagram) (d : Diagram) → IsClosed [] ds → ChildrenAmong ds d → Added ds d (add_one ds d)
add_one_lists ds d c h = go (is_among d ds) refl
  where
    go : (b : Bool) → is_among d ds ≡ b → Added ds d (cond b ds (ds ++ d ∷ []))
    go true e = record { lists = record { extends = λ x k. k; closed = c }; among = e }
    go false e = record {
      lists = record {
        extends = λ x k. is_among_append x ds (d ∷ []) ∙ or_left (is_among x ds) (is_among x (d ∷ [])) k;
        closed = closed_push [] ds d c h;
      };
      among =
          is_among_append d ds (d ∷ [])
          ∙ or_right (is_among d ds) (is_among d (d ∷ [])) (or_left (is_same d d) false (same_itself d));
    }

-- a closed list with the primes and subs of some elements in it
pub record AddedElements (ds : List Diagram) (es : Elements) (fs : List Diagram) : Type 0 where
  pub lists : Lists ds fs
  pub among : (q s : Diagram) → IsElement q s es → (is_among q fs ≡ true) × (is_among s fs ≡ true)

-- one addition after another
joined : {ds es fs : List Diagram} → Lists ds es → Lists es fs → Lists ds fs
joined a b = record { extends = λ x k. b.extends x (a.extends x k); closed = b.closed }

-- an element is the first one or a later one
element_cases : (p s : Diagram) (rest : Elements) (fs : List Diagram) → is_among p fs ≡ true → is_among s fs ≡ true →
    ((q t : Diagram) → IsElement q t rest → (is_among q fs ≡ true) × (is_among t fs ≡ true)) →
    (q t : Diagram) → IsElement q t (Pair p s rest) → (is_among q fs ≡ true) × (is_among t fs ≡ true)
element_cases p s rest fs hp hs h q t first = (hp, hs)
element_cases p s rest fs hp hs h q t (later m) = h q t m

mutual
  -- adding a walk keeps the list closed, and its root is there
  pub add_walk : (d : Diagram) (ds : List Diagram) → IsClosed [] ds → Added ds d (add ds (walk d))
  add_walk Bottom ds c = add_one_lists ds Bottom c tt
  add_walk Top ds c = add_one_lists ds Top c tt
  add_walk (Literal p x s) ds c = add_one_lists ds (Literal p x s) c tt
  add_walk (Decomposition p es) ds c =
      let under : List Diagram = add ds (walk_elements es) in
      let w : AddedElements ds es under = add_walk_elements es ds c in
      let one : Added under (Decomposition p es) (add_one under (Decomposition p es)) =
      add_one_lists under (Decomposition p es) w.lists.closed w.among in
      let whole : Added ds (Decomposition p es) (add_one under (Decomposition p es)) =
      record { lists = joined w.lists one.lists; among = one.among } in
      subst (Added ds (Decomposition p es)) (sym (add_append ds (walk_elements es) (Decomposition p es ∷ []))) whole

  -- adding the walk of elements brings in their primes and subs
  pub add_walk_elements : (es : Elements) (ds : List Diagram) → IsClosed [] ds →
      AddedElements ds es (add ds (walk_elements es))
  add_walk_elements End ds c = record { lists = record { extends = λ x k. k; closed = c }; among = λ q s m. elim m [ ] }
  add_walk_elements (Pair p s rest) ds c =
      let with_prime : List Diagram = add ds (walk p) in
      let with_sub : List Diagram = add with_prime (walk s) in
      let with_rest : List Diagram = add with_sub (walk_elements rest) in
      let a : Added ds p with_prime = add_walk p ds c in
      let b : Added with_prime s with_sub = add_walk s with_prime a.lists.closed in
      let r : AddedElements with_sub rest with_rest = add_walk_elements rest with_sub b.lists.closed in
      let whole : AddedElements ds (Pair p s rest) with_rest =
      record {
        lists = joined a.lists (joined b.lists r.lists);
        among =
            element_cases p s rest with_rest (r.lists.extends p (b.lists.extends p a.among))
            (r.lists.extends s b.among) r.among;
      } in
      subst (AddedElements ds (Pair p s rest)) (sym (add_pair ds p s rest)) whole

-- each of these diagrams stands in the list
abbrev pub AreAllAmong : List Diagram → List Diagram → Type 0
AreAllAmong ds roots = AllByRecursion (λ d. is_among d ds ≡ true) roots

-- a closed list with some roots in it
pub record AddedRoots (ds roots es : List Diagram) : Type 0 where
  pub lists : Lists ds es
  pub among : AreAllAmong es roots

-- adding the walks of roots, one after another
add_walks : (roots ds : List Diagram) → IsClosed [] ds → AddedRoots ds roots (add ds (flat_map walk roots))
add_walks [] ds c = record { lists = record { extends = λ x k. k; closed = c }; among = tt }
add_walks (d ∷ roots) ds c =
    let one : Added ds d (add ds (walk d)) = add_walk d ds c in
    let rest : AddedRoots (add ds (walk d)) roots (add (add ds (walk d)) (flat_map walk roots)) =
    add_walks roots (add ds (walk d)) one.lists.closed in
    let whole : AddedRoots ds (d ∷ roots) (add (add ds (walk d)) (flat_map walk roots)) =
    record { lists = joined one.lists rest.lists; among = (rest.lists.extends d one.among, rest.among) } in
    subst (AddedRoots ds (d ∷ roots)) (sym (add_append ds (walk d) (flat_map walk roots))) whole

-- the list of the distinct diagrams is such a list
roots_completed : (roots : List Diagram) → AddedRoots [] roots (completed roots)
roots_completed roots = subst (AddedRoots [] roots) (sym (completed_walks roots)) (add_walks roots [] tt)

-- so it is closed
pub closed_completed : (roots : List Diagram) → IsClosed [] (completed roots)
closed_completed roots = (roots_completed roots).lists.closed

-- and has the roots
pub roots_among : (roots : List Diagram) → AreAllAmong (completed roots) roots
roots_among roots = (roots_completed roots).among
