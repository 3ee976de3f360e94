-- The index of a diagram in a list in which each diagram stands once.
use Rattle.std.proofs.Common.{◌≡◌, ◌≢◌, suc, ◌<◌, ◌≤◌, Bool, true, false, cond, ◌||◌, List, [], ◌∷◌, ◌++◌}
use Rattle.std.proofs.Common.{map, length, slice_index_or, refl, sym, ap, ◌∙◌, subst, arith, append_assoc, append-nil}
use Rattle.std.specs.List.{AllByRecursion, flat_map}
use Rattle.sd_model.specs.Diagram.{Diagram}
use Rattle.sd_model.specs.Canonical.{AreDifferent}
use Rattle.sd_model.specs.Size.{is_same, walk, completed}
use Rattle.sd_model.specs.Listing.{is_among, add}
use Rattle.sd_model.specs.Text.{index_of}
use Rattle.sd_model.proofs.Adding.{same_itself, equal_from_same, is_among_append, completed_walks}
use Rattle.sd_model.proofs.Blend.{or_left, or_right}

-- no diagram of the list stands before itself, earlier ones included
abbrev pub AreNew : List Diagram → List Diagram → Type 0
AreNew before [] = Unit {0}
AreNew before (d ∷ ds) = (is_among d before ≡ false) × AreNew (before ++ d ∷ []) ds

-- one more that does not
new_push : (before ds : List Diagram) (d : Diagram) → AreNew before ds → is_among d (before ++ ds) ≡ false
    → AreNew before (ds ++ d ∷ [])
new_push before [] d new h = (rw append-nil at h, tt)
new_push before (e ∷ ds) d new h =
    (new.0, new_push (before ++ e ∷ []) ds d new.1 (rw (← append_assoc before (e ∷ []) ds) at h))

-- adding to such a list gives one
new_add : (ds es : List Diagram) → AreNew [] ds → AreNew [] (add ds es)
new_add ds [] new = new
new_add ds (e ∷ es) new =
    go (new_add ds es new) (λ h. new_add (ds ++ e ∷ []) es (new_push [] ds e new h)) (is_among e ds) refl
  where
    go : AreNew [] (add ds es) → (is_among e ds ≡ false → AreNew [] (add (ds ++ e ∷ []) es)) → (b : Bool)
        → is_among e ds ≡ b → AreNew [] (add (cond b ds (ds ++ e ∷ [])) es)
    go there new true is = there
    go there new false is = new is

-- the diagrams under roots stand once each
pub new_completed : (roots : List Diagram) → AreNew [] (completed roots)
new_completed roots = subst (AreNew []) (sym (completed_walks roots)) (new_add [] (flat_map walk roots) tt)

-- an earlier diagram is none of them
new_differ : (d : Diagram) (before ds : List Diagram) → is_among d before ≡ true → AreNew before ds
    → AllByRecursion (λ e. d ≢ e) ds
new_differ d before [] is new = tt
new_differ d before (e ∷ ds) is new =
    let there = is_among_append d before (e ∷ []) ∙ or_left (is_among d before) (is_among d (e ∷ [])) is in (
      λ same. cc (new.0, subst (λ x. is_among x before ≡ true) same is),
      new_differ d (before ++ e ∷ []) ds there new.1,
    )

-- so they are different
pub all_differ : (before ds : List Diagram) → AreNew before ds → AreDifferent ds
all_differ before [] new = tt
all_differ before (d ∷ ds) new =
    let same : is_among d (d ∷ []) ≡ true = or_left (is_same d d) false (same_itself d) in
    let there : is_among d (before ++ d ∷ []) ≡ true =
    is_among_append d before (d ∷ []) ∙ or_right (is_among d before) (is_among d (d ∷ [])) same in
    (new_differ d (before ++ d ∷ []) ds there new.1, all_differ (before ++ d ∷ []) ds new.1)

-- ---- places

-- a new diagram has the place behind the earlier ones
pub index_new : (d : Diagram) (before ds : List Diagram) → is_among d before ≡ false
    → index_of d (before ++ d ∷ ds) ≡ length before
index_new d [] ds h = rw (same_itself d) refl
index_new d (x ∷ before) ds h = go (is_same d x) refl h (index_new d before ds)
  where
    go : (b : Bool) → is_same d x ≡ b → (b || is_among d before) ≡ false
        → (is_among d before ≡ false → index_of d (before ++ d ∷ ds) ≡ length before)
        → index_of d ((x ∷ before) ++ d ∷ ds) ≡ length (x ∷ before)
    go true is h later = absurd cc
    go false is h later = rw is (ap suc (later h))

-- an earlier diagram has a place among them
pub index_below : (d : Diagram) (before ds : List Diagram) → is_among d before ≡ true
    → index_of d (before ++ ds) < length before
index_below d [] ds h = absurd cc
index_below d (x ∷ before) ds h = go (is_same d x) refl h (index_below d before ds)
  where
    go : (b : Bool) → is_same d x ≡ b → (b || is_among d before) ≡ true
        → (is_among d before ≡ true → index_of d (before ++ ds) < length before)
        → index_of d ((x ∷ before) ++ ds) < length (x ∷ before)
    go true is h later = rw is (omega arith)
    go false is h later = rw is (let low = later h in omega arith)

-- no place is past the end
pub index_most : (d : Diagram) (ds : List Diagram) → index_of d ds ≤ length ds
index_most d [] = omega arith
index_most d (x ∷ ds) = go (is_same d x) refl (index_most d ds)
  where
    go : (b : Bool) → is_same d x ≡ b → index_of d ds ≤ length ds → index_of d (x ∷ ds) ≤ length (x ∷ ds)
    go true is low = rw is (omega arith)
    go false is low = rw is (omega arith)

-- at its place stands what belongs to it
pub value_at_index : {X : Type 0} (f : Diagram → X) (none : X) (d : Diagram) (before ds : List Diagram)
    → is_among d before ≡ true → slice_index_or (map f before) (index_of d (before ++ ds)) none ≡ f d
value_at_index f none d [] ds h = absurd cc
value_at_index f none d (x ∷ before) ds h = go (is_same d x) refl h (value_at_index f none d before ds)
  where
    go : (b : Bool) → is_same d x ≡ b → (b || is_among d before) ≡ true
        → (is_among d before ≡ true → slice_index_or (map f before) (index_of d (before ++ ds)) none ≡ f d)
        → slice_index_or (map f (x ∷ before)) (index_of d ((x ∷ before) ++ ds)) none ≡ f d
    go true is h later = rw is (ap f (sym (equal_from_same d x is)))
    go false is h later = rw is (later h)
