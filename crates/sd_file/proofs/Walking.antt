-- The walk over the nodes below a node: what it may visit, and what is complete so far.
use Rattle.std.proofs.Common.{◌≡◌, ℕ, zero, suc, ◌+◌, ◌-◌, ◌<◌, ◌≤◌, List, [], ◌∷◌, length, drop, get_or}
use Rattle.std.proofs.Common.{Some, slice_get, refl, sym, ◌∙◌, ap, subst, arith, add-one}
use Rattle.std.proofs.Math.Seq.{drop-cons}
use Rattle.std.proofs.lemmas.Option.{same_Some}
use Rattle.std.proofs.lemmas.List.Elements.{All-from_recursion}
use Rattle.std.specs.FinMap.{get}
use Rattle.std.specs.List.{AllByRecursion}
use Rattle.sd_model.specs.Diagram.{Diagram, Decomposition, Elements, End, Pair}
use Rattle.sd_model.specs.Canonical.{IsCanonical, IsElement, first, later}
use Rattle.sd_model.specs.Size.{walk, walk_elements}
use Rattle.sd_model.specs.Listing.{add}
use Rattle.sd_model.proofs.Adding.{add_pair}
use Rattle.sd_vtree.specs.Numbered.{numbers, plain_tree}
use Rattle.sd_laws.specs.Depth.{depth, depth_of}
use Rattle.sd_laws.specs.Shown.{ShowElements}
use Rattle.sd_laws.proofs.Nodes.{elements_canonical}
use Rattle.sd_manager.specs.Table.{Table}
use Rattle.sd_manager.specs.Shown.{Shows, ShowsCanonical}
use Rattle.sd_file.specs.declared.lines.Listing.{Listing}
use Rattle.sd_manager.specs.declared.view.View.TheVariants.{Decomposition as DecompositionView}
use Rattle.sd_manager.specs.Views.{IsViewOf}
use Rattle.sd_file.specs.Ordered.{Lists, IsOrdered, AreOrdered, HasElements}
use Rattle.sd_file.specs.Lines.{HasNodeLines, CanBeWalked, BothCanBeWalked}

-- the primes and subs of elements may be visited
pub all_walkable : (t : Table) (lists : Lists) (levels : ℕ) (l : List (ℕ × ℕ)) (es : Elements) →
    ShowElements t.vtree (get t.linked) l es →
    ((p s : Diagram) → IsElement p s es → IsCanonical (plain_tree t.vtree) 0 p × IsCanonical (plain_tree t.vtree) 0 s) →
    AreOrdered t es lists → depth_of es ≤ levels → AllByRecursion (BothCanBeWalked t lists levels) l
all_walkable t lists levels [] es shown fits order deep = tt
all_walkable t lists levels (e ∷ l) End shown fits order deep = absurd shown
all_walkable t lists levels (e ∷ l) (Pair p s rest) shown fits order deep = (
  (
    (p, record { shows = shown.0; canonical = (fits p s first).0 }, omega arith, order.0),
    (s, record { shows = shown.1; canonical = (fits p s first).1 }, omega arith, order.1),
  ),
  all_walkable t lists levels l rest shown.2 (λ x y m. fits x y (later m)) order.2 (omega arith),
)

-- so may those of a decomposition that is shown
pub elements_walkable : (t : Table) (lists : Lists) (levels c q : ℕ) (es : Elements) (l : List (ℕ × ℕ)) →
    ShowsCanonical t c (Decomposition q es) → ShowElements t.vtree (get t.linked) l es → AreOrdered t es lists →
    depth (Decomposition q es) ≤ levels → AllByRecursion (BothCanBeWalked t lists (levels - 1)) l
elements_walkable t lists levels c q es l h shown order deep =
    all_walkable t lists (levels - 1) l es shown (elements_canonical h.canonical) order (omega arith)

-- what is complete, and the elements that are left
pub record WalkLeft (t : Table) (pairs : List (ℕ × ℕ)) (new : Listing) (whole : List Diagram) : Type 0 where
  pub now : List Diagram
  pub rest : Elements
  pub written : HasNodeLines t new now
  pub shown : ShowElements t.vtree (get t.linked) pairs rest
  pub is : add now (walk_elements rest) ≡ whole

-- the elements before this place are walked
pub record HasWalked (t : Table) (pairs : List (ℕ × ℕ)) (i : ℕ) (old new : Listing) : Type 0 where
  pub listed : (ds : List Diagram) × HasNodeLines t new ds
  pub each : (es : Elements) (ds : List Diagram) → ShowElements t.vtree (get t.linked) pairs es
      → HasNodeLines t old ds →
      WalkLeft t (drop i pairs) new (add ds (walk_elements es))

-- none is walked yet
pub walked_none : (t : Table) (pairs : List (ℕ × ℕ)) (listing : Listing) →
    (ds : List Diagram) × HasNodeLines t listing ds →
    HasWalked t pairs 0 listing listing
walked_none t pairs listing some =
    record {
      listed = some;
      each = λ es ds shown h. record { now = ds; rest = es; written = h; shown = shown; is = refl };
    }

-- what is left after one element more
left_more : (t : Table) (e : ℕ × ℕ) (l : List (ℕ × ℕ)) (a b c : Listing) (whole : List Diagram) →
    WalkLeft t (e ∷ l) a whole →
    ((d : Diagram) (ds : List Diagram) → Shows t e.0 d → HasNodeLines t a ds → HasNodeLines t b (add ds (walk d))) →
    ((d : Diagram) (ds : List Diagram) → Shows t e.1 d → HasNodeLines t b ds → HasNodeLines t c (add ds (walk d))) →
    WalkLeft t l c whole
left_more t e l a b c whole w prime sub = go w.rest w.shown w.is
  where
    go : (es : Elements) → ShowElements t.vtree (get t.linked) (e ∷ l) es → add w.now (walk_elements es) ≡ whole →
        WalkLeft t l c whole
    go End shown is = absurd shown
    go (Pair p s rest) shown is =
        record {
          now = add (add w.now (walk p)) (walk s);
          rest = rest;
          written = sub s (add w.now (walk p)) shown.1 (prime p w.now shown.0 w.written);
          shown = shown.2;
          is = sym (add_pair w.now p s rest) ∙ is;
        }

-- one element more is walked
pub walked_more : (t : Table) (lists : Lists) (levels : ℕ) (pairs : List (ℕ × ℕ)) (i : ℕ) (e : ℕ × ℕ)
    (old a b c : Listing) → HasWalked t pairs i old a → drop i pairs ≡ e ∷ drop (i + 1) pairs →
    BothCanBeWalked t lists levels e →
    ((d : Diagram) (ds : List Diagram) → Shows t e.0 d → HasNodeLines t a ds → HasNodeLines t b (add ds (walk d))) →
    ((d : Diagram) (ds : List Diagram) → Shows t e.1 d → HasNodeLines t b ds → HasNodeLines t c (add ds (walk d))) →
    HasWalked t pairs (i + 1) old c
walked_more t lists levels pairs i e old a b c h next can prime sub =
    record {
      listed = (
        add (add h.listed.0 (walk can.0.0)) (walk can.1.0),
        sub can.1.0 (add h.listed.0 (walk can.0.0)) can.1.1.shows (prime can.0.0 h.listed.0 can.0.1.shows h.listed.1),
      );
      each = λ es ds shown w.
          left_more t e (drop (i + 1) pairs) a b c (add ds (walk_elements es))
          (subst (λ l. WalkLeft t l a (add ds (walk_elements es))) next (h.each es ds shown w)) prime sub;
    }

-- all are walked
pub walked_all : (t : Table) (pairs : List (ℕ × ℕ)) (i : ℕ) (old new : Listing) → HasWalked t pairs i old new →
    drop i pairs ≡ [] → (es : Elements) (ds : List Diagram) → ShowElements t.vtree (get t.linked) pairs es →
    HasNodeLines t old ds → HasNodeLines t new (add ds (walk_elements es))
walked_all t pairs i old new h done es ds shown w =
    let left = subst (λ l. WalkLeft t l new (add ds (walk_elements es))) done (h.each es ds shown w) in
    go left.rest left.now left.written left.shown left.is
  where
    go : (rest : Elements) (now : List Diagram) → HasNodeLines t new now → ShowElements t.vtree (get t.linked) [] rest →
        add now (walk_elements rest) ≡ add ds (walk_elements es) → HasNodeLines t new (add ds (walk_elements es))
    go End now written left is = subst (HasNodeLines t new) is written
    go (Pair p s more) now written left is = absurd left

-- the element at an index

-- it may be visited
pub both_at : (t : Table) (lists : Lists) (levels : ℕ) (pairs : List (ℕ × ℕ)) (i : ℕ) (e : ℕ × ℕ) →
    AllByRecursion (BothCanBeWalked t lists levels) pairs → i < length pairs → e ≡ get_or pairs i e →
    BothCanBeWalked t lists levels e
both_at t lists levels pairs i e all lt is =
    subst (BothCanBeWalked t lists levels) (sym is)
    (All-from_recursion (BothCanBeWalked t lists levels) pairs all i e lt)

-- it is the first of what is left
pub next_left : {X : Type 0} (pairs : List X) (i : ℕ) (e : X) → i < length pairs → e ≡ get_or pairs i e →
    drop i pairs ≡ e ∷ drop (i + 1) pairs
next_left pairs i e lt is =
    drop-cons pairs i e lt ∙ ap (λ x. x ∷ drop (suc i) pairs) (sym is) ∙ rw add-one refl

-- nothing is left at the end
pub none_left : {X : Type 0} (pairs : List X) (i : ℕ) → length pairs ≤ i → drop i pairs ≡ []
none_left [] zero h = refl
none_left [] (suc i) h = refl
none_left (e ∷ pairs) zero h = absurd (omega arith)
none_left (e ∷ pairs) (suc i) h = none_left pairs i (omega (arith, h))

-- a decomposition that may be visited, with its elements
pub record IsInside (t : Table) (lists : Lists) (levels c place : ℕ) (d : Diagram) : Type 0 where
  pub position : ℕ
  pub elements : Elements
  pub is : d ≡ Decomposition position elements
  pub shown : ShowsCanonical t c (Decomposition position elements)
  pub deep : depth (Decomposition position elements) ≤ levels
  pub kept : HasElements t lists c elements
  pub ordered : AreOrdered t elements lists
  pub at : slice_get (numbers t.vtree) position ≡ Some place

-- what is read as a decomposition is one
pub inside : (t : Table) (lists : Lists) (levels c place n : ℕ) → (k : CanBeWalked t lists levels c) →
    IsViewOf t (DecompositionView place n) k.0 → IsInside t lists levels c place k.0
inside t lists levels c place n k w =
    let shown : ShowsCanonical t c (Decomposition w.0 w.1) = subst (ShowsCanonical t c) w.2 k.1 in
    let ordered : IsOrdered t (Decomposition w.0 w.1) lists = subst (λ d. IsOrdered t d lists) w.2 k.3 in
    record {
      position = w.0;
      elements = w.1;
      is = w.2;
      shown = shown;
      deep = subst (λ d. depth d ≤ levels) w.2 k.2;
      kept = ordered.0 c shown.shows;
      ordered = ordered.1;
      at = w.4;
    }

-- the list that is kept of it shows its elements
pub inside_shown : (t : Table) (lists : Lists) (levels c place : ℕ) (d : Diagram) (l : List (ℕ × ℕ)) →
    (i : IsInside t lists levels c place d) → lists c ≡ Some l → ShowElements t.vtree (get t.linked) l i.elements
inside_shown t lists levels c place d l i is =
    subst (λ l. ShowElements t.vtree (get t.linked) l i.elements)
    (same_Some i.kept.list l (sym i.kept.is ∙ is)) i.kept.shown

-- and they may be visited
pub inside_walkable : (t : Table) (lists : Lists) (levels c place : ℕ) (d : Diagram) (l : List (ℕ × ℕ)) →
    IsInside t lists levels c place d → lists c ≡ Some l →
    AllByRecursion (BothCanBeWalked t lists (levels - 1)) l
inside_walkable t lists levels c place d l i is =
    elements_walkable t lists levels c i.position i.elements l i.shown
    (inside_shown t lists levels c place d l i is) i.ordered i.deep
