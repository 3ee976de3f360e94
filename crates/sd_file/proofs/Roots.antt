-- Several roots: what is collected, ordered and written of the first of them.
use Rattle.std.proofs.Common.{◌≡◌, ℕ, suc, ◌+◌, ◌-◌, ◌<◌, ◌≤◌, true, cond, List, [], ◌∷◌, length, drop, take}
use Rattle.std.proofs.Common.{get_or, refl, sym, ◌∙◌, ap, subst, arith}
use Rattle.std.specs.List.{AllByRecursion, AllZip, flat_map}
use Rattle.std.specs.BTreeMap.{BTreeMap}
use Rattle.std.specs.declared.vec.Vec.{Vec}
use Rattle.std.specs.declared.alloc.Global.{Global}
use Rattle.std.proofs.lemmas.List.Elements.{All-from_recursion}
use Rattle.std.proofs.lemmas.Option.{slice_get_read}
use Rattle.sd_model.specs.Tree.{leaves}
use Rattle.sd_model.specs.Diagram.{Diagram}
use Rattle.sd_model.specs.Size.{walk, completed}
use Rattle.sd_model.specs.Listing.{is_among, add}
use Rattle.sd_model.specs.Text.{index_of, root_lines, naming_lines}
use Rattle.sd_model.proofs.Adding.{add_append, completed_walks}
use Rattle.sd_model.proofs.ClosedLists.{AreAllAmong, roots_among}
use Rattle.sd_vtree.specs.Numbered.{plain_tree, number_of}
use Rattle.sd_laws.proofs.Depths.{depth_canonical}
use Rattle.sd_laws.proofs.Lists.{all_weaker}
use Rattle.sd_laws.proofs.Products.{all_push}
use Rattle.sd_manager.specs.Table.{Table}
use Rattle.sd_manager.specs.Shown.{Shows, ShowsCanonical, IsNodeOf}
use Rattle.sd_manager.specs.Valid.{IsTable}
use Rattle.sd_file.specs.declared.lines.Listing.{Listing}
use Rattle.sd_file.specs.declared.numbers.Numbers.{Numbers}
use Rattle.sd_file.specs.declared.known.Ordered.{Ordered}
use Rattle.sd_file.specs.declared.order.Found.{Found}
use Rattle.sd_file.specs.Lines.{AreNumbered, HasNodeLines, CanBeWalked}
use Rattle.sd_file.specs.Numbers.{mark_at, HasNumber, root_words, naming_words}
use Rattle.sd_file.specs.Ordered.{Lists, HasOrder, list_of}
use Rattle.sd_file.specs.Ranks.{IsLeft, HasRankOrGroup, KeepCollected, AreCollected, AreRanks}
use Rattle.sd_file.specs.Ranks.{IsCanonicalForSubtree, IsShownWithin, HaveCollectedTo}
use Rattle.sd_file.proofs.Collecting.{in_order_below}
use Rattle.sd_file.proofs.Grouping.{take_next}
use Rattle.sd_file.proofs.RankedBelow.{root_below, ranked_or}

-- the code at an index has what all have
pub code_at : (P : ℕ → Type 0) (codes : List ℕ) (i c : ℕ) → AllByRecursion P codes → i < length codes
    → c ≡ get_or codes i c → P c
code_at P codes i c all lt is = subst P (sym is) (All-from_recursion P codes all i c lt)

-- ---- what is collected

-- one root more
pub collected_root : (t : Table) (o p : Ordered) (f g : Found) (codes : List ℕ) (i c : ℕ)
    → HaveCollectedTo t o f codes i → i < length codes → c ≡ get_or codes i c → AreCollected t p g
    → KeepCollected o p f g → HasRankOrGroup p g.groups c → HaveCollectedTo t p g codes (i + 1)
collected_root t o p f g codes i c so_far lt is collected keeps_all stands =
    record {
      collected = collected;
      stand =
          subst (AllByRecursion (HasRankOrGroup p g.groups))
          (sym (take_next codes i c (slice_get_read codes (length codes) i c refl lt is)))
          (all_push (HasRankOrGroup p g.groups) (take i codes) c
          (all_weaker (HasRankOrGroup o f.groups) (HasRankOrGroup p g.groups) keeps_all (take i codes) so_far.stand)
          stands);
    }

-- ---- what is in order

-- what stands, once nothing is left of the groups at the root of the vtree
pub all_ordered : (t : Table) → IsTable t → (o : Ordered) (groups : BTreeMap ℕ (Vec ℕ Global)) (u : ℕ)
    → u ≡ number_of t.vtree → AreRanks t o
    → ((c : ℕ) (d : Diagram) → IsLeft groups c → Shows t c d → ¬ IsCanonicalForSubtree t.vtree u d)
    → (codes : List ℕ) → AllByRecursion (HasRankOrGroup o groups) codes
    → AllByRecursion (HasOrder t (list_of o)) codes
all_ordered t table o groups u root ranks none codes stand =
    all_weaker (HasRankOrGroup o groups) (HasOrder t (list_of o))
    (λ c stands d shows.
    let below : IsCanonicalForSubtree t.vtree u d =
    subst (λ n. IsCanonicalForSubtree t.vtree n d) (sym root) (root_below t.vtree d shows.canonical) in
    in_order_below t table o ranks d c (ranked_or o groups c stands (λ l. none c d l shows.shows below)) shows.shows)
    codes stand

-- ---- what may be visited

-- a node that shows a canonical diagram shows one of at most as many levels as there are variables
pub within_levels : (t : Table) (levels : ℕ) (codes : List ℕ) → leaves (plain_tree t.vtree) ≤ levels
    → AllByRecursion (IsNodeOf t) codes → AllByRecursion (IsShownWithin t levels) codes
within_levels t levels codes room all =
    all_weaker (IsNodeOf t) (IsShownWithin t levels)
    (λ c k. (k.diagram, k.is, omega (arith, depth_canonical k.is.canonical, room))) codes all

-- and whose decompositions are in order
pub roots_walkable : (t : Table) (lists : Lists) (levels : ℕ) (codes : List ℕ) → leaves (plain_tree t.vtree) ≤ levels
    → AllByRecursion (IsNodeOf t) codes → AllByRecursion (HasOrder t lists) codes
    → AllByRecursion (CanBeWalked t lists levels) codes
roots_walkable t lists levels [] room all order = tt
roots_walkable t lists levels (c ∷ codes) room all order = (
  (
    all.0.diagram,
    all.0.is,
    omega (arith, depth_canonical all.0.is.canonical, room),
    order.0 all.0.diagram all.0.is,
  ),
  roots_walkable t lists levels codes room all.1 order.1,
)

-- the diagrams that nodes show
pub shown_diagrams : (t : Table) (codes : List ℕ) → AllByRecursion (IsNodeOf t) codes
    → (ds : List Diagram) × AllZip (ShowsCanonical t) codes ds
shown_diagrams t [] all = ([], tt)
shown_diagrams t (c ∷ codes) all =
    let rest = shown_diagrams t codes all.1 in
    (all.0.diagram ∷ rest.0, (all.0.is, rest.1))

-- ---- what is written

-- what is complete, and the roots that are left
pub record RootsLeft (t : Table) (codes : List ℕ) (new : Listing) (whole : List Diagram) : Type 0 where
  pub now : List Diagram
  pub rest : List Diagram
  pub written : HasNodeLines t new now
  pub shown : AllZip (ShowsCanonical t) codes rest
  pub is : add now (flat_map walk rest) ≡ whole

-- the roots before this place are walked
pub record HaveWalked (t : Table) (codes : List ℕ) (i : ℕ) (old new : Listing) : Type 0 where
  pub listed : (ds : List Diagram) × HasNodeLines t new ds
  pub each : (roots ds : List Diagram) → AllZip (ShowsCanonical t) codes roots → HasNodeLines t old ds
      → RootsLeft t (drop i codes) new (add ds (flat_map walk roots))

-- none is walked yet
pub roots_none : (t : Table) (codes : List ℕ) (listing : Listing) → (ds : List Diagram) × HasNodeLines t listing ds
    → HaveWalked t codes 0 listing listing
roots_none t codes listing some =
    record {
      listed = some;
      each = λ roots ds shown h. record { now = ds; rest = roots; written = h; shown = shown; is = refl };
    }

-- what is left after one root more
root_left : (t : Table) (c : ℕ) (codes : List ℕ) (a b : Listing) (whole : List Diagram) →
    RootsLeft t (c ∷ codes) a whole →
    ((d : Diagram) (ds : List Diagram) → Shows t c d → HasNodeLines t a ds → HasNodeLines t b (add ds (walk d))) →
    RootsLeft t codes b whole
root_left t c codes a b whole w step = go w.rest w.shown w.is
  where
    go : (rest : List Diagram) → AllZip (ShowsCanonical t) (c ∷ codes) rest → add w.now (flat_map walk rest) ≡ whole
        → RootsLeft t codes b whole
    go [] shown is = absurd shown
    go (d ∷ rest) shown is =
        record {
          now = add w.now (walk d);
          rest = rest;
          written = step d w.now shown.0.shows w.written;
          shown = shown.1;
          is = sym (add_append w.now (walk d) (flat_map walk rest)) ∙ is;
        }

-- one root more is walked
pub roots_more : (t : Table) (lists : Lists) (levels : ℕ) (codes : List ℕ) (i c : ℕ) (old a b : Listing)
    → HaveWalked t codes i old a → drop i codes ≡ c ∷ drop (i + 1) codes → CanBeWalked t lists levels c
    → ((d : Diagram) (ds : List Diagram) → Shows t c d → HasNodeLines t a ds → HasNodeLines t b (add ds (walk d)))
    → HaveWalked t codes (i + 1) old b
roots_more t lists levels codes i c old a b h next can step =
    record {
      listed = (add h.listed.0 (walk can.0), step can.0 h.listed.0 can.1.shows h.listed.1);
      each = λ roots ds shown w.
          root_left t c (drop (i + 1) codes) a b (add ds (flat_map walk roots))
          (subst (λ l. RootsLeft t l a (add ds (flat_map walk roots))) next (h.each roots ds shown w)) step;
    }

-- all are walked
pub roots_all : (t : Table) (codes : List ℕ) (i : ℕ) (old new : Listing) → HaveWalked t codes i old new
    → drop i codes ≡ [] → (roots ds : List Diagram) → AllZip (ShowsCanonical t) codes roots → HasNodeLines t old ds
    → HasNodeLines t new (add ds (flat_map walk roots))
roots_all t codes i old new h done roots ds shown w =
    let left = subst (λ l. RootsLeft t l new (add ds (flat_map walk roots))) done (h.each roots ds shown w) in
    go left.rest left.now left.written left.shown left.is
  where
    go : (rest now : List Diagram) → HasNodeLines t new now → AllZip (ShowsCanonical t) [] rest
        → add now (flat_map walk rest) ≡ add ds (flat_map walk roots)
        → HasNodeLines t new (add ds (flat_map walk roots))
    go [] now written left is = subst (HasNodeLines t new) is written
    go (d ∷ more) now written left is = absurd left

-- ---- the lines that name the roots

-- the mark of a root's code
root_mark : (t : Table) (numbers : Numbers) (ds : List Diagram) (c : ℕ) (d : Diagram) → AreNumbered t numbers ds
    → ShowsCanonical t c d → (is_among d ds ≡ true) → mark_at numbers c ≡ suc (index_of d ds)
root_mark t numbers ds c d numbered shown there =
    numbered.marks c d shown.shows ∙ ap (λ b. cond b (suc (index_of d ds)) 0) there

-- each root has a number
pub roots_numbered : (t : Table) (numbers : Numbers) (ds : List Diagram) → AreNumbered t numbers ds
    → (codes : List ℕ) (roots : List Diagram) → AllZip (ShowsCanonical t) codes roots → AreAllAmong ds roots
    → AllByRecursion (HasNumber numbers) codes
roots_numbered t numbers ds numbered [] roots shown there = tt
roots_numbered t numbers ds numbered (c ∷ codes) [] shown there = absurd shown
roots_numbered t numbers ds numbered (c ∷ codes) (d ∷ roots) shown there = (
  omega (arith, root_mark t numbers ds c d numbered shown.0 there.0),
  roots_numbered t numbers ds numbered codes roots shown.1 there.1,
)

-- their lines
root_words_are : (t : Table) (numbers : Numbers) (ds : List Diagram) → AreNumbered t numbers ds → (n : ℕ)
    → (codes : List ℕ) (roots : List Diagram) → AllZip (ShowsCanonical t) codes roots → AreAllAmong ds roots
    → root_words numbers n codes ≡ root_lines ds n roots
root_words_are t numbers ds numbered n [] [] shown there = refl
root_words_are t numbers ds numbered n [] (d ∷ roots) shown there = absurd shown
root_words_are t numbers ds numbered n (c ∷ codes) [] shown there = absurd shown
root_words_are t numbers ds numbered n (c ∷ codes) (d ∷ roots) shown there =
    let number : mark_at numbers c - 1 ≡ index_of d ds =
    omega (arith, root_mark t numbers ds c d numbered shown.0 there.0) in
    rw (number, root_words_are t numbers ds numbered (suc n) codes roots shown.1 there.1) refl

-- whether or not there are several
pub naming_are : (t : Table) (numbers : Numbers) (ds : List Diagram) → AreNumbered t numbers ds
    → (codes : List ℕ) (roots : List Diagram) → AllZip (ShowsCanonical t) codes roots → AreAllAmong ds roots
    → naming_words numbers codes ≡ naming_lines ds roots
naming_are t numbers ds numbered [] [] shown there = refl
naming_are t numbers ds numbered [] (d ∷ roots) shown there = absurd shown
naming_are t numbers ds numbered (c ∷ codes) [] shown there = absurd shown
naming_are t numbers ds numbered (c ∷ []) (d ∷ []) shown there = refl
naming_are t numbers ds numbered (c ∷ []) (d ∷ e ∷ roots) shown there = absurd shown.1
naming_are t numbers ds numbered (c ∷ b ∷ codes) (d ∷ []) shown there = absurd shown.1
naming_are t numbers ds numbered (c ∷ b ∷ codes) (d ∷ e ∷ roots) shown there =
    root_words_are t numbers ds numbered 0 (c ∷ b ∷ codes) (d ∷ e ∷ roots) shown there

-- the roots are among the complete ones
pub roots_complete : (roots : List Diagram) → AreAllAmong (add [] (flat_map walk roots)) roots
roots_complete roots = subst (λ ds. AreAllAmong ds roots) (completed_walks roots) (roots_among roots)

-- so the lines that name them are those of the text
pub naming_complete : (t : Table) (numbers : Numbers) (codes : List ℕ) (roots : List Diagram)
    → AreNumbered t numbers (add [] (flat_map walk roots)) → AllZip (ShowsCanonical t) codes roots
    → naming_words numbers codes ≡ naming_lines (completed roots) roots
naming_complete t numbers codes roots numbered shown =
    naming_are t numbers (completed roots) (subst (AreNumbered t numbers) (sym (completed_walks roots)) numbered) codes
    roots shown (roots_among roots)
