-- Which codes show diagrams below a vtree node, by their values and by where they stand.
use Rattle.std.proofs.Common.{◌≡◌, inl, inr, ℕ, zero, suc, ◌+◌, Bool, true, false, List, [], ◌∷◌, Some, nat_eq, drop}
use Rattle.std.proofs.Common.{slice_get, refl, sym, ◌∙◌, ap, subst, arith}
use Rattle.std.specs.List.{AllByRecursion}
use Rattle.std.specs.FinMap.{get}
use Rattle.std.proofs.lemmas.Bool.{cases_eq}
use Rattle.std.proofs.lemmas.Bool.Decides.{nat_tests}
use Rattle.std.proofs.lemmas.Option.{none-some, same_Some}
use Rattle.sd_model.specs.Diagram.{Diagram, meaning}
use Rattle.sd_vtree.specs.Numbered.{Numbered, IsNumbered, IsUnder}
use Rattle.sd_vtree.proofs.Subtrees.{once_numbered, subtree_some, subtree_times}
use Rattle.sd_laws.specs.Depends.{DependsOn}
use Rattle.sd_laws.specs.Values.{Valuation, ShowsValue}
use Rattle.sd_laws.proofs.Choosing.{depends_same}
use Rattle.sd_laws.proofs.Codes.{one_diagram}
use Rattle.sd_manager.specs.Table.{Table}
use Rattle.sd_manager.specs.Shown.{ShowsCanonical}
use Rattle.sd_manager.specs.Valid.{IsTable}
use Rattle.sd_manager.proofs.DetachedFrom.{under_apart}
use Rattle.sd_apply.specs.Places.{tree_at, IsThere, IsBelow, HasPlace}
use Rattle.sd_apply.proofs.Trees.{under_number}
use Rattle.sd_apply.proofs.Standing.{place_under, stands_here}
use Rattle.sd_model.specs.declared.trees.Side.{Side}
use Rattle.sd_move.specs.Sorting.{on, TellsBelow, TellsAllBelow, HasOneBeside}

-- by values

-- a code that shows its value is below the vtree node, where its value looks at the variables there alone
pub below_by_value : (t : Table) (v : Valuation) (u c : ℕ) → ShowsValue t.vtree (get t.linked) v c →
    DependsOn (tree_at t.vtree u) (v c) → IsBelow t u c
below_by_value t v u c s d =
    record {
      diagram = s.diagram;
      is = record {
        shows = s.is.shows;
        under = record {
          canonical = s.is.canonical;
          depends = depends_same (tree_at t.vtree u) (meaning s.diagram) (v c) s.value d;
        };
      };
    }

-- and its value does so, where it is below
pub value_of_below : (t : Table) → IsTable t → (v : Valuation) (u c : ℕ) → ShowsValue t.vtree (get t.linked) v c →
    IsBelow t u c → DependsOn (tree_at t.vtree u) (v c)
value_of_below t i v u c s b =
    let same : s.diagram ≡ b.diagram =
    one_diagram t.vtree (get t.linked) i.numbered s.diagram c b.diagram s.is.shows b.is.shows in
    depends_same (tree_at t.vtree u) (v c) (meaning s.diagram) (λ a. sym (s.value a))
    (subst (λ d. DependsOn (tree_at t.vtree u) (meaning d)) (sym same) b.is.under.depends)

-- by places

-- a vtree node that stands under another one is there
pub under_there : (t : Numbered) (a n : ℕ) → IsUnder t a n → IsThere t a
under_there t a n u =
    let s = subtree_some t a (omega (arith, u.has, subtree_times t n u.part u.is a)) in
    record { part = s.0; is = s.1 }

-- two vtree nodes that stand under each other are one
under_each_other : (t : Numbered) → IsNumbered t → (a b : ℕ) → IsUnder t a b → IsUnder t b a → a ≡ b
under_each_other t num a b h k = elim (cases_eq a b) [
  | inl e ↦ e
  | inr d ↦ absurd (under_apart t (once_numbered t num) a b h k d)
]

-- the lowest node over two, in another name of the vtree
pub lowest_in : (s t : Numbered) → s ≡ t → (a b q : ℕ) →
    ((n : ℕ) → IsUnder s a n → IsUnder s b n → IsUnder s q n) →
    (n : ℕ) → IsUnder t a n → IsUnder t b n → IsUnder t q n
lowest_in s t e a b q h n i j =
    subst (λ r. IsUnder r q n) e
    (h n (subst (λ r. IsUnder r a n) (sym e) i) (subst (λ r. IsUnder r b n) (sym e) j))

-- A code stands below the vtree node just where that is the lowest node over it and the code's place.
pub tells_below : (t : Table) → IsTable t → (at child place q c qi ci : ℕ) → qi ≡ q → ci ≡ child →
    IsUnder t.vtree child at → IsBelow t at c →
    ((d : Diagram) → ShowsCanonical t c d → HasPlace t.vtree place d) →
    IsUnder t.vtree child q → IsUnder t.vtree place q →
    ((n : ℕ) → IsUnder t.vtree child n → IsUnder t.vtree place n → IsUnder t.vtree q n) →
    TellsBelow t child c (nat_eq qi ci)
tells_below t i at child place q c qi ci qe ce under b has h k lowest = go (nat_eq qi ci) refl
  where
    go : (here : Bool) → nat_eq qi ci ≡ here → TellsBelow t child c here
    go true z =
        let same : q ≡ child = sym qe ∙ grind (arith, nat_tests, z) ∙ ce in
        record {
          diagram = b.diagram;
          is = record {
            shows = b.is.shows;
            under = under_number t.vtree i.numbered child place b.diagram (subst (IsUnder t.vtree place) same k)
                b.is.under.canonical
                (has b.diagram (record { shows = b.is.shows; canonical = b.is.under.canonical }));
          };
        }
    go false z = λ below.
        let there = under_there t.vtree child at under in
        let own = place_under t i child c place there below has in
        let here = lowest child (stands_here t.vtree child there.part there.is) own in
        let same : q ≡ child = under_each_other t.vtree i.numbered q child here h in
        grind (arith, nat_tests, z, qe ∙ same ∙ sym ce)

-- all codes of a list on a side

-- one code that is below, and the rest
pub tells_more : (t : Table) (child : ℕ) (side : Side) (e : ℕ × ℕ) (rest : List (ℕ × ℕ)) (all : Bool) →
    IsBelow t child (on side e) → TellsAllBelow t child side rest all → TellsAllBelow t child side (e ∷ rest) all
tells_more t child side e rest true b h = (b, h)
tells_more t child side e rest false b h = inr h

-- a list from an index on
pub from_index : (l : List (ℕ × ℕ)) (i : ℕ) (e : ℕ × ℕ) → slice_get l i ≡ Some e → drop i l ≡ e ∷ drop (i + 1) l
from_index [] i e h = absurd (none-some e h)
from_index (x ∷ l) zero e h = ap (λ y. y ∷ l) (same_Some x e h)
from_index (x ∷ l) (suc i) e h =
    let next : suc i + 1 ≡ suc (i + 1) = omega arith in
    from_index l i e h ∙ ap (λ k. e ∷ drop k (x ∷ l)) (sym next)

-- what holds of a list holds at an index
pub at_index : (P : ℕ × ℕ → Type 0) (l : List (ℕ × ℕ)) (i : ℕ) (e : ℕ × ℕ) → AllByRecursion P l →
    slice_get l i ≡ Some e → P e
at_index P [] i e all h = absurd (none-some e h)
at_index P (x ∷ l) zero e all h = subst P (same_Some x e h) all.0
at_index P (x ∷ l) (suc i) e all h = at_index P l i e all.1 h

-- the code at an index is not below, or it is and the rest is told of
pub tells_beside : (t : Table) (child : ℕ) (side : Side) (l : List (ℕ × ℕ)) (i : ℕ) (e : ℕ × ℕ) (c : ℕ) →
    slice_get l i ≡ Some e → c ≡ on side e → TellsBelow t child c false →
    ((all : Bool) → TellsAllBelow t child side (drop i l) all → TellsAllBelow t child side l all) →
    HasOneBeside t child side l
tells_beside t child side l i e c at same not told =
    told false (subst (HasOneBeside t child side) (sym (from_index l i e at))
    (inl (subst (λ d. ¬ IsBelow t child d) same not)))

pub tells_on : (t : Table) (child : ℕ) (side : Side) (l : List (ℕ × ℕ)) (i : ℕ) (e : ℕ × ℕ) (c : ℕ) →
    slice_get l i ≡ Some e → c ≡ on side e → TellsBelow t child c true →
    ((all : Bool) → TellsAllBelow t child side (drop i l) all → TellsAllBelow t child side l all) →
    (all : Bool) → TellsAllBelow t child side (drop (i + 1) l) all → TellsAllBelow t child side l all
tells_on t child side l i e c at same below told all h =
    told all (subst (λ k. TellsAllBelow t child side k all) (sym (from_index l i e at))
    (tells_more t child side e (drop (i + 1) l) all (subst (IsBelow t child) same below) h))
