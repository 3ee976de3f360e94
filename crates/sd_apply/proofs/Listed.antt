-- Lists of elements: read, pushed, put in another order, and seen in a larger table.
use Rattle.std.proofs.Common.{◌≡◌, ℕ, zero, suc, ◌+◌, ◌≤◌, ◌<◌, Bool, true, false}
use Rattle.std.proofs.Common.{cond, List, [], ◌∷◌, ◌++◌}
use Rattle.std.proofs.Common.{length, take, get_or, slice_get, Some, refl, sym, ◌∙◌, ap}
use Rattle.std.proofs.Common.{subst, arith, append-nil}
use Rattle.std.specs.List.{AllZip}
use Rattle.std.specs.FinMap.{get}
use Rattle.std.specs.List.Sorted.{IsPermutation}
use Rattle.std.proofs.Math.Seq.{take-length, take-suc}
use Rattle.std.proofs.lemmas.Option.{slice_get_within, get_or_from_slice_get}
use Rattle.sd_model.specs.Diagram.{Diagram, meaning}
use Rattle.sd_laws.specs.Pairs.{answers}
use Rattle.sd_laws.proofs.Codes.{shows_kept}
use Rattle.sd_laws.proofs.Lists.{first_permuted}
use Rattle.sd_laws.proofs.Products.{answers_append}
use Rattle.sd_manager.specs.Table.{Table}
use Rattle.sd_manager.specs.Shown.{Shows, ShowsCanonical}
use Rattle.sd_manager.specs.Making.{Extends}
use Rattle.sd_apply.specs.Answers.{HasAnswer}
use Rattle.sd_apply.specs.Places.{width, IsCanonicalUnder, IsNodeUnder, IsBelow, IsThere, HasChildren}
use Rattle.sd_apply.specs.Elements.{IsPair, ListsElements, IsPartitionUnder, IsPaired, AreListedElements}
use Rattle.sd_apply.specs.Elements.{IsPartitionBelow}

-- tables that grow

pub shows_on : (old new : Table) → Extends old new → (c : ℕ) (d : Diagram) → Shows old c d →
    Shows new c d
shows_on old new x c d h = rw x.vtree (shows_kept old.vtree (get old.linked) (get new.linked)
    x.nodes d c h)

pub under_on : (old new : Table) → Extends old new → (u : ℕ) (d : Diagram) →
    IsCanonicalUnder old.vtree u d → IsCanonicalUnder new.vtree u d
under_on old new x u d h = rw x.vtree h

pub shown_on : (old new : Table) → Extends old new → (c : ℕ) (d : Diagram) → ShowsCanonical old c d →
    ShowsCanonical new c d
shown_on old new x c d h = record {
  shows = shows_on old new x c d h.shows;
  canonical = rw x.vtree h.canonical;
}

pub answer_on : (old new : Table) → Extends old new → (f : List Bool → Bool) (c : ℕ) →
    HasAnswer old f c → HasAnswer new f c
answer_on old new x f c h = record {
  diagram = h.diagram;
  is = shown_on old new x c h.diagram
      h.is;
  value = h.value;
}

pub node_on : (old new : Table) → Extends old new → (u c : ℕ) (d : Diagram) →
    IsNodeUnder old u c d → IsNodeUnder new u c d
node_on old new x u c d h = record {
  shows = shows_on old new x c d h.shows;
  under = under_on old new x u d h.under;
}

pub below_on : (old new : Table) → Extends old new → (u c : ℕ) → IsBelow old u c → IsBelow new u c
below_on old new x u c h = record { diagram = h.diagram; is = node_on old new x u c h.diagram h.is }

pub pair_on : (old new : Table) → Extends old new → (u w : ℕ) (e : ℕ × ℕ) (d : Diagram × Diagram)
    → IsPair old u w e d →
    IsPair new u w e d
pair_on old new x u w e d h =
    record {
      prime_shows = shows_on old new x e.0 d.0 h.prime_shows;
      sub_shows = shows_on old new x e.1 d.1 h.sub_shows;
      prime = under_on old new x u d.0 h.prime;
      sub = under_on old new x w d.1 h.sub;
      possible = h.possible;
    }

zip_on : (old new : Table) → Extends old new → (u w : ℕ) (l : List (ℕ × ℕ))
    (ds : List (Diagram × Diagram)) →
    AllZip (IsPair old u w) l ds → AllZip (IsPair new u w) l ds
zip_on old new x u w [] [] h = h
zip_on old new x u w [] (d ∷ ds) h = h
zip_on old new x u w (e ∷ l) [] h = h
zip_on old new x u w (e ∷ l) (d ∷ ds) h = (
  pair_on old new x u w e d h.0,
  zip_on old new x u w l
      ds h.1,
)

pub lists_on : (old new : Table) → Extends old new → (u w : ℕ) (l : List (ℕ × ℕ))
    (ds : List (Diagram × Diagram)) →
    ListsElements old u w l ds → ListsElements new u w l ds
lists_on old new x u w l ds h = record { pairs = zip_on old new x u w l ds h.pairs }

pub partition_under_on : (old new : Table) → Extends old new → (u w : ℕ) (l : List (ℕ × ℕ))
    (ds : List (Diagram × Diagram)) →
    IsPartitionUnder old u w l ds → IsPartitionUnder new u w l ds
partition_under_on old new x u w l ds h = record {
  lists = lists_on old new x u w l ds h.lists;
  one_true = h.one_true;
}

pub listed_on : (old new : Table) → Extends old new → (u w : ℕ) (l : List (ℕ × ℕ)) →
    AreListedElements old u w l → AreListedElements new u w l
listed_on old new x u w l h = record { shown = h.shown; is = lists_on old new x u w l h.shown h.is }

pub partition_on : (old new : Table) → Extends old new → (u w : ℕ) (l : List (ℕ × ℕ)) →
    IsPartitionBelow old u w l →
    IsPartitionBelow new u w l
partition_on old new x u w l h = record {
  shown = h.shown;
  is = partition_under_on old new x u w l h.shown
      h.is;
}

pub paired_on : (old new : Table) → Extends old new → (u w : ℕ) (e : ℕ × ℕ) → IsPaired old u w e →
    IsPaired new u w e
paired_on old new x u w e h = record { shown = h.shown; is = pair_on old new x u w e h.shown h.is }

-- the answer of one element
abbrev pub one_answer : List Bool → Diagram × Diagram → List Bool
one_answer a d = cond (meaning d.0 a) (meaning d.1 a ∷ []) []

pub answers_cons : (a : List Bool) (d : Diagram × Diagram) (ds : List (Diagram × Diagram)) →
    answers a (d ∷ ds) ≡ one_answer a d ++ answers a ds
answers_cons a d ds =
    elim (meaning d.0 a)
    as (λ v. cond v (meaning d.1 a ∷ answers a ds) (answers a ds) ≡ cond v (meaning d.1 a ∷ [])
    [] ++ answers a ds) [
      | true ↦ refl
      | false ↦ refl
    ]

pub answers_push : (a : List Bool) (ds : List (Diagram × Diagram)) (d : Diagram × Diagram) →
    answers a (ds ++ d ∷ []) ≡ answers a ds ++ one_answer a d
answers_push a ds d = answers_append a ds (d ∷ []) ∙ ap (λ l. answers a ds ++ l) (answers_cons a d
    [] ∙ append-nil (one_answer a d))

-- one more element behind a list
zip_push : (t : Table) (u w : ℕ) (l : List (ℕ × ℕ)) (ds : List (Diagram × Diagram)) (e : ℕ × ℕ)
    (d : Diagram × Diagram) →
    AllZip (IsPair t u w) l ds → IsPair t u w e d → AllZip (IsPair t u w) (l ++ e ∷ [])
    (ds ++ d ∷ [])
zip_push t u w [] [] e d h k = (k, tt)
zip_push t u w [] (f ∷ ds) e d h k = absurd h
zip_push t u w (g ∷ l) [] e d h k = absurd h
zip_push t u w (g ∷ l) (f ∷ ds) e d h k = (h.0, zip_push t u w l ds e d h.1 k)

pub lists_push : (t : Table) (u w : ℕ) (l : List (ℕ × ℕ)) (ds : List (Diagram × Diagram))
    (e : ℕ × ℕ)
    (d : Diagram × Diagram) → ListsElements t u w l ds → IsPair t u w e d → ListsElements t u w (l ++ e ∷ [])
    (ds ++ d ∷ [])
lists_push t u w l ds e d h k = record { pairs = zip_push t u w l ds e d h.pairs k }

-- no elements
pub lists_none : (t : Table) (u w : ℕ) → ListsElements t u w [] []
lists_none t u w = record { pairs = tt }

-- the element at an index
pub record IsAt (t : Table) (u w : ℕ) (e : ℕ × ℕ) (ds : List (Diagram × Diagram)) (i : ℕ)
    (d : Diagram × Diagram) : Type 0 where
  pub pair : IsPair t u w e d
  pub more : take (suc i) ds ≡ take i ds ++ d ∷ []

zip_at : (t : Table) (u w : ℕ) (l : List (ℕ × ℕ)) (ds : List (Diagram × Diagram)) →
    AllZip (IsPair t u w) l ds → (i : ℕ) →
    i < length l → (e : ℕ × ℕ) → e ≡ get_or l i (0, 0) → (d : Diagram × Diagram) × IsAt t u w e ds
    i d
zip_at t u w [] ds h i lt e same = absurd (omega arith)
zip_at t u w (x ∷ l) [] h i lt e same = absurd h
zip_at t u w (x ∷ l) (d ∷ ds) h zero lt e same =
    let P : ℕ × ℕ → Type 0 = λ y. IsPair t u w y d in
    (d, record { pair = subst P (sym same) h.0; more = refl })
zip_at t u w (x ∷ l) (d ∷ ds) h (suc i) lt e same =
    let r = zip_at t u w l ds h.1 i (omega arith) e same in
    (r.0, record { pair = r.1.pair; more = ap (λ m. d ∷ m) r.1.more })

pub lists_at : (t : Table) (u w : ℕ) (l : List (ℕ × ℕ)) (ds : List (Diagram × Diagram)) →
    ListsElements t u w l ds → (i : ℕ) →
    i < length l → (e : ℕ × ℕ) → e ≡ get_or l i (0, 0) → (d : Diagram × Diagram) × IsAt t u w e ds
    i d
lists_at t u w l ds h i lt e same = zip_at t u w l ds h.pairs i lt e same

-- as many elements as pairs
zip_length : (t : Table) (u w : ℕ) (l : List (ℕ × ℕ)) (ds : List (Diagram × Diagram)) →
    AllZip (IsPair t u w) l ds →
    length l ≡ length ds
zip_length t u w [] [] h = refl
zip_length t u w [] (d ∷ ds) h = absurd h
zip_length t u w (e ∷ l) [] h = absurd h
zip_length t u w (e ∷ l) (d ∷ ds) h = ap suc (zip_length t u w l ds h.1)

pub lists_length : (t : Table) (u w : ℕ) (l : List (ℕ × ℕ)) (ds : List (Diagram × Diagram)) →
    ListsElements t u w l ds →
    length l ≡ length ds
lists_length t u w l ds h = zip_length t u w l ds h.pairs

-- all elements
pub take_all : (t : Table) (u w : ℕ) (l : List (ℕ × ℕ)) (ds : List (Diagram × Diagram)) (i : ℕ) →
    ListsElements t u w l ds →
    length l ≤ i → i ≤ length l → take i ds ≡ ds
take_all t u w l ds i h a b =
    let n : i ≡ length ds = omega (arith, lists_length t u w l ds h) in
    ap (λ k. take k ds) n ∙ take-length ds

-- the answers up to the next index
pub take_answers : (a : List Bool) (t : Table) (u w : ℕ) (e : ℕ × ℕ)
    (ds : List (Diagram × Diagram)) (i : ℕ)
    (d : Diagram × Diagram) → IsAt t u w e ds i d → answers a (take (i + 1) ds) ≡ answers a
    (take i ds) ++ one_answer a d
take_answers a t u w e ds i d h =
    let next : i + 1 ≡ suc i = omega arith in
    ap (λ k. answers a (take k ds)) next ∙ ap (answers a) h.more ∙ answers_push a (take i ds) d

-- the pairs in another order
pub lists_permuted : (t : Table) (u w : ℕ) (l k : List (ℕ × ℕ)) (ds : List (Diagram × Diagram)) →
    ListsElements t u w l ds →
    IsPermutation l k → (fs : List (Diagram × Diagram)) × IsPermutation ds fs × ListsElements t u w k fs
lists_permuted t u w l k ds h p =
    let r = first_permuted (IsPair t u w) l ds k h.pairs p in
    (r.0, r.1, record { pairs = r.2 })

-- one more element of a list, as it is read
pub take_next : (l : List (ℕ × ℕ)) (i : ℕ) (x : ℕ × ℕ) → slice_get l i ≡ Some x →
    take (i + 1) l ≡ take i l ++ x ∷ []
take_next l i x e =
    let next : i + 1 ≡ suc i = omega arith in
    ap (λ k. take k l) next ∙ take-suc l i (0, 0) (slice_get_within l i x e)
    ∙ ap (λ y. take i l ++ y ∷ []) (get_or_from_slice_get l i x (0, 0) e)

-- vtree nodes of a table that has grown

pub width_on : (old new : Table) → Extends old new → (u : ℕ) → width new.vtree u ≡ width old.vtree u
width_on old new x u = ap (λ t. width t u) x.vtree

pub there_on : (old new : Table) → Extends old new → (u : ℕ) → IsThere old.vtree u →
    IsThere new.vtree u
there_on old new x u h = rw x.vtree h

pub children_on : (old new : Table) → Extends old new → (p u w : ℕ) → HasChildren old.vtree p u w
    → HasChildren new.vtree p u w
children_on old new x p u w h = rw x.vtree h

-- an element of a list, whatever would stand for one past its end

same_at : (l : List (ℕ × ℕ)) (i : ℕ) (d e : ℕ × ℕ) → i < length l → get_or l i d ≡ get_or l i e
same_at [] i d e lt = absurd (omega arith)
same_at (x ∷ l) zero d e lt = refl
same_at (x ∷ l) (suc i) d e lt = same_at l i d e (omega arith)

pub pair_at : (l : List (ℕ × ℕ)) (i : ℕ) (d e : ℕ × ℕ) → i < length l →
    ◌≡◌ {A = ℕ × ℕ} ((get_or l i d).0, (get_or l i e).1) (get_or l i (0, 0))
pair_at l i d e lt =
    ap {B = ℕ × ℕ} (λ (x : ℕ × ℕ). (x.0, (get_or l i e).1)) (same_at l i d (0, 0) lt)
    ∙ ap {B = ℕ × ℕ} (λ (x : ℕ × ℕ). ((get_or l i (0, 0)).0, x.1)) (same_at l i e (0, 0) lt)
