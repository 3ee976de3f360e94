-- The elements of a decomposition with their subs negated: a partition with the opposite value. No two of its subs are
-- equal, since subs that differ have negations that differ.
use Rattle.std.proofs.Common.{◌≡◌, ◌≢◌, ℕ, ◌+◌, ◌≤◌, ◌<◌, Bool, true, false, not, cond, List, [], ◌∷◌, ◌++◌}
use Rattle.std.proofs.Common.{length, take, map, get_or, slice_get, Some, refl, sym, ◌∙◌, ap, subst, arith}
use Rattle.std.specs.List.{AllZip, AllByRecursion}
use Rattle.std.specs.FinMap.{get}
use Rattle.std.proofs.Math.Seq.{take-length}
use Rattle.std.proofs.lemmas.List.Elements.{AllZip-push}
use Rattle.std.proofs.lemmas.Option.{slice_get-get_or, slice_get_within, get_or_from_slice_get}
use Rattle.sd_model.specs.Tree.{AreDistinct, leaves}
use Rattle.sd_model.specs.Diagram.{Diagram, meaning, subs}
use Rattle.sd_vtree.specs.Numbered.{plain_tree}
use Rattle.sd_laws.specs.Pairs.{answers, from_pairs, IsCompressed}
use Rattle.sd_laws.specs.Parts.{here}
use Rattle.sd_laws.proofs.Codes.{one_diagram}
use Rattle.sd_laws.proofs.Places.{same_diagram}
use Rattle.sd_manager.specs.Table.{Table}
use Rattle.sd_manager.specs.Shown.{Shows, ShowsCanonical}
use Rattle.sd_manager.specs.Views.{pairs_at}
use Rattle.sd_manager.specs.Making.{Extends}
use Rattle.sd_manager.specs.Valid.{IsTable}
use Rattle.sd_manager.proofs.Extending.{extends_self}
use Rattle.sd_apply.specs.declared.recent.Recent.{Recent}
use Rattle.sd_apply.specs.Recent.{Knows}
use Rattle.sd_apply.specs.Places.{IsNodeUnder, IsBelow, HasPlace, HasChildren}
use Rattle.sd_apply.specs.Elements.{IsPair, IsPartitionUnder, AreListedElements}
use Rattle.sd_apply.specs.Calls.{NegatesAt, IsNegated, NegatesSubs, Joins}
use Rattle.sd_apply.proofs.Trees.{apart, not_under}
use Rattle.sd_apply.proofs.Listed.{node_on, pair_on, answer_on, take_next}
use Rattle.sd_apply.proofs.Rows.{pair_sub, sub_below, paired_at}
use Rattle.sd_apply.proofs.Joining.{two_pairs}
use Rattle.sd_apply.proofs.TerminalLaws.{not_not}
use Rattle.sd_apply.proofs.Expanding.{own_elements}
use Rattle.sd_apply.specs.Steps.{IsStep}
use Rattle.sd_apply.proofs.Steps.{InFlip, none_step, step_on}

-- what was negated in a table that had grown, seen from the tables before and after
pub negates_on : (m0 m m1 m2 : Table) → Extends m0 m → Extends m1 m2 → (w a r : ℕ) → NegatesAt m m1 w a r →
    NegatesAt m0 m2 w a r
negates_on m0 m m1 m2 x y w a r h = record {
  each = λ d k. answer_on m1 m2 y (λ g. not (meaning d g)) r (h.each d (node_on m0 m x w a d k));
}

-- and elements
negated_on : (m0 m m1 : Table) → Extends m m1 → (w : ℕ) (l r : List (ℕ × ℕ)) → NegatesSubs m0 m w l r →
    NegatesSubs m0 m1 w l r
negated_on m0 m m1 x w [] [] h = h
negated_on m0 m m1 x w [] (f ∷ r) h = h
negated_on m0 m m1 x w (e ∷ l) [] h = h
negated_on m0 m m1 x w (e ∷ l) (f ∷ r) h = (
  record { prime = h.0.prime; sub = negates_on m0 m0 m m1 (extends_self m0) x w e.1 f.1 h.0.sub },
  negated_on m0 m m1 x w l r h.1,
)

-- ---- the loop over the elements

pub negate_subs_none : (m0 : Table) (c : Recent) (u w : ℕ) (l : List (ℕ × ℕ)) → IsTable m0 →
    Knows c m0 → InFlip m0 m0 c u w l [] 0
negate_subs_none m0 c u w l i s =
    record {
      step = none_step i s;
      flipped = tt;
    }

-- one more
pub negate_subs_next : (m0 m m1 : Table) (c c1 : Recent) (u w : ℕ) (l r r1 : List (ℕ × ℕ)) (i : ℕ)
    (e : ℕ × ℕ) (other : ℕ) →
    InFlip m0 m c u w l r i → IsStep m m1 c1 u w → i < length l →
    ◌≡◌ {A = ℕ × ℕ} e (get_or l i (0, 0)) →
    NegatesAt m m1 w e.1 other → r1 ≡ r ++ (e.0, other) ∷ [] → InFlip m0 m1 c1 u w l r1 (i + 1)
negate_subs_next m0 m m1 c c1 u w l r r1 i e other h s lt at k pushed =
    let old = negated_on m0 m m1 s.kept w (take i l) r h.flipped in
    let new : IsNegated m0 m1 w e (e.0, other) = record {
      prime = refl;
      sub = negates_on m0 m m1 m1 h.step.kept (extends_self m1) w e.1 other k;
    } in
    let N : List (ℕ × ℕ) → List (ℕ × ℕ) → Type 0 = λ x y. NegatesSubs m0 m1 w x y in
    let there : slice_get l i ≡ Some e = slice_get-get_or l i (0, 0) lt ∙ ap Some (sym at) in
    let both = AllZip-push (IsNegated m0 m1 w) (take i l) r e (e.0, other) old new in
    record {
      step = step_on h.step s;
      flipped = subst (λ y. N (take (i + 1) l) y) (sym pushed)
          (subst (λ x. N x (r ++ (e.0, other) ∷ [])) (sym (take_next l i e there)) both);
    }

-- all of them
pub negate_subs_done : (m0 m : Table) (c : Recent) (u w : ℕ) (l r : List (ℕ × ℕ)) (i : ℕ) →
    InFlip m0 m c u w l r i →
    length l ≤ i → i ≤ length l → NegatesSubs m0 m w l r
negate_subs_done m0 m c u w l r i h lo hi =
    let n : i ≡ length l = omega (arith, lo, hi) in
    subst (λ x. NegatesSubs m0 m w x r) (ap (λ k. take k l) n ∙ take-length l) h.flipped

-- ---- two elements

-- the sub of an element that is read is below the right child
pub read_below : (t : Table) (u w : ℕ) (l : List (ℕ × ℕ)) (i : ℕ) (e : ℕ × ℕ) → AreListedElements t u w l →
    slice_get l i ≡ Some e → IsBelow t w e.1
read_below t u w l i e h at =
    sub_below t t (extends_self t) u w e
    (paired_at t u w l i e h (slice_get_within l i e at) (sym (get_or_from_slice_get l i e (0, 0) at)))

-- two elements with their subs negated
pub two_negated : (m0 m1 : Table) (w : ℕ) (l : List (ℕ × ℕ)) (e f : ℕ × ℕ) (r s : ℕ) → length l ≡ 2 →
    slice_get l 0 ≡ Some e → slice_get l 1 ≡ Some f → NegatesAt m0 m1 w e.1 r → NegatesAt m0 m1 w f.1 s →
    NegatesSubs m0 m1 w l ((e.0, r) ∷ (f.0, s) ∷ [])
two_negated m0 m1 w l e f r s n a b h k =
    subst (λ x. NegatesSubs m0 m1 w x ((e.0, r) ∷ (f.0, s) ∷ [])) (sym (two_pairs l e f n a b))
    (record { prime = refl; sub = h }, (record { prime = refl; sub = k }, tt))

-- ---- subs that differ have negations that differ

-- what has the same negation is the same
same_negation : (m0 m1 : Table) → IsTable m0 → IsTable m1 → (w a b r s : ℕ) (x y : Diagram) →
    IsNodeUnder m0 w a x → IsNodeUnder m0 w b y → NegatesAt m0 m1 w a r → NegatesAt m0 m1 w b s → r ≡ s → x ≡ y
same_negation m0 m1 i j w a b r s x y p q h k e =
    let z = h.each x p in
    let v = k.each y q in
    let S : ℕ → Type 0 = λ c. Shows m1 c v.diagram in
    let one : z.diagram ≡ v.diagram = one_diagram m1.vtree (get m1.linked) j.numbered z.diagram r v.diagram
    z.is.shows (subst S (sym e) v.is.shows) in
    let values : (g : List Bool) → not (meaning x g) ≡ not (meaning y g) = λ g.
    sym (z.value g) ∙ ap (λ d. meaning d g) one ∙ v.value g in
    same_diagram (leaves (plain_tree m0.vtree)) (apart m0.vtree i.numbered) here x y p.under.canonical
    q.under.canonical (λ g. not_not (meaning x g) ∙ ap not (values g) ∙ sym (not_not (meaning y g)))

-- the negation of a sub differs from those of subs from which it differs
other_negations : (m0 m1 : Table) → IsTable m0 → IsTable m1 → (u w a r : ℕ) (x : Diagram) → IsNodeUnder m0 w a x →
    NegatesAt m0 m1 w a r → (l k : List (ℕ × ℕ)) (ds : List (Diagram × Diagram)) → AllZip (IsPair m0 u w) l ds →
    NegatesSubs m0 m1 w l k → AllByRecursion (λ y. x ≢ y) (subs (from_pairs ds)) →
    AllByRecursion (λ s. r ≢ s) (map (λ (e : ℕ × ℕ). e.1) k)
other_negations m0 m1 i j u w a r x p h [] [] ds z n d = tt
other_negations m0 m1 i j u w a r x p h [] (f ∷ k) ds z n d = absurd n
other_negations m0 m1 i j u w a r x p h (e ∷ l) [] ds z n d = absurd n
other_negations m0 m1 i j u w a r x p h (e ∷ l) (f ∷ k) [] z n d = absurd z
other_negations m0 m1 i j u w a r x p h (e ∷ l) (f ∷ k) (y ∷ ds) z n d = (
  λ q. d.0 (same_negation m0 m1 i j w a e.1 r f.1 x y.1 p (pair_sub m0 u w e y z.0) h n.0.sub q),
  other_negations m0 m1 i j u w a r x p h l k ds z.1 n.1 d.1,
)

negations_differ : (m0 m1 : Table) → IsTable m0 → IsTable m1 → (u w : ℕ) (l k : List (ℕ × ℕ))
    (ds : List (Diagram × Diagram)) → AllZip (IsPair m0 u w) l ds → NegatesSubs m0 m1 w l k → IsCompressed ds →
    AreDistinct (map (λ (e : ℕ × ℕ). e.1) k)
negations_differ m0 m1 i j u w [] [] ds z n d = tt
negations_differ m0 m1 i j u w [] (f ∷ k) ds z n d = absurd n
negations_differ m0 m1 i j u w (e ∷ l) [] ds z n d = absurd n
negations_differ m0 m1 i j u w (e ∷ l) (f ∷ k) [] z n d = absurd z
negations_differ m0 m1 i j u w (e ∷ l) (f ∷ k) (y ∷ ds) z n d = (
  other_negations m0 m1 i j u w e.1 f.1 y.1 (pair_sub m0 u w e y z.0) n.0.sub l k ds z.1 n.1 d.0,
  negations_differ m0 m1 i j u w l k ds z.1 n.1 d.1,
)

-- ---- the negated elements

one_more : (there s : Bool) (xs : List Bool) →
    cond there (not s ∷ map not xs) (map not xs) ≡ map not (cond there (s ∷ xs) xs)
one_more true s xs = refl
one_more false s xs = refl

-- they are elements with the opposite answers
negated_elements : (m0 m1 : Table) → Extends m0 m1 → (u w : ℕ) (l k : List (ℕ × ℕ)) (ds : List (Diagram × Diagram)) →
    AllZip (IsPair m0 u w) l ds → NegatesSubs m0 m1 w l k →
    (gs : List (Diagram × Diagram)) × AllZip (IsPair m1 u w) k gs
    × ((g : List Bool) → answers g gs ≡ map not (answers g ds))
negated_elements m0 m1 x u w [] [] [] z n = ([], tt, λ g. refl)
negated_elements m0 m1 x u w [] [] (d ∷ ds) z n = absurd z
negated_elements m0 m1 x u w [] (f ∷ k) ds z n = absurd n
negated_elements m0 m1 x u w (e ∷ l) [] ds z n = absurd n
negated_elements m0 m1 x u w (e ∷ l) (f ∷ k) [] z n = absurd z
negated_elements m0 m1 x u w (e ∷ l) (f ∷ k) (d ∷ ds) z n =
    let rest = negated_elements m0 m1 x u w l k ds z.1 n.1 in
    let old = pair_on m0 m1 x u w e d z.0 in
    let y = n.0.sub.each d.1 (pair_sub m0 u w e d z.0) in
    let S : ℕ → Type 0 = λ c. Shows m1 c d.0 in
    let pair : IsPair m1 u w f (d.0, y.diagram) = record {
      prime_shows = subst S (sym n.0.prime) old.prime_shows;
      sub_shows = y.is.shows;
      prime = old.prime;
      sub = not_under m1.vtree w d.1 y.diagram old.sub y.is.canonical y.value;
      possible = old.possible;
    } in (
      (d.0, y.diagram) ∷ rest.0,
      (pair, rest.1),
      λ g. ap (λ v. cond (meaning d.0 g) (v ∷ answers g rest.0) (answers g rest.0)) (y.value g)
          ∙ ap (λ v. cond (meaning d.0 g) (not (meaning d.1 g) ∷ v) v) (rest.2 g)
          ∙ one_more (meaning d.0 g) (meaning d.1 g) (answers g ds),
    )

-- the negated elements of a decomposition
pub record AreNegated (t : Table) (u w : ℕ) (k : List (ℕ × ℕ)) (x : Diagram) : Type 0 where
  pub shown : List (Diagram × Diagram)
  pub is : IsPartitionUnder t u w k shown
  pub value : (g : List Bool) → answers g shown ≡ not (meaning x g) ∷ []
  pub differ : AreDistinct (map (λ (e : ℕ × ℕ). e.1) k)

pub are_negated : (m0 m1 : Table) → IsTable m0 → IsTable m1 → Extends m0 m1 → (p u w c : ℕ) (k : List (ℕ × ℕ)) →
    HasChildren m0.vtree p u w → (x : Diagram) → ShowsCanonical m0 c x → HasPlace m0.vtree p x → 2050 ≤ c →
    NegatesSubs m0 m1 w (pairs_at m0 c) k → AreNegated m1 u w k x
are_negated m0 m1 i j e p u w c k f x h place code n =
    let own = own_elements m0 i p u w c f x h place code in
    let gs = negated_elements m0 m1 e u w (pairs_at m0 c) k own.shown own.lists.pairs n in
    let value : (g : List Bool) → answers g gs.0 ≡ not (meaning x g) ∷ [] = λ g. gs.2 g ∙ ap (map not) (own.value g) in
    record {
      shown = gs.0;
      is = record { lists = record { pairs = gs.1 }; one_true = λ g. ap length (value g) };
      value = value;
      differ = negations_differ m0 m1 i j u w (pairs_at m0 c) k own.shown own.lists.pairs n own.compressed;
    }

-- the answer of negation at a decomposition
pub negated_joins : (m0 m1 m2 : Table) → IsTable m0 → IsTable m1 → Extends m0 m1 → (v p u w c r : ℕ)
    (k : List (ℕ × ℕ)) → HasChildren m0.vtree p u w →
    ((d : Diagram) → ShowsCanonical m0 c d → HasPlace m0.vtree p d) → 2050 ≤ c →
    NegatesSubs m0 m1 w (pairs_at m0 c) k → Joins m1 m2 u w k r → NegatesAt m0 m2 v c r
negated_joins m0 m1 m2 i j e v p u w c r k f place code n join = record {
  each = λ x h.
      let shown : ShowsCanonical m0 c x = record { shows = h.shows; canonical = h.under.canonical } in
      let q = are_negated m0 m1 i j e p u w c k f x shown (place x shown) code n in
      join.each q.shown q.is (λ g. not (meaning x g)) q.value;
}
