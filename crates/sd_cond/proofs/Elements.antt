-- Elements where a variable has a value: one more, all of them, and the node that they make.
use Rattle.std.proofs.Common.{◌≡◌, ℕ, ◌+◌, ◌≤◌, ◌<◌, Bool, false, cond, List, [], ◌∷◌, ◌++◌}
use Rattle.std.proofs.Common.{length, take, get_or, sym, ◌∙◌, ap, subst}
use Rattle.std.proofs.Common.{append-nil}
use Rattle.std.specs.FinMap.{get}
use Rattle.sd_model.specs.Assignment.{with_value}
use Rattle.sd_model.specs.Diagram.{Diagram, meaning}
use Rattle.sd_cache.specs.Entries.{Answers}
use Rattle.sd_laws.specs.Pairs.{answers}
use Rattle.sd_manager.specs.Table.{Table}
use Rattle.sd_laws.proofs.Codes.{bottom_from_code}
use Rattle.sd_manager.specs.Shown.{Shows, ShowsCanonical, IsPartitionAt}
use Rattle.sd_manager.specs.Views.{pairs_at}
use Rattle.sd_manager.specs.Making.{Extends}
use Rattle.sd_manager.specs.Valid.{IsTable}
use Rattle.sd_apply.specs.Answers.{Compresses}
use Rattle.sd_apply.specs.Places.{IsCanonicalUnder, HasPlace, HasChildren}
use Rattle.sd_apply.specs.Elements.{IsPair, IsPaired, ListsElements, HasList}
use Rattle.sd_apply.proofs.Listed.{pair_on, lists_on, lists_push}
use Rattle.sd_manager.proofs.Extending.{extends_on}
use Rattle.sd_apply.proofs.Listed.{lists_at, take_answers, take_all, one_answer, answers_push, node_on, shown_on}
use Rattle.sd_apply.proofs.Same.{same_shown}
use Rattle.sd_apply.proofs.Rows.{pair_prime, pair_sub, not_bottom, false_value}
use Rattle.sd_apply.proofs.Merging.{partition_at}
use Rattle.sd_apply.proofs.Expanding.{own_list}
use Rattle.sd_apply.proofs.Standing.{shown}
use Rattle.sd_cond.specs.Calls.{conditioned, AnswersOf, IsStep, FixesPairs}
use Rattle.sd_cond.specs.declared.kept.KeptAnswers.{KeptAnswers}
use Rattle.sd_cond.specs.Kept.{AreAnswers}
use Rattle.sd_cond.proofs.Answering.{conditioned_under}
use Rattle.sd_cond.proofs.Steps.{InPairs}

-- one whose prime is false
pub pairs_skip : (m0 m m1 : Table) (at : ℕ) (k k1 : KeptAnswers) (c c1 : Answers) (x : ℕ) (s : Bool) (u w : ℕ)
    (l r : List (ℕ × ℕ)) (i : ℕ) (e : ℕ × ℕ) (prime : ℕ) → InPairs m0 m at k c x s u w l r i → Extends m m1 →
    IsStep m0 m1 at c1 → AreAnswers m1 (conditioned x s) k1 → i < length l → ◌≡◌ {A = ℕ × ℕ} e (get_or l i (0, 0)) →
    AnswersOf m m1 (conditioned x s) e.0 prime → prime ≡ 0 → InPairs m0 m1 at k1 c1 x s u w l r (i + 1)
pairs_skip m0 m m1 at k k1 c c1 x s u w l r i e prime h x1 n kn lt here p none = record {
  step = n;
  knows = kn;
  pairs = λ ds hd.
      let q = h.pairs ds hd in
      let d = lists_at m0 u w l ds hd i lt e here in
      let d0 = pair_on m0 m h.step.kept u w e d.0 d.1.pair in
      let z = p.each d.0.0 (shown m u e.0 d.0.0 (pair_prime m u w e d.0 d0)) in
      record {
        shown = q.shown;
        lists = lists_on m m1 x1 u w r q.shown q.lists;
        value = λ a.
            let b = with_value a x s in
            let false_prime : meaning d.0.0 b ≡ false =
            sym (z.value a) ∙ false_value m1 n.table prime z.diagram z.is.shows none a in
            let cut : answers b (take (i + 1) ds) ≡ answers b (take i ds) =
            take_answers b m0 u w e ds i d.0 d.1
            ∙ ap (λ v. answers b (take i ds) ++ cond v (meaning d.0.1 b ∷ []) []) false_prime
            ∙ append-nil (answers b (take i ds)) in
            q.value a ∙ sym cut;
      };
}

-- one with a prime that is not false
pub pairs_push : (m0 m m1 m2 : Table) (at : ℕ) (k k2 : KeptAnswers) (c c2 : Answers) (x : ℕ) (s : Bool)
    (u w : ℕ) (l r r2 : List (ℕ × ℕ)) (i : ℕ) (e : ℕ × ℕ) (prime sub : ℕ) → 1 ≤ x →
    InPairs m0 m at k c x s u w l r i → Extends m m1 → Extends m1 m2 → IsStep m0 m2 at c2 →
    AreAnswers m2 (conditioned x s) k2 → i < length l → ◌≡◌ {A = ℕ × ℕ} e (get_or l i (0, 0)) →
    AnswersOf m m1 (conditioned x s) e.0 prime → (prime ≡ 0 → ⊥) →
    AnswersOf m1 m2 (conditioned x s) e.1 sub → r2 ≡ r ++ (prime, sub) ∷ [] →
    InPairs m0 m2 at k2 c2 x s u w l r2 (i + 1)
pairs_push m0 m m1 m2 at k k2 c c2 x s u w l r r2 i e prime sub low h x1 x2 n kn lt here p some y pushed =
    record {
      step = n;
      knows = kn;
      pairs = λ ds hd.
          let q = h.pairs ds hd in
          let d = lists_at m0 u w l ds hd i lt e here in
          let d0 = pair_on m0 m h.step.kept u w e d.0 d.1.pair in
          let d1 = pair_on m m1 x1 u w e d.0 d0 in
          let d2 = pair_on m1 m2 x2 u w e d.0 d1 in
          let z = p.each d.0.0 (shown m u e.0 d.0.0 (pair_prime m u w e d.0 d0)) in
          let v = y.each d.0.1 (shown m1 w e.1 d.0.1 (pair_sub m1 u w e d.0 d1)) in
          let prime1 : IsCanonicalUnder m1.vtree u z.diagram =
          conditioned_under m1.vtree u x s d.0.0 z.diagram low d1.prime z.is.canonical z.value in
          let prime2 = node_on m1 m2 x2 u prime z.diagram (record {
            shows = z.is.shows;
            under = prime1;
          }) in
          let new : Diagram × Diagram = (z.diagram, v.diagram) in
          let pair : IsPair m2 u w (prime, sub) new = record {
            prime_shows = prime2.shows;
            sub_shows = v.is.shows;
            prime = prime2.under;
            sub = conditioned_under m2.vtree w x s d.0.1 v.diagram low d2.sub v.is.canonical v.value;
            possible = not_bottom m1 prime z.diagram z.is.shows some;
          } in
          let lists = lists_push m2 u w r q.shown (prime, sub) new
          (lists_on m m2 (extends_on m m1 m2 x1 x2) u w r q.shown q.lists) pair in
          let L : List (ℕ × ℕ) → Type 0 = λ j. ListsElements m2 u w j (q.shown ++ new ∷ []) in
          record {
            shown = q.shown ++ new ∷ [];
            lists = subst L (sym pushed) lists;
            value = λ a.
                let b = with_value a x s in
                let head : one_answer a new ≡ one_answer b d.0 =
                ap (λ j. cond j (meaning v.diagram a ∷ []) []) (z.value a)
                ∙ ap (λ j. cond (meaning d.0.0 b) (j ∷ []) []) (v.value a) in
                answers_push a q.shown new ∙ ap (λ j. j ++ one_answer a new) (q.value a)
                ∙ ap (λ j. answers b (take i ds) ++ j) head
                ∙ sym (take_answers b m0 u w e ds i d.0 d.1);
          };
    }

-- the prime of an element is not false
pub prime_possible : (t : Table) → IsTable t → (u w : ℕ) (e : ℕ × ℕ) → IsPaired t u w e → e.0 ≡ 0 → ⊥
prime_possible t i u w e h none =
    let S : ℕ → Type 0 = λ n. Shows t n h.shown.0 in
    h.is.possible (bottom_from_code t.vtree (get t.linked) i.numbered h.shown.0 (subst S none h.is.prime_shows))

-- all of them
pub pairs_done : (m0 m : Table) (at : ℕ) (k : KeptAnswers) (c : Answers) (x : ℕ) (s : Bool) (u w : ℕ)
    (l r : List (ℕ × ℕ)) (i : ℕ) → InPairs m0 m at k c x s u w l r i → length l ≤ i → i ≤ length l →
    FixesPairs m0 m x s u w l r
pairs_done m0 m at k c x s u w l r i h lo hi = record {
  each = λ ds hd.
      let q = h.pairs ds hd in
      record {
        shown = q.shown;
        lists = q.lists;
        value = λ a. q.value a
            ∙ ap (λ j. answers (with_value a x s) j) (take_all m0 u w l ds i hd lo hi);
      };
}

-- the elements of a decomposition where the variable has the value
pub fixed_list : (m0 m1 : Table) → IsTable m0 → (x : ℕ) (s : Bool) (p u w a : ℕ) (r : List (ℕ × ℕ)) →
    HasChildren m0.vtree p u w →
    ((d : Diagram) → ShowsCanonical m0 a d → HasPlace m0.vtree p d) → 2050 ≤ a →
    FixesPairs m0 m1 x s u w (pairs_at m0 a) r → (d : Diagram) → ShowsCanonical m0 a d →
    HasList m1 u w r (λ g. meaning d (with_value g x s) ∷ [])
fixed_list m0 m1 i x s p u w a r e place code h d sd =
    let own = own_list m0 i p u w a e d sd (place d sd) code in
    let gs = h.each own.shown own.lists in
    record {
      shown = gs.shown;
      lists = gs.lists;
      value = λ g. gs.value g ∙ own.value (with_value g x s);
    }

-- a list with one answer is a partition
pub listed_partition : (t : Table) → IsTable t → (p u w : ℕ) → HasChildren t.vtree p u w →
    (l : List (ℕ × ℕ)) (f : List Bool → Bool) (h : HasList t u w l (λ g. f g ∷ [])) →
    IsPartitionAt t p l h.shown
listed_partition t i p u w e l f h =
    partition_at t i p u w e l h.shown h.lists (λ g. ap length (h.value g))

head_same : (x y : Bool) → x ∷ [] ≡ y ∷ [] → x ≡ y
head_same x y e = cc

-- the node that such lists make is the answer
pub compressed_answers : (m0 m1 m2 : Table) → IsTable m1 → (f : Diagram → List Bool → Bool)
    (p u w a c : ℕ) (r : List (ℕ × ℕ)) → HasChildren m1.vtree p u w →
    ((d : Diagram) → ShowsCanonical m0 a d → HasList m1 u w r (λ g. f d g ∷ [])) →
    Compresses m1 m2 p r c → AnswersOf m0 m2 f a c
compressed_answers m0 m1 m2 i f p u w a c r e list h = record {
  each = λ d sd.
      let k = list d sd in
      let z = h.each k.shown (listed_partition m1 i p u w e r (f d) k) in
      record {
        diagram = z.diagram;
        is = z.is;
        value = λ g. head_same (meaning z.diagram g) (f d g) (sym (z.value g) ∙ k.value g);
      };
}

-- where they are the elements that the node has, the node is the answer
pub same_answers : (m0 m1 : Table) → IsTable m0 → IsTable m1 → Extends m0 m1 →
    (f : Diagram → List Bool → Bool) (p u w a : ℕ) (r : List (ℕ × ℕ)) → HasChildren m0.vtree p u w →
    ((d : Diagram) → ShowsCanonical m0 a d → HasPlace m0.vtree p d) → 2050 ≤ a →
    ((d : Diagram) → ShowsCanonical m0 a d → HasList m1 u w r (λ g. f d g ∷ [])) →
    r ≡ pairs_at m0 a → AnswersOf m0 m1 f a a
same_answers m0 m1 i j x f p u w a r e place code list same = record {
  each = λ d sd.
      let own = own_list m0 i p u w a e d sd (place d sd) code in
      let k = list d sd in
      let one = same_shown m1 j u w (pairs_at m0 a) r own.shown k.shown
      (lists_on m0 m1 x u w (pairs_at m0 a) own.shown own.lists) k.lists same in
      record {
        diagram = d;
        is = shown_on m0 m1 x a d sd;
        value = λ g. head_same (meaning d g) (f d g)
            (sym (own.value g) ∙ ap (answers g) one ∙ k.value g);
      };
}
