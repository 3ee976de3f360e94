-- Nodes that wait are rewritten one after the other: what all steps together did, and that the move goes on.
use Rattle.std.proofs.Common.{◌≡◌, ◌≢◌, ◌⊎◌, inl, inr, ℕ, List, [], ◌∷◌, ◌++◌, length, Option, Some, None}
use Rattle.std.proofs.Common.{refl, sym, ◌∙◌, ap, subst, arith}
use Rattle.std.specs.List.{AllByRecursion}
use Rattle.std.specs.Option.{IsSome}
use Rattle.std.specs.FinMap.{get}
use Rattle.std.proofs.lemmas.Option.{none-some, same_Some, some_pair_parts}
use Rattle.sd_model.specs.Tree.{AreDistinct}
use Rattle.sd_vtree.specs.Numbered.{IsUnder, or_else}
use Rattle.sd_runs.specs.Arena.{IsMember}
use Rattle.sd_laws.specs.Values.{Valuation}
use Rattle.sd_laws.proofs.Lists.{all_weaker}
use Rattle.sd_manager.specs.Table.{Table, key_at}
use Rattle.sd_manager.specs.Making.{Extends}
use Rattle.sd_manager.specs.Valid.{IsTable}
use Rattle.sd_manager.proofs.Reading.{linked_key}
use Rattle.sd_apply.specs.Growing.{GrowsStrictlyBelow}
use Rattle.sd_apply.proofs.Growing.{strictly_under}
use Rattle.sd_move.specs.Journal.{Named, IsOwnRun, starts_of, with_start}
use Rattle.sd_move.specs.Moving.{Progress, IsBelowNode}
use Rattle.sd_move.specs.GoingBack.{numbers_of}
use Rattle.sd_move.specs.Rewriting.{WasRewritten, AreRewritten, CanRewriteAll, GoesOn}
use Rattle.sd_move.proofs.Recorded.{member_own}

-- lists of entries

-- a member of two lists is one of the first or of the second
member_either : (es fs : List Named) (n : ℕ) → IsMember n (numbers_of (es ++ fs)) →
    IsMember n (numbers_of es) ⊎ IsMember n (numbers_of fs)
member_either [] fs n m = inr m
member_either (e ∷ es) fs n (inl z) = inl (inl z)
member_either (e ∷ es) fs n (inr m) = elim (member_either es fs n m) [
  | inl k ↦ inl (inr k)
  | inr k ↦ inr k
]

pub member_first : (es fs : List Named) (n : ℕ) → IsMember n (numbers_of es) → IsMember n (numbers_of (es ++ fs))
member_first (e ∷ es) fs n (inl z) = inl z
member_first (e ∷ es) fs n (inr m) = inr (member_first es fs n m)
member_first [] fs n m = absurd m

pub member_second : (es fs : List Named) (n : ℕ) → IsMember n (numbers_of fs) → IsMember n (numbers_of (es ++ fs))
member_second [] fs n m = m
member_second (e ∷ es) fs n m = inr (member_second es fs n m)

-- and so is a run
own_first : (es fs : List Named) (s : ℕ) → IsOwnRun es s → IsOwnRun (es ++ fs) s
own_first [] fs s o = absurd o
own_first (e ∷ es) fs s (inl z) = inl z
own_first (e ∷ es) fs s (inr m) = inr (own_first es fs s m)

own_second : (es fs : List Named) (s : ℕ) → IsOwnRun fs s → IsOwnRun (es ++ fs) s
own_second [] fs s o = o
own_second (e ∷ es) fs s o = inr (own_second es fs s o)

-- what holds of the entries of both lists holds of all
all_both : (P : Named → Type 0) (es fs : List Named) → AllByRecursion P es → AllByRecursion P fs →
    AllByRecursion P (es ++ fs)
all_both P [] fs h k = k
all_both P (e ∷ es) fs h k = (h.0, all_both P es fs h.1 k)

-- what one step did

module _ (a b : Table) (x : ℕ) where
  -- a run of the entries was not there before
  own_fresh : (es : List Named) (s : ℕ) → AllByRecursion (WasRewritten a b x) es → IsOwnRun es s → get a.loose s ≡ None
  own_fresh [] s h o = absurd o
  own_fresh (e ∷ es) s h (inr o) = own_fresh es s h.1 o
  own_fresh (e ∷ es) s h (inl w) =
      let parts = some_pair_parts h.0.start s (length h.0.former) w.0 (sym h.0.run ∙ w.1) in
      subst (λ z. get a.loose z ≡ None) parts.0 h.0.fresh

  -- and is there afterwards
  own_loose : (es : List Named) (s : ℕ) → AllByRecursion (WasRewritten a b x) es →
      IsOwnRun es s → IsSome (get b.loose s)
  own_loose [] s h o = absurd o
  own_loose (e ∷ es) s h (inr o) = own_loose es s h.1 o
  own_loose (e ∷ es) s h (inl w) =
      let parts = some_pair_parts h.0.start s (length h.0.former) w.0 (sym h.0.run ∙ w.1) in
      subst (λ z. IsSome (get b.loose z)) parts.0 (subst IsSome (sym h.0.loose) refl)

  -- a node of the entries was detached
  own_waited : (es : List Named) (n : ℕ) → AllByRecursion (WasRewritten a b x) es → IsMember n (numbers_of es) →
      IsSome (get a.detached n)
  own_waited [] n h o = absurd o
  own_waited (e ∷ es) n h (inr o) = own_waited es n h.1 o
  own_waited (e ∷ es) n h (inl z) =
      subst (λ i. IsSome (get a.detached i)) z (subst IsSome (sym h.0.was) refl)

-- something is not nothing
not_both_ways : {X : Type 0} (o : Option X) → IsSome o → o ≡ None → ⊥
not_both_ways o s e = absurd (cc (subst IsSome e s))

-- the starts of two lists of entries
starts_both : (es fs : List Named) → starts_of (es ++ fs) ≡ starts_of es ++ starts_of fs
starts_both [] fs = refl
starts_both (e ∷ es) fs = go e.run (starts_both es fs)
  where
    go : (o : Option (ℕ × ℕ)) → starts_of (es ++ fs) ≡ starts_of es ++ starts_of fs →
        with_start o (starts_of (es ++ fs)) ≡ with_start o (starts_of es) ++ starts_of fs
    go None more = more
    go (Some r) more = ap (λ l. r.0 ∷ l) more

-- lists without a common member, each without copies, have none together
distinct_both : (xs ys : List ℕ) → AreDistinct xs → AreDistinct ys →
    ((s : ℕ) → IsMember s xs → IsMember s ys → ⊥) → AreDistinct (xs ++ ys)
distinct_both [] ys dx dy apart = dy
distinct_both (x ∷ xs) ys dx dy apart = (
  others xs dx.0 ys (λ s m e. apart s (inl e) m),
  distinct_both xs ys dx.1 dy (λ s m k. apart s (inr m) k),
)
  where
    none : (ys : List ℕ) → ((s : ℕ) → IsMember s ys → x ≡ s → ⊥) → AllByRecursion (λ y. x ≢ y) ys
    none [] f = tt
    none (y ∷ ys) f = (f y (inl refl), none ys (λ s m. f s (inr m)))

    others : (xs : List ℕ) → AllByRecursion (λ y. x ≢ y) xs → (ys : List ℕ) →
        ((s : ℕ) → IsMember s ys → x ≡ s → ⊥) → AllByRecursion (λ y. x ≢ y) (xs ++ ys)
    others [] h ys f = none ys f
    others (z ∷ xs) h ys f = (h.0, others xs h.1 ys f)

-- two steps

module _ (a b c : Table) (x : ℕ) (es fs : List Named) (g : AreRewritten a b x es) (h : AreRewritten b c x fs) where
  not_own_first : (e : Named) (s : ℕ) → get b.loose s ≡ None → ¬ IsOwnRun es s
  not_own_first e s none o = not_both_ways (get b.loose s) (own_loose a b x es s g.each o) none

  first_after : (e : Named) → WasRewritten a b x e → WasRewritten a c x e
  first_after e w =
      record {
        former = w.former;
        list = w.list;
        start = w.start;
        was = w.was;
        is = h.nodes e.number (x, w.list) w.is;
        at = w.at;
        run = w.run;
        fresh = w.fresh;
        loose = h.other_runs w.start
            (λ o. none-some w.former (sym (own_fresh b c x fs w.start h.each o) ∙ w.loose)) ∙ w.loose;
      }

  -- a node that is detached between was detached as it is
  waited_before : (n : ℕ) (k : ℕ × List (ℕ × ℕ)) → get b.detached n ≡ Some k → get a.detached n ≡ Some k
  waited_before n k e =
      sym (g.waiting n (λ m. none-some k (sym (g.gone n m) ∙ e))) ∙ e

  second_before : (e : Named) → WasRewritten b c x e → WasRewritten a c x e
  second_before e w =
      record {
        former = w.former;
        list = w.list;
        start = w.start;
        was = waited_before e.number (x, w.former) w.was;
        is = w.is;
        at = w.at;
        run = w.run;
        fresh = sym (g.other_runs w.start (not_own_first e w.start w.fresh)) ∙ w.fresh;
        loose = w.loose;
      }

  new_below_both : (n : ℕ) (k : ℕ × List (ℕ × ℕ)) → key_at a n ≡ None → get c.linked n ≡ Some k → IsBelowNode c x k.0
  new_below_both n k none is = go (get b.linked n) refl
    where
      a_detached : get a.detached n ≡ None
      a_detached = by (get a.linked n) refl
        where
          by : (o : Option (ℕ × List (ℕ × ℕ))) → get a.linked n ≡ o → get a.detached n ≡ None
          by None f = sym (ap (λ o. or_else o (get a.detached n)) f) ∙ none
          by (Some j) f = absurd (none-some j (sym none ∙ linked_key a n j f))

      b_detached : (o : Option (ℕ × List (ℕ × ℕ))) → get b.detached n ≡ o → get b.detached n ≡ None
      b_detached None f = f
      b_detached (Some j) f = absurd (none-some j (sym a_detached ∙ waited_before n j f))

      go : (o : Option (ℕ × List (ℕ × ℕ))) → get b.linked n ≡ o → IsBelowNode c x k.0
      go None f =
          h.new_below n k (ap (λ o. or_else o (get b.detached n)) f ∙ b_detached (get b.detached n) refl) is
      go (Some j) f =
          let same : j ≡ k = same_Some j k (sym (h.nodes n j f) ∙ is) in
          let below = g.new_below n j none f in
          subst (λ (y : ℕ × List (ℕ × ℕ)). IsBelowNode c x y.0) same
          (below.0, subst (λ t. IsUnder t j.0 x) (sym h.vtree) below.1)

  -- Both together.
  pub rewritten_both : AreRewritten a c x (es ++ fs)
  rewritten_both =
      record {
        vtree = h.vtree ∙ g.vtree;
        roots = h.roots ∙ g.roots;
        epoch = h.epoch ∙ g.epoch;
        bound = h.bound ∙ g.bound;
        moving = h.moving ∙ g.moving;
        extent = omega (arith, g.extent, h.extent);
        records = omega (arith, g.records, h.records);
        nodes = λ n k e. h.nodes n k (g.nodes n k e);
        new_below = new_below_both;
        each = all_both (WasRewritten a c x) es fs
            (all_weaker (WasRewritten a b x) (WasRewritten a c x) first_after es g.each)
            (all_weaker (WasRewritten b c x) (WasRewritten a c x) second_before fs h.each);
        gone = λ n m. elim (member_either es fs n m) [
          | inl k ↦ h.waiting n (λ o. not_both_ways (get b.detached n) (own_waited b c x fs n h.each o)
              (g.gone n k)) ∙ g.gone n k
          | inr k ↦ h.gone n k
        ];
        marks = λ n m some e. elim (h.marks n m some e) [
          | inl k ↦ g.marks n m k.0 k.1
          | inr z ↦ inr z
        ];
        waiting = λ n out. h.waiting n (λ m. out (member_second es fs n m))
            ∙ g.waiting n (λ m. out (member_first es fs n m));
        runs_once = subst AreDistinct (sym (starts_both es fs))
            (distinct_both (starts_of es) (starts_of fs) g.runs_once h.runs_once
            (λ s m k. not_both_ways (get b.loose s) (own_loose a b x es s g.each (member_own es s m))
            (own_fresh b c x fs s h.each (member_own fs s k))));
        other_runs = λ s out. h.other_runs s (λ o. out (own_second es fs s o))
            ∙ g.other_runs s (λ o. out (own_first es fs s o));
      }

-- nothing is rewritten where new nodes are made below the place
pub grown_rewritten : (a b : Table) (x : ℕ) → IsTable b → Extends a b → GrowsStrictlyBelow a b x → AreRewritten a b x []
grown_rewritten a b x t e g =
    record {
      vtree = e.vtree;
      roots = e.roots;
      epoch = e.epoch;
      bound = e.bound;
      moving = e.moving;
      extent = e.extent;
      records = e.records;
      nodes = e.nodes;
      new_below = λ n k none is.
          let u = strictly_under b.vtree t.numbered k.0 x (g.each n k (not_linked n none) is) in
          (u.0, u.1);
      each = tt;
      gone = λ n m. absurd m;
      waiting = λ n out. ap (λ z. get z n) e.detached;
      marks = λ n m some is. marks n m some is (get a.linked n) refl (get a.detached n) refl;
      runs_once = tt;
      other_runs = λ s out. ap (λ z. get z s) e.loose;
    }
  where
    marks : (n m : ℕ) → IsSome (key_at b n) → get b.marks n ≡ Some m → (o : Option (ℕ × List (ℕ × ℕ))) →
        get a.linked n ≡ o → (p : Option (ℕ × List (ℕ × ℕ))) → get a.detached n ≡ p →
        (IsSome (key_at a n) × (get a.marks n ≡ Some m)) ⊎ (m ≡ 0)
    marks n m some is (Some k) f p d =
        inl (subst IsSome (sym (linked_key a n k f)) refl, sym (e.marks n k f) ∙ is)
    marks n m some is None f (Some k) d =
        inl (
          subst IsSome (sym (ap (λ o. or_else o (get a.detached n)) f ∙ d)) refl,
          sym (e.detached_marks n k d) ∙ is,
        )
    marks n m some is None f None d =
        inr (same_Some m 0 (sym is ∙ e.fresh n f (linked (get b.linked n) refl)))
      where
        linked : (o : Option (ℕ × List (ℕ × ℕ))) → get b.linked n ≡ o → IsSome (get b.linked n)
        linked (Some k) g = subst IsSome (sym g) refl
        linked None g =
            absurd (cc (subst IsSome (ap (λ o. or_else o (get b.detached n)) g ∙ ap (λ z. get z n) e.detached ∙ d)
            some))

    not_linked : (n : ℕ) → key_at a n ≡ None → get a.linked n ≡ None
    not_linked n none = by (get a.linked n) refl
      where
        by : (o : Option (ℕ × List (ℕ × ℕ))) → get a.linked n ≡ o → get a.linked n ≡ None
        by None f = f
        by (Some j) f = absurd (none-some j (sym none ∙ linked_key a n j f))

-- the move

-- a move goes on over two steps
pub goes_on_both : (m0 a b c : Table) (x : ℕ) (h : Progress) (v : Valuation) (rest less : List ℕ) →
    GoesOn m0 a b x h v rest →
    ((p : Progress) (w : Valuation) → CanRewriteAll m0 b x p w rest → GoesOn m0 b c x p w less) →
    GoesOn m0 a c x h v less
goes_on_both m0 a b c x h v rest less g f =
    let k = f g.progress g.values g.can in
    record {
      progress = k.progress;
      values = k.values;
      can = k.can;
      discarded = k.discarded ∙ g.discarded;
      numbers = λ n is. k.numbers n (g.numbers n is);
      kept = λ n is z. k.kept n (g.numbers n is) z ∙ g.kept n is z;
    }

-- a move goes on where nothing was done
pub goes_on_still : (m0 a : Table) (x : ℕ) (h : Progress) (v : Valuation) (rest : List ℕ) →
    CanRewriteAll m0 a x h v rest → GoesOn m0 a a x h v rest
goes_on_still m0 a x h v rest c =
    record {
      progress = h;
      values = v;
      can = c;
      discarded = refl;
      numbers = λ n is. is;
      kept = λ n is z. refl;
    }
