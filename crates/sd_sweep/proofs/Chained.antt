-- A chain of marks, one node after the other, and the marks taken off again.
use Rattle.std.proofs.Common.{◌≡◌, ◌≢◌, ◌⊎◌, inl, inr, ℕ, zero, suc, ◌+◌, ◌-◌, ◌≤◌, ◌<◌}
use Rattle.std.proofs.Common.{Bool, true, false, ltb, IsTrue, List, [], ◌∷◌, ◌++◌, length}
use Rattle.std.proofs.Common.{Option, Some, None, slice_get, refl, sym, ap, subst, ◌∙◌, append-nil, arith}
use Rattle.std.proofs.lemmas.Bool.{cases_eq, ltb-true, ltb-false}
use Rattle.std.proofs.lemmas.List.{append_assoc}
use Rattle.std.specs.Option.{IsSome}
use Rattle.std.specs.Ordering.{nat_cmp}
use Rattle.std.specs.FinMap.{FinMap, get, insert}
use Rattle.sd_runs.proofs.Maps.{same_at_each, get_insert_same, get_insert_other}
use Rattle.sd_model.specs.Tree.{AreDistinct}
use Rattle.sd_model.specs.Diagram.{Diagram, Decomposition, Elements}
use Rattle.sd_laws.proofs.Lists.{IsAmong, all_at, all_from}
use Rattle.sd_manager.specs.Table.{Table, key_at}
use Rattle.sd_manager.specs.Shown.{Shows, ShowsCanonical}
use Rattle.sd_manager.specs.Valid.{IsTable}
use Rattle.sd_manager.specs.Views.{pairs_at}
use Rattle.sd_manager.specs.Marking.{with_mark, AreUnmarked}
use Rattle.sd_manager.proofs.Reading.{linked_key}
use Rattle.sd_manager.proofs.Evaluating.{children}
use Rattle.sd_sweep.specs.Chained.{DifferInMarks, first_code, IsLast, AreLinked, IsLinked, IsChained, HasChain}
use Rattle.sd_sweep.specs.Chained.{IsLonger, Lengthens, StandsBefore}
use Rattle.sd_sweep.proofs.Below.{among_left, among_right, among_split, only}
use Rattle.sd_sweep.proofs.Elements.{shown_linked}

-- tables that differ in marks

pub differ_on : (a b c : Table) → DifferInMarks a b → DifferInMarks b c → DifferInMarks a c
differ_on a b c h k = k ∙ ap (λ (t : Table). record t { marks = c.marks }) h

pub shown_over : (a b : Table) → DifferInMarks a b → (c : ℕ) (d : Diagram) → ShowsCanonical a c d → ShowsCanonical b c d
shown_over a b h c d is = subst (λ t. ShowsCanonical t c d) (sym h) is

pub shown_back : (a b : Table) → DifferInMarks a b → (c : ℕ) (d : Diagram) → ShowsCanonical b c d → ShowsCanonical a c d
shown_back a b h c d is = subst (λ t. ShowsCanonical t c d) h is

pub pairs_over : (a b : Table) → DifferInMarks a b → (c : ℕ) → pairs_at b c ≡ pairs_at a c
pairs_over a b h c = ap (λ t. pairs_at t c) h

pub linked_over : (a b : Table) → DifferInMarks a b → (c : ℕ) → IsLinked a c → IsLinked b c
linked_over a b h c is = subst (λ t. IsLinked t c) (sym h) is

pub linked_back : (a b : Table) → DifferInMarks a b → (c : ℕ) → IsLinked b c → IsLinked a c
linked_back a b h c is = subst (λ t. IsLinked t c) h is

-- one mark more
pub differ_marked : (a b c : Table) (n value : ℕ) → DifferInMarks a b → c ≡ with_mark b n value → DifferInMarks a c
differ_marked a b c n value h is =
    subst (DifferInMarks a) (sym is) (ap (λ (t : Table). with_mark t n value) h)

-- nodes and numbers

-- the number is the code's
pub number_back : (c : ℕ) → 2050 ≤ c → 2050 + (c - 2050) ≡ c
number_back c high = omega (arith, high)

-- what is no decomposition has a code below those of nodes
pub below_nodes : (n : ℕ) (b : Bool) → (2050 ≤ n → IsTrue b) → b ≡ false → n < 2050
below_nodes n b high low = go (ltb n 2050) refl
  where
    go : (c : Bool) → ltb n 2050 ≡ c → n < 2050
    go true e = ltb-true n 2050 e
    go false e = let yes : b ≡ true = high (ltb-false n 2050 e) in absurd (cc (yes, low))

-- a linked node has its key
pub linked_has_key : (t : Table) (c : ℕ) → IsLinked t c → IsSome (key_at t (c - 2050))
linked_has_key t c is = go (get t.linked (c - 2050)) refl is.1
  where
    go : (o : Option (ℕ × List (ℕ × ℕ))) → get t.linked (c - 2050) ≡ o → IsSome o → IsSome (key_at t (c - 2050))
    go None e s = cc
    go (Some k) e s = subst IsSome (sym (linked_key t (c - 2050) k e)) s

-- what shows something is linked, where it is a node
pub shown_is_linked : (t : Table) → IsTable t → (c : ℕ) (d : Diagram) → ShowsCanonical t c d → 2050 ≤ c → IsLinked t c
shown_is_linked t table c d is high = (
  high,
  shown_linked t table (c - 2050) d (subst (λ z. Shows t z d) (sym (number_back c high)) is.shows),
)

-- lists

-- a number is in a list or it is not
pub among_or : (n : ℕ) (ns : List ℕ) → IsAmong n ns ⊎ (IsAmong n ns → ⊥)
among_or n [] = inr (λ m. absurd m)
among_or n (k ∷ ns) = go (cases_eq n k) (among_or n ns)
  where
    neither : (n ≡ k → ⊥) → (IsAmong n ns → ⊥) → IsAmong n (k ∷ ns) → ⊥
    neither a b (inl e) = a e
    neither a b (inr m) = b m

    go : n ≡ k ⊎ (n ≡ k → ⊥) → IsAmong n ns ⊎ (IsAmong n ns → ⊥) → IsAmong n (k ∷ ns) ⊎ (IsAmong n (k ∷ ns) → ⊥)
    go (inl e) r = inl (inl e)
    go (inr d) (inl m) = inl (inr m)
    go (inr d) (inr o) = inr (neither d o)

-- what is not there comes to the end of a list without copies
distinct_more : (cs : List ℕ) (x : ℕ) → AreDistinct cs → (IsAmong x cs → ⊥) → AreDistinct (cs ++ x ∷ [])
distinct_more [] x d o = (tt, tt)
distinct_more (c ∷ cs) x d o = (
  all_from (λ y. c ≢ y) (cs ++ x ∷ []) (λ y m. differs y (among_split y cs (x ∷ []) m)),
  distinct_more cs x d.1 (λ m. o (inr m)),
)
  where
    differs : (y : ℕ) → IsAmong y cs ⊎ IsAmong y (x ∷ []) → c ≢ y
    differs y (inl k) = all_at (λ z. c ≢ z) cs y d.0 k
    differs y (inr k) = λ e. o (inl (sym (e ∙ only y x k)))

-- the first part of a list without copies is one
pub distinct_left : (cs ds : List ℕ) → AreDistinct (cs ++ ds) → AreDistinct cs
distinct_left [] ds d = tt
distinct_left (c ∷ cs) ds d = (
  all_from (λ y. c ≢ y) cs (λ y m. all_at (λ y. c ≢ y) (cs ++ ds) y d.0 (among_left y cs ds m)),
  distinct_left cs ds d.1,
)

-- links

-- the first code of a chain is not 0
first_some : (cs : List ℕ) → ((c : ℕ) → IsAmong c cs → 2050 ≤ c) → 1 ≤ first_code cs
first_some [] high = omega arith
first_some (c ∷ cs) high = omega (arith, high c (inl refl))

-- so no mark of a chain is 0
links_marked : (marks : FinMap nat_cmp ℕ) (c : ℕ) (cs : List ℕ) → ((x : ℕ) → IsAmong x cs → 2050 ≤ x) →
    AreLinked marks cs → IsAmong c cs → (k : ℕ) × (get marks (c - 2050) ≡ Some k) × (1 ≤ k)
links_marked marks c [] high h m = absurd m
links_marked marks c (d ∷ cs) high h (inl e) = (
  first_code cs,
  ap (λ z. get marks (z - 2050)) e ∙ h.0,
  first_some cs (λ x n. high x (inr n)),
)
links_marked marks c (d ∷ cs) high h (inr m) = links_marked marks c cs (λ x n. high x (inr n)) h.1 m

-- the mark of another number changes no link
links_other : (marks : FinMap nat_cmp ℕ) (k v : ℕ) (cs : List ℕ) → ((c : ℕ) → IsAmong c cs → (c - 2050 ≡ k → ⊥)) →
    AreLinked marks cs → AreLinked (insert marks k v) cs
links_other marks k v [] apart h = tt
links_other marks k v (c ∷ cs) apart h = (
  get_insert_other marks k v (c - 2050) (apart c (inl refl)) ∙ h.0,
  links_other marks k v cs (λ x m. apart x (inr m)) h.1,
)

-- the mark of one in the middle is the first code behind it
pub links_at : (marks : FinMap nat_cmp ℕ) (c : ℕ) (front cs : List ℕ) → AreLinked marks (front ++ c ∷ cs) →
    get marks (c - 2050) ≡ Some (first_code cs)
links_at marks c [] cs h = h.0
links_at marks c (d ∷ front) cs h = links_at marks c front cs h.1

-- one node more at the end
links_more : (marks : FinMap nat_cmp ℕ) (last x : ℕ) (front : List ℕ) → AreDistinct (front ++ last ∷ []) →
    ((c : ℕ) → IsAmong c (front ++ last ∷ []) → 2050 ≤ c) →
    ((c : ℕ) → IsAmong c (front ++ last ∷ []) → (c - 2050 ≡ x - 2050 → ⊥)) →
    AreLinked marks (front ++ last ∷ []) →
    AreLinked (insert (insert marks (last - 2050) x) (x - 2050) 1) (front ++ last ∷ [] ++ x ∷ [])
links_more marks last x [] once high apart h = (
  get_insert_other (insert marks (last - 2050) x) (x - 2050) 1 (last - 2050) (apart last (inl refl))
      ∙ get_insert_same marks (last - 2050) x,
  (get_insert_same (insert marks (last - 2050) x) (x - 2050) 1, tt),
)
links_more marks last x (c ∷ front) once high apart h = (
  get_insert_other (insert marks (last - 2050) x) (x - 2050) 1 (c - 2050) (apart c (inl refl))
      ∙ get_insert_other marks (last - 2050) x (c - 2050) differs ∙ h.0 ∙ ap (λ z. Some z) (same front),
  links_more marks last x front once.1 (λ y m. high y (inr m)) (λ y m. apart y (inr m)) h.1,
)
  where
    there : IsAmong last (front ++ last ∷ [])
    there = among_right last front (last ∷ []) (inl refl)

    differs : c - 2050 ≡ last - 2050 → ⊥
    differs e =
        all_at (λ y. c ≢ y) (front ++ last ∷ []) last once.0 there
        (omega (arith, e, high c (inl refl), high last (inr there)))

    same : (f : List ℕ) → first_code (f ++ last ∷ []) ≡ first_code (f ++ last ∷ [] ++ x ∷ [])
    same [] = refl
    same (d ∷ f) = refl

-- chains

-- one node alone
pub chained_first : (t new : Table) (c : ℕ) → IsLinked t c → new ≡ with_mark t (c - 2050) 1 → IsChained t new (c ∷ [])
chained_first t new c is same =
    subst (λ z. IsChained t z (c ∷ [])) (sym same)
    (record {
      rest = refl;
      once = (tt, tt);
      nodes = λ x m. subst (IsLinked t) (sym (only x c m)) is;
      links = (get_insert_same t.marks (c - 2050) 1, tt);
      other = λ n o. get_insert_other t.marks (c - 2050) 1 n (λ e. o (inl (omega (arith, e, is.0))));
    })

-- one more behind the last one
chained_more : (t now new : Table) (cs : List ℕ) (last x : ℕ) → IsChained t now cs → IsLast last cs →
    (IsAmong x cs → ⊥) → IsLinked t x → new ≡ with_mark (with_mark now (last - 2050) x) (x - 2050) 1 →
    IsChained t new (cs ++ x ∷ [])
chained_more t now new cs last x h ends absent is same =
    subst (λ z. IsChained t z (cs ++ x ∷ [])) (sym same)
    (record {
      rest =
          differ_marked t (with_mark now (last - 2050) x) (with_mark (with_mark now (last - 2050) x) (x - 2050) 1)
          (x - 2050) 1 (differ_marked t now (with_mark now (last - 2050) x) (last - 2050) x h.rest refl) refl;
      once = distinct_more cs x h.once absent;
      nodes = λ c m. nodes c (among_split c cs (x ∷ []) m);
      links =
          subst (λ l. AreLinked marks (l ++ x ∷ [])) (sym ends.1)
          (links_more now.marks last x ends.0 (subst AreDistinct ends.1 h.once)
          (λ c m. (h.nodes c (back c m)).0) (λ c m. apart c (back c m)) (subst (AreLinked now.marks) ends.1 h.links));
      other = λ n o.
          get_insert_other (insert now.marks (last - 2050) x) (x - 2050) 1 n
          (λ e. o (among_right (2050 + n) cs (x ∷ []) (inl (omega (arith, e, is.0)))))
          ∙ get_insert_other now.marks (last - 2050) x n
          (λ e. o (among_left (2050 + n) cs (x ∷ [])
          (subst (λ z. IsAmong z cs) (sym (omega (arith, e, (h.nodes last there).0))) there)))
          ∙ h.other n (λ m. o (among_left (2050 + n) cs (x ∷ []) m));
    })
  where
    marks : FinMap nat_cmp ℕ
    marks = insert (insert now.marks (last - 2050) x) (x - 2050) 1

    back : (c : ℕ) → IsAmong c (ends.0 ++ last ∷ []) → IsAmong c cs
    back c m = subst (IsAmong c) (sym ends.1) m

    there : IsAmong last cs
    there = back last (among_right last ends.0 (last ∷ []) (inl refl))

    nodes : (c : ℕ) → IsAmong c cs ⊎ IsAmong c (x ∷ []) → IsLinked t c
    nodes c (inl m) = h.nodes c m
    nodes c (inr m) = subst (IsLinked t) (sym (only c x m)) is

    apart : (c : ℕ) → IsAmong c cs → c - 2050 ≡ x - 2050 → ⊥
    apart c m e =
        let k : c ≡ x = omega (arith, e, (h.nodes c m).0, is.0) in absurd (absent (subst (λ z. IsAmong z cs) k m))

-- a node in a chain has a mark that is not 0
chained_marked : (t now : Table) (cs : List ℕ) (c : ℕ) → IsChained t now cs → IsAmong c cs →
    get now.marks (c - 2050) ≡ Some 0 → ⊥
chained_marked t now cs c h m none =
    let k = links_marked now.marks c cs (λ x n. (h.nodes x n).0) h.links m in
    let both : Some k.0 ≡ Some 0 = sym k.1 ∙ none in
    let same : k.0 ≡ 0 = cc in
    absurd (omega (arith, same, k.2))

-- and a node whose mark is not 0 is in the chain
marked_chained : (t now : Table) (cs : List ℕ) (c : ℕ) → AreUnmarked t → IsChained t now cs → IsLinked now c →
    (get now.marks (c - 2050) ≡ Some 0 → ⊥) → IsAmong c cs
marked_chained t now cs c unmarked h is some = go (among_or c cs)
  where
    go : IsAmong c cs ⊎ (IsAmong c cs → ⊥) → IsAmong c cs
    go (inl m) = m
    go (inr o) =
        absurd (some (h.other (c - 2050) (λ m. o (subst (λ z. IsAmong z cs) (number_back c is.0) m))
        ∙ unmarked (c - 2050) (linked_back t now h.rest c is).1))

-- where a node is no decomposition, or is in the chain, nothing is to be done
longer_none : (t now : Table) (cs : List ℕ) (last x : ℕ) → IsChained t now cs → IsLast last cs →
    (2050 ≤ x → IsAmong x cs) → IsLonger t now cs last (λ c. c ≡ x)
longer_none t now cs last x h ends has =
    record {
      more = [];
      chain = subst (IsChained t now) (sym (append-nil cs)) h;
      ends = subst (IsLast last) (sym (append-nil cs)) ends;
      each = λ c m. absurd m;
      all = λ c e high.
          subst (IsAmong c) (sym (append-nil cs))
          (subst (λ z. IsAmong z cs) (sym e) (has (subst (λ z. 2050 ≤ z) e high)));
    }

pub lengthens_leaf : (now : Table) (last x : ℕ) → x < 2050 → Lengthens now now last last (λ c. c ≡ x)
lengthens_leaf now last x low t cs unmarked h ends =
    longer_none t now cs last x h ends (λ high. absurd (omega (arith, high, low)))

pub lengthens_known : (now : Table) (last x k : ℕ) → IsLinked now x → get now.marks (x - 2050) ≡ Some k →
    (k ≡ 0 → ⊥) → Lengthens now now last last (λ c. c ≡ x)
lengthens_known now last x k is mark some t cs unmarked h ends =
    longer_none t now cs last x h ends
    (λ high. marked_chained t now cs x unmarked h is (λ none.
    let both : Some k ≡ Some 0 = sym mark ∙ none in
    let same : k ≡ 0 = cc in
    some same))

-- a node without a mark becomes the last one
pub lengthens_new : (now new : Table) (last x : ℕ) → IsLinked now x → get now.marks (x - 2050) ≡ Some 0 →
    new ≡ with_mark (with_mark now (last - 2050) x) (x - 2050) 1 → Lengthens now new last x (λ c. c ≡ x)
lengthens_new now new last x is none same t cs unmarked h ends =
    record {
      more = x ∷ [];
      chain =
          chained_more t now new cs last x h ends (λ m. chained_marked t now cs x h m none)
          (linked_back t now h.rest x is) same;
      ends = (cs, refl);
      each = λ c m. only c x m;
      all = λ c e high. among_right c cs (x ∷ []) (inl e);
    }

-- one part of what was put behind after the other
longer_on : (t a b : Table) (cs : List ℕ) (l k : ℕ) (P Q : ℕ → Type 0) → (h : IsLonger t a cs l P) →
    IsLonger t b (cs ++ h.more) k Q → IsLonger t b cs k (λ c. P c ⊎ Q c)
longer_on t a b cs l k P Q h g =
    record {
      more = h.more ++ g.more;
      chain = subst (IsChained t b) whole g.chain;
      ends = subst (IsLast k) whole g.ends;
      each = λ c m. each c (among_split c h.more g.more m);
      all = all;
    }
  where
    whole : cs ++ h.more ++ g.more ≡ cs ++ (h.more ++ g.more)
    whole = append_assoc cs h.more g.more

    each : (c : ℕ) → IsAmong c h.more ⊎ IsAmong c g.more → P c ⊎ Q c
    each c (inl m) = inl (h.each c m)
    each c (inr m) = inr (g.each c m)

    all : (c : ℕ) → P c ⊎ Q c → 2050 ≤ c → IsAmong c (cs ++ (h.more ++ g.more))
    all c (inl p) high = subst (IsAmong c) whole (among_left c (cs ++ h.more) g.more (h.all c p high))
    all c (inr q) high = subst (IsAmong c) whole (g.all c q high)

-- the same said in other words
longer_as : (t now : Table) (cs : List ℕ) (l : ℕ) (P Q : ℕ → Type 0) → ((c : ℕ) → P c → Q c) →
    ((c : ℕ) → Q c → P c) → IsLonger t now cs l P → IsLonger t now cs l Q
longer_as t now cs l P Q to from h =
    record {
      more = h.more;
      chain = h.chain;
      ends = h.ends;
      each = λ c m. to c (h.each c m);
      all = λ c q high. h.all c (from c q) high;
    }

-- the primes and subs of a node

-- what stands in one pair more
module _ (pairs : List (ℕ × ℕ)) (i : ℕ) (e : ℕ × ℕ) (at : slice_get pairs i ≡ Some e) where
  before_on : (c : ℕ) → (StandsBefore pairs i c ⊎ (c ≡ e.0)) ⊎ (c ≡ e.1) → StandsBefore pairs (i + 1) c
  before_on c (inl (inl s)) =
      record { index = s.index; pair = s.pair; before = omega (arith, s.before); at = s.at; is = s.is }
  before_on c (inl (inr f)) = record { index = i; pair = e; before = omega arith; at = at; is = inl f }
  before_on c (inr f) = record { index = i; pair = e; before = omega arith; at = at; is = inr f }

  before_back : (c : ℕ) → StandsBefore pairs (i + 1) c → (StandsBefore pairs i c ⊎ (c ≡ e.0)) ⊎ (c ≡ e.1)
  before_back c s = go (cases_eq s.index i) s.is
    where
      pair : s.index ≡ i → s.pair ≡ e
      pair f =
          let both : Some s.pair ≡ Some e = sym s.at ∙ ap (slice_get pairs) f ∙ at in
          let same : s.pair ≡ e = cc in same

      go : (s.index ≡ i) ⊎ (s.index ≡ i → ⊥) → (c ≡ s.pair.0) ⊎ (c ≡ s.pair.1) →
          (StandsBefore pairs i c ⊎ (c ≡ e.0)) ⊎ (c ≡ e.1)
      go (inl f) (inl g) = inl (inr (g ∙ ap (λ (x : ℕ × ℕ). x.0) (pair f)))
      go (inl f) (inr g) = inr (g ∙ ap (λ (x : ℕ × ℕ). x.1) (pair f))
      go (inr d) g =
          let least : s.index < i = omega (arith, s.before, d) in
          inl (inl (record { index = s.index; pair = s.pair; before = least; at = s.at; is = g }))

-- what was done with the first pairs of a node
pub record InElements (old now : Table) (c i from last : ℕ) : Type 0 where
  pub table : IsTable now
  pub rest : DifferInMarks old now
  pub last_is : IsLinked now last
  pub longer : Lengthens old now from last (StandsBefore (pairs_at old c) i)

-- nothing at the start
pub in_elements_none : (t : Table) → IsTable t → (c last : ℕ) → IsLinked t last → InElements t t c 0 last last
in_elements_none t table c last is =
    record {
      table = table;
      rest = refl;
      last_is = is;
      longer = λ f cs unmarked h ends.
          record {
            more = [];
            chain = subst (IsChained f t) (sym (append-nil cs)) h;
            ends = subst (IsLast last) (sym (append-nil cs)) ends;
            each = λ x m. absurd m;
            all = λ x s high. absurd (omega (arith, s.before));
          };
    }

-- the prime and the sub of a pair are linked where they are nodes
pub pair_linked : (old now : Table) (c i from last p : ℕ) (es : Elements) (e : ℕ × ℕ) →
    InElements old now c i from last → ShowsCanonical old c (Decomposition p es) →
    slice_get (pairs_at now c) i ≡ Some e → (2050 ≤ e.0 → IsLinked now e.0) × (2050 ≤ e.1 → IsLinked now e.1)
pair_linked old now c i from last p es e k is at =
    let g = children now c p i es e (shown_over old now k.rest c (Decomposition p es) is) at in (
      λ high. shown_is_linked now k.table e.0 g.prime g.prime_is high,
      λ high. shown_is_linked now k.table e.1 g.sub g.sub_is high,
    )

-- one pair more
pub in_elements_on : (old now a b : Table) (c i from last mid end : ℕ) (e : ℕ × ℕ) →
    InElements old now c i from last → slice_get (pairs_at now c) i ≡ Some e →
    DifferInMarks now a → Lengthens now a last mid (λ x. x ≡ e.0) →
    DifferInMarks a b → Lengthens a b mid end (λ x. x ≡ e.1) → IsLinked b end → IsTable b →
    InElements old b c (i + 1) from end
in_elements_on old now a b c i from last mid end e k at rest first last_rest second linked table =
    record {
      table = table;
      rest = differ_on old now b k.rest (differ_on now a b rest last_rest);
      last_is = linked;
      longer = λ t cs unmarked h ends.
          let one = k.longer t cs unmarked h ends in
          let two =
          longer_on t now a cs last mid (StandsBefore (pairs_at old c) i) (λ x. x ≡ e.0) one
          (first t (cs ++ one.more) unmarked one.chain one.ends) in
          let three =
          longer_on t a b cs mid end (λ x. StandsBefore (pairs_at old c) i x ⊎ (x ≡ e.0)) (λ x. x ≡ e.1) two
          (second t (cs ++ two.more) unmarked two.chain two.ends) in
          longer_as t b cs end (λ x. (StandsBefore (pairs_at old c) i x ⊎ (x ≡ e.0)) ⊎ (x ≡ e.1))
          (StandsBefore (pairs_at old c) (i + 1))
          (before_on (pairs_at old c) i e there) (before_back (pairs_at old c) i e there) three;
    }
  where
    there : slice_get (pairs_at old c) i ≡ Some e
    there = subst (λ l. slice_get l i ≡ Some e) (pairs_over old now k.rest c) at

-- one of a list is at a place before its length
slice_inside : (l : List (ℕ × ℕ)) (i : ℕ) (e : ℕ × ℕ) → slice_get l i ≡ Some e → i < length l
slice_inside [] i e at = cc
slice_inside (f ∷ l) zero e at = omega arith
slice_inside (f ∷ l) (suc i) e at = omega (arith, slice_inside l i e at)

-- all at the end
pub in_elements_all : (old now : Table) (c i from last n : ℕ) → InElements old now c i from last →
    length (pairs_at old c) ≡ n → n ≤ i → Lengthens old now from last (StandsBefore (pairs_at old c) n)
in_elements_all old now c i from last n k count done t cs unmarked h ends =
    longer_as t now cs last (StandsBefore (pairs_at old c) i) (StandsBefore (pairs_at old c) n)
    (λ x s.
    record {
      index = s.index;
      pair = s.pair;
      before = omega (arith, slice_inside (pairs_at old c) s.index s.pair s.at, count);
      at = s.at;
      is = s.is;
    })
    (λ x s.
    record { index = s.index; pair = s.pair; before = omega (arith, s.before, done); at = s.at; is = s.is })
    (k.longer t cs unmarked h ends)

-- the marks are taken off

-- a chain of some nodes begins with one
pub chain_some : (t now : Table) (first nodes : ℕ) → (h : HasChain t now first nodes) → 0 < nodes →
    (cs : List ℕ) × (h.codes ≡ first ∷ cs)
chain_some t now first nodes h some = go h.codes h.starts h.count
  where
    go : (l : List ℕ) → first_code l ≡ first → length l ≡ nodes → (cs : List ℕ) × (l ≡ first ∷ cs)
    go [] s n = absurd (omega (arith, n, some))
    go (c ∷ cs) s n = (cs, ap (λ z. z ∷ cs) s)

-- which is linked
pub chain_linked : (t now : Table) (first nodes : ℕ) → HasChain t now first nodes → 0 < nodes → IsLinked now first
chain_linked t now first nodes h some =
    let k = chain_some t now first nodes h some in
    linked_over t now h.chain.rest first
    (h.chain.nodes first (subst (IsAmong first) (sym k.1) (inl refl)))

-- without its mark the chain is that of the others
pub chain_less : (t now new : Table) (first nodes left next : ℕ) → AreUnmarked t → HasChain t now first nodes →
    nodes ≡ 1 + left → get now.marks (first - 2050) ≡ Some next → new ≡ with_mark now (first - 2050) 0 →
    HasChain t new next left
chain_less t now new first nodes left next unmarked h more mark same =
    let k = chain_some t now first nodes h (omega (arith, more)) in
    let chain = subst (IsChained t now) k.1 h.chain in
    let both : Some next ≡ Some (first_code k.0) = sym mark ∙ chain.links.0 in
    let starts : first_code k.0 ≡ next = cc in
    let count : length k.0 ≡ left = omega (arith, h.count, ap length k.1, more) in
    record { codes = k.0; chain = less k.0 chain; starts = starts; count = count }
  where
    less : (cs : List ℕ) → IsChained t now (first ∷ cs) → IsChained t new cs
    less cs g =
        subst (λ z. IsChained t z cs) (sym same)
        (record {
          rest = differ_marked t now (with_mark now (first - 2050) 0) (first - 2050) 0 g.rest refl;
          once = g.once.1;
          nodes = λ c m. g.nodes c (inr m);
          links =
              links_other now.marks (first - 2050) 0 cs
              (λ c m e. all_at (λ y. first ≢ y) cs c g.once.0 m
              (omega (arith, e, (g.nodes first (inl refl)).0, (g.nodes c (inr m)).0))) g.links.1;
          other = λ n o. go n o (cases_eq n (first - 2050));
        })
      where
        go : (n : ℕ) → (IsAmong (2050 + n) cs → ⊥) → (n ≡ first - 2050) ⊎ (n ≡ first - 2050 → ⊥) →
            get (insert now.marks (first - 2050) 0) n ≡ get t.marks n
        go n o (inl e) =
            ap (get (insert now.marks (first - 2050) 0)) e ∙ get_insert_same now.marks (first - 2050) 0
            ∙ sym (unmarked (first - 2050) (g.nodes first (inl refl)).1) ∙ ap (get t.marks) (sym e)
        go n o (inr d) = get_insert_other now.marks (first - 2050) 0 n d ∙ g.other n neither
          where
            neither : IsAmong (2050 + n) (first ∷ cs) → ⊥
            neither (inl e) = d (omega (arith, e))
            neither (inr m) = o m

-- without a chain the table is what it was
pub chain_gone : (t now : Table) (first : ℕ) → HasChain t now first 0 → now ≡ t
chain_gone t now first h = go h.codes h.chain h.count
  where
    go : (cs : List ℕ) → IsChained t now cs → length cs ≡ 0 → now ≡ t
    go [] g n =
        g.rest ∙ ap (λ x. record t { marks = x }) (same_at_each now.marks t.marks (λ k. g.other k (λ m. absurd m)))
    go (c ∷ cs) g n = absurd (omega (arith, n))
