-- A chain of all decompositions under a node: node by node, and the size that it adds up to.
use Rattle.std.proofs.Common.{◌≡◌, ◌⊎◌, inl, inr, ℕ, suc, ◌+◌, ◌-◌, ◌^◌, ◌≤◌, ◌<◌, true, List, [], ◌∷◌, ◌++◌, length}
use Rattle.std.proofs.Common.{Some, refl, sym, ap, subst, ◌∙◌, append-nil, length-append, arith}
use Rattle.std.proofs.lemmas.List.{append_assoc}
use Rattle.std.proofs.lemmas.List.Sums.{sum_by_push}
use Rattle.std.specs.List.{AllZip, flat_map}
use Rattle.std.specs.FinMap.{get}
use Rattle.sd_model.specs.Tree.{AreDistinct}
use Rattle.sd_model.specs.Diagram.{Diagram, Bottom, Top, Literal, Decomposition, Elements}
use Rattle.sd_model.specs.Canonical.{IsElement}
use Rattle.sd_model.specs.Size.{walk, walk_elements, size_of}
use Rattle.sd_laws.proofs.Codes.{one_diagram, literal_range}
use Rattle.sd_laws.proofs.Lists.{IsAmong, first_at, second_at}
use Rattle.sd_laws.proofs.Nodes.{pair_stored, elements_canonical}
use Rattle.sd_manager.specs.Table.{Table}
use Rattle.sd_manager.specs.Shown.{Shows, ShowsCanonical, ShowsElement}
use Rattle.sd_manager.specs.Valid.{IsTable}
use Rattle.sd_manager.specs.Views.{pairs_at}
use Rattle.sd_manager.specs.Marking.{with_mark, AreUnmarked}
use Rattle.sd_manager.proofs.Reading.{linked_key, pairs_node, element_fits}
use Rattle.sd_sweep.specs.Chained.{elements_of, first_code, IsLast, IsLinked, AreLinked, IsChained, IsLonger}
use Rattle.sd_sweep.specs.Chained.{Lengthens, StandsBefore, IsClosedUnder, StandsUnder, IsChainUnder}
use Rattle.sd_sweep.proofs.Below.{among_left, among_right, among_split, only, itself, element_within, below_closed}
use Rattle.sd_sweep.proofs.Chained.{chained_first, distinct_left, links_at, linked_over, pairs_over, shown_over}
use Rattle.sd_sweep.proofs.Elements.{elements_counted, elements_fit, several_pairs}
use Rattle.sd_sweep.proofs.Orders.{is_decomposition}
use Rattle.sd_sweep.proofs.Rooted.{flat_among, among_flat}
use Rattle.sd_sweep.proofs.Throughout.{throughout}
use Rattle.sd_sweep.proofs.Totals.{has_diagrams, diagrams_differ, size_of_decompositions}

-- what stands under the first node

-- a node shows a decomposition
shows_decomposition : (t : Table) → IsTable t → (c : ℕ) (d : Diagram) → ShowsCanonical t c d → 2050 ≤ c →
    (p : ℕ) × (es : Elements) × (d ≡ Decomposition p es)
shows_decomposition t table c Bottom is high = absurd (omega (arith, high, is.shows))
shows_decomposition t table c Top is high = absurd (omega (arith, high, is.shows))
shows_decomposition t table c (Literal p x s) is high =
    let low = (literal_range t.vtree (get t.linked) table.numbered c p x s is.shows).2 in
    absurd (omega (arith, low, high))
shows_decomposition t table c (Decomposition p es) is high = (p, es, refl)

-- the first node stands under itself
under_first : (t : Table) → IsTable t → (c : ℕ) (d : Diagram) → ShowsCanonical t c d → 2050 ≤ c → StandsUnder t c c
under_first t table c d is high =
    let k = shows_decomposition t table c d is high in
    record {
      place = k.0;
      elements = k.1;
      is = subst (ShowsCanonical t c) k.2 is;
      under = λ x shows.
          let same : x ≡ Decomposition k.0 k.1 =
          one_diagram t.vtree (get t.linked) table.numbered x c d shows.shows is.shows ∙ k.2 in
          subst (λ z. IsAmong z (walk x)) same (itself x);
    }

-- so does what is a prime or a sub of such a node
under_child : (t : Table) → IsTable t → (first c i x : ℕ) → StandsUnder t first c → StandsBefore (pairs_at t c) i x →
    2050 ≤ x → StandsUnder t first x
under_child t table first c i x s b high = side b.is
  where
    fits : ShowsElement t b.pair s.elements
    fits = element_fits t c s.place b.index s.elements b.pair b.at s.is.shows

    side : (x ≡ b.pair.0) ⊎ (x ≡ b.pair.1) → StandsUnder t first x
    side (inl e) =
        let canonical = (elements_canonical s.is.canonical fits.prime fits.sub fits.member).0 in
        let is : ShowsCanonical t x fits.prime =
        record { shows = subst (λ z. Shows t z fits.prime) (sym e) fits.shows_prime; canonical = canonical } in
        let k = shows_decomposition t table x fits.prime is high in
        record {
          place = k.0;
          elements = k.1;
          is = subst (ShowsCanonical t x) k.2 is;
          under = λ d shows.
              below_closed d (Decomposition s.place s.elements) (s.under d shows) (Decomposition k.0 k.1)
              (among_left (Decomposition k.0 k.1) (walk_elements s.elements) (Decomposition s.place s.elements ∷ [])
              ((element_within fits.member).0 (Decomposition k.0 k.1)
              (subst (λ z. IsAmong z (walk fits.prime)) k.2 (itself fits.prime))));
        }
    side (inr e) =
        let canonical = (elements_canonical s.is.canonical fits.prime fits.sub fits.member).1 in
        let is : ShowsCanonical t x fits.sub =
        record { shows = subst (λ z. Shows t z fits.sub) (sym e) fits.shows_sub; canonical = canonical } in
        let k = shows_decomposition t table x fits.sub is high in
        record {
          place = k.0;
          elements = k.1;
          is = subst (ShowsCanonical t x) k.2 is;
          under = λ d shows.
              below_closed d (Decomposition s.place s.elements) (s.under d shows) (Decomposition k.0 k.1)
              (among_left (Decomposition k.0 k.1) (walk_elements s.elements) (Decomposition s.place s.elements ∷ [])
              ((element_within fits.member).1 (Decomposition k.0 k.1)
              (subst (λ z. IsAmong z (walk fits.sub)) k.2 (itself fits.sub))));
        }

-- node by node

-- The nodes of `done` were visited, and so many elements they have. Those of `todo` are to be visited from this one on.
pub record IsChaining (t now : Table) (first here last nodes total : ℕ) : Type 0 where
  pub table : IsTable now
  pub done : List ℕ
  pub todo : List ℕ
  pub chain : IsChained t now (done ++ todo)
  pub ends : IsLast last (done ++ todo)
  pub starts : first_code (done ++ todo) ≡ first
  pub next : first_code todo ≡ here
  pub under : (c : ℕ) → IsAmong c (done ++ todo) → StandsUnder t first c
  pub closed : IsClosedUnder t (λ c. IsAmong c done) (λ c. IsAmong c (done ++ todo))
  pub count : length done ≡ nodes
  pub sum : elements_of t done ≡ total
  pub few : nodes ≤ total
  pub small : total < 2 ^ 31

-- the first node is to be visited at the start
pub chaining_first : (t new : Table) → IsTable t → IsTable new → (c : ℕ) (d : Diagram) → ShowsCanonical t c d →
    IsLinked t c → new ≡ with_mark t (c - 2050) 1 → IsChaining t new c c c 0 0
chaining_first t new table valid c d is linked same =
    record {
      table = valid;
      done = [];
      todo = c ∷ [];
      chain = chained_first t new c linked same;
      ends = ([], refl);
      starts = refl;
      next = refl;
      under = λ x m. subst (StandsUnder t c) (sym (only x c m)) (under_first t table c d is linked.0);
      closed = λ x y m. absurd m;
      count = refl;
      sum = refl;
      few = omega arith;
      small = omega arith;
    }

-- the node that is visited is the first of what is to be visited
at_here : (todo : List ℕ) (here : ℕ) → first_code todo ≡ here → 2050 ≤ here → (rest : List ℕ) × (todo ≡ here ∷ rest)
at_here [] here e high = absurd (omega (arith, e, high))
at_here (c ∷ rest) here e high = (rest, ap (λ z. z ∷ rest) e)

module _ (t now : Table) (table : IsTable t) (first here last nodes total : ℕ)
    (k : IsChaining t now first here last nodes total) (high : 2050 ≤ here) where
  abbrev rest : List ℕ
  rest = (at_here k.todo here k.next high).0

  cut : k.done ++ k.todo ≡ k.done ++ here ∷ rest
  cut = ap (λ l. k.done ++ l) (at_here k.todo here k.next high).1

  here_among : IsAmong here (k.done ++ k.todo)
  here_among = subst (IsAmong here) (sym cut) (among_right here k.done (here ∷ rest) (inl refl))

  -- the node that is visited shows a decomposition, and is linked
  pub here_under : StandsUnder t first here
  here_under = k.under here here_among

  pub here_linked : IsLinked now here
  here_linked = linked_over t now k.chain.rest here (k.chain.nodes here here_among)

  pub here_shown : (p : ℕ) × (es : Elements) × ShowsCanonical now here (Decomposition p es)
  here_shown = (
    here_under.place,
    here_under.elements,
    shown_over t now k.chain.rest here (Decomposition here_under.place here_under.elements) here_under.is,
  )

  -- and so is the last one
  pub last_linked : IsLinked now last
  last_linked =
      linked_over t now k.chain.rest last
      (k.chain.nodes last
      (subst (IsAmong last) (sym k.ends.1) (among_right last k.ends.0 (last ∷ []) (inl refl))))

  -- the elements so far fit, and are more
  pub visited_fits : (count : ℕ) → count ≡ length (pairs_at now here) → (total + count < 2 ^ 31) × (2 ≤ count)
  visited_fits count same = (
    omega (
      arith,
      elements_fit t table (k.done ++ here ∷ []) once shown,
      sum_by_push (λ x. length (pairs_at t x)) k.done here,
      k.sum,
      same,
      ap length (pairs_over t now k.chain.rest here),
    ),
    omega (
      arith,
      same,
      ap length (pairs_over t now k.chain.rest here),
      several_pairs t table here here_under.place here_under.elements here_under.is.shows,
    ),
  )
    where
      parts : k.done ++ here ∷ [] ++ rest ≡ k.done ++ k.todo
      parts = append_assoc k.done (here ∷ []) rest ∙ sym cut

      once : AreDistinct (k.done ++ here ∷ [])
      once =
          distinct_left (k.done ++ here ∷ []) rest (subst AreDistinct (sym parts) k.chain.once)

      shown : (c : ℕ) → IsAmong c (k.done ++ here ∷ []) → (d : Diagram) × Shows t c d
      shown c m =
          let s = k.under c (subst (IsAmong c) parts (among_left c (k.done ++ here ∷ []) rest m)) in
          (Decomposition s.place s.elements, s.is.shows)

  -- one node more is visited
  pub chaining_on : (new : Table) (count end next : ℕ) → AreUnmarked t → IsTable new →
      count ≡ length (pairs_at now here) → Lengthens now new last end (StandsBefore (pairs_at now here) count) →
      get new.marks (here - 2050) ≡ Some next → IsChaining t new first next end (nodes + 1) (total + count)
  chaining_on new count end next unmarked valid same longer mark =
      record {
        table = valid;
        done = k.done ++ here ∷ [];
        todo = rest ++ h.more;
        chain = subst (IsChained t new) whole h.chain;
        ends = subst (IsLast end) whole h.ends;
        starts = sym (ap first_code whole) ∙ first_same (k.done ++ k.todo) here_among ∙ k.starts;
        next = next_is;
        under = λ c m. under c (among_split c (k.done ++ k.todo) h.more (subst (IsAmong c) (sym whole) m));
        closed = λ c x m. closed c x (among_split c k.done (here ∷ []) m);
        count = omega (arith, length-append k.done (here ∷ []), k.count);
        sum =
            omega (
              arith,
              sum_by_push (λ x. length (pairs_at t x)) k.done here,
              k.sum,
              same,
              ap length (pairs_over t now k.chain.rest here),
            );
        few = omega (arith, k.few, (visited_fits count same).1);
        small = (visited_fits count same).0;
      }
    where
      h : IsLonger t new (k.done ++ k.todo) end (StandsBefore (pairs_at now here) count)
      h = longer t (k.done ++ k.todo) unmarked k.chain k.ends

      tail : here ∷ rest ++ h.more ≡ here ∷ [] ++ (rest ++ h.more)
      tail = refl

      whole : k.done ++ k.todo ++ h.more ≡ k.done ++ here ∷ [] ++ (rest ++ h.more)
      whole =
          ap (λ l. l ++ h.more) cut ∙ append_assoc k.done (here ∷ rest) h.more
          ∙ sym (append_assoc k.done (here ∷ []) (rest ++ h.more))

      first_same : (l : List ℕ) → IsAmong here l → first_code (l ++ h.more) ≡ first_code l
      first_same [] m = absurd m
      first_same (c ∷ l) m = refl

      next_is : first_code (rest ++ h.more) ≡ next
      next_is =
          let at : get new.marks (here - 2050) ≡ Some (first_code (rest ++ h.more)) =
          links_at new.marks here k.done (rest ++ h.more)
          (subst (AreLinked new.marks) (whole ∙ append_assoc k.done (here ∷ []) (rest ++ h.more)) h.chain.links) in
          let both : Some (first_code (rest ++ h.more)) ≡ Some next = sym at ∙ mark in
          let is : first_code (rest ++ h.more) ≡ next = cc in is

      seen : (x : ℕ) → StandsBefore (pairs_at now here) count x → StandsBefore (pairs_at t here) count x
      seen x s = subst (λ l. StandsBefore l count x) (pairs_over t now k.chain.rest here) s

      under : (c : ℕ) → IsAmong c (k.done ++ k.todo) ⊎ IsAmong c h.more → StandsUnder t first c
      under c (inl m) = k.under c m
      under c (inr m) =
          under_child t table first here count c here_under (seen c (h.each c m))
          (h.chain.nodes c (among_right c (k.done ++ k.todo) h.more m)).0

      closed : (c x : ℕ) → IsAmong c k.done ⊎ IsAmong c (here ∷ []) →
          StandsBefore (pairs_at t c) (length (pairs_at t c)) x → 2050 ≤ x →
          IsAmong x (k.done ++ here ∷ [] ++ (rest ++ h.more))
      closed c x (inl m) s node =
          subst (IsAmong x) whole (among_left x (k.done ++ k.todo) h.more (k.closed c x m s node))
      closed c x (inr m) s node =
          subst (IsAmong x) whole
          (h.all x (seen_back (subst (λ z. StandsBefore (pairs_at t z) (length (pairs_at t z)) x) (only c here m) s))
          node)
        where
          seen_back : StandsBefore (pairs_at t here) (length (pairs_at t here)) x →
              StandsBefore (pairs_at now here) count x
          seen_back b =
              subst (λ n. StandsBefore (pairs_at now here) n x) (sym same)
              (subst (λ l. StandsBefore l (length l) x) (sym (pairs_over t now k.chain.rest here)) b)

-- at the end all are visited
pub chaining_ended : (t now : Table) (first here last nodes total : ℕ) →
    IsChaining t now first here last nodes total → here < 2050 → IsChainUnder t now first nodes total
chaining_ended t now first here last nodes total k low = go k.todo refl
  where
    go : (todo : List ℕ) → k.todo ≡ todo → IsChainUnder t now first nodes total
    go (c ∷ rest) e =
        let m : IsAmong c (k.done ++ k.todo) =
        subst (λ l. IsAmong c (k.done ++ l)) (sym e) (among_right c k.done (c ∷ rest) (inl refl)) in
        let same : c ≡ here = ap first_code (sym e) ∙ k.next in
        absurd (omega (arith, (k.chain.nodes c m).0, same, low))
    go [] e =
        let all : k.done ++ k.todo ≡ k.done = ap (λ l. k.done ++ l) e ∙ append-nil k.done in
        record {
          has =
              record {
                codes = k.done;
                chain = subst (IsChained t now) all k.chain;
                starts = sym (ap first_code all) ∙ k.starts;
                count = k.count;
              };
          under = λ c m. k.under c (subst (IsAmong c) (sym all) m);
          closed = λ c x m s node. subst (IsAmong x) all (k.closed c x m s node);
          sum = k.sum;
        }

-- the size

-- one of a list stands at a place
stands_before : (l : List (ℕ × ℕ)) (e : ℕ × ℕ) (c : ℕ) → IsAmong e l → (c ≡ e.0) ⊎ (c ≡ e.1) →
    StandsBefore l (length l) c
stands_before [] e c m is = absurd m
stands_before (f ∷ l) e c (inl same) is =
    record { index = 0; pair = e; before = omega arith; at = ap (λ x. Some x) (sym same); is = is }
stands_before (f ∷ l) e c (inr m) is =
    let r = stands_before l e c m is in
    record { index = suc r.index; pair = r.pair; before = omega (arith, r.before); at = r.at; is = r.is }

-- A code shows the diagram, and where it is that of a node, it is in the list.
record IsIn (t : Table) (codes : List ℕ) (d : Diagram) : Type 0 where
  pub code : ℕ
  pub is : ShowsCanonical t code d
  pub among : 2050 ≤ code → IsAmong code codes

-- what no node shows has no elements
pub leaf_size : (t : Table) (c : ℕ) (d : Diagram) → ShowsCanonical t c d → c < 2050 → 0 ≡ size_of (d ∷ [])
leaf_size t c d is low =
    size_of_decompositions (d ∷ []) [] 0 tt (λ x m. absurd m) (λ x m. absurd m) (covered d is) refl
  where
    covered : (e : Diagram) → ShowsCanonical t c e → (x : Diagram) → IsAmong x (flat_map walk (e ∷ [])) →
        is_decomposition x ≡ true → IsAmong x []
    covered Bottom h x m d = let k = only x Bottom m in absurd (cc (ap is_decomposition k, d))
    covered Top h x m d = let k = only x Top m in absurd (cc (ap is_decomposition k, d))
    covered (Literal p v s) h x m d = let k = only x (Literal p v s) m in absurd (cc (ap is_decomposition k, d))
    covered (Decomposition p es) h x m d = let k = h.shows.1 in absurd (omega (arith, low, k.code))

module _ (t now : Table) (table : IsTable t) (first nodes total : ℕ) (k : IsChainUnder t now first nodes total)
    (high : 2050 ≤ first) where
  abbrev codes : List ℕ
  codes = k.has.codes

  -- what is in the list has its primes and subs there
  children_in : (p : ℕ) (es : Elements) → IsIn t codes (Decomposition p es) → (x y : Diagram) → IsElement x y es →
      IsIn t codes x × IsIn t codes y
  children_in p es h x y m =
      let n = h.is.shows.1 in
      let e = pair_stored t.vtree (get t.linked) h.code p es h.is.shows n.number n.place n.list n.code n.stored x y m in
      let c = elements_canonical h.is.canonical x y m in
      let pairs : pairs_at t h.code ≡ n.list =
      pairs_node t h.code n.number (n.place, n.list) n.code (linked_key t n.number (n.place, n.list) n.stored) in
      let there = h.among (omega (arith, n.code)) in
      let stands : (z : ℕ) → (z ≡ e.0.0) ⊎ (z ≡ e.0.1) →
      StandsBefore (pairs_at t h.code) (length (pairs_at t h.code)) z =
      λ z is. subst (λ l. StandsBefore l (length l) z) (sym pairs) (stands_before n.list e.0 z e.1 is) in (
        record {
          code = e.0.0;
          is = record { shows = e.2; canonical = c.0 };
          among = λ node. k.closed h.code e.0.0 there (stands e.0.0 (inl refl)) node;
        },
        record {
          code = e.0.1;
          is = record { shows = e.3; canonical = c.1 };
          among = λ node. k.closed h.code e.0.1 there (stands e.0.1 (inr refl)) node;
        },
      )

  first_in : IsAmong first codes
  first_in = go codes k.has.starts
    where
      go : (l : List ℕ) → first_code l ≡ first → IsAmong first l
      go [] e = absurd (omega (arith, e, high))
      go (c ∷ l) e = inl (sym e)

  -- The elements of the nodes that are chained are the size.
  pub chain_size : (d : Diagram) → ShowsCanonical t first d → total ≡ size_of (d ∷ [])
  chain_size d is =
      let w = has_diagrams t codes (flat_map walk (d ∷ [])) shown in
      size_of_decompositions (d ∷ []) w.diagrams total
      (diagrams_differ t table codes w.diagrams w.shown k.has.chain.once) w.within
      (decomposed w.diagrams w.shown) (covered w.diagrams w.shown)
      (sym k.sum ∙ elements_counted t table codes w.diagrams w.shown)
    where
      shown : (c : ℕ) → IsAmong c codes → (x : Diagram) × IsAmong x (flat_map walk (d ∷ [])) × ShowsCanonical t c x
      shown c m =
          let s = k.under c m in (
            Decomposition s.place s.elements,
            among_flat (d ∷ []) d (inl refl) (Decomposition s.place s.elements) (s.under d is),
            s.is,
          )

      decomposed : (es : List Diagram) → AllZip (ShowsCanonical t) codes es → (x : Diagram) → IsAmong x es →
          is_decomposition x ≡ true
      decomposed es h x m =
          let c = first_at (ShowsCanonical t) codes es h x m in
          let s = shows_decomposition t table c.0 x c.2 (k.has.chain.nodes c.0 c.1).0 in
          ap is_decomposition s.2

      covered : (es : List Diagram) → AllZip (ShowsCanonical t) codes es → (x : Diagram) →
          IsAmong x (flat_map walk (d ∷ [])) → is_decomposition x ≡ true → IsAmong x es
      covered es h Bottom m b = absurd (cc (b))
      covered es h Top m b = absurd (cc (b))
      covered es h (Literal p v s) m b = absurd (cc (b))
      covered es h (Decomposition p fs) m b =
          let f = flat_among (d ∷ []) (Decomposition p fs) m in
          let root : IsIn t codes f.0 =
          subst (IsIn t codes) (sym (only f.0 d f.1)) (record { code = first; is = is; among = λ _. first_in }) in
          let r = throughout (IsIn t codes) children_in f.0 root (Decomposition p fs) f.2 in
          let n = r.is.shows.1 in
          let y = second_at (ShowsCanonical t) codes es h r.code (r.among (omega (arith, n.code))) in
          let same : y.0 ≡ Decomposition p fs =
          one_diagram t.vtree (get t.linked) table.numbered y.0 r.code (Decomposition p fs) y.2.shows r.is.shows in
          subst (λ z. IsAmong z es) same y.1
