-- What is right where nodes were taken away: a node that still stands shows what it showed.
use Rattle.std.proofs.Common.{◌≡◌, ◌∙◌, ℕ, ◌-◌, ◌+◌, ◌<◌, ◌≤◌, inl, inr, Some, None, Contains, length}
use Rattle.std.proofs.Common.{sym, ap, subst, refl, arith, get_or, set, length-set}
use Rattle.std.specs.Prelude.{slice_get}
use Rattle.std.specs.Option.{IsSome, option_map}
use Rattle.std.specs.FinMap.{get}
use Rattle.std.proofs.lemmas.Bool.{cases_eq, cases_lt}
use Rattle.std.proofs.lemmas.Option.{slice_get-get_or, slice_get_within, get_or_from_slice_get, none-some, same_Some}
use Rattle.std.proofs.lemmas.List.{get_or-set_same, get_or-set_other}
use Rattle.std.proofs.lemmas.List.Elements.{Contains-get_or}
use Rattle.sd_model.specs.Diagram.{Diagram, Bottom, Top, Literal, Decomposition}
use Rattle.sd_vtree.specs.Numbered.{Numbered}
use Rattle.sd_laws.specs.Shown.{Lookup, Shows as ShowsBy, ShowsCanonical as ShowsBoth}
use Rattle.sd_laws.proofs.Codes.{node_range, one_diagram, shows_kept}
use Rattle.sd_cache.specs.Entries.{Answers, Call, Entries, answers_of, blank}
use Rattle.sd_manager.specs.Table.{Table}
use Rattle.sd_manager.specs.Shown.{ShowsCanonical, IsNodeOf}
use Rattle.sd_manager.specs.Valid.{IsTable}
use Rattle.sd_manager.proofs.Holding.{some_value}
use Rattle.sd_apply.specs.Serving.{IsRight, Serves, last_epoch}
use Rattle.sd_apply.specs.Surviving.{AreSifted, IsStanding, OnlyTakesAway, Survives}
use Rattle.sd_apply.proofs.RightEntries.{blank_right}
use Rattle.sd_apply.proofs.Served.{serves_past}

-- a constant or a literal is shown whatever nodes there are
shown_low : (t : Numbered) (old new : Lookup) (c : ℕ) (d : Diagram) → c < 2050 → ShowsBy t old c d → ShowsBy t new c d
shown_low t old new c Bottom low h = h
shown_low t old new c Top low h = h
shown_low t old new c (Literal p x positive) low h = h
shown_low t old new c (Decomposition p es) low h = absurd (omega (arith, low, node_range t old c p es h))

-- the same over one vtree
shown_by : (t : Numbered) (old new : Lookup) (c : ℕ) (d : Diagram) → c < 2050 → ShowsBoth t old c d →
    ShowsBoth t new c d
shown_by t old new c d low h = record { shows = shown_low t old new c d low h.shows; canonical = h.canonical }

-- a node that stands under the new table shows there what it showed
node_stays : (old new : Table) → OnlyTakesAway old new → IsTable new → new.moving ≡ None → (c : ℕ) (d : Diagram) →
    2050 ≤ c → IsSome (get new.linked (c - 2050)) → ShowsBoth new.vtree (get old.linked) c d →
    ShowsCanonical new c d
node_stays old new x v rest c d high there h =
    let n : ℕ = c - 2050 in
    let at : 2050 + n ≡ c = omega arith in
    let key = some_value (get new.linked n) there in
    let node : IsNodeOf new (2050 + n) =
    v.canonical n key.0 key.1 (λ p moves. absurd (none-some p (sym rest ∙ moves))) in
    let shown : ShowsCanonical new c node.diagram = subst (λ k. ShowsCanonical new k node.diagram) at node.is in
    let before = shows_kept new.vtree (get new.linked) (get old.linked) x.nodes node.diagram c shown.shows in
    let same : node.diagram ≡ d =
    one_diagram new.vtree (get old.linked) v.numbered node.diagram c d before h.shows in
    subst (λ e. ShowsCanonical new c e) same shown

-- so does each code that stands
pub shown_standing : (old new : Table) → OnlyTakesAway old new → IsTable new → new.moving ≡ None → (c : ℕ)
    (d : Diagram) → IsStanding new c → ShowsCanonical old c d → ShowsCanonical new c d
shown_standing old new x v rest c d stands h =
    let under : ShowsBoth new.vtree (get old.linked) c d =
    subst (λ t. ShowsBoth t (get old.linked) c d) (sym x.vtree) h in
    elim (cases_lt c 2050) [
      | inl low ↦ shown_by new.vtree (get old.linked) (get new.linked) c d low under
      | inr high ↦ node_stays old new x v rest c d high (stands high) under
    ]

-- an answer whose numbers stand is right as it was
pub right_standing : (old new : Table) → OnlyTakesAway old new → IsTable new → new.moving ≡ None → (e : Call × ℕ) →
    Survives new e → IsRight old e → IsRight new e
right_standing old new x v rest e s h =
    let still = shown_standing old new x v rest in
    record {
      served = h.served;
      first = h.first;
      second = h.second;
      first_is = still e.0.a h.first s.first h.first_is;
      second_is = still e.0.b h.second s.second h.second_is;
      argument = h.argument;
      answer = record {
        diagram = h.answer.diagram;
        is = still e.1 h.answer.diagram s.answer h.answer.is;
        value = h.answer.value;
      };
    }

-- a cache that is left as it was serves on
pub serves_left : (c : Answers) (old new : Table) → OnlyTakesAway old new → old.epoch ≤ last_epoch → Serves c old →
    Serves c new
serves_left c old new x last h = elim x.changed [
  | inl same ↦ subst (λ t. Serves c t) (sym same) h
  | inr later ↦ serves_past c old new last later h
]

-- before the pass each entry is among the others
pub sifted_none : (t : Table) (es : Entries) → AreSifted t es es 0
sifted_none t es = record {
  count = refl;
  each = λ k e is. inr (
    subst (λ a. Contains es a) (get_or_from_slice_get es k e e is)
        (Contains-get_or es k e (slice_get_within es k e is)),
    λ below. absurd (omega (arith, below)),
  );
}

-- one more entry that survives
pub sifted_kept : (t : Table) (before es : Entries) (index : ℕ) → AreSifted t before es index →
    ((e : Call × ℕ) → slice_get es index ≡ Some e → Survives t e) → AreSifted t before es (index + 1)
sifted_kept t before es index h s = record {
  count = h.count;
  each = λ k e is. elim (h.each k e is) [
    | inl none ↦ inl none
    | inr held ↦ inr (
      held.0,
      λ below. elim (cases_eq k index) [
        | inl here ↦ s e (subst (λ j. slice_get es j ≡ Some e) here is)
        | inr other ↦ held.1 (omega (arith, below, other))
      ],
    )
  ];
}

-- one more entry that is blank now
pub sifted_blank : (t : Table) (before es : Entries) (index : ℕ) → AreSifted t before es index → index < length es →
    AreSifted t before (set es index blank) (index + 1)
sifted_blank t before es index h inside =
    let long : length (set es index blank) ≡ length es = length-set es index blank in
    record {
      count = long ∙ h.count;
      each = λ k e is.
          let within : k < length es =
          omega (arith, long, slice_get_within (set es index blank) k e is) in
          let at : get_or (set es index blank) k e ≡ e =
          get_or_from_slice_get (set es index blank) k e e is in
          elim (cases_eq k index) [
            | inl here ↦ inl (sym at ∙ ap (λ j. get_or (set es index blank) j e) here
                ∙ get_or-set_same es index blank e inside)
            | inr other ↦
                let old : get_or es k e ≡ e = sym (get_or-set_other es index k blank e other) ∙ at in
                elim (h.each k e (slice_get-get_or es k e within ∙ ap (λ a. Some a) old)) [
                  | inl none ↦ inl none
                  | inr held ↦ inr (held.0, λ below. held.1 (omega (arith, below, other)))
                ]
          ];
    }

-- the same of a cache
pub blank_sifted : (t : Table) (before : Entries) (c c1 : Answers) (index : ℕ) →
    c1 ≡ answers_of c.entries (set c.computed index blank) c.epoch → index < length c.computed →
    AreSifted t before c.computed index → AreSifted t before c1.computed (index + 1)
blank_sifted t before c c1 index is inside h =
    subst (λ x. AreSifted t before x.computed (index + 1)) (sym is) (sifted_blank t before c.computed index h inside)

-- a number that was read from an entry stands
number_stands : (t : Table) (es seen : Entries) (index n : ℕ) (f : Call × ℕ → ℕ) → seen ≡ es →
    option_map f (slice_get seen index) ≡ Some n → IsStanding t n → (e : Call × ℕ) → slice_get es index ≡ Some e →
    IsStanding t (f e)
number_stands t es seen index n f same read stands e is =
    subst (λ k. IsStanding t k)
    (same_Some n (f e) (sym read ∙ ap (λ l. option_map f (slice_get l index)) same ∙ ap (option_map f) is)) stands

-- an entry survives whose numbers were read and stand
pub numbers_survive : (t : Table) (es seen : Entries) (index a b r : ℕ) → seen ≡ es →
    option_map (λ (e : Call × ℕ). e.0.a) (slice_get seen index) ≡ Some a →
    option_map (λ (e : Call × ℕ). e.0.b) (slice_get seen index) ≡ Some b →
    option_map (λ (e : Call × ℕ). e.1) (slice_get seen index) ≡ Some r → IsStanding t a → IsStanding t b →
    IsStanding t r → (e : Call × ℕ) → slice_get es index ≡ Some e → Survives t e
numbers_survive t es seen index a b r same first second answer sa sb sr e is = record {
  first = number_stands t es seen index a (λ (x : Call × ℕ). x.0.a) same first sa e is;
  second = number_stands t es seen index b (λ (x : Call × ℕ). x.0.b) same second sb e is;
  answer = number_stands t es seen index r (λ (x : Call × ℕ). x.1) same answer sr e is;
}

-- behind the whole pass the computed answers are right under the new epoch
pub serves_sifted : (c passed c1 : Answers) (old new : Table) (count today : ℕ) → OnlyTakesAway old new → IsTable new →
    new.moving ≡ None → new.epoch ≤ last_epoch → c.epoch ≡ old.epoch → ¬ (new.epoch ≡ old.epoch) →
    length c.computed ≤ count → passed.entries ≡ c.entries → AreSifted new c.computed passed.computed count →
    today ≡ new.epoch → c1 ≡ answers_of passed.entries passed.computed today → Serves c old → Serves c1 new
serves_sifted c passed c1 old new count today x v rest last of rose all entries sifted now is h =
    subst (λ a. Serves a new) (sym is)
    (record {
      early = λ e m. let k = h.early e (subst (λ l. Contains l e) entries m) in omega (arith, k, x.epoch, now);
      right = λ some e m at.
          let k = h.early e (subst (λ l. Contains l e) entries m) in absurd (omega (arith, k, x.epoch, rose, at));
      computed_early = omega (arith, now);
      computed_right = λ some at e m.
          let index = m.0 in
          let inside = m.1 in
          let is : slice_get passed.computed index ≡ Some e =
          slice_get-get_or passed.computed index e inside ∙ ap (λ a. Some a) m.2 in
          elim (sifted.each index e is) [
            | inl none ↦ subst (λ a. IsRight new a) (sym none) (blank_right new)
            | inr held ↦
                right_standing old new x v rest e (held.1 (omega (arith, inside, sifted.count, all)))
                (h.computed_right (λ q. omega (arith, q, x.epoch, last, rose)) of e held.0)
          ];
    })
