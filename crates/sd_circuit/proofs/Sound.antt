-- What a closed circuit and its order are, place by place, and what follows for its valuations.
use Rattle.std.proofs.Common.{◌≡◌, ◌≢◌, ◌⊎◌, ℕ, suc, ◌+◌, ◌-◌, ◌/◌, ◌%◌, ◌<◌, ◌≤◌}
use Rattle.std.proofs.Common.{List, [], ◌∷◌, map, length, get_or, sym, ◌∙◌, ap, arith, inl, inr}
use Rattle.std.proofs.lemmas.List.{length-map, length-append, get_or-map, get_or_append_left}
use Rattle.std.proofs.lemmas.List.{get_or-append-add}
use Rattle.std.proofs.lemmas.Bool.{cases_lt}
use Rattle.sd_model.specs.Circuit.{Circuit, AndLine}
use Rattle.sd_circuit.specs.Order.{line_at, variable_of, defined_at, definitions, IsDefined, IsClosed, IsOrdered}
use Rattle.sd_circuit.specs.Stored.{input_variable, gate_variable, IsTold}
use Rattle.sd_circuit.proofs.Valuing.{Spares, AreInTurn, SparesInputs}
use Rattle.sd_circuit.proofs.Valuing.{AreInputs, AreSpared}

-- each variable has one definition, and the sides of a gate are told by what comes before it
pub record IsSound (text : Circuit) (order : List ℕ) : Type 0 where
  pub input_even : (i : ℕ) → i < length text.inputs → get_or text.inputs i 0 % 2 ≡ 0
  pub input_some : (i : ℕ) → i < length text.inputs → 1 ≤ input_variable text i
  pub input_within : (i : ℕ) → i < length text.inputs → input_variable text i ≤ text.variables
  pub input_once : (i j : ℕ) → i < j → j < length text.inputs → input_variable text i ≢ input_variable text j
  pub gate_even : (k : ℕ) → k < length order → (line_at text.ands (get_or order k 0)).defined % 2 ≡ 0
  pub gate_some : (k : ℕ) → k < length order → 1 ≤ gate_variable text order k
  pub gate_within : (k : ℕ) → k < length order → gate_variable text order k ≤ text.variables
  pub gate_once : (j k : ℕ) → j < length order → k < length order → j ≢ k
      → gate_variable text order j ≢ gate_variable text order k
  pub apart : (i k : ℕ) → i < length text.inputs → k < length order
      → input_variable text i ≢ gate_variable text order k
  pub first : (k : ℕ) → k < length order → IsTold text order k (line_at text.ands (get_or order k 0)).first
  pub second : (k : ℕ) → k < length order → IsTold text order k (line_at text.ands (get_or order k 0)).second
  pub inside : (k : ℕ) → k < length order → get_or order k 0 < length text.ands
  pub all : (p : ℕ) → p < length text.ands → (k : ℕ) × (k < length order) × (get_or order k 0 ≡ p)
  pub outputs : (i : ℕ) → i < length text.outputs
      → IsTold text order (length order) (get_or text.outputs i 0)

-- ---- the definitions, by inputs and by and-lines

-- an input's definition is the input
input_defined : (text : Circuit) (i : ℕ) → i < length text.inputs
    → get_or (definitions text) i 0 ≡ get_or text.inputs i 0
input_defined text i h = get_or_append_left text.inputs _ 0 i h

-- behind the inputs stands what the and-lines define
line_defined : (text : Circuit) (p : ℕ) → p < length text.ands
    → get_or (definitions text) (length text.inputs + p) 0 ≡ (line_at text.ands p).defined
line_defined text p h =
    get_or-append-add text.inputs (map (λ (line : AndLine). line.defined) text.ands) p 0
    ∙ get_or-map (λ (line : AndLine). line.defined) text.ands p (record { defined = 0; first = 0; second = 0 }) 0 h

definitions_length : (text : Circuit)
    → length (definitions text) ≡ length text.inputs + length text.ands
definitions_length text =
    length-append text.inputs (map (λ (line : AndLine). line.defined) text.ands)
    ∙ ap (λ n. length text.inputs + n) (length-map text.ands (λ (line : AndLine). line.defined))

-- what a literal is defined by is told, where the and-lines that it uses stand before the place
told_at : (text : Circuit) (order : List ℕ) (place literal : ℕ) → IsDefined text literal
    → ((used : ℕ) → used < length text.ands → variable_of literal ≡ defined_at text.ands used
    → (before : ℕ) × (before < place) × (get_or order before 0 ≡ used))
    → IsTold text order place literal
told_at text order place literal (inl small) uses = inl (omega (arith, small))
told_at text order place literal (inr (k, h, e)) uses = go (cases_lt k (length text.inputs))
  where
    go : ((k < length text.inputs) ⊎ (length text.inputs ≤ k)) → IsTold text order place literal
    go (inl input) = inr (inl (k, input, sym e ∙ ap variable_of (input_defined text k input)))
    go (inr line) =
        let inside : k - length text.inputs < length text.ands = omega (arith, definitions_length text, h, line) in
        let at : length text.inputs + (k - length text.inputs) ≡ k = omega (arith, line) in
        found (k - length text.inputs) inside (sym e
        ∙ ap (λ n. variable_of (get_or (definitions text) n 0)) (sym at)
        ∙ ap variable_of (line_defined text (k - length text.inputs) inside))
      where
        found : (used : ℕ) → used < length text.ands → variable_of literal ≡ defined_at text.ands used
            → IsTold text order place literal
        found used inside same = told (uses used inside same)
          where
            told : ((before : ℕ) × (before < place) × (get_or order before 0 ≡ used)) → IsTold text order place literal
            told (before, less, at) = inr (inr (before, less, same ∙ ap (defined_at text.ands) (sym at)))

-- a closed circuit with an order is sound
pub sound_from : (text : Circuit) (order : List ℕ) → IsClosed text → IsOrdered text.ands order → IsSound text order
sound_from text order closed ordered = record {
  input_even = λ i h. rw (← input_defined text i h) (closed.positive i (behind i h));
  input_some = λ i h. let two : 2 ≤ get_or text.inputs i 0 =
      rw (← input_defined text i h) (closed.above i (behind i h)) in omega (arith, two);
  input_within = λ i h. rw (← input_defined text i h) (closed.within i (behind i h));
  input_once = λ i j less h e. closed.once i j less (behind j h)
      (ap variable_of (input_defined text i (omega (arith, less, h))) ∙ e
      ∙ sym (ap variable_of (input_defined text j h)));
  gate_even = λ k h. rw (← line_defined text (get_or order k 0) (ordered.inside k h))
      (closed.positive _ (line_behind (get_or order k 0) (ordered.inside k h)));
  gate_some = λ k h. let two : 2 ≤ (line_at text.ands (get_or order k 0)).defined =
      rw (← line_defined text (get_or order k 0) (ordered.inside k h))
      (closed.above _ (line_behind (get_or order k 0) (ordered.inside k h))) in omega (arith, two);
  gate_within = λ k h. rw (← line_defined text (get_or order k 0) (ordered.inside k h))
      (closed.within _ (line_behind (get_or order k 0) (ordered.inside k h)));
  gate_once = λ j k hj hk ne e. two_gates j k hj hk (cases_lt j k) ne e;
  apart = λ i k hi hk e. closed.once i (length text.inputs + get_or order k 0)
      (omega (arith, hi)) (line_behind (get_or order k 0) (ordered.inside k hk))
      (ap variable_of (input_defined text i hi) ∙ e
      ∙ sym (ap variable_of (line_defined text (get_or order k 0) (ordered.inside k hk))));
  first = λ k h. told_at text order k _ (closed.first (get_or order k 0) (ordered.inside k h))
      (λ used l e. ordered.earlier k used h l (inl e));
  second = λ k h. told_at text order k _ (closed.second (get_or order k 0) (ordered.inside k h))
      (λ used l e. ordered.earlier k used h l (inr e));
  inside = ordered.inside;
  all = ordered.has;
  outputs = λ i h. told_at text order (length order) _ (closed.outputs i h) (λ used l e. ordered.has used l);
}
  where
    behind : (i : ℕ) → i < length text.inputs → i < length (definitions text)
    behind i h = omega (arith, definitions_length text, h)

    line_behind : (p : ℕ) → p < length text.ands → length text.inputs + p < length (definitions text)
    line_behind p h = omega (arith, definitions_length text, h)

    lines_apart : (p q : ℕ) → p < q → q < length text.ands → defined_at text.ands p ≢ defined_at text.ands q
    lines_apart p q less h e = closed.once (length text.inputs + p) (length text.inputs + q)
        (omega (arith, less)) (line_behind q h)
        (ap variable_of (line_defined text p (omega (arith, less, h))) ∙ e
        ∙ sym (ap variable_of (line_defined text q h)))

    both_apart : (p q : ℕ) → p < length text.ands → q < length text.ands → p ≢ q
        → ((p < q) ⊎ (q ≤ p)) → defined_at text.ands p ≢ defined_at text.ands q
    both_apart p q hp hq ne (inl less) e = lines_apart p q less hq e
    both_apart p q hp hq ne (inr more) e = lines_apart q p (omega (arith, ne, more)) hp (sym e)

    two_gates : (j k : ℕ) → j < length order → k < length order → ((j < k) ⊎ (k ≤ j)) → j ≢ k
        → gate_variable text order j ≢ gate_variable text order k
    two_gates j k hj hk (inl less) ne e = both_apart (get_or order j 0) (get_or order k 0)
        (ordered.inside j hj) (ordered.inside k hk) (ordered.once j k less hk)
        (cases_lt (get_or order j 0) (get_or order k 0)) e
    two_gates j k hj hk (inr more) ne e = both_apart (get_or order j 0) (get_or order k 0)
        (ordered.inside j hj) (ordered.inside k hk)
        (λ same. ordered.once k j (omega (arith, ne, more)) hj (sym same))
        (cases_lt (get_or order j 0) (get_or order k 0)) e

-- ---- from places to lists

spares_from : (text : Circuit) (ps : List ℕ) (x : ℕ)
    → ((k : ℕ) → k < length ps → (line_at text.ands (get_or ps k 0)).defined / 2 ≢ x) → Spares text ps x
spares_from text [] x each = tt
spares_from text (p ∷ ps) x each =
    (each 0 (omega arith), spares_from text ps x (λ k h. each (suc k) (omega (arith, h))))

spares_inputs_from : (inputs : List ℕ) (x : ℕ)
    → ((k : ℕ) → k < length inputs → get_or inputs k 0 / 2 ≢ x) → SparesInputs inputs x
spares_inputs_from [] x each = tt
spares_inputs_from (p ∷ ps) x each =
    (each 0 (omega arith), spares_inputs_from ps x (λ k h. each (suc k) (omega (arith, h))))

pub are_inputs_from : (variables : ℕ) (inputs : List ℕ)
    → ((i : ℕ) → i < length inputs → get_or inputs i 0 % 2 ≡ 0)
    → ((i : ℕ) → i < length inputs → 1 ≤ get_or inputs i 0 / 2)
    → ((i : ℕ) → i < length inputs → get_or inputs i 0 / 2 ≤ variables)
    → ((i j : ℕ) → i < j → j < length inputs → get_or inputs i 0 / 2 ≢ get_or inputs j 0 / 2)
    → AreInputs variables inputs
are_inputs_from variables [] even some within once = tt
are_inputs_from variables (p ∷ ps) even some within once = (
  record {
    even = even 0 (omega arith);
    some = some 0 (omega arith);
    within = within 0 (omega arith);
    once = spares_inputs_from ps (p / 2)
        (λ k h e. once 0 (suc k) (omega arith) (omega (arith, h)) (sym e));
  },
  are_inputs_from variables ps (λ i h. even (suc i) (omega (arith, h))) (λ i h. some (suc i) (omega (arith, h)))
      (λ i h. within (suc i) (omega (arith, h)))
      (λ i j h l. once (suc i) (suc j) (omega (arith, h)) (omega (arith, l))),
)

pub are_spared_from : (text : Circuit) (ps inputs : List ℕ)
    → ((i k : ℕ) → i < length inputs → k < length ps
    → get_or inputs i 0 / 2 ≢ (line_at text.ands (get_or ps k 0)).defined / 2)
    → AreSpared text ps inputs
are_spared_from text ps [] apart = tt
are_spared_from text ps (input ∷ inputs) apart = (
  spares_from text ps (input / 2) (λ k h e. apart 0 k (omega arith) h (sym e)),
  are_spared_from text ps inputs (λ i k h l. apart (suc i) k (omega (arith, h)) l),
)

-- a variable that none of the gates from a place on defines
pub turn_from : (text : Circuit) (order : List ℕ) → IsSound text order → (n : ℕ) (ps : List ℕ)
    → length order ≡ n + length ps → ((k : ℕ) → get_or ps k 0 ≡ get_or order (n + k) 0) → AreInTurn text ps
turn_from text order sound n [] long at = tt
turn_from text order sound n (p ∷ ps) long at = (
  record {
    even = rw here (sound.gate_even n inside);
    some = rw here (sound.gate_some n inside);
    within = rw here (sound.gate_within n inside);
    once = spares_from text ps (defined_at text.ands p) (λ k h e.
        sound.gate_once (n + suc k) n (omega (arith, long, h)) inside (omega arith)
        (ap (defined_at text.ands) (sym (at (suc k))) ∙ e ∙ ap (defined_at text.ands) here));
    first = spared (line_at text.ands p).first (rw here (sound.first n inside));
    second = spared (line_at text.ands p).second (rw here (sound.second n inside));
  },
  turn_from text order sound (suc n) ps (omega (arith, long))
      (λ k. at (suc k) ∙ ap (λ m. get_or order m 0) (omega arith)),
)
  where
    inside : n < length order
    inside = omega (arith, long)

    here : p ≡ get_or order n 0
    here = at 0 ∙ ap (λ m. get_or order m 0) (omega arith)

    spared : (literal : ℕ) → IsTold text order n literal → Spares text (p ∷ ps) (variable_of literal)
    spared literal told = spares_from text (p ∷ ps) (variable_of literal) (λ k h e.
        not_told k h (sym e ∙ ap (defined_at text.ands) (at k)) told)
      where
        not_told : (k : ℕ) → k < suc (length ps) → variable_of literal ≡ gate_variable text order (n + k)
            → IsTold text order n literal → ⊥
        not_told k h e (inl none) =
            let some = sound.gate_some (n + k) (omega (arith, long, h)) in omega (arith, some, e, none)
        not_told k h e (inr (inl (i, l, is))) =
            sound.apart i (n + k) l (omega (arith, long, h)) (sym is ∙ e)
        not_told k h e (inr (inr (j, l, is))) =
            sound.gate_once j (n + k) (omega (arith, l, inside)) (omega (arith, long, h)) (omega (arith, l))
            (sym is ∙ e)
