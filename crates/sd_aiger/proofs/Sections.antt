-- The lines behind a header, read one after another, are its inputs, its outputs and its and-lines.
use Rattle.std.proofs.Common.{◌≡◌, ℕ, ◌+◌, ◌≤◌, ◌<◌, List, [], ◌∷◌, ◌++◌, length, take, drop, length-append}
use Rattle.std.proofs.Common.{append-nil, Result, Ok, Err, refl, sym, ap, ◌∙◌, arith}
use Rattle.std.proofs.lemmas.Bool.{lt-ltb, le-ltb}
use Rattle.std.proofs.lemmas.List.{take-append-drop, length-take-le, drop-drop, append_assoc}
use Rattle.sd_base.specs.Lines.{TextLine}
use Rattle.sd_base.specs.Reading.{◌>>=◌, each, each_to, each_after}
use Rattle.sd_model.specs.Circuit.{AndLine, Circuit}
use Rattle.sd_aiger.specs.Reads.{Header, literal_of, input_of, and_of, stated_lines, circuit_of}
use Rattle.sd_aiger.specs.Steps.{line_read, no_lines}
use Rattle.sd_aiger.proofs.Reading.{length_after, length_each}

-- the lists of lines so far
abbrev so_far : Header → List ℕ → List ℕ → List AndLine → Circuit
so_far h is os gs = record { variables = h.variables; inputs = is; outputs = os; ands = gs }

-- lines that are read one list after another
read_append : (h : Header) (c : Circuit) (xs ys : List TextLine)
    → each_to (line_read h) c (xs ++ ys) ≡ (each_to (line_read h) c xs >>= λ d. each_to (line_read h) d ys)
read_append h c [] ys = refl
read_append h c (x ∷ xs) ys = after (line_read h c x) (λ d. read_append h d xs ys)
  where
    after : (r : Result Circuit (List ℕ))
        → ((d : Circuit) → each_to (line_read h) d (xs ++ ys)
        ≡ (each_to (line_read h) d xs >>= λ e. each_to (line_read h) e ys))
        → (r >>= λ d. each_to (line_read h) d (xs ++ ys))
        ≡ ((r >>= λ d. each_to (line_read h) d xs) >>= λ e. each_to (line_read h) e ys)
    after (Ok d) shorter = shorter d
    after (Err e) shorter = refl

-- the input lines
inputs_read : (h : Header) (is : List ℕ) (xs : List TextLine) → length is + length xs ≤ h.inputs
    → each_to (line_read h) (so_far h is [] []) xs
    ≡ (each_after (input_of h.variables) is xs >>= λ js. Ok (so_far h js [] []))
inputs_read h is [] few = refl
inputs_read h is (x ∷ xs) few =
    let fewer : length is < h.inputs = omega (arith, few) in
    let next = λ (y : ℕ). inputs_read h (is ++ y ∷ []) xs (omega (arith, few, length-append is (y ∷ []))) in
    rw (lt-ltb (length is) h.inputs fewer, append-nil is) (after (input_of h.variables is x) next)
  where
    after : (r : Result ℕ (List ℕ))
        → ((y : ℕ) → each_to (line_read h) (so_far h (is ++ y ∷ []) [] []) xs
        ≡ (each_after (input_of h.variables) (is ++ y ∷ []) xs >>= λ js. Ok (so_far h js [] [])))
        → ((r >>= λ y. Ok (so_far h (is ++ y ∷ []) [] [])) >>= λ c. each_to (line_read h) c xs)
        ≡ (((r >>= λ y. Ok (is ++ y ∷ [])) >>= λ js. each_after (input_of h.variables) js xs)
        >>= λ js. Ok (so_far h js [] []))
    after (Ok y) shorter = shorter y
    after (Err e) shorter = refl

-- the output lines behind all inputs
outputs_read : (h : Header) (is os : List ℕ) (xs : List TextLine) → length is ≡ h.inputs
    → length os + length xs ≤ h.outputs
    → each_to (line_read h) (so_far h is os []) xs
    ≡ (each (literal_of h.variables) xs >>= λ more. Ok (so_far h is (os ++ more) []))
outputs_read h is os [] whole few = ap (λ l. Ok (so_far h is l [])) (sym (append-nil os))
outputs_read h is os (x ∷ xs) whole few =
    let fewer : length os < h.outputs = omega (arith, few) in
    let next = λ (y : ℕ). outputs_read h is (os ++ y ∷ []) xs whole (omega (arith, few, length-append os (y ∷ []))) in
    rw (le-ltb (length is) h.inputs (omega (arith, whole)), lt-ltb (length os) h.outputs fewer)
    (after (literal_of h.variables x) next)
  where
    joined : (y : ℕ) (r : Result (List ℕ) (List ℕ)) → (r >>= λ more. Ok (so_far h is ((os ++ y ∷ []) ++ more) []))
        ≡ ((r >>= λ ys. Ok (y ∷ ys)) >>= λ more. Ok (so_far h is (os ++ more) []))
    joined y (Ok ys) = ap (λ l. Ok (so_far h is l [])) (append_assoc os (y ∷ []) ys)
    joined y (Err e) = refl

    after : (r : Result ℕ (List ℕ))
        → ((y : ℕ) → each_to (line_read h) (so_far h is (os ++ y ∷ []) []) xs
        ≡ (each (literal_of h.variables) xs >>= λ more. Ok (so_far h is ((os ++ y ∷ []) ++ more) [])))
        → ((r >>= λ y. Ok (so_far h is (os ++ y ∷ []) [])) >>= λ c. each_to (line_read h) c xs)
        ≡ ((r >>= λ y. each (literal_of h.variables) xs >>= λ ys. Ok (y ∷ ys))
        >>= λ more. Ok (so_far h is (os ++ more) []))
    after (Ok y) shorter = shorter y ∙ joined y (each (literal_of h.variables) xs)
    after (Err e) shorter = refl

-- the and-lines behind all inputs and outputs
ands_read : (h : Header) (is os : List ℕ) (gs : List AndLine) (xs : List TextLine) → length is ≡ h.inputs
    → length os ≡ h.outputs → length gs + length xs ≤ h.ands
    → each_to (line_read h) (so_far h is os gs) xs
    ≡ (each_after (and_of h.variables is) gs xs >>= λ hs. Ok (so_far h is os hs))
ands_read h is os gs [] whole whole_outputs few = refl
ands_read h is os gs (x ∷ xs) whole whole_outputs few =
    let fewer : length gs < h.ands = omega (arith, few) in
    let next = λ (y : AndLine). ands_read h is os (gs ++ y ∷ []) xs whole whole_outputs
    (omega (arith, few, length-append gs (y ∷ []))) in
    rw (
      le-ltb (length is) h.inputs (omega (arith, whole)),
      le-ltb (length os) h.outputs (omega (arith, whole_outputs)),
      lt-ltb (length gs) h.ands fewer,
    ) (after (and_of h.variables is gs x) next)
  where
    after : (r : Result AndLine (List ℕ))
        → ((y : AndLine) → each_to (line_read h) (so_far h is os (gs ++ y ∷ [])) xs
        ≡ (each_after (and_of h.variables is) (gs ++ y ∷ []) xs >>= λ hs. Ok (so_far h is os hs)))
        → ((r >>= λ y. Ok (so_far h is os (gs ++ y ∷ []))) >>= λ c. each_to (line_read h) c xs)
        ≡ (((r >>= λ y. Ok (gs ++ y ∷ [])) >>= λ hs. each_after (and_of h.variables is) hs xs)
        >>= λ hs. Ok (so_far h is os hs))
    after (Ok y) shorter = shorter y
    after (Err e) shorter = refl

-- what follows the last and-line
rest_read : (h : Header) (is os : List ℕ) (gs : List AndLine) (xs : List TextLine) → length is ≡ h.inputs
    → length os ≡ h.outputs → length gs ≡ h.ands
    → each_to (line_read h) (so_far h is os gs) xs ≡ Ok (so_far h is os gs)
rest_read h is os gs [] whole whole_outputs all = refl
rest_read h is os gs (x ∷ xs) whole whole_outputs all =
    rw (
      le-ltb (length is) h.inputs (omega (arith, whole)),
      le-ltb (length os) h.outputs (omega (arith, whole_outputs)),
      le-ltb (length gs) h.ands (omega (arith, all)),
    ) (rest_read h is os gs xs whole whole_outputs all)

-- the lines behind all inputs and outputs
from_ands : (h : Header) (is os : List ℕ) (xs : List TextLine) → length is ≡ h.inputs → length os ≡ h.outputs
    → h.ands ≤ length xs
    → each_to (line_read h) (so_far h is os []) xs
    ≡ (each_after (and_of h.variables is) [] (take h.ands xs) >>= λ gs. Ok (so_far h is os gs))
from_ands h is os xs whole whole_outputs enough =
    let front = take h.ands xs in
    let long : length front ≡ h.ands = length-take-le h.ands xs enough in
    ap (each_to (line_read h) (so_far h is os [])) (sym (take-append-drop h.ands xs))
    ∙ read_append h (so_far h is os []) front (drop h.ands xs)
    ∙ ap (λ r. r >>= λ c. each_to (line_read h) c (drop h.ands xs))
    (ands_read h is os [] front whole whole_outputs (omega (arith, long)))
    ∙ ends (each_after (and_of h.variables is) [] front) (λ gs e. omega (
      arith,
      long,
      length_after (and_of h.variables is) [] front gs e,
    ))
  where
    ends : (r : Result (List AndLine) (List ℕ)) → ((gs : List AndLine) → r ≡ Ok gs → length gs ≡ h.ands)
        → ((r >>= λ gs. Ok (so_far h is os gs)) >>= λ c. each_to (line_read h) c (drop h.ands xs))
        ≡ (r >>= λ gs. Ok (so_far h is os gs))
    ends (Ok gs) all = rest_read h is os gs (drop h.ands xs) whole whole_outputs (all gs refl)
    ends (Err e) all = refl

-- the lines behind all inputs
from_outputs : (h : Header) (is : List ℕ) (xs : List TextLine) → length is ≡ h.inputs
    → h.outputs + h.ands ≤ length xs
    → each_to (line_read h) (so_far h is [] []) xs
    ≡ (each (literal_of h.variables) (take h.outputs xs) >>= λ os.
    each_after (and_of h.variables is) [] (take h.ands (drop h.outputs xs)) >>= λ gs. Ok (so_far h is os gs))
from_outputs h is xs whole enough =
    let front = take h.outputs xs in
    let long : length front ≡ h.outputs = length-take-le h.outputs xs (omega (arith, enough)) in
    let cut : length front + length (drop h.outputs xs) ≡ length xs =
    sym (length-append front (drop h.outputs xs)) ∙ ap length (take-append-drop h.outputs xs) in
    ap (each_to (line_read h) (so_far h is [] [])) (sym (take-append-drop h.outputs xs))
    ∙ read_append h (so_far h is [] []) front (drop h.outputs xs)
    ∙ ap (λ r. r >>= λ c. each_to (line_read h) c (drop h.outputs xs))
    (outputs_read h is [] front whole (omega (arith, long)))
    ∙ goes_on (each (literal_of h.variables) front) (omega (arith, cut, long, enough)) (λ os e. omega (
      arith,
      long,
      length_each (literal_of h.variables) front os e,
    ))
  where
    goes_on : (r : Result (List ℕ) (List ℕ)) → h.ands ≤ length (drop h.outputs xs)
        → ((os : List ℕ) → r ≡ Ok os → length os ≡ h.outputs)
        → ((r >>= λ os. Ok (so_far h is os [])) >>= λ c. each_to (line_read h) c (drop h.outputs xs))
        ≡ (r >>= λ os. each_after (and_of h.variables is) [] (take h.ands (drop h.outputs xs))
        >>= λ gs. Ok (so_far h is os gs))
    goes_on (Ok os) room all = from_ands h is os (drop h.outputs xs) whole (all os refl) room
    goes_on (Err e) room all = refl

-- all lines, where there are gs many gs the header states
pub by_sections : (h : Header) (xs : List TextLine) → stated_lines h ≤ length xs
    → each_to (line_read h) (no_lines h.variables) xs ≡ circuit_of h xs
by_sections h xs enough =
    let front = take h.inputs xs in
    let long : length front ≡ h.inputs = length-take-le h.inputs xs (omega (arith, enough)) in
    let cut : length front + length (drop h.inputs xs) ≡ length xs =
    sym (length-append front (drop h.inputs xs)) ∙ ap length (take-append-drop h.inputs xs) in
    ap (each_to (line_read h) (so_far h [] [] [])) (sym (take-append-drop h.inputs xs))
    ∙ read_append h (so_far h [] [] []) front (drop h.inputs xs)
    ∙ ap (λ r. r >>= λ c. each_to (line_read h) c (drop h.inputs xs))
    (inputs_read h [] front (omega (arith, long)))
    ∙ goes_on (each_after (input_of h.variables) [] front) (omega (arith, cut, long, enough)) (λ is e. omega (
      arith,
      long,
      length_after (input_of h.variables) [] front is e,
    ))
    ∙ rw (le-ltb (length xs) (stated_lines h) enough) refl
  where
    goes_on : (r : Result (List ℕ) (List ℕ)) → h.outputs + h.ands ≤ length (drop h.inputs xs)
        → ((is : List ℕ) → r ≡ Ok is → length is ≡ h.inputs)
        → ((r >>= λ is. Ok (so_far h is [] [])) >>= λ c. each_to (line_read h) c (drop h.inputs xs))
        ≡ (r >>= λ is. each (literal_of h.variables) (take h.outputs (drop h.inputs xs)) >>= λ os.
        each_after (and_of h.variables is) [] (take h.ands (drop (h.inputs + h.outputs) xs))
        >>= λ gs. Ok (so_far h is os gs))
    goes_on (Ok is) room all =
        from_outputs h is (drop h.inputs xs) (all is refl) room
        ∙ ap (λ ys. each (literal_of h.variables) (take h.outputs (drop h.inputs xs)) >>= λ os.
        each_after (and_of h.variables is) [] (take h.ands ys) >>= λ gs. Ok (so_far h is os gs))
        (drop-drop h.outputs h.inputs xs)
    goes_on (Err e) room all = refl
