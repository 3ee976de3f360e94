-- A text that stands for a formula stands for one in range.
use Rattle.std.proofs.Common.{◌≡◌, ℕ, Bool, true, false, not, ◌&&◌, List, [], ◌∷◌, length, drop}
use Rattle.std.proofs.Common.{None, Result, Ok, Err, refl, sym, subst, ◌∙◌, arith}
use Rattle.std.proofs.lemmas.Bool.{and_parts, not-false, leb-true, ltb-false, eqb-true}
use Rattle.std.specs.Prelude.{nat_le, nat_lt, ◌==◌, ok_or}
use Rattle.std.specs.Option.{option_map_or}
use Rattle.std.specs.List.{AllByRecursion, flat_map, last_or}
use Rattle.sd_base.specs.Lines.{TextLine, content_of}
use Rattle.sd_base.specs.Reading.{◌>>=◌, ◌>>◌, fault_if}
use Rattle.sd_formula.specs.declared.formula.Kind.{Kind}
use Rattle.sd_formula.specs.declared.error.FormulaError.TheVariants.{BadHeader}
use Rattle.sd_formula.specs.Dimacs.{Groups, dimacs, Stated, formula_of, stated_of, counts_in_range, stated_in}
use Rattle.sd_formula.specs.Dimacs.{is_header, formula_fault_text, groups_of, body_words, all_but_last, has_begun}
use Rattle.sd_formula.specs.Dimacs.{word_pieces}
use Rattle.sd_formula.specs.Formulas.{IsGroup, IsFormula}
use Rattle.sd_formula.specs.Steps.{Parts, no_parts, put_words, all_groups, InRange, PartsFit}
use Rattle.sd_formula.proofs.FitLaws.{nothing_fits, words_fit}
use Rattle.sd_formula.proofs.PartsLaws.{by_parts}
use Rattle.sd_formula.proofs.ReaderLaws.{all_but_last_push, text_of_lines}

-- a chain of two steps that came to an end went through the first
record Through {A B E : Type 0} (first : Result A E) (rest : A → Result B E) (end : B) : Type 0 where
  middle : A
  gave : first ≡ Ok middle
  led : rest middle ≡ Ok end

through : {A B E : Type 0} (first : Result A E) (rest : A → Result B E) (end : B) → (first >>= rest) ≡ Ok end
    → Through first rest end
through (Ok x) rest end e = record { middle = x; gave = refl; led = e }
through (Err fault) rest end e = cc

-- no fault stood in the way
past : {B E : Type 0} (test : Bool) (fault : E) (rest : Result B E) (end : B) → (fault_if test fault >> rest) ≡ Ok end
    → (test ≡ false) × (rest ≡ Ok end)
past true fault rest end e = cc
past false fault rest end e = (refl, e)

-- the numbers of a header are in range
numbers_fit : (s t : Stated) → counts_in_range s ≡ Ok t → InRange t
numbers_fit s t e =
    let low = nat_le 1 s.variables in
    let high = nat_le s.variables 1024 in
    let first = past (not (low && high)) _ _ t e in
    let second = past (nat_lt 1000000 s.groups) _ (Ok s) t first.1 in
    let within = and_parts low high (not-false (low && high) first.0) in
    let is : s ≡ t = (let same = second.1 in cc) in
    let fits : InRange s = record {
      at_least_one = leb-true 1 s.variables within.0;
      within_limit = leb-true s.variables 1024 within.1;
      count = ltb-false 1000000 s.groups second.0;
    } in
    subst InRange is fits

header_fits : (kind : Kind) (line : TextLine) (t : Stated) → stated_of kind line ≡ Ok t → InRange t
header_fits kind line t e =
    let numbers = ok_or (stated_in kind (drop 1 line.words)) (formula_fault_text (BadHeader line.number)) in
    let first = past (not (is_header line.words)) _ (numbers >>= counts_in_range) t e in
    let second = through numbers counts_in_range t first.1 in
    numbers_fit second.middle t second.led

-- the groups are as many as the header states, and their literals are in range
groups_fit : (kind : Kind) (s : Stated) (p : Parts) (f : Groups) → InRange s → PartsFit kind s.variables p
    → groups_of kind s (all_groups p) ≡ Ok f → IsFormula f
groups_fit kind s p f range fit e =
    let groups = all_but_last (all_groups p) in
    let formula : Groups = record { kind = kind; variables = s.variables; groups = groups } in
    let same = s.groups == length groups in
    let first = past (option_map_or has_begun (last_or None (all_groups p)) false) _ _ f e in
    let second = past (not same) _ (Ok formula) f first.1 in
    let whole : Ok formula ≡ Ok f = second.1 in
    let is : formula ≡ f = cc in
    let count = eqb-true s.groups (length groups) (not-false same second.0) in
    let closed : groups ≡ p.closed = all_but_last_push p.closed p.open_part in
    let fits : IsFormula formula = record {
      at_least_one = range.at_least_one;
      within_limit = range.within_limit;
      count = omega (arith, range.count, count);
      groups = subst (AllByRecursion (IsGroup kind s.variables)) (sym closed) fit.closed;
    } in
    subst IsFormula is fits

lines_fit : (kind : Kind) (content : List TextLine) (f : Groups) → formula_of kind content ≡ Ok f → IsFormula f
lines_fit kind [] f e = absurd cc
lines_fit kind (header ∷ lines) f e =
    let head = through (stated_of kind header) _ f e in
    let s = head.middle in
    let words = flat_map (word_pieces kind) (body_words lines) in
    let by = sym (by_parts kind s.variables words (groups_of kind s)) ∙ head.led in
    let body = through (put_words kind s.variables no_parts words) (λ p. groups_of kind s (all_groups p)) f by in
    let none : PartsFit kind s.variables no_parts =
    record { closed = tt; open_part = nothing_fits kind s.variables } in
    let fit = words_fit kind s.variables no_parts body.middle words none body.gave in
    groups_fit kind s body.middle f (header_fits kind header s head.gave) fit body.led

-- the formula of a text has its numbers and its literals in range
pub accepted_fits : (kind : Kind) (bytes : List ℕ) (f : Groups) → dimacs kind bytes ≡ Ok f → IsFormula f
accepted_fits kind bytes f e = lines_fit kind (content_of 99 bytes) f (sym (text_of_lines kind bytes) ∙ e)
