-- Texts that are written part by part.
use Rattle.std.proofs.Common.{◌≡◌, ℕ, List, [], ◌∷◌, ◌++◌, Option, sym, ap, ◌∙◌}
use Rattle.std.proofs.Common.{Result, Ok, Err, OnErr, append_assoc}
use Rattle.std.specs.Prelude.{codes}
use Rattle.std.proofs.lemmas.List.{append-nil}
use Rattle.sd_model.specs.Text.{number_text}
use Rattle.sd_formula.specs.declared.error.FormulaError.TheVariants.{VariablesRange}
use Rattle.sd_formula.specs.Dimacs.{formula_fault_text}
use Rattle.sd_vfile.specs.declared.fault.VtreeFault.TheVariants.{NodesRange}
use Rattle.sd_vfile.specs.Reads.{vtree_fault_text}
use Rattle.sd_tool.specs.Ends.{line_of}
use Rattle.sd_base.specs.Sink.{told_then, AppendsPart}
use Rattle.sd_base.proofs.FileLemmas.{told_then_told_then}

-- a part of the first of two texts
pub part_of_first : (old new : Option (List ℕ)) (a b : List ℕ) → AppendsPart old a new
    → AppendsPart old (a ++ b) new
part_of_first old new a b part = record {
  front = part.front;
  rest = part.rest ++ b;
  of_bytes = sym (append_assoc part.front part.rest b) ∙ ap (λ (l : List ℕ). l ++ b) part.of_bytes;
  written = part.written;
}

-- the first of two texts, and a part of the second
pub part_of_second : (old mid new : Option (List ℕ)) (a b : List ℕ) → mid ≡ told_then old a
    → AppendsPart mid b new → AppendsPart old (a ++ b) new
part_of_second old mid new a b first part = record {
  front = a ++ part.front;
  rest = part.rest;
  of_bytes = append_assoc a part.front part.rest ∙ ap (λ (l : List ℕ). a ++ l) part.of_bytes;
  written = part.written ∙ ap (λ told. told_then told part.front) first ∙ told_then_told_then old a part.front;
}

-- what stands after a failure stands where there is one
pub at_err : {A F P : Type 0} (result : Result A F) → P → OnErr result P
at_err (Ok x) p = tt
at_err (Err e) p = p

-- three texts, of which the second and the third have two parts
pub parts_joined : (a n t m u : List ℕ) → a ++ (n ++ t) ++ (m ++ u) ≡ a ++ n ++ t ++ m ++ u
parts_joined a n t m u =
    sym (append_assoc (a ++ (n ++ t)) m u) ∙ ap (λ (l : List ℕ). l ++ m ++ u) (sym (append_assoc a n t))

-- the line of two halves, as it is written
pub line_is : (front back : List ℕ)
    → codes "sddc: " ++ front ++ back ++ 10 ∷ [] ≡ line_of (front ++ back)
line_is front back = ap (λ (l : List ℕ). l ++ 10 ∷ []) (append_assoc (codes "sddc: ") front back)

-- ---- a fault of a formula or a vtree file that ends in a number

pub nothing_after : (file before number : List ℕ) → file ++ before ++ number ++ [] ≡ file ++ (before ++ number)
nothing_after file before number = append-nil (file ++ before ++ number) ∙ append_assoc file before number

pub variables_text : (file : List ℕ) (v : ℕ)
    → file ++ codes ": variables out of range: " ++ number_text v ++ [] ≡ file ++ formula_fault_text (VariablesRange v)
variables_text file v = nothing_after file (codes ": variables out of range: ") (number_text v)

pub nodes_text : (file : List ℕ) (n : ℕ)
    → file ++ codes ": nodes out of range: " ++ number_text n ++ [] ≡ file ++ vtree_fault_text (NodesRange n)
nodes_text file n = nothing_after file (codes ": nodes out of range: ") (number_text n)
