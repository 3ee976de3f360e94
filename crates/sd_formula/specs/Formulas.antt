-- What a formula is seen as, and the propositional formula that it is.
use Rattle.std.specs.Prelude.{◌≡◌, ℕ, ◌≤◌, Bool, false, List, [], length, map, slice_range, ℤ, unsigned_abs}
use Rattle.std.specs.List.{AllByRecursion}
use Rattle.sd_model.specs.Expression as expressions
use Rattle.sd_model.specs.Expression.{Expression, Group}
use Rattle.sd_formula.specs.declared.formula.Kind.{Kind}
use Rattle.sd_formula.specs.declared.formula.Kind.TheVariants.{Cnf, Dnf}
use Rattle.sd_formula.specs.Dimacs.{Groups}
use Rattle.sd_formula.specs.declared.flat.End.{End}
use Rattle.sd_formula.specs.Flat.{cut}

-- a literal of a variable from 1 to v
pub record IsLiteral (v : ℕ) (z : ℤ) : Type 0 where
  pub low : 1 ≤ unsigned_abs z
  pub high : unsigned_abs z ≤ v

-- literals of such variables
abbrev pub AreLiterals : ℕ → List ℤ → Type 0
AreLiterals v zs = AllByRecursion (IsLiteral v) zs

-- the mark of exclusive groups stands only in a CNF
abbrev pub MayBeMarked : Kind → Bool → Type 0
MayBeMarked Cnf exclusive = Unit {0}
MayBeMarked Dnf exclusive = exclusive ≡ false

-- a group of a formula of a kind and of v variables
pub record IsGroup (kind : Kind) (v : ℕ) (group : Group) : Type 0 where
  pub mark : MayBeMarked kind group.exclusive
  pub literals : AreLiterals v group.literals

-- 1 to 1,024 variables, at most 1,000,000 groups, and literals of these variables
pub record IsFormula (f : Groups) : Type 0 where
  pub at_least_one : 1 ≤ f.variables
  pub within_limit : f.variables ≤ 1024
  pub count : length f.groups ≤ 1000000
  pub groups : AllByRecursion (IsGroup f.kind f.variables) f.groups

-- the groups that end at these indices
abbrev pub groups_between : Kind → ℕ → List End → List ℤ → Groups
groups_between kind variables ends literals =
    record { kind = kind; variables = variables; groups = cut 0 ends literals }

-- the conjunction of clauses and exclusive groups, or the disjunction of terms
abbrev pub of_kind : Kind → List Group → Expression
of_kind Cnf groups = expressions.Cnf groups
of_kind Dnf terms = expressions.Dnf (map (λ term. term.literals) terms)

-- the propositional formula of the groups
abbrev pub expression_of : Groups → Expression
expression_of f = of_kind f.kind f.groups

-- the formula without groups, of a kind and over so many variables
abbrev pub no_groups : Kind → ℕ → Groups
no_groups kind variables = record { kind = kind; variables = variables; groups = [] }

-- the formula of the groups from one number up to another, which is not among them; they are counted from 0
abbrev pub groups_part : Groups → ℕ → ℕ → Groups
groups_part f from to = record { kind = f.kind; variables = f.variables; groups = slice_range f.groups from to }
