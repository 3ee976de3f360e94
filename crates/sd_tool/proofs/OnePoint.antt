-- Told files read in one way, so the readings of a run are over at one point.
use Rattle.std.proofs.Common.{◌≡◌, ◌⊎◌, ℕ, List, length, Some, None}
use Rattle.std.proofs.Common.{inl, inr, refl, sym, ap, subst, ◌∙◌, arith}
use Rattle.sd_base.specs.Files.{Files, Lacks}
use Rattle.sd_tool.specs.Readings.{Point, Refuses, Reads, Stands, IsText}
use Rattle.sd_tool.specs.inside.Plans.{Plan, point_of}
use Rattle.sd_tool.specs.inside.Readings.{Text}
use Rattle.sd_tool.specs.inside.Course.{ReadsTo}

-- a told file reads in one way
one_text : (files : Files) (file : List ℕ) (a b : Text) → IsText (Some files) file a → IsText (Some files) file b
    → a ≡ b
one_text files file (Some x) (Some y) p q = let e : Some x ≡ Some y = sym p.0 ∙ q.0 in ap Some (cc)
one_text files file (Some x) None p q =
    let e : Some x ≡ Some q.0 = sym p.0 ∙ q.1 in
    let same : x ≡ q.0 = cc in
    absurd (omega (arith, p.1, q.2, ap length same))
one_text files file None (Some y) p q =
    let e : Some y ≡ Some p.0 = sym q.0 ∙ p.1 in
    let same : y ≡ p.0 = cc in
    absurd (omega (arith, q.1, p.2, ap length same))
one_text files file None None p q = refl

-- and is there
there : (files : Files) (file : List ℕ) (text : Text) → IsText (Some files) file text → Lacks (Some files) file → ⊥
there files file (Some x) p lacks = let e : Some x ≡ None = sym p.0 ∙ lacks in let bad : ⊥ = cc in bad
there files file None p lacks = let e : Some p.0 ≡ None = sym p.1 ∙ lacks in let bad : ⊥ = cc in bad

-- the plan of a point before commands
abbrev plan_at : Point → Plan → Plan
plan_at (Stands input state left) other = record { input = input; start = state; commands = left }
plan_at point other = other

-- plans whose points are one are one
pub one_plan_at : (a b : Plan) → point_of a ≡ point_of b → a ≡ b
one_plan_at a b is = ap (λ point. plan_at point a) is

-- the readings are over here
abbrev pub IsOver : Point → Type 0
IsOver (Refuses answer) = Unit {0}
IsOver (Stands input state left) = Unit {0}
IsOver (Reads file next) = ⊥

-- a file that is asked for is there
pub record AsksFor (files : Files) (point : Point) : Type 0 where
  pub file : List ℕ
  pub next : Text → Point
  pub is : point ≡ Reads file next
  pub there : Lacks (Some files) file → ⊥

-- The readings are over at one point, and each file that they ask for before is there.
pub one_point : (files : Files) (reading over point : Point) → IsOver over → ReadsTo (Some files) reading over
    → ReadsTo (Some files) reading point → (point ≡ over) ⊎ AsksFor files point
one_point files (Refuses r) over point final p q = inl (q ∙ sym p)
one_point files (Stands input state left) over point final p q = inl (q ∙ sym p)
one_point files (Reads file next) over point final (inl p) q = absurd (subst IsOver p final)
one_point files (Reads file next) over point final (inr p) (inl q) =
    inr record { file = file; next = next; is = q; there = there files file p.0 p.1 }
one_point files (Reads file next) over point final (inr p) (inr q) =
    let same = one_text files file q.0 p.0 q.1 p.1 in
    one_point files (next p.0) over point final p.2 (subst (λ t. ReadsTo (Some files) (next t) point) same q.2)
