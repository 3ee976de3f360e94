-- A canonical diagram is no deeper than its vtree.
use Rattle.std.proofs.Common.{ℕ, ◌+◌, ◌-◌, ◌≤◌, ◌<◌, arith, length-append}
use Rattle.sd_model.specs.Tree.{Tree, leaves, variables}
use Rattle.sd_model.specs.Diagram.{Diagram, Decomposition, Elements, End, Pair}
use Rattle.sd_model.specs.Canonical.{IsElement, first, later, IsCanonical, canonical_bottom, canonical_top}
use Rattle.sd_model.specs.Canonical.{canonical_literal, canonical_in_left, canonical_in_right}
use Rattle.sd_model.specs.Canonical.{canonical_decomposition}
use Rattle.sd_laws.specs.Depth.{depth, depth_of}
use Rattle.sd_laws.proofs.Places.{leaves_positive}

-- a prime and a sub are no deeper than the elements
depth_within : {p s : Diagram} {es : Elements} → IsElement p s es → (depth p ≤ depth_of es) × (depth s ≤ depth_of es)
depth_within (first {rest = rest}) = (omega arith, omega arith)
depth_within (later m) = let h = depth_within m in (omega (arith, h.0), omega (arith, h.1))

-- and less deep than the decomposition
pub depth_element : {p s : Diagram} {es : Elements} (q : ℕ) → IsElement p s es →
    (depth p < depth (Decomposition q es)) × (depth s < depth (Decomposition q es))
depth_element q m = let h = depth_within m in (omega (arith, h.0), omega (arith, h.1))

-- elements are as deep as the deepest prime or sub
depth_most : (es : Elements) (n : ℕ) → ((p s : Diagram) → IsElement p s es → (depth p ≤ n) × (depth s ≤ n)) →
    depth_of es ≤ n
depth_most End n h = omega arith
depth_most (Pair p s rest) n h =
    let a = h p s first in
    let b = depth_most rest n (λ q t m. h q t (later m)) in
    omega (arith, a.0, a.1, b)

-- a canonical diagram is less deep than its tree has leaves
pub depth_canonical : {t : Tree} {b : ℕ} {d : Diagram} → IsCanonical t b d → depth d < leaves t
depth_canonical {t = t} canonical_bottom = leaves_positive t
depth_canonical {t = t} canonical_top = leaves_positive t
depth_canonical (canonical_literal s) = omega arith
depth_canonical (canonical_in_left {l = l} {r = r} e k) =
    omega (arith, depth_canonical k, length-append (variables l) (variables r))
depth_canonical (canonical_in_right {l = l} {r = r} e k) =
    omega (arith, depth_canonical k, length-append (variables l) (variables r))
depth_canonical (canonical_decomposition {l = l} {r = r} {elements = es} ps ss partition) =
    let a = leaves_positive l in
    let b = leaves_positive r in
    let sum = length-append (variables l) (variables r) in
    let most : depth_of es ≤ (leaves l + leaves r) - 2 =
    depth_most es ((leaves l + leaves r) - 2)
    (λ p s m.
    let x = depth_canonical (ps p s m) in
    let y = depth_canonical (ss p s m) in
    (omega arith, omega arith)) in
    omega arith
