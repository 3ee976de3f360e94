-- What holds of the elements of a canonical decomposition of the code, and of those behind the first.
use Rattle.std.proofs.Common.{◌≡◌, ℕ, suc, ◌+◌, ◌<◌, Bool, true, false, cond, ◌&&◌, ◌||◌, List, length, get_or, drop}
use Rattle.std.proofs.Common.{refl, sym, ◌∙◌, ap, subst}
use Rattle.std.specs.declared.vec.Vec.{Vec}
use Rattle.std.specs.declared.alloc.Global.{Global}
use Rattle.sd_model.specs.declared.diagrams.Diagram.{Diagram as OwnedDiagram, Decomposition as OwnedDecomposition}
use Rattle.sd_model.specs.declared.diagrams.Element.{Element as OwnedElement}
use Rattle.sd_model.specs.Diagram.{Diagram, Decomposition, Elements, Pair, meaning, some_element}
use Rattle.sd_model.specs.Diagram.{HasVariablesTo, HaveVariablesTo}
use Rattle.sd_model.specs.Canonical.{IsElement, first, later, true_primes}
use Rattle.sd_model.specs.Seen.{diagram_of, elements_of}
use Rattle.sd_model.proofs.Partition.{value_at_chosen}
use Rattle.sd_model.proofs.SeenLemmas.{seen_decomposition, elements_of_drop}
use Rattle.sd_laws.specs.Parts.{IsCanonicalForSome}
use Rattle.sd_laws.proofs.Nodes.{partition_of_canonical, elements_canonical}

-- the primes and subs of a canonical decomposition are canonical, and one prime is true
pub canonical_elements : (d : OwnedDiagram) (q : ℕ) (v : Vec OwnedElement Global) (es : List OwnedElement) →
    d ≡ OwnedDecomposition q v → es ≡ v.items → IsCanonicalForSome (diagram_of d) → (a : List Bool) →
    ((p s : Diagram) → IsElement p s (elements_of es) → IsCanonicalForSome p × IsCanonicalForSome s)
    × (true_primes (elements_of es) a ≡ 1)
canonical_elements d q v es e f h a =
    let seen : diagram_of d ≡ Decomposition q (elements_of es) =
    seen_decomposition d q v e ∙ sym (ap (λ l. Decomposition q (elements_of l)) f) in
    let k : IsCanonicalForSome (Decomposition q (elements_of es)) = subst IsCanonicalForSome seen h in (
      λ p s m. let c = elements_canonical k.2 p s m in ((k.0, k.1, c.0), (k.0, k.1, c.1)),
      (partition_of_canonical k.2).one_prime a,
    )

-- the element at an index stands before those behind it
pub at_index : (es : List OwnedElement) (i : ℕ) (e : OwnedElement) → i < length es → e ≡ get_or es i e →
    elements_of (drop i es) ≡ Pair (diagram_of e.prime) (diagram_of e.sub) (elements_of (drop (i + 1) es))
at_index es i e lt is =
    subst (λ (x : OwnedElement). elements_of (drop i es)
    ≡ Pair (diagram_of x.prime) (diagram_of x.sub) (elements_of (drop (i + 1) es))) (sym is)
    (elements_of_drop es i e lt)

-- What is kept of the elements behind the index: none before has a true prime.
pub record AreLeft (a : List Bool) (value : Bool) (es : Elements) : Type 0 where
  pub same_value : some_element es a ≡ value
  pub one_prime : true_primes es a ≡ 1
  pub in_range : HaveVariablesTo (length a) es
  pub canonical : (p s : Diagram) → IsElement p s es → IsCanonicalForSome p × IsCanonicalForSome s

-- the first element has what its two parts are asked for
pub first_prime : (a : List Bool) (value : Bool) (p s : Diagram) (rest : Elements) → AreLeft a value (Pair p s rest) →
    IsCanonicalForSome p × HasVariablesTo (length a) p
first_prime a value p s rest h = ((h.canonical p s first).0, h.in_range.0)

pub first_sub : (a : List Bool) (value : Bool) (p s : Diagram) (rest : Elements) → AreLeft a value (Pair p s rest) →
    IsCanonicalForSome s × HasVariablesTo (length a) s
first_sub a value p s rest h = ((h.canonical p s first).1, h.in_range.1)

-- where its prime is true, its sub has the value
pub first_value : (a : List Bool) (value : Bool) (p s : Diagram) (rest : Elements) → AreLeft a value (Pair p s rest) →
    meaning p a ≡ true → meaning s a ≡ value
first_value a value p s rest h e =
    sym (value_at_chosen {p = p} {s = s} (first {rest = rest}) a h.one_prime e) ∙ h.same_value

-- a false prime is none of the true ones
rest_step : (b c v : Bool) (n : ℕ) → b ≡ false → (cond b (suc n) n ≡ n) × (((b && c) || v) ≡ v)
rest_step true c v n e = absurd (cc (e))
rest_step false c v n e = (refl, refl)

-- and where it is false, the rest is left
pub rest_left : (a : List Bool) (value : Bool) (p s : Diagram) (rest : Elements) → AreLeft a value (Pair p s rest) →
    meaning p a ≡ false → AreLeft a value rest
rest_left a value p s rest h e =
    let k = rest_step (meaning p a) (meaning s a) (some_element rest a) (true_primes rest a) e in
    record {
      same_value = sym k.1 ∙ h.same_value;
      one_prime = sym k.0 ∙ h.one_prime;
      in_range = h.in_range.2;
      canonical = λ x y m. h.canonical x y (later m);
    }
