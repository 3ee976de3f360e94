-- Two functions of n truth values agree, or an assignment shows that they differ.
use Rattle.std.proofs.Common.{zero, suc, ◌≢◌, ◌⊎◌, inl, inr, ◌≡◌, ℕ, Bool, true}
use Rattle.std.proofs.Common.{false, List, [], ◌∷◌, length, refl, sym, ◌∙◌, ap, arith}
use Rattle.sd_model.specs.Tree.{Tree, IsVtree, leaves}
use Rattle.sd_model.specs.Diagram.{Diagram, meaning}
use Rattle.sd_model.specs.Canonical.{IsCanonical}
use Rattle.sd_model.proofs.Blend.{IsApart}
use Rattle.sd_model.proofs.Unique.{unique}
use Rattle.sd_model.proofs.OverVtree.{vtree_apart, same_when_fitted}

-- an assignment of n variables under which the values differ
pub record DifferAt (n : ℕ) (f g : List Bool → Bool) : Type 0 where
  pub assignment : List Bool
  pub fits : length assignment ≡ n
  pub differ : f assignment ≢ g assignment

-- the values are equal under each assignment of n variables
abbrev pub AgreeTo : ℕ → (List Bool → Bool) → (List Bool → Bool) → Type 0
AgreeTo n f g = (a : List Bool) → length a ≡ n → f a ≡ g a

-- no variable: one assignment has to be tried
difference_at_none : (f g : List Bool → Bool) → DifferAt 0 f g ⊎ AgreeTo 0 f g
difference_at_none f g = go (f []) (g []) refl refl
  where
    same : f [] ≡ g [] → AgreeTo 0 f g
    same e [] h = e
    same e (b ∷ a) h = absurd (omega arith)

    go : (b c : Bool) → f [] ≡ b → g [] ≡ c → DifferAt 0 f g ⊎ AgreeTo 0 f g
    go true true e k = inr (same (e ∙ sym k))
    go false false e k = inr (same (e ∙ sym k))
    go true false e k = inl (record { assignment = []; fits = refl; differ = λ h. cc })
    go false true e k = inl (record { assignment = []; fits = refl; differ = λ h. cc })

-- the functions with their first argument given
abbrev at_first : Bool → (List Bool → Bool) → List Bool → Bool
at_first b f a = f (b ∷ a)

-- one variable more: both values of the first one are tried
pub difference : (n : ℕ) (f g : List Bool → Bool) → DifferAt n f g ⊎ AgreeTo n f g
difference zero f g = difference_at_none f g
difference (suc n) f g =
    go (difference n (at_first true f) (at_first true g)) (difference n (at_first false f) (at_first false g))
  where
    both : AgreeTo n (at_first true f) (at_first true g) → AgreeTo n (at_first false f) (at_first false g) →
        AgreeTo (suc n) f g
    both h k [] e = absurd (omega arith)
    both h k (true ∷ a) e = h a (omega arith)
    both h k (false ∷ a) e = k a (omega arith)

    go : DifferAt n (at_first true f) (at_first true g) ⊎ AgreeTo n (at_first true f) (at_first true g) →
        DifferAt n (at_first false f) (at_first false g) ⊎ AgreeTo n (at_first false f) (at_first false g) →
        DifferAt (suc n) f g ⊎ AgreeTo (suc n) f g
    go (inl d) k = inl (record { assignment = true ∷ d.assignment; fits = ap suc d.fits; differ = d.differ })
    go (inr h) (inl d) = inl (record { assignment = false ∷ d.assignment; fits = ap suc d.fits; differ = d.differ })
    go (inr h) (inr k) = inr (both h k)

-- two different canonical diagrams differ under some assignment
pub differ_apart : (n : ℕ) {t : Tree} {base : ℕ} {d e : Diagram} → IsApart n t → IsCanonical t base d →
    IsCanonical t base e → d ≢ e → DifferAt n (meaning d) (meaning e)
differ_apart n {d = d} {e = e} apart k j ne = go (difference n (meaning d) (meaning e))
  where
    go : DifferAt n (meaning d) (meaning e) ⊎ AgreeTo n (meaning d) (meaning e) → DifferAt n (meaning d) (meaning e)
    go (inl w) = w
    go (inr same) = absurd (ne (unique n apart k j (same_when_fitted n apart k j same)))

-- the same over a vtree
pub differ_somewhere : (t : Tree) (d e : Diagram) → IsVtree t → IsCanonical t 0 d → IsCanonical t 0 e → d ≢ e →
    DifferAt (leaves t) (meaning d) (meaning e)
differ_somewhere t d e v k j ne = differ_apart (leaves t) (vtree_apart t v) k j ne
