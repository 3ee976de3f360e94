-- A move with its lower node, and the inverse move behind it.
use Rattle.std.proofs.Common.{◌≡◌, ◌↔◌, ℕ, Some, None, true, refl, sym, ◌∙◌, ap, Result, Ok, Err, OnOk, IsErr}
use Rattle.std.specs.Result.{is_ok}
use Rattle.std.proofs.lemmas.Option.{same_Some, none-some}
use Rattle.sd_model.specs.declared.trees.Move.{Move}
use Rattle.sd_model.specs.declared.trees.Move.TheVariants.{RotateLeft, RotateRight}
use Rattle.sd_model.specs.Moves.{inverse_move}
use Rattle.sd_vtree.specs.Numbered.{Numbered, IsNumbered}
use Rattle.sd_vtree.specs.NumberedMoves.{moved_number}
use Rattle.sd_laws.specs.Turned.{AreRotated, lower_of}
use Rattle.sd_laws.proofs.Turning.{turned_right, turned_left, lower_rotated, inverse_numbered}

-- a right rotation, with its lower node
pub rotated_right : (kind : Move) (t u : Numbered) (x : ℕ) → kind ≡ RotateRight → IsNumbered t →
    moved_number RotateRight t x ≡ Some u → (w : ℕ) × (lower_of kind t x ≡ Some w) × AreRotated t u x w
rotated_right kind t u x k v e =
    let h = turned_right t u x v e in
    (h.0, ap (λ m. lower_of m t x) k ∙ (lower_rotated t u x h.0 h.1).0, h.1)

-- and a left one, which is a right one the other way round
pub rotated_left : (kind : Move) (t u : Numbered) (x : ℕ) → kind ≡ RotateLeft → IsNumbered t →
    moved_number RotateLeft t x ≡ Some u → (w : ℕ) × (lower_of kind t x ≡ Some w) × AreRotated u t x w
rotated_left kind t u x k v e =
    let h = turned_left t u x v e in
    (h.0, ap (λ m. lower_of m t x) k ∙ (lower_rotated u t x h.0 h.1).1, h.1)

-- the inverse move is defined behind a move, and leads to the vtree before
pub went_back : {T E : Type 0} (kind back : Move) (t u w : Numbered) (x : ℕ) (r : Result T E) → IsNumbered t →
    back ≡ inverse_move kind → moved_number kind t x ≡ Some u → (IsErr r ↔ (moved_number back u x ≡ None)) →
    OnOk r (moved_number back u x ≡ Some w) → (w ≡ t) × (is_ok r ≡ true)
went_back {T} {E} kind back t u w x r v k e err ok = go r err ok
  where
    inverse : moved_number back u x ≡ Some t
    inverse = ap (λ m. moved_number m u x) k ∙ inverse_numbered kind t u x v e

    go : (r : Result T E) → (IsErr r ↔ (moved_number back u x ≡ None)) → OnOk r (moved_number back u x ≡ Some w) →
        (w ≡ t) × (is_ok r ≡ true)
    go (Ok y) err ok = (same_Some w t (sym ok ∙ inverse), refl)
    go (Err y) err ok = absurd (none-some t (sym (err.0 refl) ∙ inverse))
