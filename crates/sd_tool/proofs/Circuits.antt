-- A circuit that is read has inputs and outputs, in their ranges.
use Rattle.std.proofs.Common.{◌≡◌, ℕ, Bool, true, false, not, List, [], ◌∷◌, Ok}
use Rattle.std.proofs.Common.{refl, sym, ap, subst, ◌∙◌}
use Rattle.std.specs.Prelude.{nat_le}
use Rattle.std.proofs.lemmas.Bool.{leb-true, and_parts}
use Rattle.sd_base.specs.Lines.{TextLine, numbered_lines}
use Rattle.sd_base.specs.Numbers.{is_within}
use Rattle.sd_base.specs.Reading.{◌>>=◌, ◌>>◌}
use Rattle.sd_model.specs.Circuit.{Circuit}
use Rattle.sd_aiger.specs.Reads.{Header, header_of, header_in_range, in_range, circuit_of, all_defined, no_cycle}
use Rattle.sd_aiger.specs.Reads.{circuit_of_lines, aiger}
use Rattle.sd_aiger.proofs.Reading.{gave, passed}
use Rattle.sd_aiger.proofs.Read.{is_read}
use Rattle.sd_script.proofs.Allowed.{went_on}
use Rattle.sd_tool.specs.Formats.{AreVariables, HasBothKinds}

-- a number that is not out of range
in_limits : (n : ℕ) → not (is_within 1 1024 n) ≡ false → AreVariables n
in_limits n h = go (is_within 1 1024 n) refl h
  where
    go : (b : Bool) → is_within 1 1024 n ≡ b → not b ≡ false → AreVariables n
    go true both h =
        let parts = and_parts (nat_le 1 n) (nat_le n 1024) both in
        (leb-true 1 n parts.0, leb-true n 1024 parts.1)
    go false both h = let bad : ⊥ = cc in absurd bad

-- the numbers of a header in range
header_limits : (h : Header) (x : Unit {0}) → in_range h ≡ Ok x → AreVariables h.inputs × AreVariables h.outputs
header_limits h x e =
    let first = passed (not (is_within 1 1024 h.inputs)) _ _ x e in
    let second = passed _ _ _ x first.1 in
    let third = passed (not (is_within 1 1024 h.outputs)) _ _ x second.1 in
    (in_limits h.inputs first.0, in_limits h.outputs third.0)

pub both_kinds : (bytes : List ℕ) (c : Circuit) → aiger bytes ≡ Ok c → HasBothKinds c
unfolding aiger
both_kinds bytes c e = by (numbered_lines bytes) e
  where
    by : (lines : List TextLine) → circuit_of_lines lines ≡ Ok c → HasBothKinds c
    by [] e = let bad : ⊥ = cc in absurd bad
    by (first ∷ lines) e =
        let header = gave (header_in_range first.words)
        (λ h. circuit_of h lines >>= λ c. all_defined h c >> (no_cycle h c >> Ok c)) c e in
        let h = header.0 in
        let circuit = gave (circuit_of h lines) (λ c. all_defined h c >> (no_cycle h c >> Ok c)) c header.2 in
        let defined = went_on (all_defined h circuit.0) (no_cycle h circuit.0 >> Ok circuit.0) c circuit.2 in
        let last = went_on (no_cycle h circuit.0) (Ok circuit.0) c defined.2 in
        let same : circuit.0 ≡ c = cc (last.2) in
        let read = is_read h lines circuit.0 circuit.1 in
        let stated = gave (header_of first.words) (λ h. in_range h >> Ok h) h header.1 in
        let ranged = went_on (in_range stated.0) (Ok stated.0) h stated.2 in
        let own : stated.0 ≡ h = cc (ranged.2) in
        let limits = header_limits stated.0 ranged.0 ranged.1 in
        subst HasBothKinds same (record {
          inputs = subst AreVariables (ap (λ (k : Header). k.inputs) own ∙ sym read.inputs) limits.0;
          outputs = subst AreVariables (ap (λ (k : Header). k.outputs) own ∙ sym read.outputs) limits.1;
        })
