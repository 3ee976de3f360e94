-- Names, and the words that name files, are text.
use Rattle.std.proofs.Common.{◌≡◌, ℕ, ◌<◌, Bool, true, false, ◌&&◌, List, [], ◌∷◌, refl, arith}
use Rattle.std.proofs.lemmas.Bool.Decides.{nat_tests}
use Rattle.std.proofs.lemmas.Str.{IsUtf8-from_ascii}
use Rattle.std.proofs.lemmas.Str.Ascii.{IsAscii-nil, IsAscii-cons}
use Rattle.std.specs.List.{list_all}
use Rattle.std.specs.Str.{IsAscii, IsUtf8}
use Rattle.std.specs.Prelude.{length, nat_le}
use Rattle.sd_script.specs.Forms.{Word, is_name, is_printable, starts_name, continues_name}

-- of two tests that both pass the first passes
pub and_left : (a b : Bool) → (a && b) ≡ true → a ≡ true
and_left true b h = refl
and_left false b h = h

-- and the second
pub and_right : (a b : Bool) → (a && b) ≡ true → b ≡ true
and_right true b h = h
and_right false b h = cc

-- a list is ASCII where a test of ASCII bytes passes for each
all_ascii : (p : ℕ → Bool) → ((b : ℕ) → p b ≡ true → b < 128)
    → (bs : List ℕ) → list_all p bs ≡ true → IsAscii bs
all_ascii p small [] h = IsAscii-nil
all_ascii p small (b ∷ bs) h =
    IsAscii-cons b bs (small b (and_left (p b) (list_all p bs) h))
    (all_ascii p small bs (and_right (p b) (list_all p bs) h))

-- a byte of a name is ASCII
starts_ascii : (b : ℕ) → starts_name b ≡ true → b < 128
starts_ascii b h = grind (arith, nat_tests)

-- and so is each byte after the first
continues_ascii : (b : ℕ) → continues_name b ≡ true → b < 128
continues_ascii b h = grind (arith, nat_tests)

-- a name is text
pub names_are_text : (word : Word) → is_name word ≡ true → IsUtf8 word
names_are_text [] h = cc
names_are_text (b ∷ bs) h =
    let first = and_left (starts_name b && nat_le (length bs) 31) (list_all continues_name bs) h in
    let rest = and_right (starts_name b && nat_le (length bs) 31) (list_all continues_name bs) h in
    IsUtf8-from_ascii (b ∷ bs)
    (IsAscii-cons b bs (starts_ascii b (and_left (starts_name b) (nat_le (length bs) 31) first))
    (all_ascii continues_name continues_ascii bs rest))

-- a byte of 33 to 126 is ASCII
printable_ascii : (b : ℕ) → (nat_le 33 b && nat_le b 126) ≡ true → b < 128
printable_ascii b h = grind (arith, nat_tests)

-- a word of such bytes is text
pub files_are_text : (word : Word) → is_printable word ≡ true → IsUtf8 word
files_are_text word h = IsUtf8-from_ascii word (all_ascii _ printable_ascii word h)
