-- The hash of a key, and its bucket.
use Rattle.std.proofs.Common.{◌≡◌, ℕ, List, bit_and, ◌/◌, ◌-◌, ◌^◌, ap}
use Rattle.std.specs.List.{fold}
use Rattle.sd_unique.specs.Chains.{bucket_of, hash_of, mixed}

-- the hash of a key from what its place and pairs give
pub hash_is : (place : ℕ) (list : List (ℕ × ℕ)) (hash : ℕ) → hash ≡ fold mixed place list
    → hash / 2 ^ 32 ≡ hash_of (place, list)
unfolding hash_of
hash_is place list hash e = ap (λ h. h / 2 ^ 32) e

-- the bucket of a key from its hash
pub bucket_from : (key : ℕ × List (ℕ × ℕ)) (hash count : ℕ) → hash ≡ hash_of key
    → bit_and hash (count - 1) ≡ bucket_of key count
unfolding bucket_of
bucket_from key hash count e = ap (λ h. bit_and h (count - 1)) e
