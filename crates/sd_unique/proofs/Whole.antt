-- The vectors that were lent whole, and what holds of their items.
use Rattle.std.proofs.Common.{Bool, ◌≡◌, ℕ, ◌≤◌, ◌++◌, List, length, take, drop, refl, sym, subst, arith}
use Rattle.sd_runs.specs.Arena.{Arena}
use Rattle.sd_unique.specs.declared.record.Record.{Record}
use Rattle.sd_unique.specs.declared.record.Links.{Links}
use Rattle.sd_unique.specs.Chains.{AreHashed, HasRoomForLists, HoldsNodes}
use Rattle.sd_unique.specs.Record.{nodes_of}
use Rattle.sd_unique.proofs.Reading.{whole_slice}

-- what holds of the fields holds of the same fields
pub kept_as : {chained : Bool} (arena : Arena) (rs rs' : List Record) (links links' : List Links)
    (heads heads' places places' : List ℕ) (flags : List Bool) → rs' ≡ rs → links' ≡ links
    → heads' ≡ heads → places' ≡ places
    → HoldsNodes chained arena rs links heads places flags → HoldsNodes chained arena rs' links' heads' places' flags
kept_as {chained} arena rs rs' links links' heads heads' places places' flags a b c d k =
    subst (λ l. HoldsNodes chained arena l links' heads' places' flags) (sym a)
    (subst (λ l. HoldsNodes chained arena rs l heads' places' flags) (sym b)
    (subst (λ l. HoldsNodes chained arena rs links l places' flags) (sym c)
    (subst (λ l. HoldsNodes chained arena rs links heads l flags) (sym d) k)))

-- the same, by whether the chains stand
pub kept_in : {stand chained : Bool} {arena : Arena} {rs : List Record} {links : List Links} {heads places : List ℕ}
    {flags : List Bool} → stand ≡ chained → HoldsNodes chained arena rs links heads places flags
    → HoldsNodes stand arena rs links heads places flags
kept_in {arena = arena} {rs = rs} {links = links} {heads = heads} {places = places} {flags = flags} e k =
    subst (λ b. HoldsNodes b arena rs links heads places flags) (sym e) k

-- the four vectors after their slices were written back
pub kept_whole : {chained : Bool} (arena : Arena) (rs rs' : List Record) (links links' : List Links)
    (heads heads' places places' : List ℕ) (flags : List Bool) (a b c d : ℕ) → length rs ≡ a → length links ≡ b
    → length heads ≡ c → length places ≡ d → HoldsNodes chained arena rs links heads places flags
    → HoldsNodes chained arena (take a (rs ++ drop (length rs) rs')) (take b (links ++ drop (length links) links'))
    (take c (heads ++ drop (length heads) heads')) (take d (places ++ drop (length places) places')) flags
kept_whole arena rs rs' links links' heads heads' places places' flags a b c d ra lb hc pd k =
    kept_as arena rs _ links _ heads _ places _ flags (whole_slice rs rs' a ra) (whole_slice links links' b lb)
    (whole_slice heads heads' c hc) (whole_slice places places' d pd) k

-- what holds of all fields holds where nothing but the room of the vectors changed, and that of the links is no less
pub kept_roomier : {chained : Bool} (arena arena' : Arena) (rs rs' : List Record) (hashes hashes' : List ℕ)
    (links links' : List Links) (heads places : List ℕ) (flags flags' : List Bool) (n n' l l' p : ℕ)
    → arena' ≡ arena → rs' ≡ rs → hashes' ≡ hashes → links' ≡ links → flags' ≡ flags → n' ≡ n → l ≤ l'
    → HoldsNodes chained arena rs links heads places flags → AreHashed hashes (nodes_of arena rs)
    → HasRoomForLists n l p
    → HoldsNodes chained arena' rs' links' heads places flags' × AreHashed hashes' (nodes_of arena' rs')
    × HasRoomForLists n' l' p
kept_roomier {chained} arena arena' rs rs' hashes hashes' links links' heads places flags flags' n n' l l' p a b h e f
    size more k hashed room = (
      subst (λ x. HoldsNodes chained x rs' links' heads places flags') (sym a)
          (subst (λ x. HoldsNodes chained arena rs' links' heads places x) (sym f)
          (kept_as arena rs rs' links links' heads heads places places flags b e refl refl k)),
      subst (λ x. AreHashed hashes' (nodes_of x rs')) (sym a)
          (subst (λ x. AreHashed hashes' (nodes_of arena x)) (sym b)
          (subst (λ x. AreHashed x (nodes_of arena rs)) (sym h) hashed)),
      record { links_fit = omega (arith, size, more, room.links_fit); heads_fit = room.heads_fit },
    )
