-- What the steps of one decomposition tell: its elements by their codes, its primes, its subs and its own node.
use Rattle.std.proofs.Common.{◌≡◌, ℕ, ◌<◌, Bool, true, false, List, length, map, slice_get}
use Rattle.std.proofs.Common.{Option, Some, None, refl, sym, ◌∙◌, subst, arith}
use Rattle.std.proofs.lemmas.Option.{same_Some, slice_get-get_or}
use Rattle.sd_model.specs.Tree.{AreDistinct}
use Rattle.sd_model.specs.Diagram.{Diagram}
use Rattle.sd_vtree.specs.Numbered.{numbers, plain_tree}
use Rattle.sd_laws.proofs.Numbers.{length_numbers}
use Rattle.sd_manager.specs.Making.{Extends, IsMade}
use Rattle.sd_manager.specs.Shown.{IsPartitionAt}
use Rattle.sd_manager.specs.Table.{Table}
use Rattle.sd_manager.specs.Valid.{IsTable}
use Rattle.sd_file.specs.Files.{IsFile, entry_pairs}
use Rattle.sd_file.specs.Reads.{File}
use Rattle.std.specs.List.{list_all}
use Rattle.sd_check.specs.declared.rules.Rule.{Rule}
use Rattle.sd_check.specs.declared.rules.Rule.TheVariants.{Vtree}
use Rattle.sd_check.specs.Judging.{TellsNode, TellsTwins, IsFormed, built_pair}
use Rattle.sd_check.specs.Rules.{Places, Inner, inner_named, node_at, is_constant_node, primes_true}
use Rattle.sd_check.specs.Unions.{AreNodes, CountsTo, TellsPrimes}
use Rattle.sd_check.proofs.FormLaws.{named_middle}
use Rattle.sd_check.proofs.Judged.{formed_diagrams, primes_nodes, primes_count}
use Rattle.sd_check.proofs.Judged.{all_hold, ready, ready_partition, ready_sound}

-- what the elements of a node behind those that are built are, by their codes
pub record HasCodes (f : File) (i : ℕ) (built : List ℕ) (codes : List (ℕ × ℕ)) : Type 0 where
  pub file : IsFile f
  pub below : i < length f.nodes
  pub all : length built ≡ i
  pub codes_are : codes ≡ map (built_pair built) (entry_pairs f i)

-- how many primes are true
abbrev count_of : File → ℕ → List Bool → ℕ
count_of f i = λ a. primes_true f a (entry_pairs f i)

-- the primes are nodes
pub formed_nodes : (t : Table) (f : File) (i : ℕ) (built : List ℕ) (middle : ℕ) (codes : List (ℕ × ℕ)) →
    HasCodes f i built codes → ((ids : Places) × IsFormed t ids f i built middle) → AreNodes t (map (λ e. e.0) codes)
formed_nodes t f i built middle codes k h =
    let d = formed_diagrams t h.0 f i built middle k.file k.below k.all h.1 in
    subst (λ (l : List (ℕ × ℕ)). AreNodes t (map (λ e. e.0) l)) (sym k.codes_are)
    (primes_nodes t (map (built_pair built) (entry_pairs f i)) d.diagrams d.shown)

-- what is told of them is told of the file's
pub formed_primes : (t : Table) (ids : Places) (f : File) (i : ℕ) (built : List ℕ) (middle : ℕ) (codes : List (ℕ × ℕ))
    (r q : Option Rule) → HasCodes f i built codes → IsFormed t ids f i built middle →
    ((n : List Bool → ℕ) → CountsTo t n (map (λ e. e.0) codes) → TellsPrimes n r) → r ≡ q →
    TellsPrimes (count_of f i) q
formed_primes t ids f i built middle codes r q k h tells is =
    let d = formed_diagrams t ids f i built middle k.file k.below k.all h in
    subst (TellsPrimes (count_of f i)) is
    (tells (count_of f i) (subst (λ (l : List (ℕ × ℕ)). CountsTo t (count_of f i) (map (λ e. e.0) l))
    (sym k.codes_are) (primes_count t ids f built (entry_pairs f i) d)))

-- the subs have twins
pub formed_twins : (f : File) (i : ℕ) (built : List ℕ) (codes : List (ℕ × ℕ)) (b : Bool) → HasCodes f i built codes →
    TellsTwins b (map (λ e. e.1) codes) → b ≡ true →
    AreDistinct (map (λ e. e.1) (map (built_pair built) (entry_pairs f i))) → ⊥
formed_twins f i built codes b k tells is =
    subst (λ (l : List (ℕ × ℕ)). TellsTwins true (map (λ e. e.1) l)) k.codes_are
    (subst (λ c. TellsTwins c (map (λ e. e.1) codes)) is tells)

-- or none
pub formed_differ : (f : File) (i : ℕ) (built : List ℕ) (codes : List (ℕ × ℕ)) (b : Bool) → HasCodes f i built codes →
    TellsTwins b (map (λ e. e.1) codes) → b ≡ false →
    AreDistinct (map (λ e. e.1) (map (built_pair built) (entry_pairs f i)))
formed_differ f i built codes b k tells is =
    subst (λ (l : List (ℕ × ℕ)). TellsTwins false (map (λ e. e.1) l)) k.codes_are
    (subst (λ c. TellsTwins c (map (λ e. e.1) codes)) is tells)

-- the position of a formed node is one of the vtree's
pub formed_within : (t : Table) (ids : Places) (f : File) (i : ℕ) (built : List ℕ) (middle : ℕ) →
    IsFormed t ids f i built middle → middle < length (numbers t.vtree)
formed_within t ids f i built middle h = go (inner_named (plain_tree t.vtree) ids h.vtree) refl
  where
    go : (o : Option Inner) → inner_named (plain_tree t.vtree) ids h.vtree ≡ o → middle < length (numbers t.vtree)
    go None e = absurd (h.forms.each Vtree (omega arith) e)
    go (Some inner) e =
        let r = named_middle (plain_tree t.vtree) ids h.vtree inner e in
        let same : middle ≡ inner.middle = same_Some middle inner.middle (sym h.has ∙ r.0) in
        omega (arith, same, r.1, length_numbers t.vtree)

-- so something stands there
pub formed_there : (t : Table) (ids : Places) (f : File) (i : ℕ) (built : List ℕ) (middle : ℕ) →
    IsFormed t ids f i built middle → slice_get (numbers t.vtree) middle ≡ None → ⊥
formed_there t ids f i built middle h e =
    absurd (cc (slice_get-get_or (numbers t.vtree) middle 0 (formed_within t ids f i built middle h), e))

-- What the steps before the node is made tell: of the primes, of the subs, and that one of these is no constant.
pub record PassesAll (t : Table) (f : File) (i : ℕ) (built : List ℕ) (codes : List (ℕ × ℕ)) : Type 0 where
  pub table : IsTable t
  pub has : HasCodes f i built codes
  pub differ : AreDistinct (map (λ e. e.1) (map (built_pair built) (entry_pairs f i)))
  pub trim : list_all (λ e. is_constant_node (node_at f e.1)) (entry_pairs f i) ≡ false

-- the elements are a partition
pub formed_partition : (t : Table) (ids : Places) (f : File) (i : ℕ) (built : List ℕ) (middle place : ℕ)
    (codes : List (ℕ × ℕ)) → PassesAll t f i built codes → IsFormed t ids f i built middle →
    TellsPrimes (count_of f i) None → slice_get (numbers t.vtree) middle ≡ Some place →
    (ds : List (Diagram × Diagram)) × IsPartitionAt t place codes ds
formed_partition t ids f i built middle place codes p h primes number =
    let hold = all_hold t ids f i built middle p.table p.has.file p.has.below p.has.all h primes p.differ p.trim in
    let r = ready t ids f i built middle p.has.file p.has.below p.has.all h hold in (
      r.diagrams.diagrams,
      subst (λ (l : List (ℕ × ℕ)). IsPartitionAt t place l r.diagrams.diagrams) (sym p.has.codes_are)
          (ready_partition t ids f i built middle place h r number),
    )

-- and the node that is made of them stands for the file's
pub formed_found : (t new : Table) (ids : Places) (f : File) (i : ℕ) (built : List ℕ) (middle place c : ℕ)
    (codes : List (ℕ × ℕ)) → PassesAll t f i built codes → IsFormed t ids f i built middle →
    TellsPrimes (count_of f i) None → slice_get (numbers t.vtree) middle ≡ Some place → Extends t new →
    ((ds : List (Diagram × Diagram)) → IsPartitionAt t place codes ds → IsMade new c ds) →
    TellsNode new ids f i (Rattle.std.specs.Prelude.Ok c)
formed_found t new ids f i built middle place c codes p h primes number x made =
    let hold = all_hold t ids f i built middle p.table p.has.file p.has.below p.has.all h primes p.differ p.trim in
    let r = ready t ids f i built middle p.has.file p.has.below p.has.all h hold in
    ready_sound t new ids f i built middle c h r p.table p.has.file p.has.below x
    (made r.diagrams.diagrams
    (subst (λ (l : List (ℕ × ℕ)). IsPartitionAt t place l r.diagrams.diagrams) (sym p.has.codes_are)
    (ready_partition t ids f i built middle place h r number)))
