-- What is collected so far: the codes with ranks and those in groups.
use Rattle.std.proofs.Common.{◌≡◌, ◌⊎◌, inl, inr, ℕ, ◌+◌, ◌==◌, true, false, take}
use Rattle.std.proofs.Common.{Some, None, [], slice_get, sym, ap, subst, if◌then◌else◌}
use Rattle.std.proofs.Common.{Result, Ok, Err}
use Rattle.std.specs.Prelude.{OnOk}
use Rattle.std.specs.List.{AllByRecursion}
use Rattle.std.specs.BTreeMap as tree
use Rattle.sd_model.specs.Diagram.{Diagram, Decomposition}
use Rattle.sd_vtree.specs.Numbered.{IsNumbered, numbers}
use Rattle.sd_laws.proofs.Products.{all_push}
use Rattle.sd_manager.specs.Table.{Table}
use Rattle.sd_manager.specs.Shown.{Shows, ShowsCanonical}
use Rattle.sd_manager.specs.declared.view.View.TheVariants.{Decomposition as DecompositionView}
use Rattle.sd_manager.specs.Views.{IsViewOf, pairs_at}
use Rattle.sd_file.specs.declared.known.Ordered.{Ordered}
use Rattle.sd_file.specs.declared.order.Found.{Found}
use Rattle.sd_file.specs.Ordered.{Rank, rank_of}
use Rattle.sd_file.specs.Ranks.{IsLeft, HasRankOrGroup, BothHaveRankOrGroup, KeepRankOrGroup}
use Rattle.sd_file.specs.Ranks.{AreCollected, KeepCollected, IsFoundAlso}
use Rattle.sd_file.specs.Ranks.{AreFound, FitsPlain, HasCollectedTo, IsNodeAt, was_seen, seen_at}
use Rattle.sd_file.proofs.Collecting.{plain_given}
use Rattle.sd_file.proofs.Literals.{same_position}
use Rattle.sd_file.proofs.Finding.{nothing}
use Rattle.sd_file.proofs.Grouping.{take_next}
use Rattle.sd_file.proofs.Standing.{given_keeps, given_has, stand_again, pairs_still}

-- the code stands, and so does what stood
pub record IsCollected (t : Table) (old new : Ordered) (f g : Found) (c : ℕ) : Type 0 where
  pub collected : AreCollected t new g
  pub keeps_all : KeepCollected old new f g
  pub stands : HasRankOrGroup new g.groups c

-- at the start there is nothing
pub nothing_collected : (t : Table) (o : Ordered) (f : Found) → ((c : ℕ) → rank_of o c ≡ None) →
    tree.IsEmpty f.groups → f.seen.items ≡ [] → AreCollected t o f
nothing_collected t o f ranks groups seen =
    record {
      plain = λ b r d is shows. absurd (cc (is, ranks b));
      found =
          record {
            each = λ p v e. absurd (cc (e, nothing f.groups groups p));
            seen = λ p v e. absurd (cc (e, nothing f.groups groups p));
            among = λ c s. let none : was_seen f c ≡ false = ap (λ l. seen_at l c) seen in absurd (cc (s, none));
          };
      closed = λ c l. absurd (cc (l.is, nothing f.groups groups l.position));
    }

-- a constant or a literal gets its rank
pub plain_collected : (t : Table) (old new : Ordered) (f : Found) (c : ℕ) (r : Rank) → AreCollected t old f →
    ((b : ℕ) → rank_of new b ≡ (if b == c then Some r else rank_of old b)) →
    ((d : Diagram) → Shows t c d → FitsPlain d r) → IsCollected t old new f f c
plain_collected t old new f c r h given fits =
    record {
      collected =
          record {
            plain = plain_given t old new c r h.plain given fits;
            found = h.found;
            closed = λ b left. pairs_still old new f.groups f.groups keeps_all (pairs_at t b) (h.closed b left);
          };
      keeps_all = keeps_all;
      stands = inl (given_has old new c r given);
    }
  where
    keeps_all : KeepRankOrGroup old new f.groups f.groups
    keeps_all = stand_again old new f.groups f.groups (given_keeps old new c r given) (λ b left. left)

-- a decomposition is found whose pairs stand
pub found_collected : (t : Table) (o : Ordered) (f g : Found) (c : ℕ) → AreCollected t o f → AreFound t g →
    IsFoundAlso f g c → AllByRecursion (BothHaveRankOrGroup o f.groups) (pairs_at t c) → IsCollected t o o f g c
found_collected t o f g c h found also stand =
    record {
      collected = record { plain = h.plain; found = found; closed = λ b left. closed b (also.only b left) };
      keeps_all = keeps_all;
      stands = inr also.here;
    }
  where
    keeps_all : KeepRankOrGroup o o f.groups g.groups
    keeps_all = stand_again o o f.groups g.groups (λ b s. s) also.kept

    closed : (b : ℕ) → (b ≡ c) ⊎ IsLeft f.groups b → AllByRecursion (BothHaveRankOrGroup o g.groups) (pairs_at t b)
    closed b (inl e) =
        subst (λ n. AllByRecursion (BothHaveRankOrGroup o g.groups) (pairs_at t n)) (sym e)
        (pairs_still o o f.groups g.groups keeps_all (pairs_at t c) stand)
    closed b (inr left) = pairs_still o o f.groups g.groups keeps_all (pairs_at t b) (h.closed b left)

-- a decomposition stands at the position of its place
pub at_place : (t : Table) → IsNumbered t.vtree → (c place n q : ℕ) (d : Diagram) → ShowsCanonical t c d →
    IsViewOf t (DecompositionView place n) d → slice_get (numbers t.vtree) q ≡ Some place → IsNodeAt t q c
at_place t v c place n q d shown w at =
    let same : w.0 ≡ q = same_position t.vtree v place w.0 q w.4 at in
    (w.1, subst (λ p. ShowsCanonical t c (Decomposition p w.1)) same (subst (ShowsCanonical t c) w.2 shown))

-- what follows from two clauses of a call that was well done
on_both : {T E A B C : Type 0} (r : Result T E) → (A → B → C) → OnOk r A → OnOk r B → OnOk r C
on_both (Ok x) f a b = f a b
on_both (Err e) f a b = tt

-- a decomposition is added whose pairs stand
pub added_collected : {T E : Type 0} (r : Result T E) (t : Table) (o : Ordered) (f g : Found) (p n c : ℕ) → n ≡ c →
    IsNodeAt t p c → AreCollected t o f → AllByRecursion (BothHaveRankOrGroup o f.groups) (pairs_at t c) →
    OnOk r ((t : Table) → AreFound t f → IsNodeAt t p n → AreFound t g) →
    OnOk r ((t : Table) → AreFound t f → IsFoundAlso f g n) → OnOk r (IsCollected t o o f g c)
added_collected r t o f g p n c same at h stand =
    on_both r (λ found also.
    found_collected t o f g c h (found t h.found (subst (IsNodeAt t p) (sym same) at))
    (subst (IsFoundAlso f g) same (also t h.found)) stand)

-- a code that was seen is found already
pub seen_also : (t : Table) (f : Found) (c : ℕ) → AreFound t f → was_seen f c ≡ true → IsFoundAlso f f c
seen_also t f c h seen = record { here = h.among c seen; kept = λ b left. left; only = λ b left. inr left }

-- one pair more
pub collected_more : (t : Table) (o p q r : Ordered) (f g h k : Found) (c i : ℕ) (e : ℕ × ℕ) →
    HasCollectedTo t o p f g c i → slice_get (pairs_at t c) i ≡ Some e → KeepCollected p q g h →
    HasRankOrGroup q h.groups e.0 → AreCollected t r k → KeepCollected q r h k → HasRankOrGroup r k.groups e.1 →
    HasCollectedTo t o r f k c (i + 1)
collected_more t o p q r f g h k c i e so_far at first prime collected second sub =
    record {
      collected = collected;
      keeps_all = λ b s. second b (first b (so_far.keeps_all b s));
      stand =
          subst (AllByRecursion (BothHaveRankOrGroup r k.groups)) (sym (take_next (pairs_at t c) i e at))
          (all_push (BothHaveRankOrGroup r k.groups) (take i (pairs_at t c)) e
          (pairs_still p r g.groups k.groups (λ b s. second b (first b s)) (take i (pairs_at t c)) so_far.stand)
          (second e.0 prime, sub));
    }
