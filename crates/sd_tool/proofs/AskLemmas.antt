-- What readings ask for, one after another.
use Rattle.std.proofs.Common.{◌≡◌, ℕ, List, [], ◌∷◌, ◌++◌, Option}
use Rattle.std.proofs.Common.{inl, inr, refl, sym, ap, subst, append_assoc}
use Rattle.std.proofs.lemmas.List.{append-nil, map-append}
use Rattle.sd_base.specs.Asked.{Request, ToRead, Adds}
use Rattle.sd_base.specs.Files.{Files}
use Rattle.sd_base.proofs.AskedLemmas.{adds_then, adds_none}
use Rattle.sd_manager.specs.Table.{Table}
use Rattle.sd_commands.specs.Effects.{Effect}
use Rattle.sd_tool.specs.inside.Asks.{IsNone, ReadsBy, MayComeTo, ComesTo, AsksLast, BreaksOff, EndsAsking, GoesTo}
use Rattle.sd_tool.specs.Ends.{End, Finished, Refused, Unreadable, Unwritable, OutOfMemory, ArenaFull, OverLimit}
use Rattle.sd_tool.specs.Ends.{NotMovable}
use Rattle.sd_tool.specs.Readings.{Point, Refuses, Reads, Stands, IsText, reading_of}
use Rattle.sd_tool.specs.inside.Plans.{point_of}
use Rattle.sd_tool.specs.inside.Readings.{Text}
use Rattle.sd_tool.specs.inside.Course.{ReadsTo, EndsReading, MayEnd}

-- what is asked in two parts of a time, one after another, is asked in the whole
pub record Joins (first later whole : List Request → Type 0) : Type 0 where
  pub meets : (xs ys : List Request) → first xs → later ys → whole (xs ++ ys)

-- two parts of the time of a shelf
pub joined : {F : Type 0} (asked : F → List Request → Type 0) (old mid new : F)
    → Joins (Adds asked old mid) (Adds asked mid new) (Adds asked old new)
joined asked old mid new = record { meets = λ xs ys a b. adds_then asked old mid new xs ys a b }

-- a first part in which nothing is asked
pub joined_first : (asks : List Request → Type 0) → Joins IsNone asks asks
joined_first asks = record { meets = λ xs ys none b. subst (λ l. asks (l ++ ys)) (sym none) b }

-- a last part in which nothing is asked
pub joined_last : (asks : List Request → Type 0) → Joins asks IsNone asks
joined_last asks =
    record { meets = λ xs ys a none. subst (λ l. asks (xs ++ l)) (sym none) (subst asks (sym (append-nil xs)) a) }

-- in no time nothing is asked
pub asks_none : {F : Type 0} (asked : F → List Request → Type 0) (shelf : F) → Adds asked shelf shelf []
asks_none asked shelf = adds_none asked shelf shelf (λ before had. had)

-- names that are read in two parts are read in the whole
by_on : (files : Option Files) (reading mid point : Point) (xs ys : List (List ℕ)) → ReadsBy files reading xs mid
    → ReadsBy files mid ys point → ReadsBy files reading (xs ++ ys) point
by_on files reading mid point [] ys a b = subst (λ r. ReadsBy files r ys point) a b
by_on files (Refuses answer) mid point (x ∷ xs) ys a b = absurd a
by_on files (Stands input state left) mid point (x ∷ xs) ys a b = absurd a
by_on files (Reads file next) mid point (x ∷ xs) ys a b =
    (a.0, a.1, a.2, by_on files (next a.0) mid point xs ys a.3 b)

-- a point where the readings are, with nothing asked
pub comes_same : (asks : List Request → Type 0) (files : Option Files) (reading point : Point) → asks []
    → reading ≡ point → ComesTo asks files reading point
comes_same asks files reading point none is = record { names = []; asked = none; reads = sym is }

-- a file that is read goes on with its text
pub comes_text : (asks : List Request → Type 0) (files : Option Files) (file : List ℕ) (next : Text → Point)
    (text : Text) → asks (ToRead file ∷ []) → IsText files file text → ComesTo asks files (Reads file next) (next text)
comes_text asks files file next text asked is =
    record { names = file ∷ []; asked = asked; reads = (text, refl, is, refl) }

-- where the readings have come to a point, they go on from there
pub comes_on : {a b c : List Request → Type 0} (files : Option Files) (reading mid point : Point) → Joins a b c
    → ComesTo a files reading mid → ComesTo b files mid point → ComesTo c files reading point
comes_on {c = c} files reading mid point join p q = record {
  names = p.names ++ q.names;
  asked = subst c (sym (map-append ToRead p.names q.names)) (join.meets _ _ p.asked q.asked);
  reads = by_on files reading mid point p.names q.names p.reads q.reads;
}

-- so do the parts where further requests follow
joined_behind : {a b c : List Request → Type 0} → Joins a b c → (behind : List Request)
    → Joins a (λ earlier. b (earlier ++ behind)) (λ earlier. c (earlier ++ behind))
joined_behind {c = c} join behind = record {
  meets = λ xs ys p q. subst c (sym (append_assoc xs ys behind)) (join.meets xs (ys ++ behind) p q);
}

-- a last file after a point is the last of all
pub last_on : {a b c : List Request → Type 0} (files : Option Files) (reading mid : Point) (file : List ℕ)
    → Joins a b c → ComesTo a files reading mid → AsksLast b files mid file → AsksLast c files reading file
last_on files reading mid file join p q =
    (q.0, comes_on files reading mid (Reads file q.0) (joined_behind join (ToRead file ∷ [])) p q.1)

-- readings that break off after a point
pub breaks_on : {a b c : List Request → Type 0} (files : Option Files) (reading mid : Point) → Joins a b c
    → ComesTo a files reading mid → BreaksOff b files mid → BreaksOff c files reading
breaks_on files reading mid join p (inl q) = inl (q.0, comes_on files reading mid q.0 join p q.1)
breaks_on files reading mid join p (inr q) = inr (q.0, last_on files reading mid q.0 join p q.1)

-- readings that break off at their start
pub breaks_here : (asks : List Request → Type 0) (files : Option Files) (reading : Point) → asks []
    → BreaksOff asks files reading
breaks_here asks files reading none = inl (reading, comes_same asks files reading reading none refl)

-- the last file that is asked for, where the readings are
pub last_here : (asks : List Request → Type 0) (files : Option Files) (file name : List ℕ) (next : Text → Point)
    → name ≡ file → asks (ToRead file ∷ []) → AsksLast asks files (Reads file next) name
last_here asks files file name next same asked = (
  next,
  record {
    names = [];
    asked = subst (λ (n : List ℕ). asks (ToRead n ∷ [])) (sym same) asked;
    reads = ap (λ (n : List ℕ). Reads n next) same;
  },
)

-- readings that break off at their first file
pub breaks_at_file : (asks : List Request → Type 0) (files : Option Files) (file : List ℕ) (next : Text → Point)
    → asks (ToRead file ∷ []) → BreaksOff asks files (Reads file next)
breaks_at_file asks files file next asked = inr (file, last_here asks files file file next refl asked)

-- the point to which the readings come, without what they ask
pub by_reads_to : (files : Option Files) (reading point : Point) (names : List (List ℕ))
    → ReadsBy files reading names point → ReadsTo files reading point
by_reads_to files (Refuses answer) point [] a = a
by_reads_to files (Stands input state left) point [] a = a
by_reads_to files (Reads file next) point [] a = inl a
by_reads_to files (Refuses answer) point (x ∷ xs) a = absurd a
by_reads_to files (Stands input state left) point (x ∷ xs) a = absurd a
by_reads_to files (Reads file next) point (x ∷ xs) a = inr (a.0, a.2, by_reads_to files (next a.0) point xs a.3)

-- readings that come to a point have read some files on the way
pub reads_by : (files : Option Files) (reading point : Point) → ReadsTo files reading point
    → MayComeTo files reading point
reads_by files (Refuses answer) point a = ([], a)
reads_by files (Stands input state left) point a = ([], a)
reads_by files (Reads file next) point (inl a) = ([], a)
reads_by files (Reads file next) point (inr a) =
    let rest = reads_by files (next a.0) point a.2 in (file ∷ rest.0, (a.0, refl, a.1, rest.1))

pub comes_reads : {asks : List Request → Type 0} (files : Option Files) (reading point : Point)
    → ComesTo asks files reading point → ReadsTo files reading point
comes_reads files reading point p = by_reads_to files reading point p.names p.reads

-- so of a last file
pub last_reads : (asks : List Request → Type 0) (files : Option Files) (reading : Point) (file : List ℕ)
    → AsksLast asks files reading file → (next : _) × ReadsTo files reading (Reads file next)
last_reads asks files reading file p = (p.0, comes_reads files reading (Reads file p.0) p.1)

-- an end of the readings, without what they ask
ends_asking : (asks : List Request → Type 0) (files : Option Files) (reading : Point) (end : End)
    → EndsAsking asks files reading end → EndsReading files reading end
ends_asking asks files reading Finished p = absurd p
ends_asking asks files reading (Refused answer) p = comes_reads files reading (Refuses answer) p
ends_asking asks files reading (Unreadable file) p = last_reads asks files reading file p
ends_asking asks files reading (Unwritable effect) p = absurd p
ends_asking asks files reading OutOfMemory p = tt
ends_asking asks files reading (ArenaFull elements) p = absurd p
ends_asking asks files reading (OverLimit line group size limit) p = absurd p
ends_asking asks files reading (NotMovable line) p = absurd p

-- how a run goes, without what it asks
pub goes_may_end : (asks : List Request → Type 0) (words : List (List ℕ)) (files : Option Files)
    (effects : List Effect) (end : End) (kept : Option Table) → GoesTo asks words files effects end kept
    → MayEnd words files effects end
goes_may_end asks words files effects end kept (inl p) = inl (ends_asking asks files (reading_of words) end p.0, p.1)
goes_may_end asks words files effects end kept (inr p) =
    inr (p.0, comes_reads files (reading_of words) (point_of p.0) p.1, p.2)
