-- The readings of a run, one after another.
use Rattle.std.proofs.Common.{◌≡◌, ◌⊎◌, ℕ, ◌≤◌, List, [], ◌∷◌, ◌++◌, length, Option, Some, None, Result, Ok, Err}
use Rattle.std.proofs.Common.{MatchResult}
use Rattle.std.proofs.Common.{inl, inr, refl, sym, ap, subst, arith}
use Rattle.sd_base.specs.Asked.{Request, ToRead}
use Rattle.sd_base.specs.Faults.{Rose}
use Rattle.sd_base.specs.Files.{Files, HasBytes, HasLonger, Lacks}
use Rattle.sd_base.specs.Shelf.{Hand, Reading}
use Rattle.std.specs.Prelude.{codes, IsErrAnd}
use Rattle.std.proofs.lemmas.Result.{err_from_is_err_and}
use Rattle.sd_tool.specs.Readings.{Point, Refuses, Reads, Stands, IsText}
use Rattle.sd_tool.specs.inside.Course.{ReadsTo}
use Rattle.sd_tool.specs.inside.Readings.{Text}
use Rattle.sd_tool.specs.inside.Asks.{ComesTo}
use Rattle.sd_tool.specs.Stops.{StopsReading, LeadsTo, IsLongStop, GivesText, stop_status}
use Rattle.sd_tool.specs.Theorem.{HasFinished}
use Rattle.sd_tool.proofs.AskLemmas.{Joins, comes_on, last_on, breaks_on, last_here, comes_same, breaks_here}
use Rattle.sd_tool.specs.declared.stop.Stop.{Stop}
use Rattle.sd_tool.specs.declared.stop.Stop.TheVariants.{Refused, ReadFault, WriteFault, OutputFault, OutOfMemory}
use Rattle.sd_tool.specs.declared.stop.Stop.TheVariants.{ArenaFull, OverLimit, NotMovable}

-- what was read of a told file is its text
pub is_text : (told : Option Files) (file bytes : List ℕ) → HasBytes told file bytes → length bytes ≤ 67108864
    → IsText told file (Some bytes)
is_text None file bytes has short = tt
is_text (Some files) file bytes has short = (has, short)

-- a told file that is longer is too long
pub is_long : (told : Option Files) (file : List ℕ) → HasLonger told file 67108864 → IsText told file None
is_long None file longer = tt
is_long (Some files) file longer = longer

-- readings are where they are
pub reads_here : (told : Option Files) (reading : Point) → ReadsTo told reading reading
reads_here told (Refuses answer) = refl
reads_here told (Stands input state left) = refl
reads_here told (Reads file next) = inl refl

-- where the readings have come to a point, they go on from there
pub reads_on : (told : Option Files) (reading mid point : Point) → ReadsTo told reading mid → ReadsTo told mid point
    → ReadsTo told reading point
reads_on told (Refuses answer) mid point a b = subst (λ r. ReadsTo told r point) a b
reads_on told (Stands input state left) mid point a b = subst (λ r. ReadsTo told r point) a b
reads_on told (Reads file next) mid point (inl a) b = subst (λ r. ReadsTo told r point) a b
reads_on told (Reads file next) mid point (inr a) b = inr (a.0, a.1, reads_on told (next a.0) mid point a.2 b)

-- a reading that is a point has come to it
pub reads_same : (told : Option Files) (reading point : Point) → reading ≡ point → ReadsTo told reading point
reads_same told reading point is = subst (λ r. ReadsTo told reading r) is (reads_here told reading)

-- a stop at a point of the readings, with counts that have not fallen since, is a stop of all of them
pub stops_on : {a b c : List Request → Type 0} (stop : Stop) (told : Option Files) (reading mid : Point)
    (first before now : ℕ) → Joins a b c → ComesTo a told reading mid
    → first ≤ before → StopsReading b stop told mid before now → StopsReading c stop told reading first now
stops_on (Refused refusal) told reading mid first before now join a later b = comes_on told reading mid _ join a b
stops_on (ReadFault file) told reading mid first before now join a later (asks, inl lacks) =
    (last_on told reading mid file join a asks, inl lacks)
stops_on (ReadFault file) told reading mid first before now join a later (asks, inr rose) =
    (last_on told reading mid file join a asks, inr (omega arith))
stops_on (WriteFault file) told reading mid first before now join a later b = absurd b
stops_on OutputFault told reading mid first before now join a later b = absurd b
stops_on OutOfMemory told reading mid first before now join a later b = breaks_on told reading mid join a b
stops_on (ArenaFull n) told reading mid first before now join a later b = absurd b
stops_on (OverLimit l g n k) told reading mid first before now join a later b = absurd b
stops_on (NotMovable l) told reading mid first before now join a later b = absurd b

-- a stop with what is asked in it, said otherwise
pub stops_with : {a c : List Request → Type 0} (stop : Stop) (told : Option Files) (reading : Point) (before now : ℕ)
    → ((xs : List Request) → a xs → c xs) → StopsReading a stop told reading before now
    → StopsReading c stop told reading before now
stops_with (Refused refusal) told reading before now said p =
    record { names = p.names; asked = said _ p.asked; reads = p.reads }
stops_with (ReadFault file) told reading before now said p =
    ((p.0.0, record { names = p.0.1.names; asked = said _ p.0.1.asked; reads = p.0.1.reads }), p.1)
stops_with (WriteFault file) told reading before now said p = absurd p
stops_with OutputFault told reading before now said p = absurd p
stops_with OutOfMemory told reading before now said (inl p) =
    inl (p.0, record { names = p.1.names; asked = said _ p.1.asked; reads = p.1.reads })
stops_with OutOfMemory told reading before now said (inr p) =
    inr (p.0, (p.1.0, record { names = p.1.1.names; asked = said _ p.1.1.asked; reads = p.1.1.reads }))
stops_with (ArenaFull n) told reading before now said p = absurd p
stops_with (OverLimit l g n k) told reading before now said p = absurd p
stops_with (NotMovable l) told reading before now said p = absurd p

-- a read fault at the file that is asked for
pub stops_at_file : (asks : List Request → Type 0) (told : Option Files) (file name : List ℕ) (next : Text → Point)
    (before now : ℕ) → asks (ToRead file ∷ []) → name ≡ file → Lacks told file ⊎ Rose before now
    → StopsReading asks (ReadFault name) told (Reads file next) before now
stops_at_file asks told file name next before now asked same cause = (
  last_here asks told file name next same asked,
  subst (λ (n : List ℕ). Lacks told n ⊎ Rose before now) (sym same) cause,
)

-- a step that follows a point follows all that led there
pub leads_on : {A : Type 0} {a b c : List Request → Type 0} (told now : Option Files) (reading mid : Point)
    (next : A → Point) (result : Result A Stop) (first before last : ℕ) → Joins a b c → now ≡ told → first ≤ before
    → ComesTo a told reading mid → LeadsTo b now mid next result before last
    → LeadsTo c told reading next result first last
leads_on {b = b} told now reading mid next (Ok x) first before last join same later p q =
    comes_on told reading mid (next x) join p (subst (λ t. ComesTo b t mid (next x)) same q)
leads_on {b = b} told now reading mid next (Err stop) first before last join same later p q =
    stops_on stop told reading mid first before last join p later
    (subst (λ t. StopsReading b stop t mid before last) same q)

-- the stop at a file that is too long
pub long_leads : (asks : List Request → Type 0) (told : Option Files) (reading : Point) (status : ℕ) (file : List ℕ)
    (stop : Stop) (before now : ℕ) → ComesTo asks told reading (Refuses (status, file ++ codes ": too long"))
    → IsLongStop status file stop
    → StopsReading asks stop told reading before now
long_leads asks told reading status file (Refused found) before now a is =
    subst (λ (r : ℕ × List ℕ). ComesTo asks told reading (Refuses r)) (sym is.0) a
long_leads asks told reading status file (ReadFault name) before now a is = absurd is
long_leads asks told reading status file (WriteFault name) before now a is = absurd is
long_leads asks told reading status file OutputFault before now a is = absurd is
long_leads asks told reading status file OutOfMemory before now a is =
    inl (Refuses (status, file ++ codes ": too long"), a)
long_leads asks told reading status file (ArenaFull n) before now a is = absurd is
long_leads asks told reading status file (OverLimit l g n k) before now a is = absurd is
long_leads asks told reading status file (NotMovable l) before now a is = absurd is

-- the shelf may tell of it then
pub long_finished : (status : ℕ) (file : List ℕ) (stop : Stop) (old new : Hand) → IsLongStop status file stop
    → (new ≡ old) ⊎ (new ≡ Reading file 67108865) → HasFinished (stop_status stop) old new
long_finished status file (Refused refusal) old new is (inl same) = λ low. inl same
long_finished status file (Refused refusal) old new is (inr told) = λ low.
    inr (subst (λ (n : ℕ). (n ≡ 2) ⊎ (n ≡ 3)) (sym (ap (λ (r : ℕ × List ℕ). r.0) is.0)) is.1, file, told)
long_finished status file (ReadFault name) old new is left = absurd is
long_finished status file (WriteFault name) old new is left = absurd is
long_finished status file OutputFault old new is left = absurd is
long_finished status file OutOfMemory old new is left = λ low. absurd (omega (arith, low))
long_finished status file (ArenaFull n) old new is left = absurd is
long_finished status file (OverLimit l g n k) old new is left = absurd is
long_finished status file (NotMovable l) old new is left = absurd is

-- what a text gives leads on, and its fault is where the readings stop
pub text_leads : {X Y : Type 0} (asks : List Request → Type 0) (told : Option Files) (reading : Point)
    (after : Result Y (List ℕ) → Point) (view : X → Y) (status : ℕ) (file : List ℕ) (parsed : Result Y (List ℕ))
    (result : Result X Stop) (before now : ℕ)
    → ((text : List ℕ) → after (Err text) ≡ Refuses (status, file ++ text))
    → ComesTo asks told reading (after parsed) → GivesText view status file parsed result
    → LeadsTo asks told reading (λ x. after (Ok (view x))) result before now
text_leads asks told reading after view status file parsed (Ok x) before now refused a is =
    subst (λ r. ComesTo asks told reading (after r)) is a
text_leads asks told reading after view status file parsed (Err (Refused refusal)) before now refused a
    (text, is, answer) =
    subst (λ (r : ℕ × List ℕ). ComesTo asks told reading (Refuses r)) (sym answer)
    (subst (λ r. ComesTo asks told reading r) (refused text) (subst (λ r. ComesTo asks told reading (after r)) is a))
text_leads asks told reading after view status file parsed (Err (ReadFault name)) before now refused a is = absurd is
text_leads asks told reading after view status file parsed (Err (WriteFault name)) before now refused a is = absurd is
text_leads asks told reading after view status file parsed (Err OutputFault) before now refused a is = absurd is
text_leads asks told reading after view status file parsed (Err OutOfMemory) before now refused a is =
    inl (after parsed, a)
text_leads asks told reading after view status file parsed (Err (ArenaFull n)) before now refused a is = absurd is
text_leads asks told reading after view status file parsed (Err (OverLimit l g n k)) before now refused a is = absurd is
text_leads asks told reading after view status file parsed (Err (NotMovable l)) before now refused a is = absurd is

-- ---- the text of a file, as the code has it

-- the bytes that were read
pub text_given : (asks : List Request → Type 0) (told : Option Files) (file : List ℕ) (next : Text → Point)
    (field : Option (List ℕ)) (bytes slice : List ℕ) → field ≡ Some bytes → slice ≡ bytes
    → ComesTo asks told (Reads file next) (next field)
    → ComesTo asks told (Reads file next) (next (Some slice))
text_given asks told file next field bytes slice is same a =
    subst (λ (b : List ℕ). ComesTo asks told (Reads file next) (next (Some b))) (sym same)
    (subst (λ f. ComesTo asks told (Reads file next) (next f)) is a)

-- none, where the file is too long
pub text_lacking : (asks : List Request → Type 0) (told : Option Files) (file : List ℕ) (next : Text → Point)
    (field : Option (List ℕ)) → field ≡ None → ComesTo asks told (Reads file next) (next field)
    → ComesTo asks told (Reads file next) (next None)
text_lacking asks told file next field is a =
    subst (λ f. ComesTo asks told (Reads file next) (next f)) is a

-- ---- the readings of words

-- where a word is told otherwise, the readings are the same
pub leads_same : {A : Type 0} (asks : List Request → Type 0) (told : Option Files) (reading other : Point)
    (next after : A → Point) (result : Result A Stop) (before now : ℕ) → reading ≡ other
    → ((x : A) → next x ≡ after x) → LeadsTo asks told other next result before now
    → LeadsTo asks told reading after result before now
leads_same asks told reading other next after (Ok x) before now is same a =
    subst (λ p. ComesTo asks told reading p) (same x) (subst (λ r. ComesTo asks told r (next x)) (sym is) a)
leads_same asks told reading other next after (Err stop) before now is same a =
    subst (λ r. StopsReading asks stop told r before now) (sym is) a

-- what is there without a file leads on, and want of memory stops
pub made_leads : {A : Type 0} (asks : List Request → Type 0) (told : Option Files) (reading : Point) (next : A → Point)
    (result : Result A Stop) (before now : ℕ) → asks []
    → MatchResult result (λ x. reading ≡ next x) (λ stop. stop ≡ OutOfMemory)
    → LeadsTo asks told reading next result before now
made_leads asks told reading next (Ok x) before now none is = comes_same asks told reading (next x) none is
made_leads asks told reading next (Err stop) before now none is =
    subst (λ s. StopsReading asks s told reading before now) (sym is) (breaks_here asks told reading none)

-- a stop that is handed on
pub handed_on : {A : Type 0} (asks : List Request → Type 0) (told : Option Files) (reading : Point) (next : A → Point)
    (result : Result A Stop) (stop : Stop) (before now : ℕ) → IsErrAnd result (λ e. e ≡ stop)
    → StopsReading asks stop told reading before now → LeadsTo asks told reading next result before now
handed_on asks told reading next result stop before now is a =
    let p = err_from_is_err_and result is in
    subst (λ r. LeadsTo asks told reading next r before now) (sym p.1)
    (subst (λ s. StopsReading asks s told reading before now) (sym p.2) a)
