-- The lines of a script as commands of a run.
use Rattle.std.proofs.Common.{◌≡◌, ℕ, zero, suc, ◌+◌, ◌<◌, ◌≤◌, not, List, [], ◌∷◌, ◌++◌, length, fold}
use Rattle.std.proofs.Common.{take, drop, filter, get_or, Option, Some, None, Result, refl, sym, ap, subst, ◌∙◌}
use Rattle.std.proofs.Common.{arith, length-append}
use Rattle.std.specs.Prelude.{slice_get, slice_index_or, nat_le}
use Rattle.std.specs.List.{list_all, list_any}
use Rattle.std.proofs.lemmas.Bool.{and_parts}
use Rattle.std.proofs.lemmas.List.{take_more}
use Rattle.std.proofs.Math.Seq.{drop-cons}
use Rattle.sd_base.specs.Asked.{Request}
use Rattle.sd_base.specs.Files.{Files}
use Rattle.sd_script.specs.Commands as lines
use Rattle.sd_script.specs.Read.{IsScript, IsAllowed}
use Rattle.sd_script.specs.Scripts.{Script}
use Rattle.sd_script.specs.declared.command.Action.{Action}
use Rattle.sd_script.specs.declared.command.Action.TheVariants as actions
use Rattle.sd_script.specs.declared.command.Command.{Command as Line}
use Rattle.sd_commands.specs.Fits.{Fits, AllFit, frees, has, bound_after}
use Rattle.sd_commands.specs.declared.command.NumberedCommand.{NumberedCommand}
use Rattle.sd_commands.specs.declared.command.RunCommand.{RunCommand}
use Rattle.sd_commands.specs.declared.command.RunCommand.TheVariants as commands
use Rattle.sd_tool.specs.Actions.{plain_of, bound_by, IsCommandOf, AreCommandsOf}
use Rattle.sd_file.specs.Reads.{File, sdd_file}
use Rattle.sd_tool.specs.Readings.{Point, reads, with_action, with_lines, file_name}
use Rattle.sd_tool.specs.inside.Readings.{in_line}
use Rattle.sd_tool.specs.inside.Asks.{ComesTo}
use Rattle.sd_tool.specs.Stops.{LeadsTo}
use Rattle.sd_tool.specs.declared.stop.Stop.{Stop}
use Rattle.sd_tool.proofs.AskLemmas.{Joins, comes_same}
use Rattle.sd_tool.proofs.ReadingLemmas.{leads_on}

-- ---- one action

-- this holds of the command that is there
abbrev pub OfSome : (RunCommand → Type 0) → Option RunCommand → Type 0
OfSome holds None = Unit {0}
OfSome holds (Some command) = holds command

-- the command of an action without a file, and where the readings go
pub record IsPlain (v o : ℕ) (script : Script) (next : RunCommand → Point) (action : Action) (command : RunCommand)
    : Type 0 where
  pub same : IsCommandOf v o action command
  pub leads : with_action v script next action ≡ next command

plain : (v o : ℕ) (script : Script) (next : RunCommand → Point) (action : Action)
    → OfSome (IsPlain v o script next action) (plain_of action)
plain v o script next (actions.Input n) =
    record { same = record { uses = refl; binds = refl; frees = refl; in_range = λ h. refl }; leads = refl }
plain v o script next (actions.Output n index) =
    record { same = record { uses = refl; binds = refl; frees = refl; in_range = λ h. h }; leads = refl }
plain v o script next (actions.Lit n literal) =
    record { same = record { uses = refl; binds = refl; frees = refl; in_range = λ h. h }; leads = refl }
plain v o script next (actions.Constant n value) =
    record { same = record { uses = refl; binds = refl; frees = refl; in_range = λ h. h }; leads = refl }
plain v o script next (actions.Binary operation n a b) =
    record { same = record { uses = refl; binds = refl; frees = refl; in_range = λ h. h }; leads = refl }
plain v o script next (actions.Not n a) =
    record { same = record { uses = refl; binds = refl; frees = refl; in_range = λ h. h }; leads = refl }
plain v o script next (actions.Given n a literal) =
    record { same = record { uses = refl; binds = refl; frees = refl; in_range = λ h. h }; leads = refl }
plain v o script next (actions.Forget n a x) =
    record { same = record { uses = refl; binds = refl; frees = refl; in_range = λ h. h }; leads = refl }
plain v o script next (actions.Drop a) =
    record { same = record { uses = refl; binds = refl; frees = refl; in_range = λ h. h }; leads = refl }
plain v o script next (actions.Turn kind p) =
    record { same = record { uses = refl; binds = refl; frees = refl; in_range = λ h. refl }; leads = refl }
plain v o script next (actions.Minimise rounds) =
    record { same = record { uses = refl; binds = refl; frees = refl; in_range = λ h. refl }; leads = refl }
plain v o script next (actions.Limit limit) =
    record { same = record { uses = refl; binds = refl; frees = refl; in_range = λ h. refl }; leads = refl }
plain v o script next (actions.Same a b) =
    record { same = record { uses = refl; binds = refl; frees = refl; in_range = λ h. h }; leads = refl }
plain v o script next (actions.Size a) =
    record { same = record { uses = refl; binds = refl; frees = refl; in_range = λ h. h }; leads = refl }
plain v o script next (actions.Value a bits) =
    record { same = record { uses = refl; binds = refl; frees = refl; in_range = λ h. h }; leads = refl }
plain v o script next action = tt

-- the same of a command that was found
pub plain_found : (v o : ℕ) (script : Script) (next : RunCommand → Point) (action : Action) (command : RunCommand)
    → plain_of action ≡ Some command → IsPlain v o script next action command
plain_found v o script next action command is =
    subst (OfSome (IsPlain v o script next action)) is (plain v o script next action)

-- the name of a file that is there
pub file_named : (script : Script) (n : ℕ) (name : List ℕ) → slice_get script.files n ≡ Some name
    → file_name script n ≡ name
file_named script n name is = named script.files n is
  where
    named : (files : List (List ℕ)) (n : ℕ) → slice_get files n ≡ Some name → slice_index_or files n [] ≡ name
    named [] n is = cc
    named (f ∷ fs) zero is = let same : f ≡ name = cc in same
    named (f ∷ fs) (suc n) is = named fs n is

-- ---- lists with one more

fold_more : {A B : Type 0} (f : B → A → B) (b : B) (xs : List A) (x : A)
    → fold f b (xs ++ x ∷ []) ≡ f (fold f b xs) x
fold_more f b [] x = refl
fold_more f b (y ∷ ys) x = fold_more f (f b y) ys x

-- a command that fits behind the others
fit_more : (v o : ℕ) (names : List ℕ) (cs : List NumberedCommand) (c : NumberedCommand) → AllFit v o names cs
    → Fits v o (fold (λ ns d. bound_after ns d.command) names cs) c.command → AllFit v o names (cs ++ c ∷ [])
fit_more v o names [] c all fits = (fits, tt)
fit_more v o names (d ∷ ds) c all fits = (all.0, fit_more v o (bound_after names d.command) ds c all.1 fits)

-- the element of a loop stands at its index
found : {X : Type 0} (xs : List X) (i : ℕ) (x : X) → i < length xs → slice_get xs i ≡ Some (get_or xs i x)
found [] i x within = absurd (omega (arith, within))
found (y ∷ ys) zero x within = refl
found (y ∷ ys) (suc i) x within = found ys i x (omega arith)

-- ---- the loop over the lines

-- the loop is at this line
pub record IsNext (lines : List Line) (index : ℕ) (line : Line) : Type 0 where
  pub within : index < length lines
  pub is : line ≡ get_or lines index line

-- no line is done yet
pub becomes_first : (v o : ℕ) (lines : List Line) → AreCommandsOf v o lines 0 []
becomes_first v o lines = record { count = refl; names = refl; fit = tt }

-- the line can be done
pub next_allowed : (v o : ℕ) (script : Script) (index : ℕ) (line : Line) → IsScript v o script
    → IsNext script.commands index line → IsAllowed v o script (take index script.commands) line
next_allowed v o script index line is next =
    is.allowed index line (found script.commands index line next.within ∙ ap Some (sym next.is))

-- the lines up to the next, with it
taken : (xs : List Line) (index : ℕ) (line : Line) → IsNext xs index line
    → take (index + 1) xs ≡ take index xs ++ line ∷ []
taken xs index line next =
    take_more xs index line next.within ∙ ap (λ l. take index xs ++ l ∷ []) (sym next.is)

-- the names that are bound then
bound_same : (names others : List ℕ) (v o : ℕ) (line : Line) (c : RunCommand) → IsCommandOf v o line.action c → names ≡
    others
    → bound_after names c ≡ lines.bound_after others line
bound_same names others v o line c same is =
    ap (λ (b : List ℕ). b ++ filter (λ n. not (has (frees c) n)) names) same.binds
    ∙ ap (λ (f : List ℕ). lines.binds line.action ++ filter (λ n. not (has f n)) names) same.frees
    ∙ ap (λ (ns : List ℕ). lines.bound_after ns line) is

-- one more line became a command
pub becomes_next : (v o : ℕ) (script : Script) (index : ℕ) (done : List NumberedCommand) (line : Line) (c : RunCommand)
    → IsScript v o script → IsNext script.commands index line → IsCommandOf v o line.action c
    → AreCommandsOf v o script.commands index done
    → AreCommandsOf v o script.commands (index + 1) (done ++ in_line line c ∷ [])
becomes_next v o script index done line c is next same was =
    let allowed = next_allowed v o script index line is next in
    record {
      count = length-append done (in_line line c ∷ []) ∙ ap (λ n. n + 1) was.count;
      names = fold_more (λ ns d. bound_after ns d.command) [] done (in_line line c)
          ∙ bound_same (bound_by done) (lines.bound (take index script.commands)) v o line c same was.names
          ∙ sym (fold_more lines.bound_after [] (take index script.commands) line)
          ∙ ap lines.bound (sym (taken script.commands index line next));
      fit = fit_more v o [] done (in_line line c) was.fit (record {
        used_bound = ap (list_all (has (bound_by done))) same.uses
            ∙ ap (λ (ns : List ℕ). list_all (has ns) (lines.uses line.action)) was.names ∙ allowed.used_bound;
        free = ap (list_any (has (bound_by done))) same.binds
            ∙ ap (λ (ns : List ℕ). list_any (has ns) (lines.binds line.action)) was.names ∙ allowed.free;
        ranges = same.in_range allowed.ranges;
      });
    }

-- where the next line stands among those that are left
pub left_at : (xs : List Line) (index : ℕ) (line : Line) → IsNext xs index line
    → drop index xs ≡ line ∷ drop (index + 1) xs
left_at xs index line next =
    drop-cons xs index line next.within ∙ ap (λ l. l ∷ drop (suc index) xs) (sym next.is)
    ∙ ap (λ n. line ∷ drop n xs) (let e : suc index ≡ index + 1 = omega arith in e)

-- ---- the commands with a file

-- a load leads on where its file does
pub load_leads : (asks : List Request → Type 0) (told : Option Files) (v : ℕ) (script : Script) (action : Action)
    (n file : ℕ) (name : List ℕ)
    (result : Result File Stop) (before now : ℕ) → action ≡ actions.Load n file
    → slice_get script.files file ≡ Some name
    → ((next : File → Point) → LeadsTo asks told (reads 2 (sdd_file v) name next) next result before now)
    → (next : RunCommand → Point)
    → LeadsTo asks told (with_action v script next action) (λ read. next (commands.Load n read)) result before now
load_leads asks told v script action n file name result before now is there leads next =
    subst (λ a. LeadsTo asks told (with_action v script next a) (λ read. next (commands.Load n read)) result before now)
    (sym is)
    (subst (λ (f : List ℕ). LeadsTo asks told (reads 2 (sdd_file v) f (λ read. next (commands.Load n read)))
    (λ read. next (commands.Load n read)) result before now) (sym (file_named script file name there))
    (leads (λ read. next (commands.Load n read))))

-- a command that writes diagrams
pub write_leads : (asks : List Request → Type 0) (told : Option Files) (v : ℕ) (script : Script) (action : Action)
    (names : List ℕ) (file : ℕ) (name : List ℕ) (command : RunCommand) → action ≡ actions.Write names file
    → slice_get script.files file ≡ Some name → command ≡ commands.Write names name → asks []
    → (next : RunCommand → Point)
    → ComesTo asks told (with_action v script next action) (next command)
write_leads asks told v script action names file name command is there same none next =
    comes_same asks told _ _ none (ap (with_action v script next) is
    ∙ ap (λ (f : List ℕ). next (commands.Write names f)) (file_named script file name there) ∙ ap next (sym same))

-- the command of such an action
pub write_same : (v o : ℕ) (action : Action) (names : List ℕ) (file : ℕ) (name : List ℕ) (command : RunCommand)
    → action ≡ actions.Write names file → command ≡ commands.Write names name → IsCommandOf v o action command
write_same v o action names file name command is same =
    subst (IsCommandOf v o action) (sym same)
    (subst (λ a. IsCommandOf v o a (commands.Write names name)) (sym is) (record {
      uses = refl;
      binds = refl;
      frees = refl;
      in_range = λ h. (and_parts (nat_le 1 (length names)) (nat_le (length names) 1024) h).0;
    }))

-- a command that writes the vtree
pub vtree_leads : (asks : List Request → Type 0) (told : Option Files) (v : ℕ) (script : Script) (action : Action)
    (file : ℕ)
    (name copy : List ℕ) → action ≡ actions.Vtree file → slice_get script.files file ≡ Some name → copy ≡ name → asks []
    → (next : RunCommand → Point)
    → ComesTo asks told (with_action v script next action) (next (commands.WriteVtree copy))
vtree_leads asks told v script action file name copy is there same none next =
    comes_same asks told _ _ none (ap (with_action v script next) is
    ∙ ap (λ (f : List ℕ). next (commands.WriteVtree f)) (file_named script file name there ∙ sym same))

-- ---- the loop, as it leads on

-- the next line leads on where its command does
pub line_leads : {a b c : List Request → Type 0} (told now : Option Files) (v : ℕ) (script : Script) (index : ℕ)
    (line : Line) (done : List NumberedCommand) (begin : List NumberedCommand → Point)
    (result : Result RunCommand Stop)
    (first before last : ℕ)
    → Joins a b c → IsNext script.commands index line → now ≡ told → first ≤ before
    → ComesTo a told (with_lines v script begin [] script.commands)
    (with_lines v script begin done (drop index script.commands))
    → ((next : RunCommand → Point) → LeadsTo b now (with_action v script next line.action) next result before last)
    → LeadsTo c told (with_lines v script begin [] script.commands)
    (λ c. with_lines v script begin (done ++ in_line line c ∷ []) (drop (index + 1) script.commands)) result first last
line_leads {a = a} told now v script index line done begin result first before last join at same later p leads =
    let reading = with_lines v script begin [] script.commands in
    let rest = drop (index + 1) script.commands in
    let next : RunCommand → Point = λ c. with_lines v script begin (done ++ in_line line c ∷ []) rest in
    leads_on told now reading (with_lines v script begin done (line ∷ rest)) next result first before last join same
    later
    (subst (λ (ls : List Line). ComesTo a told reading (with_lines v script begin done ls))
    (left_at script.commands index line at) p) (leads next)
