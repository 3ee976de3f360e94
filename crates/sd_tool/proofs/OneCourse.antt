-- Commands that are done lead to one state with the same effects, and come to one end by themselves: all are done, or
-- one is refused.
use Rattle.std.proofs.Common.{◌≡◌, ℕ, List, [], ◌∷◌, ◌++◌, refl, sym, ap, subst, ◌∙◌}
use Rattle.std.proofs.lemmas.List.{append-nil}
use Rattle.sd_model.specs.Tree.{IsVtree}
use Rattle.sd_formula.specs.Dimacs.{Groups}
use Rattle.sd_commands.specs.Effects.{Effect}
use Rattle.sd_commands.specs.Commands.{State, Outcome, Done, OverLimit as PassesLimit, NotMovable as Unmoved}
use Rattle.sd_commands.specs.Commands.{Step, Steps}
use Rattle.sd_commands.specs.declared.command.NumberedCommand.{NumberedCommand}
use Rattle.sd_commands.proofs.Outcomes.{one_outcome, valid_after}
use Rattle.sd_tool.specs.inside.Plans.{Plan}
use Rattle.sd_tool.specs.Ends.{End, Finished, Refused, Unreadable, Unwritable, OutOfMemory, ArenaFull, OverLimit}
use Rattle.sd_tool.specs.Ends.{NotMovable}
use Rattle.sd_tool.specs.inside.Course.{Reaches, IsAtCommand, EndsAmong, IsOwn}

-- commands leave a vtree
pub steps_valid : (input : Groups) (start last : State) (commands : List NumberedCommand) (effects : List Effect)
    → IsVtree start.tree → Steps input start commands effects last → IsVtree last.tree
steps_valid input start last [] effects valid p = subst (λ (s : State). IsVtree s.tree) (sym p.1) valid
steps_valid input start last (command ∷ commands) effects valid p =
    steps_valid input p.0 last commands p.2 (valid_after input start p.0 command.command p.1 valid p.3) p.4

-- commands that are all done lead to one state, with the same effects
one_course : (input : Groups) (start a b : State) (commands : List NumberedCommand) (es fs : List Effect)
    → IsVtree start.tree → Steps input start commands es a → Steps input start commands fs b → (a ≡ b) × (es ≡ fs)
one_course input start a b [] es fs valid p q = (p.1 ∙ sym q.1, p.0 ∙ sym q.0)
one_course input start a b (command ∷ commands) es fs valid p q =
    let e : Done p.0 p.1 ≡ Done q.0 q.1 = one_outcome input start command.command _ _ valid p.3 q.3 in
    let mid : p.0 ≡ q.0 = cc in
    let first : p.1 ≡ q.1 = cc in
    let rest = one_course input p.0 a b commands p.2 q.2
    (valid_after input start p.0 command.command p.1 valid p.3) p.4
    (subst (λ s. Steps input s commands q.2 b) (sym mid) q.4) in (
      rest.0,
      p.5 ∙ ap (λ (l : List Effect). l ++ p.2) first ∙ ap (λ (l : List Effect). q.1 ++ l) rest.1 ∙ sym q.5,
    )

-- ---- a command that is refused

-- the command is not done
abbrev IsRefusal : Outcome → Type 0
IsRefusal (Done state effects) = ⊥
IsRefusal outcome = Unit {0}

-- a command that is done is not refused
not_refused : {A : Type 0} (input : Groups) (state next : State) (command : NumberedCommand) (effects : List Effect)
    (r : Outcome) → IsRefusal r → IsVtree state.tree → Step input state command.command (Done next effects)
    → Step input state command.command r → A
not_refused input state next command effects r is valid done refused =
    absurd (subst IsRefusal (sym (one_outcome input state command.command _ _ valid done refused)) is)

-- commands that are all done hold none that is refused
none_refused : (input : Groups) (start last at : State) (done left : List NumberedCommand) (command : NumberedCommand)
    (all effects : List Effect) (r : Outcome) → IsRefusal r → IsVtree start.tree
    → Steps input start (done ++ command ∷ left) all last → Steps input start done effects at
    → Step input at command.command r → ⊥
none_refused input start last at [] left command all effects r is valid p q refused =
    not_refused input start p.0 command p.1 r is valid p.3
    (subst (λ s. Step input s command.command r) q.1 refused)
none_refused input start last at (first ∷ done) left command all effects r is valid p q refused =
    let e : Done p.0 p.1 ≡ Done q.0 q.1 = one_outcome input start first.command _ _ valid p.3 q.3 in
    let mid : p.0 ≡ q.0 = cc in
    none_refused input p.0 last at done left command p.2 q.2 r is
    (valid_after input start p.0 first.command p.1 valid p.3) p.4
    (subst (λ s. Steps input s done q.2 at) (sym mid) q.4) refused

-- the effects, the line and the outcome of a refusal
pub record IsSame (effects others : List Effect) (line line' : ℕ) (r s : Outcome) : Type 0 where
  pub effects_are : effects ≡ others
  pub line_is : line ≡ line'
  pub outcome_is : r ≡ s

-- there is one refusal
one_refusal : (input : Groups) (start a b : State) (xs ys ls ms : List NumberedCommand) (c d : NumberedCommand)
    (es fs : List Effect) (r s : Outcome) → IsRefusal r → IsRefusal s → IsVtree start.tree → xs ++ c ∷ ls ≡ ys ++ d ∷ ms
    → Steps input start xs es a → Steps input start ys fs b → Step input a c.command r
    → Step input b d.command s → IsSame es fs c.line d.line r s
one_refusal input start a b [] [] ls ms c d es fs r s no_r no_s valid same p q x y =
    let one : c ≡ d = cc in
    let x' = subst (λ z. Step input z c.command r) p.1 x in
    let y' = subst (λ z. Step input z d.command s) q.1 y in
    record {
      effects_are = p.0 ∙ sym q.0;
      line_is = ap (λ (z : NumberedCommand). z.line) one;
      outcome_is =
          one_outcome input start c.command _ _ valid x'
          (subst (λ (z : NumberedCommand). Step input start z.command s) (sym one) y');
    }
one_refusal input start a b [] (second ∷ ys) ls ms c d es fs r s no_r no_s valid same p q x y =
    let one : c ≡ second = cc in
    not_refused input start q.0 c q.1 r no_r valid
    (subst (λ (z : NumberedCommand). Step input start z.command (Done q.0 q.1)) (sym one) q.3)
    (subst (λ z. Step input z c.command r) p.1 x)
one_refusal input start a b (first ∷ xs) [] ls ms c d es fs r s no_r no_s valid same p q x y =
    let one : first ≡ d = cc in
    not_refused input start p.0 d p.1 s no_s valid
    (subst (λ (z : NumberedCommand). Step input start z.command (Done p.0 p.1)) one p.3)
    (subst (λ z. Step input z d.command s) q.1 y)
one_refusal input start a b (first ∷ xs) (second ∷ ys) ls ms c d es fs r s no_r no_s valid same p q x y =
    let one : first ≡ second = cc in
    let rest : xs ++ c ∷ ls ≡ ys ++ d ∷ ms = cc in
    let step = subst (λ (z : NumberedCommand). Step input start z.command (Done q.0 q.1)) (sym one) q.3 in
    let e : Done p.0 p.1 ≡ Done q.0 q.1 = one_outcome input start first.command _ _ valid p.3 step in
    let mid : p.0 ≡ q.0 = cc in
    let here : p.1 ≡ q.1 = cc in
    let later = one_refusal input p.0 a b xs ys ls ms c d p.2 q.2 r s no_r no_s
    (valid_after input start p.0 first.command p.1 valid p.3) rest p.4
    (subst (λ z. Steps input z ys q.2 b) (sym mid) q.4) x y in
    record {
      effects_are = p.5 ∙ ap (λ (l : List Effect). l ++ p.2) here
          ∙ ap (λ (l : List Effect). q.1 ++ l) later.effects_are ∙ sym q.5;
      line_is = later.line_is;
      outcome_is = later.outcome_is;
    }

-- ---- the end of a plan

-- all commands of a plan were done
pub whole_plan : (plan : Plan) (last : State) (effects : List Effect) → Reaches plan effects last []
    → Steps plan.input plan.start plan.commands effects last
whole_plan plan last effects reached =
    subst (λ l. Steps plan.input plan.start l effects last) (sym (append-nil reached.done) ∙ reached.in_order)
    reached.steps

-- the command of a line is refused, after these effects
abbrev IsRefusedAt : Plan → List Effect → ℕ → Outcome → Type 0
IsRefusedAt plan effects line r =
    (state : State) × (next : NumberedCommand) × IsAtCommand plan effects state next × (next.line ≡ line)
    × Step plan.input state next.command r

-- a refusal is none where all commands are done
finished_not_refused : (plan : Plan) (effects done : List Effect) (line : ℕ) (r : Outcome) → IsRefusal r
    → IsVtree plan.start.tree → EndsAmong plan effects Finished → IsRefusedAt plan done line r → ⊥
finished_not_refused plan effects done line r is valid p (state, next, at, is_line, refused) =
    none_refused plan.input plan.start p.0 state at.reaches.done at.left next effects done r is valid
    (subst (λ l. Steps plan.input plan.start l effects p.0) (sym at.reaches.in_order) (whole_plan plan p.0 effects p.1))
    at.reaches.steps refused

-- two refusals are one
one_refusal_among : (plan : Plan) (effects done : List Effect) (l l' : ℕ) (r s : Outcome) → IsRefusal r → IsRefusal s
    → IsVtree plan.start.tree → IsRefusedAt plan effects l r → IsRefusedAt plan done l' s
    → IsSame done effects l' l s r
one_refusal_among plan effects done l l' r s no_r no_s valid (a, c, at, line, refused) (b, d, at', line', refused') =
    let one = one_refusal plan.input plan.start b a at'.reaches.done at.reaches.done at'.left at.left d c done effects
    s r no_s no_r valid (at'.reaches.in_order ∙ sym at.reaches.in_order) at'.reaches.steps at.reaches.steps
    refused' refused in
    record {
      effects_are = one.effects_are;
      line_is = sym line' ∙ one.line_is ∙ line;
      outcome_is = one.outcome_is;
    }

-- the commands come to one end by themselves, with the same effects
pub one_end_among : (plan : Plan) (effects done : List Effect) (own end : End) → IsVtree plan.start.tree → IsOwn own
    → IsOwn end → EndsAmong plan effects own → EndsAmong plan done end → (end ≡ own) × (done ≡ effects)
one_end_among plan effects done Finished Finished valid a b p q = (
  refl,
  (one_course plan.input plan.start q.0 p.0 plan.commands done effects valid (whole_plan plan q.0 done q.1)
      (whole_plan plan p.0 effects p.1)).1,
)
one_end_among plan effects done Finished (OverLimit l g n k) valid a b p q =
    absurd (finished_not_refused plan effects done l (PassesLimit g n k) tt valid p q)
one_end_among plan effects done Finished (NotMovable l) valid a b p q =
    absurd (finished_not_refused plan effects done l Unmoved tt valid p q)
one_end_among plan effects done (OverLimit l g n k) Finished valid a b p q =
    absurd (finished_not_refused plan done effects l (PassesLimit g n k) tt valid q p)
one_end_among plan effects done (NotMovable l) Finished valid a b p q =
    absurd (finished_not_refused plan done effects l Unmoved tt valid q p)
one_end_among plan effects done (OverLimit l g n k) (OverLimit l' g' n' k') valid a b p q =
    let one = one_refusal_among plan effects done l l' (PassesLimit g n k) (PassesLimit g' n' k') tt tt valid p q in
    let line = one.line_is in
    let outcome = one.outcome_is in
    let same : OverLimit l' g' n' k' ≡ OverLimit l g n k = cc in (same, one.effects_are)
one_end_among plan effects done (OverLimit l g n k) (NotMovable l') valid a b p q =
    let one = one_refusal_among plan effects done l l' (PassesLimit g n k) Unmoved tt tt valid p q in
    let outcome = one.outcome_is in
    let bad : ⊥ = cc in absurd bad
one_end_among plan effects done (NotMovable l) (OverLimit l' g' n' k') valid a b p q =
    let one = one_refusal_among plan effects done l l' Unmoved (PassesLimit g' n' k') tt tt valid p q in
    let outcome = one.outcome_is in
    let bad : ⊥ = cc in absurd bad
one_end_among plan effects done (NotMovable l) (NotMovable l') valid a b p q =
    let one = one_refusal_among plan effects done l l' Unmoved Unmoved tt tt valid p q in
    (ap NotMovable one.line_is, one.effects_are)
one_end_among plan effects done own (Refused r) valid a b p q = absurd q
one_end_among plan effects done (Refused r) end valid a b p q = absurd p
one_end_among plan effects done (Unreadable file) end valid a b p q = absurd a
one_end_among plan effects done (Unwritable effect) end valid a b p q = absurd a
one_end_among plan effects done OutOfMemory end valid a b p q = absurd a
one_end_among plan effects done (ArenaFull n) end valid a b p q = absurd a
one_end_among plan effects done own (Unreadable file) valid a b p q = absurd b
one_end_among plan effects done own (Unwritable effect) valid a b p q = absurd b
one_end_among plan effects done own OutOfMemory valid a b p q = absurd b
one_end_among plan effects done own (ArenaFull n) valid a b p q = absurd b
