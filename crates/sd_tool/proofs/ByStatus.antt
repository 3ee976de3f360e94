-- What the clauses of `run` say, from its course; and what they say of each status.
use Rattle.std.proofs.Common.{◌≡◌, ◌⊎◌, ℕ, Bool, true, false, ◌==◌, ◌||◌, List, [], Option, Some, None, inl, inr}
use Rattle.std.proofs.Common.{refl, sym, ap, subst, ◌∙◌}
use Rattle.sd_base.specs.Asked.{Request}
use Rattle.sd_base.specs.Files.{Files}
use Rattle.sd_manager.specs.Table.{Table}
use Rattle.sd_commands.specs.Effects.{Effect, Write, Print}
use Rattle.sd_tool.specs.Effects.{Contents}
use Rattle.sd_tool.specs.Readings.{Refuses, Reads, reading_of}
use Rattle.sd_tool.specs.Ends.{End, Finished, Refused, Unreadable, Unwritable, OutOfMemory, ArenaFull, OverLimit}
use Rattle.sd_tool.specs.Ends.{NotMovable, status_of}
use Rattle.sd_tool.specs.Devices.{Moment, Seen, HasReason, WritesEndLine}
use Rattle.sd_tool.specs.Theorem.{HasEffects, HasLine, HasEnd, IsCourse}
use Rattle.sd_tool.specs.inside.Asks.{GoesTo}
use Rattle.sd_tool.specs.inside.ByStatus.{IsOneCourse, EffectsByStatus, EndByStatus, WasFull}
use Rattle.sd_tool.specs.inside.ByStatus.{IsRefused, PassedLimit, WasNotMovable, CouldNotRead, CouldNotWrite}
use Rattle.sd_tool.specs.inside.Course.{EndLeaves, ReadsTo, MayEnd, after_effects}
use Rattle.sd_tool.specs.inside.Plans.{point_of}
use Rattle.sd_tool.proofs.AskLemmas.{goes_may_end, comes_reads}
use Rattle.sd_tool.proofs.SoundReadings.{IsRefusedWith, refused_with}
use Rattle.sd_tool.proofs.Walks.{IsNotFull, course_of}

-- the statuses of refusals, those of them that come before the commands alone, and with these that of a file that was
-- not read
abbrev pub is_refused : ℕ → Bool
is_refused n = n == 1 || (n == 2 || n == 3)

abbrev pub is_early : ℕ → Bool
is_early n = n == 1 || n == 2

abbrev pub is_idle : ℕ → Bool
is_idle n = n == 5 || is_early n

-- a run that is refused has one of the statuses of refusals
one_of_three : (told : Option Files) (words : List (List ℕ)) (refusal : ℕ × List ℕ) (status : ℕ)
    → ReadsTo told (reading_of words) (Refuses refusal) → status ≡ refusal.0 → IsRefusedWith status
one_of_three told words refusal status led is = subst IsRefusedWith (sym is) (refused_with told words refusal led)

-- a test tells two statuses apart
apart : {A : Type 0} (test : ℕ → Bool) (status a b : ℕ) → status ≡ a → status ≡ b → test a ≡ false → test b ≡ true → A
apart test status a b is other no_ yes_ = absurd (differ (sym no_ ∙ ap test (sym is ∙ other) ∙ yes_))
  where
    differ : false ≡ true → ⊥
    differ e = cc

-- a status that is none of a refusal
no_refused : {A : Type 0} (status a : ℕ) → is_refused a ≡ false → status ≡ a
    → (status ≡ 1) ⊎ (status ≡ 2) ⊎ (status ≡ 3) → A
no_refused status a other is (inl s) = apart is_refused status a 1 is s other refl
no_refused status a other is (inr (inl s)) = apart is_refused status a 2 is s other refl
no_refused status a other is (inr (inr s)) = apart is_refused status a 3 is s other refl

-- nor one that comes before the commands alone
no_early : {A : Type 0} (status a : ℕ) → is_early a ≡ false → status ≡ a
    → (status ≡ 1) ⊎ (status ≡ 2) → A
no_early status a other is (inl s) = apart is_early status a 1 is s other refl
no_early status a other is (inr s) = apart is_early status a 2 is s other refl

-- nor that of a file that was not read
pub no_idle : {A : Type 0} (status a : ℕ) → is_idle a ≡ false → status ≡ a
    → (status ≡ 1) ⊎ (status ≡ 2) ⊎ (status ≡ 5) → A
no_idle status a other is (inl s) = apart is_idle status a 1 is s other refl
no_idle status a other is (inr (inl s)) = apart is_idle status a 2 is s other refl
no_idle status a other is (inr (inr s)) = apart is_idle status a 5 is s other refl

-- another number
no_same : {A : Type 0} (status a b : ℕ) → status ≡ a → (a == b) ≡ false → (b == b) ≡ true → status ≡ b → A
no_same status a b is differ same other = apart (λ n. n == b) status a b is other differ same

-- the status where an effect fails
pub unwritable_status : (effect : Effect) → status_of (Unwritable effect) ≡ 6
unwritable_status (Write file bytes) = refl
unwritable_status (Print line) = refl

-- a run is refused before its commands
refused_early : (words : List (List ℕ)) (told : Option Files) (effects : List Effect) (refusal : ℕ × List ℕ)
    → MayEnd words told effects (Refused refusal) → ReadsTo told (reading_of words) (Refuses refusal) × (effects ≡ [])
refused_early words told effects refusal (inl p) = p
refused_early words told effects refusal (inr p) = absurd p.2

-- a file that is not read is asked for before the commands
unread_early : (words : List (List ℕ)) (told : Option Files) (effects : List Effect) (file : List ℕ)
    → MayEnd words told effects (Unreadable file) → effects ≡ []
unread_early words told effects file (inl p) = p.1
unread_early words told effects file (inr p) = absurd p.2

asked : (words : List (List ℕ)) (told : Option Files) (effects : List Effect) (file : List ℕ)
    → MayEnd words told effects (Unreadable file) → (next : _) × ReadsTo told (reading_of words) (Reads file next)
asked words told effects file (inl p) = p.0
asked words told effects file (inr p) = absurd p.2

-- the manager that refused was kept
full_at : (words : List (List ℕ)) (n : ℕ) (effects : List Effect) (kept : Option Table) (seen : Seen)
    → GoesTo seen.asked words seen.old.contents.files effects (ArenaFull n) kept
    → WritesEndLine (ArenaFull n) seen.old seen.new → WasFull words kept seen.old seen.new
full_at words n effects kept seen (inl p) line = absurd p.0
full_at words n effects None seen (inr p) line = absurd p.3
full_at words n effects (Some t) seen (inr p) line =
    let led = comes_reads seen.old.contents.files (reading_of words) (point_of p.0) p.1 in
    record {
      elements = n;
      effects = effects;
      in_hand = inr (p.0, led, p.2);
      manager = t;
      is_kept = refl;
      filled = p.3.0;
      plan = p.0;
      led = led;
      holds = p.3.1;
      line = line;
    }

-- at each other end none is
none_kept : (words : List (List ℕ)) (files : Option Files) (asks : List Request → Type 0) (effects : List Effect)
    (end : End) (kept : Option Table) → IsNotFull end → GoesTo asks words files effects end kept → kept ≡ None
none_kept words files asks effects end kept other (inl p) = p.2
none_kept words files asks effects Finished kept other (inr p) = p.3
none_kept words files asks effects (Refused answer) kept other (inr p) = absurd p.2
none_kept words files asks effects (Unreadable file) kept other (inr p) = absurd p.2
none_kept words files asks effects (Unwritable effect) kept other (inr p) = p.3
none_kept words files asks effects OutOfMemory kept other (inr p) = p.3
none_kept words files asks effects (ArenaFull n) kept other (inr p) = absurd other
none_kept words files asks effects (OverLimit l g n k) kept other (inr p) = p.3
none_kept words files asks effects (NotMovable l) kept other (inr p) = p.3

-- without effects nothing changed
nothing_done : (effects : List Effect) (old new : Contents) → effects ≡ [] → new ≡ after_effects effects old → new ≡ old
nothing_done effects old new none is = is ∙ ap (λ l. after_effects l old) none

-- ---- from the course

pub effects_of : (words : List (List ℕ)) (status : ℕ) (kept : Option Table) (seen : Seen)
    → IsOneCourse words status kept seen → HasEffects words status seen
effects_of words status kept seen went = part (course_of words status kept seen went)
  where
    part : IsCourse words status kept seen → HasEffects words status seen
    part (course, is, asked, (leaves, ends)) = (course, is, asked, leaves)

pub line_of_run : (words : List (List ℕ)) (status : ℕ) (kept : Option Table) (seen : Seen)
    → IsOneCourse words status kept seen → HasLine words status seen
line_of_run words status kept seen went = part (course_of words status kept seen went)
  where
    part : IsCourse words status kept seen → HasLine words status seen
    part (course, is, asked, (leaves, ends)) = (course, is, asked, ends.2)

pub ends_of : (words : List (List ℕ)) (status : ℕ) (kept : Option Table) (seen : Seen)
    → IsOneCourse words status kept seen → HasEnd words status kept seen
ends_of words status kept seen went = part (course_of words status kept seen went)
  where
    part : IsCourse words status kept seen → HasEnd words status kept seen
    part (course, is, asked, (leaves, ends)) = (course, is, asked, ends)

-- ---- status by status

-- the effects, status by status
pub effects_at : (words : List (List ℕ)) (status : ℕ) (kept : Option Table) (seen : Seen)
    → IsOneCourse words status kept seen → EffectsByStatus words status seen.old seen.new
effects_at words status kept seen went =
    go went.effects went.end
    (goes_may_end seen.asked words seen.old.contents.files went.effects went.end kept went.goes) went.status_is
    went.leaves
  where
    go : (effects : List Effect) (end : End) → MayEnd words seen.old.contents.files effects end → status ≡ status_of end
        → EndLeaves end (after_effects effects seen.old.contents) seen.new.contents
        → EffectsByStatus words status seen.old seen.new
    go effects Finished may_end is leaves = record {
      all = λ s. (effects, may_end, leaves);
      none = λ s. no_idle status 0 refl is s;
      script = λ s. cc;
      first = λ s. cc;
      full = λ s. cc;
      over = λ s. cc;
      in_hand = λ s. cc;
    }
    go effects (Refused refusal) may_end is leaves =
        let early = refused_early words seen.old.contents.files effects refusal may_end in
        let three = one_of_three seen.old.contents.files words refusal status early.0 is in
        record {
          all = λ s. no_refused status 0 refl s three;
          none = λ s. nothing_done effects seen.old.contents seen.new.contents early.1 leaves;
          script = λ s. inl (refusal, early.0, nothing_done effects seen.old.contents seen.new.contents early.1 leaves);
          first = λ s. no_refused status 7 refl s three;
          full = λ s. no_refused status 8 refl s three;
          over = λ s. no_refused status 4 refl s three;
          in_hand = λ s. no_refused status 6 refl s three;
        }
    go effects (Unreadable file) may_end is leaves = record {
      all = λ s. cc;
      none = λ s. nothing_done effects seen.old.contents seen.new.contents
          (unread_early words seen.old.contents.files effects file may_end) leaves;
      script = λ s. cc;
      first = λ s. cc;
      full = λ s. cc;
      over = λ s. cc;
      in_hand = λ s. cc;
    }
    go effects (Unwritable effect) may_end is leaves =
        let six = is ∙ unwritable_status effect in
        record {
          all = λ s. cc;
          none = λ s. no_idle status 6 refl six s;
          script = λ s. cc;
          first = λ s. cc;
          full = λ s. cc;
          over = λ s. cc;
          in_hand = λ s. (effects, effect, may_end, leaves);
        }
    go effects OutOfMemory may_end is leaves = record {
      all = λ s. cc;
      none = λ s. no_idle status 7 refl is s;
      script = λ s. cc;
      first = λ s. (effects, may_end, leaves);
      full = λ s. cc;
      over = λ s. cc;
      in_hand = λ s. cc;
    }
    go effects (ArenaFull n) may_end is leaves = record {
      all = λ s. cc;
      none = λ s. no_idle status 8 refl is s;
      script = λ s. cc;
      first = λ s. cc;
      full = λ s. (effects, n, may_end, leaves);
      over = λ s. cc;
      in_hand = λ s. cc;
    }
    go effects (OverLimit line group size limit) may_end is leaves = record {
      all = λ s. cc;
      none = λ s. no_idle status 4 refl is s;
      script = λ s. cc;
      first = λ s. cc;
      full = λ s. cc;
      over = λ s. (effects, line, group, size, limit, may_end, leaves);
      in_hand = λ s. cc;
    }
    go effects (NotMovable line) may_end is leaves = record {
      all = λ s. cc;
      none = λ s. no_idle status 3 refl is s;
      script = λ s. inr (effects, line, may_end, leaves);
      first = λ s. cc;
      full = λ s. cc;
      over = λ s. cc;
      in_hand = λ s. cc;
    }

-- the causes where all was done
end_finished : (words : List (List ℕ)) (status : ℕ) (kept : Option Table) (old new : Moment) → status ≡ 0
    → kept ≡ None → EndByStatus words status kept old new
end_finished words status kept old new is keeps = record {
  one_of = inl is;
  refused = λ s. no_early status 0 refl is s;
  script = λ s. no_same status 0 3 is refl refl s;
  over_limit = λ s. no_same status 0 4 is refl refl s;
  read_fault = λ s. no_same status 0 5 is refl refl s;
  write_fault = λ s. no_same status 0 6 is refl refl s;
  arena_full = λ s. no_same status 0 8 is refl refl s;
  none_kept = λ s. keeps;
}

-- a refusal has one of the statuses
among_all : (status : ℕ) → (status ≡ 1) ⊎ (status ≡ 2) ⊎ (status ≡ 3) → (status ≡ 0) ⊎ (status ≡ 1)
    ⊎ (status ≡ 2) ⊎ (status ≡ 3) ⊎ (status ≡ 4) ⊎ (status ≡ 5) ⊎ (status ≡ 6) ⊎ (status ≡ 7) ⊎ (status ≡ 8)
among_all status (inl s) = inr (inl s)
among_all status (inr (inl s)) = inr (inr (inl s))
among_all status (inr (inr s)) = inr (inr (inr (inl s)))

-- where the words or a text were refused
end_refused : (words : List (List ℕ)) (status : ℕ) (kept : Option Table) (old new : Moment) → IsRefusedWith status
    → kept ≡ None → IsRefused words status old new → EndByStatus words status kept old new
end_refused words status kept old new three keeps refused = record {
  one_of = among_all status three;
  refused = λ s. refused;
  script = λ s. inl refused;
  over_limit = λ s. no_refused status 4 refl s three;
  read_fault = λ s. no_refused status 5 refl s three;
  write_fault = λ s. no_refused status 6 refl s three;
  arena_full = λ s. no_refused status 8 refl s three;
  none_kept = λ s. keeps;
}

-- where the total size passed the limit
end_over : (words : List (List ℕ)) (status : ℕ) (kept : Option Table) (old new : Moment) → status ≡ 4
    → kept ≡ None → PassedLimit words old new → EndByStatus words status kept old new
end_over words status kept old new is keeps passed = record {
  one_of = inr (inr (inr (inr (inl is))));
  refused = λ s. no_early status 4 refl is s;
  script = λ s. no_same status 4 3 is refl refl s;
  over_limit = λ s. passed;
  read_fault = λ s. no_same status 4 5 is refl refl s;
  write_fault = λ s. no_same status 4 6 is refl refl s;
  arena_full = λ s. no_same status 4 8 is refl refl s;
  none_kept = λ s. keeps;
}

-- where a place was not movable
end_unmoved : (words : List (List ℕ)) (status : ℕ) (kept : Option Table) (old new : Moment) → status ≡ 3
    → kept ≡ None → WasNotMovable words old new → EndByStatus words status kept old new
end_unmoved words status kept old new is keeps unmoved = record {
  one_of = inr (inr (inr (inl is)));
  refused = λ s. no_early status 3 refl is s;
  script = λ s. inr unmoved;
  over_limit = λ s. no_same status 3 4 is refl refl s;
  read_fault = λ s. no_same status 3 5 is refl refl s;
  write_fault = λ s. no_same status 3 6 is refl refl s;
  arena_full = λ s. no_same status 3 8 is refl refl s;
  none_kept = λ s. keeps;
}

-- where a file was not read
end_unread : (words : List (List ℕ)) (status : ℕ) (kept : Option Table) (old new : Moment) → status ≡ 5
    → kept ≡ None → CouldNotRead words old new → EndByStatus words status kept old new
end_unread words status kept old new is keeps unread = record {
  one_of = inr (inr (inr (inr (inr (inl is)))));
  refused = λ s. no_early status 5 refl is s;
  script = λ s. no_same status 5 3 is refl refl s;
  over_limit = λ s. no_same status 5 4 is refl refl s;
  read_fault = λ s. unread;
  write_fault = λ s. no_same status 5 6 is refl refl s;
  arena_full = λ s. no_same status 5 8 is refl refl s;
  none_kept = λ s. keeps;
}

-- where an effect failed
end_unwritten : (words : List (List ℕ)) (status : ℕ) (kept : Option Table) (old new : Moment) → status ≡ 6
    → kept ≡ None → CouldNotWrite words old new → EndByStatus words status kept old new
end_unwritten words status kept old new is keeps unwritten = record {
  one_of = inr (inr (inr (inr (inr (inr (inl is))))));
  refused = λ s. no_early status 6 refl is s;
  script = λ s. no_same status 6 3 is refl refl s;
  over_limit = λ s. no_same status 6 4 is refl refl s;
  read_fault = λ s. no_same status 6 5 is refl refl s;
  write_fault = λ s. unwritten;
  arena_full = λ s. no_same status 6 8 is refl refl s;
  none_kept = λ s. keeps;
}

-- where there was no memory
end_no_memory : (words : List (List ℕ)) (status : ℕ) (kept : Option Table) (old new : Moment) → status ≡ 7
    → kept ≡ None → EndByStatus words status kept old new
end_no_memory words status kept old new is keeps = record {
  one_of = inr (inr (inr (inr (inr (inr (inr (inl is)))))));
  refused = λ s. no_early status 7 refl is s;
  script = λ s. no_same status 7 3 is refl refl s;
  over_limit = λ s. no_same status 7 4 is refl refl s;
  read_fault = λ s. no_same status 7 5 is refl refl s;
  write_fault = λ s. no_same status 7 6 is refl refl s;
  arena_full = λ s. no_same status 7 8 is refl refl s;
  none_kept = λ s. keeps;
}

-- where the arena was full
end_full : (words : List (List ℕ)) (status : ℕ) (kept : Option Table) (old new : Moment) → status ≡ 8
    → WasFull words kept old new → EndByStatus words status kept old new
end_full words status kept old new is full = record {
  one_of = inr (inr (inr (inr (inr (inr (inr (inr is)))))));
  refused = λ s. no_early status 8 refl is s;
  script = λ s. no_same status 8 3 is refl refl s;
  over_limit = λ s. no_same status 8 4 is refl refl s;
  read_fault = λ s. no_same status 8 5 is refl refl s;
  write_fault = λ s. no_same status 8 6 is refl refl s;
  arena_full = λ s. full;
  none_kept = λ s. absurd (s is);
}

-- the causes, status by status
pub end_at : (words : List (List ℕ)) (status : ℕ) (kept : Option Table) (seen : Seen)
    → IsOneCourse words status kept seen → EndByStatus words status kept seen.old seen.new
end_at words status kept seen went = go went.effects went.end went.goes went.status_is went.reason went.line
  where
    may : (effects : List Effect) (end : End) → GoesTo seen.asked words seen.old.contents.files effects end kept
        → MayEnd words seen.old.contents.files effects end
    may effects end goes = goes_may_end seen.asked words seen.old.contents.files effects end kept goes

    free : (effects : List Effect) (end : End) → IsNotFull end
        → GoesTo seen.asked words seen.old.contents.files effects end kept → kept ≡ None
    free effects end other goes = none_kept words seen.old.contents.files seen.asked effects end kept other goes

    go : (effects : List Effect) (end : End) → GoesTo seen.asked words seen.old.contents.files effects end kept
        → status ≡ status_of end → HasReason end seen.old.contents.files seen.old.faults seen.new.faults
        → WritesEndLine end seen.old seen.new → EndByStatus words status kept seen.old seen.new
    go effects Finished goes is cause line =
        end_finished words status kept seen.old seen.new is (free effects Finished tt goes)
    go effects (Refused refusal) goes is cause line =
        let early = refused_early words seen.old.contents.files effects refusal (may effects (Refused refusal) goes) in
        end_refused words status kept seen.old seen.new
        (one_of_three seen.old.contents.files words refusal status early.0 is) (free effects (Refused refusal) tt goes)
        record {
          answer = refusal;
          status_is = is;
          led = early.0;
          line = line;
        }
    go effects (Unreadable file) goes is cause line =
        end_unread words status kept seen.old seen.new is (free effects (Unreadable file) tt goes) record {
          file = file;
          asked = asked words seen.old.contents.files effects file (may effects (Unreadable file) goes);
          cause = cause;
          line = line;
        }
    go effects (Unwritable effect) goes is cause line =
        end_unwritten words status kept seen.old seen.new (is ∙ unwritable_status effect)
        (free effects (Unwritable effect) tt goes) record {
          effects = effects;
          effect = effect;
          in_hand = may effects (Unwritable effect) goes;
          cause = cause;
          line = line;
        }
    go effects OutOfMemory goes is cause line =
        end_no_memory words status kept seen.old seen.new is (free effects OutOfMemory tt goes)
    go effects (ArenaFull n) goes is cause line =
        end_full words status kept seen.old seen.new is (full_at words n effects kept seen goes line)
    go effects (OverLimit at group size limit) goes is cause line =
        end_over words status kept seen.old seen.new is (free effects (OverLimit at group size limit) tt goes) record {
          at_line = at;
          group = group;
          size = size;
          limit = limit;
          effects = effects;
          in_hand = may effects (OverLimit at group size limit) goes;
          line = line;
        }
    go effects (NotMovable at) goes is cause line =
        end_unmoved words status kept seen.old seen.new is (free effects (NotMovable at) tt goes) record {
          at_line = at;
          effects = effects;
          in_hand = may effects (NotMovable at) goes;
          line = line;
        }
