-- The loop that rewrites the nodes that wait, with its table of answers and the cache over it.
use Rattle.std.proofs.Common.{◌≡◌, inl, ℕ, List, [], ◌∷◌, ◌++◌, Some, None, Result, Ok, Err, IfOk}
use Rattle.std.proofs.Common.{OnErr, append_assoc, append-nil, refl, sym, ◌∙◌, ap, subst, arith}
use Rattle.std.specs.FinMap.{get}
use Rattle.std.proofs.lemmas.Option.{none-some}
use Rattle.sd_model.specs.Diagram.{Diagram}
use Rattle.sd_cache.specs.Entries.{Answers, Call}
use Rattle.sd_laws.specs.Values.{Valuation}
use Rattle.sd_laws.proofs.Codes.{shows_kept}
use Rattle.sd_manager.specs.Table.{Table, key_at}
use Rattle.sd_manager.proofs.Reading.{linked_key}
use Rattle.sd_manager.specs.Shown.{ShowsCanonical}
use Rattle.sd_manager.specs.Valid.{IsTable}
use Rattle.sd_apply.specs.Serving.{IsRight, Serves}
use Rattle.sd_apply.specs.Recent.{Knows}
use Rattle.sd_apply.proofs.Served.{serves_while}
use Rattle.sd_apply.specs.declared.recent.Recent.{Recent}
use Rattle.sd_apply.proofs.RightEntries.{knows_when}
use Rattle.sd_move.specs.Journal.{Named}
use Rattle.sd_move.specs.Moving.{Progress}
use Rattle.sd_move.specs.GoingBack.{numbers_of}
use Rattle.sd_move.specs.Rewriting.{AreRewritten, HasRewritten, CanRewriteAll, MayRewriteAll, GoesOn}
use Rattle.sd_move.proofs.RewrittenAll.{rewritten_both, goes_on_both, goes_on_still}

-- what was answered

-- what is shown stays shown
shown_still : (a b : Table) (x : ℕ) (es : List Named) → AreRewritten a b x es → (c : ℕ) (d : Diagram) →
    ShowsCanonical a c d → ShowsCanonical b c d
shown_still a b x es g c d h =
    record {
      shows = rw g.vtree (shows_kept a.vtree (get a.linked) (get b.linked) g.nodes d c h.shows);
      canonical = rw g.vtree h.canonical;
    }

-- so a right answer stays right
right_still : (a b : Table) (x : ℕ) (es : List Named) → AreRewritten a b x es → (e : Call × ℕ) → IsRight a e →
    IsRight b e
right_still a b x es g e h =
    record {
      served = h.served;
      first = h.first;
      second = h.second;
      first_is = shown_still a b x es g e.0.a h.first h.first_is;
      second_is = shown_still a b x es g e.0.b h.second h.second_is;
      argument = h.argument;
      answer = record {
        diagram = h.answer.diagram;
        is = shown_still a b x es g e.1 h.answer.diagram h.answer.is;
        value = h.answer.value;
      };
    }

-- and the cache serves the rewritten table
pub serves_rewritten : (c : Answers) (a b : Table) (x : ℕ) (es : List Named) → AreRewritten a b x es → Serves c a →
    Serves c b
serves_rewritten c a b x es g h = serves_while c a b g.epoch (right_still a b x es g) h

-- and the table of answers knows it
pub knows_rewritten : (r : Recent) (a b : Table) (x : ℕ) (es : List Named) → AreRewritten a b x es → Knows r a →
    Knows r b
knows_rewritten r a b x es g = knows_when r a b (right_still a b x es g)

-- whether the node was rewritten or not
pub knows_either : {X E : Type 0} (k : Recent) (a b : Table) (x : ℕ) (r : Result X E) (es : X → List Named) →
    IfOk r (λ run. AreRewritten a b x (es run)) → OnErr r (b ≡ a) → Knows k a → Knows k b
knows_either k a b x (Ok run) es g same h = knows_rewritten k a b x (es run) g h
knows_either k a b x (Err e) es g same h = subst (Knows k) (sym same) h

-- the loop

-- What is so where the rest of the numbers are left: the others were rewritten, the move goes on, and the table of
-- answers is right.
pub record IsRewriting (old now : Table) (place : ℕ) (numbers : List ℕ) (before after : List Named) (rest : List ℕ)
    (k : Recent) : Type 0 where
  pub done : HasRewritten old now place numbers before after rest
  pub going : (m0 : Table) (h : Progress) (v : Valuation) → CanRewriteAll m0 old place h v numbers →
      GoesOn m0 old now place h v rest
  pub table : IsTable now
  pub knows : Knows k now

-- the cache serves, which is not asked
pub serves_all : (c : Answers) (old now : Table) (place : ℕ) (numbers : List ℕ) (before after : List Named)
    (rest : List ℕ) → HasRewritten old now place numbers before after rest → Serves c old → Serves c now
serves_all c old now place numbers before after rest h = serves_rewritten c old now place h.entries h.done

-- nothing was done where no node was rewritten
pub none_rewritten : (t : Table) (x : ℕ) → AreRewritten t t x []
none_rewritten t x =
    record {
      vtree = refl;
      roots = refl;
      epoch = refl;
      bound = refl;
      moving = refl;
      extent = omega arith;
      records = omega arith;
      nodes = λ n k e. e;
      new_below = λ n k none is. absurd (not_new t n k none is);
      each = tt;
      gone = λ n m. absurd m;
      waiting = λ n out. refl;
      marks = λ n m some e. inl (some, e);
      runs_once = tt;
      other_runs = λ s out. refl;
    }
  where
    not_new : (t : Table) (n : ℕ) (k : ℕ × List (ℕ × ℕ)) → key_at t n ≡ None → get t.linked n ≡ Some k → ⊥
    not_new t n k none is = none-some k (sym none ∙ linked_key t n k is)

-- at the begin all are left
pub rewriting_first : (old : Table) (place : ℕ) (numbers : List ℕ) (before : List Named) (k : Recent) →
    IsTable old → Knows k old → IsRewriting old old place numbers before before numbers k
rewriting_first old place numbers before k t s =
    record {
      done = record {
        entries = [];
        added = sym (append-nil before);
        first = refl;
        done = none_rewritten old place;
      };
      going = λ m0 h v can. goes_on_still m0 old place h v numbers can;
      table = t;
      knows = s;
    }

-- the numbers of two lists of entries
numbers_both : (es fs : List Named) → numbers_of (es ++ fs) ≡ numbers_of es ++ numbers_of fs
numbers_both [] fs = refl
numbers_both (e ∷ es) fs = ap (λ l. e.number ∷ l) (numbers_both es fs)

module _ (old now : Table) (place n : ℕ) (numbers : List ℕ) (before after : List Named) (rest : List ℕ) (k : Recent)
    (s : IsRewriting old now place numbers before after (n ∷ rest) k) where
  -- the next one may be rewritten
  pub may_rewrite_next : MayRewriteAll old place numbers → (less : List ℕ) × MayRewriteAll now place (n ∷ less)
  may_rewrite_next (m0, h, v, can) =
      let g = s.going m0 h v can in
      (rest, (m0, g.progress, g.values, g.can))

  -- where it was not, it is left
  pub rewriting_stops : (next : Table) (k' : Recent) → AreRewritten now next place [] →
      ((m0 : Table) (h : Progress) (v : Valuation) (less : List ℕ) → CanRewriteAll m0 now place h v (n ∷ less) →
      GoesOn m0 now next place h v (n ∷ less)) → IsTable next → Knows k' next →
      IsRewriting old next place numbers before after (n ∷ rest) k'
  rewriting_stops next k' g f t knows =
      record {
        done = record {
          entries = s.done.entries;
          added = s.done.added;
          first = s.done.first;
          done = subst (AreRewritten old next place) (append-nil s.done.entries)
              (rewritten_both old now next place s.done.entries [] s.done.done g);
        };
        going = λ m0 h v can. goes_on_both m0 old now next place h v (n ∷ rest) (n ∷ rest) (s.going m0 h v can)
            (λ p w can. f m0 p w rest can);
        table = t;
        knows = knows;
      }

  -- and where it was, the rest is left
  pub rewriting_on : (next : Table) (k' : Recent) (run : ℕ × ℕ) (longer : List Named) →
      AreRewritten now next place (record { number = n; place = place; run = Some run } ∷ []) →
      ((m0 : Table) (h : Progress) (v : Valuation) (less : List ℕ) → CanRewriteAll m0 now place h v (n ∷ less) →
      GoesOn m0 now next place h v less) → IsTable next → Knows k' next →
      longer ≡ after ++ record { number = n; place = place; run = Some run } ∷ [] →
      IsRewriting old next place numbers before longer rest k'
  rewriting_on next k' run longer g f t knows pushed =
      let e : Named = record { number = n; place = place; run = Some run } in
      record {
        done = record {
          entries = s.done.entries ++ e ∷ [];
          added = pushed ∙ ap (λ l. l ++ e ∷ []) s.done.added ∙ append_assoc before s.done.entries (e ∷ []);
          first = ap (λ l. l ++ rest) (numbers_both s.done.entries (e ∷ []))
              ∙ append_assoc (numbers_of s.done.entries) (n ∷ []) rest ∙ s.done.first;
          done = rewritten_both old now next place s.done.entries (e ∷ []) s.done.done g;
        };
        going = λ m0 h v can. goes_on_both m0 old now next place h v (n ∷ rest) rest (s.going m0 h v can)
            (λ p w can. f m0 p w rest can);
        table = t;
        knows = knows;
      }
