use Rattle.std.proofs.Common.{◌≡◌, ℕ, List, [], ◌∷◌, ◌++◌, map, length, true, sym, ap, ◌∙◌, subst, arith, Bor}
use Rattle.std.proofs.lemmas.List.{map-append, length-map, length-append}
use Rattle.std.specs.List.{list_all}
use Rattle.sd_base.specs.Views.{words_left}
use Rattle.sd_script.specs.Forms.{is_name}
use Rattle.sd_script.proofs.Writing.{no_name, own_name, none_at, none_past, word_more, all_more}
use Rattle.sd_script.proofs.rest.split_last.Goals as goal

-- there are more than 1,024 names
pub returns-then-len-eq-MAX_NAMES-clause-fault : goal.returns-then-len-eq-MAX_NAMES-clause-fault
returns-then-len-eq-MAX_NAMES-clause-fault c = λ bad.
    none_past (words_left c.args.words) (map (λ (word : Bor (List ℕ)). word.now) c.loop-word.names.items)
    c.loop-word.last.now c.in-Some-word.word.now (words_left c.next-in-loop-word.new.self)
    (c.loop-word.invariant.words
    ∙ ap (λ l. map (λ (word : Bor (List ℕ)). word.now) c.loop-word.names.items ++ c.loop-word.last.now ∷ l)
    c.in-Some-word.ensures.steps)
    (omega (
      arith,
      length-map c.loop-word.names.items (λ (word : Bor (List ℕ)). word.now),
      c.len.ensures,
      c.if-len-eq-MAX_NAMES.true,
    ))

-- a word before the last is no name
pub returns-in_default-name_of-clause-fault : goal.returns-in_default-name_of-clause-fault
returns-in_default-name_of-clause-fault c = λ bad.
    none_at (words_left c.args.words) (map (λ (word : Bor (List ℕ)). word.now) c.loop-word.names.items)
    c.loop-word.last.now c.in-Some-word.word.now (words_left c.next-in-loop-word.new.self)
    (c.loop-word.invariant.words
    ∙ ap (λ l. map (λ (word : Bor (List ℕ)). word.now) c.loop-word.names.items ++ c.loop-word.last.now ∷ l)
    c.in-Some-word.ensures.steps)
    (no_name c.loop-word.last.now c.in_default-name_of.ensures)

-- one name more
pub loop-word-preserved : goal.loop-word-preserved
loop-word-preserved c =
    let now = λ (word : Bor (List ℕ)). word.now in
    let own = own_name c.loop-word.last.now c.in-Some-name_of.name.now c.in-Some-name_of.ensures in
    let one : map now c.push.new.self.items ≡ map now c.loop-word.names.items ++ c.loop-word.last.now ∷ [] =
    ap (map now) c.in_ok-push.ensures.items
    ∙ map-append now c.loop-word.names.items (c.in-Some-name_of.name ∷ [])
    ∙ ap (λ w. map now c.loop-word.names.items ++ w ∷ []) own.1 in
    record {
      can_go = tt;
      ends = tt;
      words =
          word_more (words_left c.args.words) (map now c.loop-word.names.items)
          c.loop-word.last.now c.in-Some-word.word.now (words_left c.next-in-loop-word.new.self)
          (c.loop-word.invariant.words
          ∙ ap (λ l. map now c.loop-word.names.items ++ c.loop-word.last.now ∷ l) c.in-Some-word.ensures.steps)
          ∙ ap (λ l. l ++ c.in-Some-word.word.now ∷ words_left c.next-in-loop-word.new.self) (sym one);
      named =
          subst (λ l. list_all is_name l ≡ true) (sym one)
          (all_more (map now c.loop-word.names.items) c.loop-word.last.now c.loop-word.invariant.named own.0);
      few = omega (
        arith,
        length-append c.loop-word.names.items (c.in-Some-name_of.name ∷ []),
        ap (λ (l : List (Bor (List ℕ))). length l) c.in_ok-push.ensures.items,
        c.loop-word.invariant.few,
        c.len.ensures,
        c.if-len-eq-MAX_NAMES.false,
      );
    }
