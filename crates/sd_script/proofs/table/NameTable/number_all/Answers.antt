use Rattle.std.proofs.Common.{◌<◌, ℕ, List, length, map, take, sym, subst, arith, Bor}
use Rattle.std.specs.List.{AllByRecursion}
use Rattle.sd_script.specs.Scripts.{number_of_word}
use Rattle.sd_script.specs.Tables.{table_words}
use Rattle.sd_script.proofs.Seeing.{seen_more, numbered_more, numbers_within_all}
use Rattle.sd_script.proofs.table.NameTable.number_all.Goals as goal

-- one word more
pub loop-word-preserved : goal.loop-word-preserved
loop-word-preserved c =
    let now = λ (word : Bor (List ℕ)). word.now in
    let old = table_words c.args.self.now in
    let i = c.loop-word.word-index in
    let within : i < length c.args.words.now = omega (arith, c.loop-word-test.true, c.loop-word.auto.word-index-end) in
    let words =
    seen_more now old (table_words c.loop-word.self) (table_words c.number.new.self) c.args.words.now i _ within
    c.loop-word.invariant.words c.in_ok-number.ensures.words in
    record {
      words = words;
      numbers =
          numbered_more now old (table_words c.loop-word.self) (table_words c.number.new.self) c.args.words.now i _
          within
          c.loop-word.numbers.items c.push.new.self.items c.in_ok-number.field-0
          c.loop-word.invariant.words c.loop-word.invariant.numbers c.in_ok-number.ensures.words
          c.in_ok-number.ensures.number c.in_ok-push.ensures.items;
      grown = omega (arith, c.number.ensures.grows, c.loop-word.invariant.grown);
    }

-- the numbers are those of words of the table
pub returns-clause-within : goal.returns-clause-within
returns-clause-within c =
    let now = λ (word : Bor (List ℕ)). word.now in
    let old = table_words c.args.self.now in
    let more = map now (take c.loop-word.word-index c.args.words.now) in
    let t = table_words c.loop-word.self in
    subst (AllByRecursion (λ n. n < length t)) (sym c.loop-word.invariant.numbers)
    (subst (λ (w : List (List ℕ)). AllByRecursion (λ n. n < length w) (map (number_of_word w) more))
    (sym c.loop-word.invariant.words) (numbers_within_all old more))
