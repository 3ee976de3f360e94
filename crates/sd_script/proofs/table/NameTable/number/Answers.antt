use Rattle.std.proofs.Common.{ℕ, List, map, sym, ap, ◌∙◌, Bor}
use Rattle.sd_script.specs.Scripts.{number_of_word}
use Rattle.sd_script.proofs.TableLaws.{see_view, number_view, number_see}
use Rattle.sd_script.proofs.table.NameTable.number.Goals as goal

-- the word is put among those before
pub returns-clause-words : goal.returns-clause-words
returns-clause-words c =
    ap (map (λ (k : Bor (List ℕ)). k.now)) c.in_ok-index.ensures.keys
    ∙ see_view (λ (k : Bor (List ℕ)). k.now) c.args.self.now.words.keys c.args.word

-- its index is its number
pub returns-clause-number : goal.returns-clause-number
returns-clause-number c =
    c.in_ok-index.ensures.index
    ∙ number_view (λ (k : Bor (List ℕ)). k.now) c.args.word.now c.args.self.now.words.keys
    ∙ sym (number_see (map (λ (k : Bor (List ℕ)). k.now) c.args.self.now.words.keys) c.args.word.now)
    ∙ ap (λ words. number_of_word words c.args.word.now)
    (sym (see_view (λ (k : Bor (List ℕ)). k.now) c.args.self.now.words.keys c.args.word)
    ∙ sym (ap (map (λ (k : Bor (List ℕ)). k.now)) c.in_ok-index.ensures.keys))
