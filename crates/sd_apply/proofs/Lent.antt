-- The table that a cache lends to an operation, and takes back.
use Rattle.std.proofs.Common.{◌≡◌, ◌∙◌, ℕ, ◌<◌, ◌≤◌, [], ◌∷◌, get_or, sym, subst, arith}
use Rattle.std.proofs.lemmas.List.Elements.{All-cons, All-contains, Contains-get_or}
use Rattle.sd_cache.specs.Entries.{Answers, AreAmong, Call, Entries, all_lent, answers_of, call}
use Rattle.sd_cache.proofs.Callers.{lent_entry}
use Rattle.sd_manager.specs.Table.{Table}
use Rattle.sd_apply.specs.Serving.{IsRight, Serves}
use Rattle.sd_apply.specs.Recent.{AreRight}
use Rattle.sd_apply.proofs.RightEntries.{among_right}

-- without the computed answers a cache still serves
pub serves_lent : (c c1 : Answers) (t : Table) → c1 ≡ all_lent c → Serves c t → Serves c1 t
serves_lent c c1 t e h =
    subst (λ x. Serves x t) (sym e)
    (record {
      early = h.early;
      right = h.right;
      computed_early = h.computed_early;
      computed_right = λ n k x m. absurd (omega (arith, m.1));
    })

-- what is lent in the manager's epoch is right
pub lent_right : (c : Answers) (t : Table) (es : Entries) (epoch : ℕ) → epoch ≡ t.epoch → Serves c t →
    (c.epoch ≡ epoch → epoch < 72057594037927936 → es ≡ c.computed) →
    (¬ (c.epoch ≡ epoch) → es ≡ []) → (72057594037927936 ≤ epoch → es ≡ []) → AreRight t es
lent_right c t es epoch at h lent other late = λ k d lt.
    let e = lent_entry c es epoch lent other late (get_or es k d) (Contains-get_or es k d lt) in
    let early = e.early in
    h.computed_right (λ q. omega (arith, early, at, q)) (e.epoch_is ∙ at) (get_or es k d) e.held

-- right answers are taken back under the manager's epoch
pub serves_back : (c c1 : Answers) (t : Table) (es : Entries) (epoch : ℕ) → epoch ≡ t.epoch →
    c1 ≡ answers_of c.entries es epoch → AreRight t es → Serves c t → Serves c1 t
serves_back c c1 t es epoch at e right h =
    subst (λ x. Serves x t) (sym e)
    (record {
      early = h.early;
      right = h.right;
      computed_early = omega (arith, at);
      computed_right = λ n k x m. All-contains (λ y. IsRight t y) es x right m;
    })

-- an answer joins right ones
pub right_more : (t : Table) (es kept : Entries) (n a b r : ℕ) → AreRight t es → IsRight t (call 0 n a b, r) →
    AreAmong kept ((call 0 n a b, r) ∷ es) → AreRight t kept
right_more t es kept n a b r all one h =
    let added : Call × ℕ = (call 0 n a b, r) in
    among_right t kept (added ∷ es) h (All-cons (λ e. IsRight t e) added es one all)
