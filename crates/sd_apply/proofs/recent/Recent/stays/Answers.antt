use Rattle.std.proofs.Common.{◌∙◌, ℕ, subst, Some}
use Rattle.sd_apply.specs.Calls.{Applies}
use Rattle.sd_apply.proofs.TerminalLaws.{terminal_applies, terminal_at, applies_commutes}
use Rattle.sd_apply.proofs.Served.{right_applies}
use Rattle.sd_apply.proofs.Opposite.{from_test}
use Rattle.sd_apply.proofs.recent.Recent.stays.Goals as goal

-- by the codes

pub returns-in-Some : goal.returns-in-Some
returns-in-Some c = λ same t v i k.
    let o = c.args.operation in
    let A : ℕ → Type 0 = λ r. Applies t t o v c.args.a c.args.b r in
    subst A (from_test c.in-Some.code c.a.inside.0 same ∙ c.a.view_is)
    (terminal_applies t i o v c.args.a c.args.b c.in-Some.code
    (terminal_at o c.number-kind.result c.args.a c.args.b c.a.inside.0 c.b.inside.0 (Some c.in-Some.code)
    c.number-kind.ensures c.a.view_is c.b.view_is c.in-Some.ensures))

-- by the table, which names the lesser code first

pub returns-then-a-b : goal.returns-then-a-b
returns-then-a-b c = λ yes t v i k.
    let o = c.args.operation in
    let A : ℕ → Type 0 = λ r. Applies t t o v c.args.a c.args.b r in
    subst A c.a.view_is
    (right_applies t o c.number-kind.result v c.args.a c.args.b 0 c.a.inside.0 c.b.inside.0 c.a.inside.0 i
    c.number-kind.ensures c.a.view_is c.b.view_is (c.has.ensures yes t k))

pub returns : goal.returns
returns c = λ yes t v i k.
    let o = c.args.operation in
    let A : ℕ → Type 0 = λ r. Applies t t o v c.args.a c.args.b r in
    subst A c.a.view_is
    (applies_commutes t t o v c.args.a c.args.b c.a.inside.0
    (right_applies t o c.number-kind.result v c.args.b c.args.a 0 c.b.inside.0 c.a.inside.0 c.a.inside.0 i
    c.number-kind.ensures c.b.view_is c.a.view_is (c.has-2.ensures yes t k)))
