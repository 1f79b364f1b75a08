-- One iterate more, and their sum.
use Rattle.std.proofs.Common.{◌≡◌, ◌+◌, ◌-◌, ◌≤◌, ℕ, suc, List, sym, ◌∙◌, ap, arith}
use Rattle.login_core.specs.Hmac.{hmac}
use Rattle.login_core.specs.Pbkdf2.{exclusive_or_sum, iterate, exclusive_or}

pub next_iterate : (password salt last : List ℕ) (i : ℕ) → 1 ≤ i → last ≡ iterate password salt (i - 1)
    → hmac password last ≡ iterate password salt (i + 1 - 1)
next_iterate password salt last i some is =
    let e : i + 1 - 1 ≡ suc (i - 1) = omega (some, arith)
    in ap (hmac password) is ∙ sym (ap (iterate password salt) e)

pub next_sum : (password salt key last : List ℕ) (i : ℕ) → 1 ≤ i
    → key ≡ exclusive_or_sum password salt (i - 1) → last ≡ iterate password salt (i + 1 - 1)
    → exclusive_or key last ≡ exclusive_or_sum password salt (i + 1 - 1)
next_sum password salt key last i some is lasts =
    let e : i + 1 - 1 ≡ suc (i - 1) = omega (some, arith)
    in ap (λ k. exclusive_or k last) is
    ∙ ap (exclusive_or (exclusive_or_sum password salt (i - 1))) (lasts ∙ ap (iterate password salt) e)
    ∙ sym (ap (exclusive_or_sum password salt) e)
