use Rattle.std.proofs.Common.{◌≡◌, ◌<◌, ℕ, List, Some, None, codes, subst, sym, length, ap, ◌∙◌, arith, eqb-true, true, false}
use Rattle.std.proofs.lemmas.Slice.Eq.{strip_prefix_is}
use Rattle.std.proofs.lemmas.Bool.Decides.{Decides-eqb}
use Rattle.std.specs.List.{list_all}
use Rattle.login_core.specs.ClientFirst.{is_nonce_byte}
use Rattle.login_core.proofs.FirstMessages.{no_nonce, nonce_is}
use Rattle.login_core.proofs.client_first.nonce.Goals as goal

pub returns-in_err-nonce : goal.returns-in_err-nonce
returns-in_err-nonce c =
    let first = strip_prefix_is Decides-eqb c.args.bare.now (codes "n=") (Some c.in_ok-named.named) c.in_ok-named.ensures.cases in
    let none = strip_prefix_is Decides-eqb c.in_ok-_name.behind.now (codes "r=") None c.in_err-nonce.ensures.cases in
    rw c.from_residual-in_err-nonce.ensures
    (no_nonce c.args.bare.now c.in_ok-named.named.now c.in_ok-_name._name.now c.in_ok-_name.behind.now first c.in_ok-_name.ensures none)

pub returns-then-is_empty : goal.returns-then-is_empty
returns-then-is_empty c = λ said s.
    let first = strip_prefix_is Decides-eqb c.args.bare.now (codes "n=") (Some c.in_ok-named.named) c.in_ok-named.ensures.cases in
    let second = strip_prefix_is Decides-eqb c.in_ok-_name.behind.now (codes "r=") (Some c.in_ok-nonce.nonce) c.in_ok-nonce.ensures.cases in
    let same = nonce_is c.args.bare.now c.in_ok-named.named.now c.in_ok-_name._name.now c.in_ok-_name.behind.now c.in_ok-nonce.nonce.now said
    first c.in_ok-_name.ensures second s in
    let long : 0 < length c.in_ok-nonce.nonce.now = subst (λ (t : List ℕ). 0 < length t) (sym same) s.some in
    let none : length c.in_ok-nonce.nonce.now ≡ 0 = eqb-true (length c.in_ok-nonce.nonce.now) 0 (sym c.is_empty.ensures ∙ c.if-is_empty.true) in
    omega (long, none, arith)

pub returns-then-not-is_nonce : goal.returns-then-not-is_nonce
returns-then-not-is_nonce c = λ said s.
    let first = strip_prefix_is Decides-eqb c.args.bare.now (codes "n=") (Some c.in_ok-named.named) c.in_ok-named.ensures.cases in
    let second = strip_prefix_is Decides-eqb c.in_ok-_name.behind.now (codes "r=") (Some c.in_ok-nonce.nonce) c.in_ok-nonce.ensures.cases in
    let same = nonce_is c.args.bare.now c.in_ok-named.named.now c.in_ok-_name._name.now c.in_ok-_name.behind.now c.in_ok-nonce.nonce.now said
    first c.in_ok-_name.ensures second s in
    let good : c.is_nonce.result ≡ true = c.is_nonce.ensures ∙ (ap (list_all is_nonce_byte) same ∙ s.nonce_bytes) in
    let never : false ≡ true = sym c.if-not-is_nonce.true ∙ good in
    cc
