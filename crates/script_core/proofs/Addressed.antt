-- A line says one thing.
use Rattle.std.proofs.Common.{◌≡◌, ℕ, ◌+◌, List, Result, Ok, Err, drop, sym, ap, subst, ◌∙◌}
use Rattle.base_core.specs.declared.name.User.{User}
use Rattle.lexer_core.specs.declared.fault.Code.{Code}
use Rattle.reader_core.specs.Language.{Spells, IsReadFault}
use Rattle.reader_core.specs.declared.statement.Statement.{Statement}
use Rattle.reader_core.proofs.Exactness.{one_line_fault, spelled_once, spelled_no_fault}
use Rattle.script_core.specs.Addressed.{addressed_up_to, Asks, IsFaulty, address, statement}

-- ---- pairs
pub parts : {A B : Type 0} (p q : A × B) → p ≡ q → (p.0 ≡ q.0) × (p.1 ≡ q.1)
parts {A} {B} p q e = (ap (λ (x : A × B). x.0) e, ap (λ (x : A × B). x.1) e)

ok_once : {A E : Type 0} (p q : A) (e : Result A E) → e ≡ Ok p → e ≡ Ok q → p ≡ q
ok_once p q e h k = cc

err_once : {A E : Type 0} (p q : E) (e : Result A E) → e ≡ Err p → e ≡ Err q → p ≡ q
err_once p q e h k = cc

ok_pair : {A B E : Type 0} (a c : A) (b d : B) (e : Result (A × B) E) → e ≡ Ok (a, b) → e ≡ Ok (c, d) → (a ≡ c) × (b ≡ d)
ok_pair {A} {B} {E} a c b d e h k = parts {A = A} {B = B} (a, b) (c, d) (ok_once {A = A × B} {E = E} (a, b) (c, d) e h k)

err_pair : {T A B : Type 0} (a c : A) (b d : B) (e : Result T (A × B)) → e ≡ Err (a, b) → e ≡ Err (c, d) → (a ≡ c) × (b ≡ d)
err_pair {T} {A} {B} a c b d e h k = parts {A = A} {B = B} (a, b) (c, d) (err_once {A = T} {E = A × B} (a, b) (c, d) e h k)

ok_or_err : {T E : Type 0} (a : T) (b : E) → (e : Result T E) → e ≡ Ok a → e ≡ Err b → ⊥
ok_or_err a b e h k = let no = sym h ∙ k in cc

module _ (most : ℕ) (line : List ℕ) where
  pub one_faulty : (code other : Code) (offset place : ℕ) → IsFaulty most line code offset → IsFaulty most line other place → (code ≡ other) × (offset ≡ place)
  one_faulty code other offset place (address e) (address f) = err_pair code other offset place (addressed_up_to most line) e f
  one_faulty code other _ place (statement user start offset e h) (address f) = absurd (ok_or_err _ _ (addressed_up_to most line) e f)
  one_faulty code other offset _ (address e) (statement user start place f h) = absurd (ok_or_err _ _ (addressed_up_to most line) f e)
  one_faulty code other _ _ (statement user start offset e h) (statement person begin place f k) =
      let starts = (ok_pair user person start begin (addressed_up_to most line) e f).1 in
      let one = one_line_fault (drop start line) code other offset place h (subst (λ n. IsReadFault (drop n line) other place) (sym starts) k) in
      (one.0, ap (λ n. n + offset) starts ∙ ap (λ n. begin + n) one.1)

  pub asked_or_faulty : (user : User) (asked : Statement) (code : Code) (offset : ℕ) → Asks most line user asked → IsFaulty most line code offset → ⊥
  asked_or_faulty user asked code offset a (address e) = ok_or_err _ _ (addressed_up_to most line) a.speaker e
  asked_or_faulty user asked code _ a (statement person begin place f k) =
      let starts = (ok_pair person user begin a.start (addressed_up_to most line) f a.speaker).1 in
      spelled_no_fault (drop a.start line) asked code place a.spelled (subst (λ n. IsReadFault (drop n line) code place) starts k)

  pub asked_once : (user person : User) (asked other : Statement) → Asks most line user asked → Asks most line person other → (user ≡ person) × (asked ≡ other)
  asked_once user person asked other a b =
      let same = ok_pair user person a.start b.start (addressed_up_to most line) a.speaker b.speaker in
      (same.0, spelled_once (drop a.start line) asked other a.spelled (subst (λ n. Spells (drop n line) other) (sym same.1) b.spelled))
