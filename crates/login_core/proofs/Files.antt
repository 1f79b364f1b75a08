-- A file of users, line by line.
use Rattle.std.proofs.Common.{rules, ◌≡◌, ◌==◌, ◌<◌, ◌++◌, ◌∷◌, [], ℕ, List, true, false, length, refl, sym, ap, subst, ◌∙◌, arith, length-append, append-nil, Ok, Err}
use Rattle.std.specs.Prelude.{Result, IsErrAnd, IfErr}
use Rattle.std.proofs.lemmas.List.{append_assoc}
use Rattle.login_core.specs.Decoding.{Splits}
use Rattle.login_core.specs.Users.{Users, SayUsers, WholeLines, whole}

-- what was read has one line more
pub one_line : (text front rest line behind : List ℕ) → text ≡ front ++ rest → Splits 10 rest line behind → text ≡ (front ++ (line ++ 10 ∷ [])) ++ behind
one_line text front rest line behind e s =
    e ∙ (ap (λ r. front ++ r) (s.said ∙ sym (append_assoc line (10 ∷ []) behind)) ∙ sym (append_assoc front (line ++ 10 ∷ []) behind))

-- the line that is read next, and what stands behind it
pub next_line : (text front rest line behind : List ℕ) → text ≡ front ++ rest → Splits 10 rest line behind → text ≡ front ++ (line ++ 10 ∷ behind)
next_line text front rest line behind e s = e ∙ ap (λ r. front ++ r) s.said

-- less is left
pub less : (rest line behind : List ℕ) → Splits 10 rest line behind → length behind < length rest
less rest line behind s = let long = ap length s.said ∙ length-append line (10 ∷ behind) in omega (arith, long)

-- a last line stands at the end
pub last_line : (text front rest : List ℕ) → text ≡ front ++ rest → text ≡ front ++ (rest ++ [])
last_line text front rest e = e ∙ ap (λ r. front ++ r) (sym (append-nil rest))

-- where nothing is left, all was whole lines
pub all_whole : (text front rest : List ℕ) (users : Users) → text ≡ front ++ rest → rest ≡ [] → WholeLines front users → SayUsers text users
all_whole text front rest users e none lines =
    subst (λ t. SayUsers t users) (sym (e ∙ (ap (λ r. front ++ r) none ∙ append-nil front))) (whole lines)

pub some : (xs : List ℕ) → (length xs == 0) ≡ false → 0 < length xs
some [] e = absurd (search rules)
some (x ∷ xs) e = omega arith

pub empty : (xs : List ℕ) → (length xs == 0) ≡ true → xs ≡ []
empty [] e = refl
empty (x ∷ xs) e = absurd (search rules)

-- what is said of an error that a `?` hands on
pub exit_err : {V E : Type 0} (P : E → Type 0) (r : Result V E) (e : E) → IsErrAnd r (λ y. y ≡ e) → P e → IfErr r P
exit_err P (Ok v) e p h = absurd p
exit_err P (Err y) e p h = subst P (sym p) h
