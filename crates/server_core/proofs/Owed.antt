-- What is owed behind a part of a last reply.
use Rattle.std.proofs.Common.{◌≡◌, List, ℕ, [], Option, Some, None, MatchOption, subst, sym}

-- what may be written once that is, by whether anything is to come
pub owed_behind : {O S N : Type 0} (session_of : O → S) (owes : S → List ℕ → Type 0) (ended : S) (next : Option O)
    → MatchOption next N (λ owing. session_of owing ≡ ended)
    → (N → owes ended [])
    → (rest : List ℕ) → MatchOption next (rest ≡ []) (λ owing. owes (session_of owing) rest) → owes ended rest
owed_behind session_of owes ended None none nothing rest told = subst (owes ended) (sym told) (nothing none)
owed_behind session_of owes ended (Some owing) is nothing rest told = subst (λ s. owes s rest) is told
