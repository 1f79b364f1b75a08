-- What is answered to the last message of a login.
use Rattle.std.proofs.Common.{◌≡◌, ℕ, List, Option, Some, None, Ok, Err, sym, subst, ◌∙◌, MatchOption}
use Rattle.std.specs.Prelude.{Result, IfOk}
use Rattle.login_core.specs.declared.verifier.Verifier.{Verifier}
use Rattle.login_core.specs.Users.{Users, verifier_of}
use Rattle.login_core.specs.Login.{Beginning, ProvesKey, Signs, Disproves, LogsIn, Refuses}

some-same : (v w : Verifier) → Some v ≡ Some w → v ≡ w
some-same v w e = cc

-- by what is kept of the user
pub answered : {V E : Type 0} (items : V → List ℕ) (users : Users) (begun : Beginning) (message : List ℕ) (kept : Verifier) (r : Result (Option V) E)
    → verifier_of users begun.user ≡ Some kept
    → IfOk r (λ o. MatchOption o (Disproves kept.stored_key begun message) (λ a. Signs kept.stored_key kept.server_key begun message (items a)))
    → IfOk r (λ o. MatchOption o (Refuses users begun message) (λ a. LogsIn users begun message (items a)))
answered items users begun message kept (Ok (Some a)) found h = record { kept = kept; kept_is = found; signs = h }
answered items users begun message kept (Ok None) found h = λ answer admits.
    h (subst (λ (k : Verifier). ProvesKey k.stored_key begun message)
    (some-same admits.kept kept (sym admits.kept_is ∙ found)) admits.signs.proves)
answered items users begun message kept (Err e) found h = tt
