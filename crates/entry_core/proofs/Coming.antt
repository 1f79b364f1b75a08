-- Whoever is welcome has come by right, and stays so.
use Rattle.std.proofs.Common.{◌≡◌, ℕ, List, Bool, true, false, Option, Some, None, refl, sym, ap, ◌∙◌}
use Rattle.std.specs.Prelude.{if◌then◌else◌}
use Rattle.std.specs.Arc.{arc_value}
use Rattle.std.specs.Io.KnownBytes.{Consumes}
use Rattle.base_core.specs.Words.{same_name}
use Rattle.base_core.specs.declared.name.Name.{Name}
use Rattle.base_core.specs.declared.name.User.{User}
use Rattle.base_core.proofs.SameLemmas.{same_name-true}
use Rattle.lines_core.specs.Serving.{Traffic, traffic_of}
use Rattle.session_core.specs.declared.admission.Admission.{Admission}
use Rattle.session_core.specs.declared.admission.Admission.TheVariants as admissions
use Rattle.entry_core.specs.declared.entry.Entry.TheVariants as entries
use Rattle.entry_core.specs.Entries.{entry_of}
use Rattle.entry_core.specs.Right.{HasEnteredAs}
use Rattle.entry_core.proofs.Sending.{session_on}

-- who is welcome is the one who was named
known_named : (known user : User) (name : Name) (b : Bool) → same_name known.0 name ≡ b
    → (if b then entries.Welcome known else entries.Refused) ≡ entries.Welcome user → name ≡ user.0
known_named known user name true is e =
    let found : known ≡ user = cc in
    sym (same_name-true known.0 name is) ∙ ap (λ (u : User). u.0) found
known_named known user name false is e = absurd cc

pub welcome_named : (admission : Admission) (name : Option Name) (user : User)
    → entry_of admission name ≡ entries.Welcome user → name ≡ Some user.0
welcome_named admissions.Anyone (Some name) user e =
    let found : record { 0 = name } ≡ user = cc in
    ap (λ (u : User). Some u.0) found
welcome_named (admissions.Known known) (Some name) user e =
    ap (λ (n : Name). Some n) (known_named known user name (same_name known.0 name) refl e)
welcome_named (admissions.Login file secret own) (Some name) user e = absurd cc
welcome_named admission None user e = absurd cc

-- and so is who has to log in
known_never : (known : User) (user : Name) (b : Bool) → (if b then entries.Welcome known else entries.Refused) ≡ entries.Login user → ⊥
known_never known user true e = cc
known_never known user false e = cc

pub login_named : (admission : Admission) (name : Option Name) (user : Name)
    → entry_of admission name ≡ entries.Login user → name ≡ Some user
login_named admissions.Anyone (Some name) user e = absurd cc
login_named (admissions.Known known) (Some name) user e = absurd (known_never known user (same_name known.0 name) e)
login_named (admissions.Login file secret own) (Some name) user e = cc
login_named admission None user e = absurd cc

-- who is welcome where it is known who he is
known_is : (known user : User) (b : Bool) → (if b then entries.Welcome known else entries.Refused) ≡ entries.Welcome user → user ≡ known
known_is known user true e = cc
known_is known user false e = absurd cc

pub welcome : (admission : Admission) (name : Option Name) (traffic : Traffic) (user : User)
    → entry_of admission name ≡ entries.Welcome user → HasEnteredAs admission traffic user
welcome admissions.Anyone name traffic user e = tt
welcome (admissions.Known known) (Some name) traffic user e = known_is known user (same_name known.0 name) e
welcome (admissions.Known known) None traffic user e = absurd cc
welcome (admissions.Login file secret own) (Some name) traffic user e = absurd cc
welcome (admissions.Login file secret own) None traffic user e = absurd cc

pub stays : (admission : Admission) (user : User) (more : List ℕ) (left0 left1 left2 taken0 taken1 later : Option (List ℕ))
    → HasEnteredAs admission (traffic_of left0 left1 taken0 taken1) user
    → Consumes left1 left2 more
    → HasEnteredAs admission (traffic_of left0 left2 taken0 later) user
stays admissions.Anyone user more left0 left1 left2 taken0 taken1 later come read = tt
stays (admissions.Known known) user more left0 left1 left2 taken0 taken1 later come read = come
stays (admissions.Login file secret own) user more left0 left1 left2 taken0 taken1 later come read =
    session_on (arc_value file).users secret own user more left0 left1 left2 taken0 taken1 later come read
