-- The single grants of atoms to users.
use Rattle.std.proofs.Common.{◌≡◌, ℕ, ◌+◌, ◌*◌, Bool, List, [], ◌∷◌, ◌++◌, length, refl, sym, ap, ◌∙◌, suc, arith, append_assoc, length-append, zero-mul, suc-mul}
use Rattle.base_core.specs.declared.name.User.{User}
use Rattle.base_core.specs.declared.privilege.Atom.{Atom}
use Rattle.base_core.specs.declared.value.Moment.{Moment}
use Rattle.grants_core.specs.declared.grant.Grant.{Grant}
use Rattle.grants_core.specs.Content.{to_each, singles}

pub length-to_each : (n : ℕ) (at : Moment) (by : User) (atom : Atom) (whom : List User) (option : Bool) → length (to_each n at by atom whom option) ≡ length whom
length-to_each n at by atom [] option = refl
length-to_each n at by atom (u ∷ us) option = ap suc (length-to_each (n + 1) at by atom us option)

pub length-singles : (n : ℕ) (at : Moment) (by : User) (atoms : List Atom) (whom : List User) (option : Bool) → length (singles n at by atoms whom option) ≡ length atoms * length whom
length-singles n at by [] whom option = sym (zero-mul (length whom))
length-singles n at by (a ∷ more) whom option =
    let one = length-to_each n at by a whom option in
    let rest = length-singles (n + length whom) at by more whom option in
    length-append (to_each n at by a whom option) (singles (n + length whom) at by more whom option) ∙ omega (arith, one, rest, suc-mul (length more) (length whom))

-- those of one more atom follow
pub singles-more : (grants : List Grant) (first : ℕ) (at : Moment) (by : User) (atom : Atom) (more : List Atom) (whom : List User) (option : Bool) → (grants ++ to_each (first + length grants) at by atom whom option) ++ singles (first + length (grants ++ to_each (first + length grants) at by atom whom option)) at by more whom option ≡ grants ++ singles (first + length grants) at by (atom ∷ more) whom option
singles-more grants first at by atom more whom option =
    let each : List Grant = to_each (first + length grants) at by atom whom option in
    let count : first + length (grants ++ each) ≡ (first + length grants) + length whom =
    omega (arith, length-append grants each, length-to_each (first + length grants) at by atom whom option) in
    append_assoc grants each (singles (first + length (grants ++ each)) at by more whom option)
    ∙ ap (λ n. grants ++ (each ++ singles n at by more whom option)) count
