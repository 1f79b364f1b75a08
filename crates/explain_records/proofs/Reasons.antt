-- The parts of an answer to why.
use Rattle.std.proofs.Common.{◌≡◌, ℕ, List, [], ◌∷◌, length, refl}
use Rattle.base_core.specs.declared.name.User.{User}
use Rattle.base_core.specs.declared.privilege.Atom.{Atom}
use Rattle.grants_core.specs.declared.grant.Change.{Change}
use Rattle.explain_core.specs.declared.life.Life.{Life}
use Rattle.explain_records.specs.Telling.{Fields, TellEach}
use Rattle.explain_records.specs.Steps.{TellLosses, TellsLoss}

-- a list without elements
pub none-in : {A : Type 0} (items : List A) → length items ≡ 0 → items ≡ []
none-in [] h = refl
none-in (x ∷ items) h = absurd (let never : ⊥ = cc in never)

-- what is told of some grants
pub losses-some : (changes : List Change) (numbers : List ℕ) (user : User) (atom : Atom) (given : List Life) (steps : List Fields) → (given ≡ [] → ⊥)
    → TellEach (TellsLoss changes numbers user atom) given steps → TellLosses changes numbers user atom given steps
losses-some changes numbers user atom [] steps some told = absurd (some refl)
losses-some changes numbers user atom (life ∷ lives) steps some told = told
