-- The records of why a user holds privileges, or does not: the steps of its ways.
use Rattle.std.specs.Prelude.{◌≡◌, ℕ, ◌==◌, Bool, false, true, if◌then◌else◌, List, [], ◌∷◌, ◌++◌, codes, decimal, Some}
use Rattle.std.specs.Option.{option_map_or}
use Rattle.base_core.specs.declared.name.User.{User}
use Rattle.base_core.specs.declared.privilege.Atom.{Atom}
use Rattle.base_core.specs.declared.value.Moment.{Moment}
use Rattle.grants_core.specs.declared.grant.Grant.{Grant}
use Rattle.grants_core.specs.declared.grant.Change.{Change}
use Rattle.grants_core.specs.declared.grant.Change.TheVariants as change
use Rattle.reply_core.specs.Texts.{kind_text}
use Rattle.explain_core.specs.declared.life.Life.{Life}
use Rattle.explain_core.specs.declared.why.Why.{Why}
use Rattle.explain_core.specs.declared.why.Why.TheVariants as why
use Rattle.explain_core.specs.Chains.{IsChain, IsWhy}
use Rattle.explain_core.specs.Falls.{IsDescent}
use Rattle.explain_core.specs.Takings.{item_at}
use Rattle.explain_records.specs.Cells.{flag_text}
use Rattle.explain_records.specs.Telling.{Fields, TellEach, answer_of, numbered_records}
use Rattle.explain_records.specs.Records.{line_number}

-- whose privilege it is of which a step tells, and what is answered
abbrev pub front : User → Atom → List ℕ → Fields
front user atom answer = atom.table ∷ user.0 ∷ kind_text atom.kind ∷ answer ∷ []

-- the step of an owner, who created the table at this moment
abbrev pub owner_step : List ℕ → User → Atom → Moment → Fields
owner_step numbers user atom since =
    front user atom (codes "owns")
    ++ [] ∷ decimal 1 ∷ decimal since.0 ∷ [] ∷ user.0 ∷ flag_text true
    ∷ [] ∷ [] ∷ line_number numbers since ∷ [] ∷ []

-- the grant of a step: the moment of the one that the way leads to, the number of the step, and the grant
abbrev pub step_fields : Moment → ℕ → Grant → Fields
step_fields given n g =
    decimal given.0 ∷ decimal n ∷ decimal g.moment.0 ∷ g.grantor.0 ∷ g.grantee.0
    ∷ flag_text g.option ∷ []

-- a step of a chain by which he holds it
abbrev pub link_step : List ℕ → User → Atom → Moment → ℕ → Grant → Fields
link_step numbers user atom given n g =
    front user atom (codes "holds")
    ++ (step_fields given n g ++ [] ∷ [] ∷ line_number numbers g.moment ∷ [] ∷ [])

-- the steps of a chain that leads to a grant of this moment
abbrev pub chain_steps : List ℕ → User → Atom → Moment → List Grant → List Fields
chain_steps numbers user atom given chain =
    numbered_records (λ n g. link_step numbers user atom given n g ∷ []) 1 chain

-- whether the change of this moment takes options alone
abbrev pub takes_options : Change → Bool
takes_options (change.Create table owner) = false
takes_options (change.Grant by atoms whom option) = false
takes_options (change.Revoke by atoms whom) = false
takes_options (change.RevokeOption by atoms whom) = true
takes_options change.Other = false

-- what ended at a step of the way down from the REVOKE of this moment: of the first what that names, the grant or
-- its option alone, and of the others the grant
abbrev pub way_text : List Change → Moment → ℕ → List ℕ
way_text changes fell n =
    if n == 1
    then (if option_map_or takes_options (item_at changes fell) false
    then codes "option revoked"
    else codes "revoked")
    else codes "fell"

-- a step of the way down to a grant that fell then
abbrev pub loss_step : List Change → List ℕ → User → Atom → Moment → Moment → ℕ → Life → Fields
loss_step changes numbers user atom given fell n life =
    front user atom (codes "lacks")
    ++ (step_fields given n life.grant
    ++ decimal fell.0 ∷ way_text changes fell n ∷ line_number numbers life.grant.moment
    ∷ line_number numbers fell ∷ [])

-- the steps of such a way
abbrev pub loss_steps : List Change → List ℕ → User → Atom → Moment → Moment → List Life → List Fields
loss_steps changes numbers user atom given fell line =
    numbered_records (λ n life. loss_step changes numbers user atom given fell n life ∷ []) 1 line

-- these steps tell how the grant of the life fell
abbrev pub TellsLoss : List Change → List ℕ → User → Atom → Life → List Fields → Type 0
TellsLoss changes numbers user atom life steps =
    (fell : Moment) × (line : List Life)
    × (life.fell ≡ Some fell) × IsDescent changes fell line life
    × (steps ≡ loss_steps changes numbers user atom life.grant.moment fell line)

-- the record of who was never granted it
abbrev pub never_given : User → Atom → Fields
never_given user atom =
    front user atom (codes "lacks")
    ++ [] ∷ [] ∷ [] ∷ [] ∷ [] ∷ [] ∷ [] ∷ [] ∷ [] ∷ [] ∷ []

-- these steps tell how a user lost what these grants gave him; or that none ever did
abbrev pub TellLosses : List Change → List ℕ → User → Atom → List Life → List Fields → Type 0
TellLosses changes numbers user atom [] steps = steps ≡ never_given user atom ∷ []
TellLosses changes numbers user atom (life ∷ lives) steps =
    TellEach (TellsLoss changes numbers user atom) (life ∷ lives) steps

-- these steps tell why
abbrev pub TellWhy : List Change → List ℕ → User → Atom → Why → List Fields → Type 0
TellWhy changes numbers user atom (why.Owns since) steps =
    steps ≡ owner_step numbers user atom since ∷ []
TellWhy changes numbers user atom (why.Holds chain) steps =
    (last : Grant) × IsChain changes chain.items last
    × (steps ≡ chain_steps numbers user atom last.moment chain.items)
TellWhy changes numbers user atom (why.Lacks given) steps =
    TellLosses changes numbers user atom given.items steps

-- these steps tell the reason why the user holds the atom, or does not
abbrev pub TellsReason : List Change → List ℕ → User → Atom → List Fields → Type 0
TellsReason changes numbers user atom steps =
    (reason : Why) × IsWhy changes user atom reason
    × TellWhy changes numbers user atom reason steps

-- the answer to why the user holds these atoms, or does not
abbrev pub IsWhyAnswer : List Change → List ℕ → User → List Atom → List ℕ → Type 0
IsWhyAnswer changes numbers user atoms text =
    (steps : List Fields)
    × TellEach (TellsReason changes numbers user) atoms steps
    × (text ≡ answer_of (codes "table,user,privilege,answer,given,step,since,by,to,option,fell,how,line,revoke\n") steps)
