-- The records of what would take privileges from a user.
use Rattle.std.specs.Prelude.{◌≡◌, ℕ, List, [], ◌∷◌, codes, map, Option, Some, None}
use Rattle.base_core.specs.declared.name.User.{User}
use Rattle.base_core.specs.declared.privilege.Atom.{Atom}
use Rattle.grants_core.specs.declared.grant.Change.{Change}
use Rattle.reply_core.specs.Texts.{kind_text}
use Rattle.explain_core.specs.declared.cut.Cut.{Cut}
use Rattle.explain_core.specs.Cuts.{IsCut}
use Rattle.explain_records.specs.Telling.{Fields, TellEach, answer_of}

-- a revocation of the atom from one user: by, table, privilege, user
abbrev pub cut_record : User → Atom → User → Fields
cut_record by atom whom = by.0 ∷ atom.table ∷ kind_text atom.kind ∷ whom.0 ∷ []

-- the records of a cut, if there is one
abbrev pub cut_records : Atom → Option Cut → List Fields
cut_records atom None = []
cut_records atom (Some cut) = map (cut_record cut.by atom) cut.whom.items

-- these records tell what would take the atom from the user
abbrev pub TellsCut : List Change → User → Atom → List Fields → Type 0
TellsCut changes user atom records =
    (cut : Option Cut) × IsCut changes user atom cut × (records ≡ cut_records atom cut)

-- the answer to what would take these atoms from the user
abbrev pub IsCutAnswer : List Change → User → List Atom → List ℕ → Type 0
IsCutAnswer changes user atoms text =
    (records : List Fields)
    × TellEach (TellsCut changes user) atoms records
    × (text ≡ answer_of (codes "by,table,privilege,user\n") records)
