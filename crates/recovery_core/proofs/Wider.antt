-- What is allowed within limits is allowed within wider ones.
use Rattle.std.proofs.Common.{◌≡◌, ◌≤◌, ℕ, Bool, true, List, [], ◌∷◌, ◌++◌, length, map, Ok, Some, None, refl, ap, ◌∙◌, arith}
use Rattle.std.specs.Prelude.{nat_le, nat_lt}
use Rattle.std.specs.List.{AllByRecursion}
use Rattle.std.proofs.lemmas.Bool.Decides.{nat_tests}
use Rattle.base_core.specs.declared.limits.Limits.{Limits}
use Rattle.base_core.specs.declared.lack.Lack.{Lack}
use Rattle.base_core.specs.declared.name.User.{User}
use Rattle.reader_core.specs.declared.statement.Statement.{Statement}
use Rattle.reader_core.specs.declared.statement.Statement.TheVariants as statements
use Rattle.grants_core.specs.declared.grant.Grant.{Grant}
use Rattle.base_core.specs.declared.privilege.Atom.{Atom}
use Rattle.monitor_core.specs.Verdict.{Check, State, require, first_lack, each, checks, has_room, atoms_at, room_for_change, room_for_table, room_for_grants}
use Rattle.monitor_core.proofs.Passing.{passed, require-Ok, each-Ok}
use Rattle.system_core.specs.Journal.{state_of, verdict_at, IsLawfulFrom}
use Rattle.system_core.specs.declared.machine.event.Entry.{Entry}
use Rattle.load_core.specs.Loading.{Loads}

-- each limit of the second is at least that of the first
pub record AreWider (l w : Limits) : Type 0 where
  pub changes : l.changes ≤ w.changes
  pub tables : l.tables ≤ w.tables
  pub grants : l.grants ≤ w.grants

abbrev Passes : Check → Type 0
Passes check = check ≡ Ok tt

all_pass : (cs : List Check) → AllByRecursion Passes cs → first_lack cs ≡ Ok tt
all_pass [] h = refl
all_pass (c ∷ cs) h = ap (λ check. first_lack (check ∷ cs)) h.0 ∙ all_pass cs h.1

each_passes : {A : Type 0} (f g : A → Check) → ((x : A) → Passes (f x) → Passes (g x)) → (xs : List A) → each xs f ≡ Ok tt → each xs g ≡ Ok tt
each_passes f g wider xs h = all_pass (map g xs) (all f g wider xs (each-Ok f xs h))
  where
    all : {A : Type 0} (f g : A → Check) → ((x : A) → Passes (f x) → Passes (g x)) → (xs : List A) → AllByRecursion (λ x. f x ≡ Ok tt) xs → AllByRecursion Passes (map g xs)
    all f g wider [] h = tt
    all f g wider (x ∷ xs) h = (wider x h.0, all f g wider xs h.1)

module _ (l w : Limits) (wider : AreWider l w) where
  requires : (b c : Bool) (lack : Lack) → (b ≡ true → c ≡ true) → Passes (require b lack) → Passes (require c lack)
  requires b c lack says h = ap (λ x. require x lack) (says (require-Ok b lack h))

  less : (n m k : ℕ) → m ≤ k → nat_lt n m ≡ true → nat_lt n k ≡ true
  less n m k le h = grind (arith, nat_tests)

  most : (n m k : ℕ) → m ≤ k → nat_le n m ≡ true → nat_le n k ≡ true
  most n m k le h = grind (arith, nat_tests)

  module _ (journal : List Entry) where
    abbrev old : State
    old = state_of l journal

    abbrev new : State
    new = state_of w journal

    change : Passes (room_for_change old) → Passes (room_for_change new)
    change = requires (nat_lt old.moment l.changes) (nat_lt old.moment w.changes) _ (less old.moment l.changes w.changes wider.changes)

    table : Passes (room_for_table old) → Passes (room_for_table new)
    table = requires (nat_lt (length old.tables) l.tables) (nat_lt (length old.tables) w.tables) _ (less (length old.tables) l.tables w.tables wider.tables)

    room : (in_force : List Grant) (atom : Atom) (more : ℕ) → has_room in_force atom more l.grants ≡ true → has_room in_force atom more w.grants ≡ true
    unfolding has_room
    room in_force atom more h = most _ l.grants w.grants wider.grants h

    grants : (users : List User) (atom : Atom) → Passes (room_for_grants old users atom) → Passes (room_for_grants new users atom)
    grants users atom = requires (has_room old.rights.in_force atom (length users) l.grants) (has_room old.rights.in_force atom (length users) w.grants) _ (room old.rights.in_force atom (length users))

    pub verdict_wider : (user : User) (asked : Statement) → verdict_at l journal user asked ≡ Ok tt → verdict_at w journal user asked ≡ Ok tt
    verdict_wider user (statements.CreateTable t columns) h = let p = passed (checks old user (statements.CreateTable t columns)) h in all_pass (checks new user (statements.CreateTable t columns)) (p.0, (change p.1.0, (table p.1.1.0, tt)))
    verdict_wider user (statements.Insert t values) h = let p = passed (checks old user (statements.Insert t values)) h in all_pass (checks new user (statements.Insert t values)) (p.0, (p.1.0, (p.1.1.0, (p.1.1.1.0, (change p.1.1.1.1.0, tt)))))
    verdict_wider user (statements.Select list t filter) h = h
    verdict_wider user (statements.Delete t filter) h = let p = passed (checks old user (statements.Delete t filter)) h in all_pass (checks new user (statements.Delete t filter)) (p.0, (p.1.0, (p.1.1.0, (p.1.1.1.0, (p.1.1.1.1.0, (change p.1.1.1.1.1.0, tt))))))
    verdict_wider user (statements.Update t sets filter) h = let p = passed (checks old user (statements.Update t sets filter)) h in all_pass (checks new user (statements.Update t sets filter)) (p.0, (p.1.0, (p.1.1.0, (p.1.1.1.0, (p.1.1.1.1.0, (p.1.1.1.1.1.0, (p.1.1.1.1.1.1.0, (change p.1.1.1.1.1.1.1.0, tt))))))))
    verdict_wider user (statements.Grant privileges t users option) h = let p = passed (checks old user (statements.Grant privileges t users option)) h in
        all_pass (checks new user (statements.Grant privileges t users option)) (p.0, (p.1.0, (p.1.1.0, (change p.1.1.1.0, (each_passes (room_for_grants old users) (room_for_grants new users) (grants users) (atoms_at old.tables t privileges) p.1.1.1.1.0, tt)))))
    verdict_wider user (statements.Revoke privileges t users) h = let p = passed (checks old user (statements.Revoke privileges t users)) h in all_pass (checks new user (statements.Revoke privileges t users)) (p.0, (p.1.0, (p.1.1.0, (change p.1.1.1.0, tt))))
    verdict_wider user (statements.RevokeOption privileges t users) h = let p = passed (checks old user (statements.RevokeOption privileges t users)) h in all_pass (checks new user (statements.RevokeOption privileges t users)) (p.0, (p.1.0, (p.1.1.0, (change p.1.1.1.0, tt))))
    verdict_wider user statements.Checkpoint h = h
    verdict_wider user statements.Checkpoints h = h
    verdict_wider user (statements.Export number None) h = h
    verdict_wider user (statements.Export number (Some t)) h = h

  pub Loads_wider : (before after : List Entry) (lines : List (List ℕ)) → Loads l before lines after → Loads w before lines after
  Loads_wider before after [] h = h
  Loads_wider before after (line ∷ lines) (e, says, more) = (e, record { says = says.says; change = says.change; allowed = verdict_wider before e.user e.statement says.allowed }, Loads_wider (before ++ e ∷ []) after lines more)

  pub lawful_wider : (before es : List Entry) → IsLawfulFrom l before es → IsLawfulFrom w before es
  lawful_wider before [] h = tt
  lawful_wider before (e ∷ es) h = (h.0, verdict_wider before e.user e.statement h.1, lawful_wider (before ++ e ∷ []) es h.2)
