-- Grants of one atom more: whether they go on with a statement, and what the first statement grows to.
use Rattle.std.proofs.Common.{◌≡◌, ℕ, ◌+◌, ◌<◌, ◌≤◌, Bool, true, false, ◌&&◌, List, [], ◌∷◌, ◌++◌, map, length, take, drop, get_or, subst, sym, ap, ◌∙◌, arith}
use Rattle.std.specs.List.{list_all}
use Rattle.std.specs.Cmp.Lexicographic.{pointwise}
use Rattle.std.proofs.lemmas.Bool.{and_parts, cond-true, cond-false}
use Rattle.std.proofs.lemmas.List.{map-append, drop_all, drop-drop, length-drop}
use Rattle.std.proofs.lemmas.List.Folds.{list_all-append}
use Rattle.base_core.specs.Users.{same_user}
use Rattle.base_core.specs.declared.privilege.Kind.{Kind}
use Rattle.reader_core.specs.Forming.{AreUsers}
use Rattle.reader_core.specs.declared.statement.Statement.TheVariants as statements
use Rattle.grants_core.specs.declared.grant.Grant.{Grant}
use Rattle.system_core.specs.declared.machine.event.Entry.{Entry}
use Rattle.system_core.specs.World.{entry}
use Rattle.dump_core.specs.Grouped.{Group, members, alone, with_member, groups_from, grouped, IsFirstGroup}
use Rattle.dump_core.specs.Dump.{are_made_alike, grantees, are_of_one_atom, privileges_of_kinds, may_be_listed, privileges_given, are_of_one_statement, grants_together, granting}
use Rattle.dump_core.specs.FirstStatement.{IsFirstStatement}
use Rattle.dump_core.proofs.Joining.{together, first-of_these}
use Rattle.dump_core.proofs.Listing.{one-listed}
use Rattle.dump_core.proofs.Together.{users-formed}

abbrev kind_of : Group Grant → Kind
kind_of grants = grants.first.atom.kind

-- **grants of one atom go on with a statement where they are made as its first, to the same users, and their kind may be listed behind the others**
pub joins-statement : (atoms : Group (Group Grant)) (next : Group Grant) → are_of_one_statement atoms ≡ true → are_of_one_statement (with_member atoms next)
    ≡ ((are_made_alike atoms.first.first next.first && pointwise same_user (grantees atoms.first) (grantees next))
    && may_be_listed (privileges_of_kinds (map kind_of (members atoms) ++ kind_of next ∷ [])))
joins-statement atoms next h =
    let test : Group Grant → Bool = λ grants. are_made_alike atoms.first.first grants.first && pointwise same_user (grantees atoms.first) (grantees grants) in
    let parts = and_parts (list_all test atoms.others) (may_be_listed (privileges_given atoms)) h in
    let kinds : privileges_given (with_member atoms next) ≡ privileges_of_kinds (map kind_of (members atoms) ++ kind_of next ∷ []) = ap privileges_of_kinds (map-append kind_of (members atoms) (next ∷ [])) in
    ap (λ b. b && may_be_listed (privileges_given (with_member atoms next))) (list_all-append test atoms.others (next ∷ []))
    ∙ together (list_all test atoms.others) (test next) (may_be_listed (privileges_given (with_member atoms next))) parts.0
    ∙ ap (λ ps. test next && may_be_listed ps) kinds

-- the first statement so far, and what it grows to
pub record Follows (grants : List Grant) (users : ℕ) (kinds : List Kind) (n : ℕ) : Type 0 where
  pub atoms : Group (Group Grant)
  pub of_these : members atoms.first ≡ take users grants
  pub of_kinds : map kind_of (members atoms) ≡ kinds
  pub one_atom : are_of_one_atom atoms.first ≡ true
  pub passes : are_of_one_statement atoms ≡ true
  pub goes_on : groups_from are_of_one_statement atoms (grouped are_of_one_atom (drop n grants)) ≡ grants_together grants
  pub some : 0 < n
  pub within : n ≤ length grants

pub follows-first : (grants : List Grant) (users : ℕ) (f : Grant) (g : IsFirstGroup are_of_one_atom grants users) → f ≡ get_or grants 0 f → Follows grants users (f.atom.kind ∷ []) users
follows-first grants users f g at =
    let first : g.group.first ≡ f = first-of_these g.group grants users f g.of_these g.some at in
    record {
      atoms = alone g.group;
      of_these = g.of_these;
      of_kinds = ap (λ (k : Grant). k.atom.kind ∷ []) first;
      one_atom = g.passes;
      passes = one-listed g.group.first.atom.kind;
      goes_on = ap (grouped are_of_one_statement) (sym g.behind);
      some = g.some;
      within = g.within;
    }

-- what is tested of the next grants of one atom
pub tested-next : (grants behind : List Grant) (users : ℕ) (kinds : List Kind) (n m : ℕ) (s : Follows grants users kinds n) (g : IsFirstGroup are_of_one_atom behind m) (f next : Grant)
    → f ≡ get_or grants 0 f → 0 < users → next ≡ get_or behind 0 next → are_of_one_statement (with_member s.atoms g.group)
    ≡ ((are_made_alike f next && pointwise same_user (map (λ g. g.grantee) (take users grants)) (map (λ g. g.grantee) (take m behind)))
    && may_be_listed (privileges_of_kinds (kinds ++ next.atom.kind ∷ [])))
tested-next grants behind users kinds n m s g f next at some here =
    let first : s.atoms.first.first ≡ f = first-of_these s.atoms.first grants users f s.of_these some at in
    let second : g.group.first ≡ next = first-of_these g.group behind m next g.of_these g.some here in
    let test : Grant → Grant → List Grant → List Grant → List Kind → Bool = λ a b xs ys ks.
    (are_made_alike a b && pointwise same_user (map (λ (g : Grant). g.grantee) xs) (map (λ g. g.grantee) ys)) && may_be_listed (privileges_of_kinds (ks ++ b.atom.kind ∷ [])) in
    joins-statement s.atoms g.group s.passes
    ∙ ap (λ a. test a g.group.first (members s.atoms.first) (members g.group) (map kind_of (members s.atoms))) first
    ∙ ap (λ b. test f b (members s.atoms.first) (members g.group) (map kind_of (members s.atoms))) second
    ∙ ap (λ xs. test f next xs (members g.group) (map kind_of (members s.atoms))) s.of_these
    ∙ ap (λ ys. test f next (take users grants) ys (map kind_of (members s.atoms))) g.of_these
    ∙ ap (test f next (take users grants) (take m behind)) s.of_kinds

module _ (grants behind : List Grant) (users : ℕ) (kinds : List Kind) (n m : ℕ) (is_behind : behind ≡ drop n grants) (s : Follows grants users kinds n) (g : IsFirstGroup are_of_one_atom behind m) (next : Grant) (here : next ≡ get_or behind 0 next) where
  abbrev rest : List (Group Grant)
  rest = grouped are_of_one_atom (drop m behind)

  abbrev larger : Group (Group Grant)
  larger = with_member s.atoms g.group

  step : groups_from are_of_one_statement s.atoms (g.group ∷ rest) ≡ grants_together grants
  step = ap (groups_from are_of_one_statement s.atoms) (sym g.behind) ∙ ap (λ k. groups_from are_of_one_statement s.atoms (grouped are_of_one_atom k)) is_behind ∙ s.goes_on

  further : drop m behind ≡ drop (n + m) grants
  further = ap (drop m) is_behind ∙ drop-drop m n grants

  pub follows-more : are_of_one_statement larger ≡ true → Follows grants users (kinds ++ next.atom.kind ∷ []) (n + m)
  follows-more joins =
      let second : g.group.first ≡ next = first-of_these g.group behind m next g.of_these g.some here in
      let long : length behind + n ≡ length grants = omega (arith, ap length is_behind, length-drop n grants, s.within) in
      record {
        atoms = larger;
        of_these = s.of_these;
        of_kinds = map-append kind_of (members s.atoms) (g.group ∷ []) ∙ ap (λ ks. ks ++ kind_of g.group ∷ []) s.of_kinds ∙ ap (λ (k : Grant). kinds ++ k.atom.kind ∷ []) second;
        one_atom = s.one_atom;
        passes = joins;
        goes_on = ap (λ k. groups_from are_of_one_statement larger (grouped are_of_one_atom k)) (sym further)
            ∙ sym (cond-true (are_of_one_statement larger) (groups_from are_of_one_statement larger rest) (s.atoms ∷ groups_from are_of_one_statement (alone g.group) rest) joins)
            ∙ step;
        some = omega (arith, s.some);
        within = omega (arith, long, g.within);
      }

  pub follows-over : are_of_one_statement larger ≡ false → IsFirstStatement grants users kinds n
  follows-over parts = record {
    atoms = s.atoms;
    of_these = s.of_these;
    of_kinds = s.of_kinds;
    one_atom = s.one_atom;
    passes = s.passes;
    behind = sym step
        ∙ cond-false (are_of_one_statement larger) (groups_from are_of_one_statement larger rest) (s.atoms ∷ groups_from are_of_one_statement (alone g.group) rest) parts
        ∙ ap (λ k. s.atoms ∷ grouped are_of_one_statement k) (sym g.behind)
        ∙ ap (λ k. s.atoms ∷ grants_together k) is_behind;
    some = s.some;
    within = s.within;
  }

pub follows-all : (grants : List Grant) (users : ℕ) (kinds : List Kind) (n : ℕ) → Follows grants users kinds n → length grants ≤ n → IsFirstStatement grants users kinds n
follows-all grants users kinds n s all =
    let none : drop n grants ≡ [] = drop_all n grants all in
    record {
      atoms = s.atoms;
      of_these = s.of_these;
      of_kinds = s.of_kinds;
      one_atom = s.one_atom;
      passes = s.passes;
      behind = sym s.goes_on
          ∙ ap (λ k. groups_from are_of_one_statement s.atoms (grouped are_of_one_atom k)) none
          ∙ ap (λ k. s.atoms ∷ grants_together k) (sym none);
      some = s.some;
      within = s.within;
    }

-- ---- the statement
module _ (grants : List Grant) (users : ℕ) (kinds : List Kind) (n : ℕ) (s : IsFirstStatement grants users kinds n) where
  pub some-kinds : 0 < length kinds
  some-kinds = omega (arith, ap length s.of_kinds)

  pub kinds-listed : may_be_listed (privileges_of_kinds kinds) ≡ true
  kinds-listed =
      let test : Group Grant → Bool = λ grants. are_made_alike s.atoms.first.first grants.first && pointwise same_user (grantees s.atoms.first) (grantees grants) in
      ap (λ ks. may_be_listed (privileges_of_kinds ks)) (sym s.of_kinds) ∙ (and_parts (list_all test s.atoms.others) (may_be_listed (privileges_given s.atoms)) s.passes).1

  pub are-users : AreUsers (map (λ (g : Grant). g.grantee) (take users grants))
  are-users = let P : List Grant → Type 0 = λ gs. AreUsers (map (λ (g : Grant). g.grantee) gs) in subst P s.of_these (users-formed s.atoms.first s.one_atom)

  pub says-first : (f : Grant) → f ≡ get_or grants 0 f → 0 < users
      → map granting (grants_together grants) ≡ entry 0 f.grantor (statements.Grant (privileges_of_kinds kinds) f.atom.table (map (λ g. g.grantee) (take users grants)) f.option) ∷ map granting (grants_together (drop n grants))
  says-first f at some =
      let first : s.atoms.first.first ≡ f = first-of_these s.atoms.first grants users f s.of_these some at in
      let said : Grant → List Kind → List Grant → Entry = λ g ks gs. entry 0 g.grantor (statements.Grant (privileges_of_kinds ks) g.atom.table (map (λ (g : Grant). g.grantee) gs) g.option) in
      let rest : List Entry = map granting (grants_together (drop n grants)) in
      ap (map granting) s.behind
      ∙ ap (λ g. said g (map kind_of (members s.atoms)) (members s.atoms.first) ∷ rest) first
      ∙ ap (λ ks. said f ks (members s.atoms.first) ∷ rest) s.of_kinds
      ∙ ap (λ gs. said f kinds gs ∷ rest) s.of_these
