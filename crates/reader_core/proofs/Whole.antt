-- What says a statement is a whole sentence of the grammar.
use Rattle.std.proofs.Common.{◌≡◌, ℕ, ◌<◌, ◌≤◌, Bool, true, false, List, [], ◌∷◌, ◌++◌, map, length, All, Option, Some, None, nat_le, ap, sym, subst, ◌∙◌, refl, append_assoc, arith, inl, inr}
use Rattle.std.specs.List.{flat_map}
use Rattle.std.proofs.lemmas.Bool.Decides.{nat_tests}
use Rattle.std.proofs.lemmas.List.{append-nil, map-append}
use Rattle.std.proofs.lemmas.List.Elements.{All-head, All-tail, All-from_recursion}
use Rattle.std.specs.List.{AllByRecursion}
use Rattle.base_core.specs.declared.keyword.Keyword.TheVariants as keywords
use Rattle.base_core.specs.declared.name.Name.{Name}
use Rattle.base_core.specs.declared.name.User.{User}
use Rattle.base_core.specs.declared.condition.Condition.{Condition}
use Rattle.lexer_core.specs.Lexing.{Lexeme, kind_of}
use Rattle.lexer_core.specs.Lexing as lexemes
use Rattle.lexer_core.specs.declared.token.TokenKind.{TokenKind}
use Rattle.lexer_core.specs.declared.token.TokenKind.TheVariants as kinds
use Rattle.lexer_core.specs.declared.token.Mark.TheVariants as marks
use Rattle.lexer_core.specs.declared.fault.Code.{Code}
use Rattle.reader_core.specs.declared.privilege.Privilege.{Privilege}
use Rattle.reader_core.specs.declared.privilege.Privilege.TheVariants as privileges_of
use Rattle.reader_core.specs.declared.statement.Statement.{Statement}
use Rattle.reader_core.specs.declared.statement.Statement.TheVariants as statements
use Rattle.reader_core.specs.Grammar.{Grammar, Class, Key, Sign, Rule, Items, More, One, fits, item_fault, followed_by}
use Rattle.reader_core.specs.Recogniser.{AreFaultless}
use Rattle.reader_core.specs.Matches.{TokenWithFault, faultless, is_next, Matches, done, one, this, other, item, next, last, IsSentence}
use Rattle.reader_core.specs.Privileges.{word_of, word_keyword}
use Rattle.reader_core.specs.Sentences.{comma_separated, names_rule, conditions_rule, privileges_rule, column_item, literal_item, name_item, set_item, condition_item, privilege_item, optional, filter, selection, from_table, grant_option, grant_option_for, privileges_from, only_table, statement, finish}
use Rattle.reader_core.specs.Saying.{comma_lexeme, separated, name_says, names_say, user_says, column_says, value_says, value_lexeme, type_lexeme, comparison_mark, condition_says, set_says, filter_says, selection_says, columns_say, privilege_says, privilege_columns, option_says, only_says, privileges_from_say, statement_says}
use Rattle.reader_core.specs.Forming.{AreNamed, IsSelection, IsWellFormedPrivilege, ArePrivileges, AreUsers, IsWellFormed}
use Rattle.reader_core.specs.Language.{SaysStatement}
use Rattle.reader_core.proofs.Taking.{value_fits, type_fits, comparison_fits}
use Rattle.reader_core.proofs.Fine.{fine_if_few, fine_if_distinct, fine_if_different}

-- the kinds of what is said, and the same without faults
abbrev pub kinds_of : List Lexeme → List TokenKind
kinds_of said = map kind_of said

abbrev faultless_all : List Lexeme → List TokenWithFault
faultless_all said = map faultless (kinds_of said)

faultless_all-append : (xs ys : List Lexeme) → faultless_all (xs ++ ys) ≡ faultless_all xs ++ faultless_all ys
faultless_all-append xs ys = ap (map faultless) (map-append kind_of xs ys) ∙ map-append faultless (kinds_of xs) (kinds_of ys)

-- a part, and then what follows
apart : {g : Grammar} (xs ys : List Lexeme) → Matches g (faultless_all xs ++ faultless_all ys) → Matches g (faultless_all (xs ++ ys))
apart {g} xs ys m = subst (Matches g) (sym (faultless_all-append xs ys)) m

regrouped : {g : Grammar} (xs ys zs : List Lexeme) → Matches g (faultless_all xs ++ faultless_all (ys ++ zs)) → Matches g (faultless_all ((xs ++ ys) ++ zs))
regrouped {g} xs ys zs m = subst (λ (said : List Lexeme). Matches g (faultless_all said)) (sym (append_assoc xs ys zs)) (apart xs (ys ++ zs) m)

-- ---- lists of faultless items
abbrev bracket : Class
bracket = Sign marks.Open

-- What says an item is one by the grammar, where no "(" follows.
record SaysItem {A : Type 0} (r : Rule) (i : Grammar) (separator : Lexeme) (first : A → TokenKind) (says : A → List Lexeme) (IsItem : A → Type 0) : Type 0 where
  tail : A → List TokenWithFault
  begins : (x : A) → faultless_all (says x) ≡ faultless (first x) ∷ tail x
  separates : fits r.separator (kind_of separator) ≡ true
  shut : fits bracket (kind_of separator) ≡ false
  one_item : (x : A) (k : Grammar) (ss : List TokenWithFault) → IsItem x → is_next bracket ss ≡ false → Matches k ss → Matches (followed_by i k) (faultless_all (says x) ++ ss)

module _ {A : Type 0} {r : Rule} {i : Grammar} {separator : Lexeme} {first : A → TokenKind} {says : A → List Lexeme} {IsItem : A → Type 0} (of : SaysItem r i separator first says IsItem)
    (g : Grammar) (ss : List TokenWithFault) (m : Matches g ss) (calm : is_next r.separator ss ≡ false) (shut : is_next bracket ss ≡ false) where
  abbrev behind : List A → List Lexeme
  behind xs = flat_map (λ y. separator ∷ says y) xs

  behind_shut : (xs : List A) → is_next bracket (faultless_all (behind xs) ++ ss) ≡ false
  behind_shut [] = shut
  behind_shut (x ∷ xs) = of.shut

  item_matches : (x : A) (s : List TokenKind) (more : List TokenWithFault) → IsItem x → is_next bracket more ≡ false → item_fault r s (first x) ≡ None → Matches (More r (s ++ first x ∷ []) i g) more → Matches (Items r s i g) (faultless_all (says x) ++ more)
  item_matches x s more is free e n =
      let t = subst (λ (z : List TokenWithFault). Matches (followed_by i (More r (s ++ first x ∷ []) i g)) (z ++ more)) (of.begins x) (of.one_item x (More r (s ++ first x ∷ []) i g) more is free n) in
      subst (λ (z : List TokenWithFault). Matches (Items r s i g) (z ++ more)) (sym (of.begins x))
      (subst (λ (w : Option Code). Matches (Items r s i g) (record { kind = first x; wrong = w } ∷ (of.tail x ++ more))) e (item t))

  split : (xs ys : List Lexeme) → faultless_all xs ++ (faultless_all ys ++ ss) ≡ faultless_all (xs ++ ys) ++ ss
  split xs ys = sym (ap (λ z. z ++ ss) (faultless_all-append xs ys) ∙ append_assoc (faultless_all xs) (faultless_all ys) ss)

  more_matches : (xs : List A) (s : List TokenKind) → All IsItem xs → AreFaultless r s (map first xs) → Matches (More r s i g) (faultless_all (behind xs) ++ ss)
  more_matches [] s is f = last calm m
  more_matches (x ∷ xs) s is f = next of.separates (subst (Matches (Items r s i g)) (split (says x) (behind xs)) (item_matches x s _ (All-head IsItem x xs is) (behind_shut xs) f.0 (more_matches xs (s ++ first x ∷ []) (All-tail IsItem x xs is) f.1)))

  list_matches : (xs : List A) → 0 < length xs → All IsItem xs → AreFaultless r [] (map first xs) → Matches (Items r [] i g) (faultless_all (separated separator says xs) ++ ss)
  list_matches [] some is f = absurd (omega arith)
  list_matches (x ∷ xs) some is f = subst (Matches (Items r [] i g)) (split (says x) (behind xs)) (item_matches x [] _ (All-head IsItem x xs is) (behind_shut xs) f.0 (more_matches xs (first x ∷ []) (All-tail IsItem x xs is) f.1))

-- ---- the items
abbrev Any : {A : Type 0} → A → Type 0
Any x = Unit {0}

any : {A : Type 0} (xs : List A) → All Any xs
any xs = All-from_recursion Any xs (each xs)
  where
    each : {A : Type 0} (xs : List A) → AllByRecursion Any xs
    each [] = tt
    each (x ∷ xs) = (tt, each xs)

column_of : SaysItem (names_rule 32) column_item comma_lexeme (λ c. kinds.Name c.name) column_says Any
column_of = record { tail = λ c. faultless (kind_of (type_lexeme c.ty)) ∷ []; begins = λ c. refl; separates = refl; shut = refl; one_item = λ c k ss is free m. one refl (one (type_fits c.ty) m) }

literal_of : SaysItem (comma_separated 32 false) literal_item comma_lexeme (λ v. kind_of (value_lexeme v)) value_says Any
literal_of = record { tail = λ v. []; begins = λ v. refl; separates = refl; shut = refl; one_item = λ v k ss is free m. one (value_fits v) m }

name_of : (limit : ℕ) → SaysItem (names_rule limit) name_item comma_lexeme (λ n. kinds.Name n) name_says Any
name_of limit = record { tail = λ n. []; begins = λ n. refl; separates = refl; shut = refl; one_item = λ n k ss is free m. one refl m }

user_of : SaysItem (names_rule 16) name_item comma_lexeme (λ u. kinds.Name u.0) user_says Any
user_of = record { tail = λ u. []; begins = λ u. refl; separates = refl; shut = refl; one_item = λ u k ss is free m. one refl m }

set_of : SaysItem (names_rule 32) set_item comma_lexeme (λ a. kinds.Name a.column) set_says Any
set_of = record { tail = λ a. faultless (kinds.Mark marks.Equal) ∷ faultless (kind_of (value_lexeme a.value)) ∷ []; begins = λ a. refl; separates = refl; shut = refl; one_item = λ a k ss is free m. one refl (one refl (one (value_fits a.value) m)) }

condition_of : SaysItem conditions_rule condition_item (lexemes.Key keywords.And) (λ c. kinds.Name c.column) condition_says Any
condition_of = record { tail = λ c. faultless (kinds.Mark (comparison_mark c.comparison)) ∷ faultless (kind_of (value_lexeme c.literal)) ∷ []; begins = λ c. refl; separates = refl; shut = refl; one_item = λ c k ss is free m. one refl (one (comparison_fits c.comparison) (one (value_fits c.literal) m)) }

names_match : (g : Grammar) (ss : List TokenWithFault) → Matches g ss → is_next (Sign marks.Comma) ss ≡ false → is_next bracket ss ≡ false → (names : List Name) → AreNamed 32 (λ n. n) names → Matches (Items (names_rule 32) [] name_item g) (faultless_all (names_say names) ++ ss)
names_match g ss m calm shut names h = list_matches (name_of 32) g ss m calm shut names h.0.0 (any names) (fine_if_distinct 32 (λ n. n) names h.0.1 h.1)

columns_match : (columns : Option (List Name)) (k : Grammar) (ss : List TokenWithFault) → IsSelection columns → is_next bracket ss ≡ false → Matches k ss → Matches (optional (λ k. One bracket (Items (names_rule 32) [] name_item (One (Sign marks.Close) k))) k) (faultless_all (columns_say columns) ++ ss)
columns_match None k ss is shut m = other shut m
columns_match (Some names) k ss is shut m =
    let inside = names_match (One (Sign marks.Close) k) (faultless (kinds.Mark marks.Close) ∷ ss) (one refl m) refl refl names is in
    this refl (subst (Matches (Items (names_rule 32) [] name_item (One (Sign marks.Close) k)))
    (sym (ap (λ z. z ++ ss) (faultless_all-append (names_say names) (lexemes.Sign marks.Close ∷ [])) ∙ append_assoc (faultless_all (names_say names)) (faultless_all (lexemes.Sign marks.Close ∷ [])) ss)) inside)

privilege_matches : (p : Privilege) (k : Grammar) (ss : List TokenWithFault) → IsWellFormedPrivilege p → is_next bracket ss ≡ false → Matches k ss → Matches (followed_by privilege_item k) (faultless_all (privilege_says p) ++ ss)
privilege_matches (privileges_of.Select columns) k ss is shut m = this refl (columns_match columns k ss is shut m)
privilege_matches privileges_of.Insert k ss is shut m = other refl (this refl m)
privilege_matches privileges_of.Delete k ss is shut m = other refl (other refl (this refl m))
privilege_matches (privileges_of.Update columns) k ss is shut m = other refl (other refl (other refl (one refl (columns_match columns k ss is shut m))))

privilege_of : SaysItem privileges_rule privilege_item comma_lexeme (λ p. kinds.Keyword (word_keyword (word_of p))) privilege_says IsWellFormedPrivilege
privilege_of = record { tail = λ p. faultless_all (columns_say (privilege_columns p)); begins = λ p. refl; separates = refl; shut = refl; one_item = privilege_matches }

privileges_match : (g : Grammar) (ss : List TokenWithFault) → Matches g ss → is_next (Sign marks.Comma) ss ≡ false → is_next bracket ss ≡ false → (ps : List Privilege) → ArePrivileges ps → Matches (Items privileges_rule [] privilege_item g) (faultless_all (separated comma_lexeme privilege_says ps) ++ ss)
privileges_match g ss m calm shut ps h = list_matches privilege_of g ss m calm shut ps h.0.0 h.2 (fine_if_different ps h.0.1 h.1)

users_match : (g : Grammar) (ss : List TokenWithFault) → Matches g ss → is_next (Sign marks.Comma) ss ≡ false → is_next bracket ss ≡ false → (users : List User) → AreUsers users → Matches (Items (names_rule 16) [] name_item g) (faultless_all (separated comma_lexeme user_says users) ++ ss)
users_match g ss m calm shut users h = list_matches user_of g ss m calm shut users h.0.0 (any users) (fine_if_distinct 16 (λ u. u.0) users h.0.1 h.1)

-- ---- the ends of statements
-- ";" or nothing
abbrev pub ending : Bool → List Lexeme
ending true = lexemes.Sign marks.Semicolon ∷ []
ending false = []

ends : (b : Bool) → Matches finish (faultless_all (ending b))
ends true = this refl done
ends false = other refl done

no_comma : (b : Bool) → is_next (Sign marks.Comma) (faultless_all (ending b)) ≡ false
no_comma true = refl
no_comma false = refl

no_open : (b : Bool) → is_next bracket (faultless_all (ending b)) ≡ false
no_open true = refl
no_open false = refl

no_key : (b : Bool) (c : Class) → fits c (kinds.Mark marks.Semicolon) ≡ false → is_next c (faultless_all (ending b)) ≡ false
no_key true c e = e
no_key false c e = refl

filter_matches : (cs : List Condition) (b : Bool) → length cs ≤ 32 → Matches (optional filter finish) (faultless_all (filter_says cs ++ ending b))
filter_matches [] b h = other (no_key b (Key keywords.Where) refl) (ends b)
filter_matches (c ∷ cs) b h = this refl (apart (separated (lexemes.Key keywords.And) condition_says (c ∷ cs)) (ending b)
    (list_matches condition_of finish (faultless_all (ending b)) (ends b) (no_key b (Key keywords.And) refl) (no_open b) (c ∷ cs) (omega arith) (any (c ∷ cs)) (fine_if_few conditions_rule (λ x. kinds.Name x.column) (c ∷ cs) refl h)))

filter_next : (cs : List Condition) (b : Bool) (c : Class) → fits c (kinds.Keyword keywords.Where) ≡ false → fits c (kinds.Mark marks.Semicolon) ≡ false → is_next c (faultless_all (filter_says cs ++ ending b)) ≡ false
filter_next [] b c e f = no_key b c f
filter_next (x ∷ cs) b c e f = e

option_matches : (o b : Bool) → Matches (optional grant_option finish) (faultless_all (option_says o ++ ending b))
option_matches true b = this refl (one refl (one refl (ends b)))
option_matches false b = other (no_key b (Key keywords.With) refl) (ends b)

option_next : (o b : Bool) (c : Class) → fits c (kinds.Keyword keywords.With) ≡ false → fits c (kinds.Mark marks.Semicolon) ≡ false → is_next c (faultless_all (option_says o ++ ending b)) ≡ false
option_next true b c e f = e
option_next false b c e f = no_key b c f

only_matches : (only : Option Name) (b : Bool) → Matches (optional only_table finish) (faultless_all (only_says only ++ ending b))
only_matches None b = other (no_key b (Key keywords.Only) refl) (ends b)
only_matches (Some table) b = this refl (one refl (ends b))

-- ---- statements
selection_matches : (list : Option (List Name)) (table : Name) (cs : List Condition) (b : Bool) → IsSelection list → length cs ≤ 32 → Matches (selection (from_table finish)) (faultless_all ((selection_says list ++ lexemes.Key keywords.From ∷ lexemes.Named table ∷ filter_says cs) ++ ending b))
selection_matches None table cs b is h = this refl (one refl (one refl (filter_matches cs b h)))
selection_matches (Some []) table cs b is h = absurd (omega (arith, is.0.0))
selection_matches (Some (n ∷ names)) table cs b is h =
    other refl (regrouped (names_say (n ∷ names)) (lexemes.Key keywords.From ∷ lexemes.Named table ∷ filter_says cs) (ending b)
    (names_match (from_table finish) _ (one refl (one refl (filter_matches cs b h))) refl refl (n ∷ names) is))

revoked_matches : (ps : List Privilege) (table : Name) (users : List User) (b : Bool) → ArePrivileges ps → AreUsers users → Matches (privileges_from finish) (faultless_all (privileges_from_say ps table users ++ ending b))
revoked_matches ps table users b privileged named =
    regrouped (separated comma_lexeme privilege_says ps) _ (ending b)
    (privileges_match _ _ (one refl (one refl (one refl (apart (separated comma_lexeme user_says users) (ending b)
    (users_match finish _ (ends b) (no_comma b) (no_open b) users named))))) refl refl ps privileged)

-- no privilege begins with GRANT
revoked_only : (ps : List Privilege) (table : Name) (users : List User) (b : Bool) → 0 < length ps → Matches (privileges_from finish) (faultless_all (privileges_from_say ps table users ++ ending b)) → Matches (optional grant_option_for (privileges_from finish)) (faultless_all (privileges_from_say ps table users ++ ending b))
revoked_only [] table users b some m = absurd (omega (arith, some))
revoked_only (privileges_of.Select columns ∷ ps) table users b some m = other refl m
revoked_only (privileges_of.Insert ∷ ps) table users b some m = other refl m
revoked_only (privileges_of.Delete ∷ ps) table users b some m = other refl m
revoked_only (privileges_of.Update columns ∷ ps) table users b some m = other refl m

said_matches : (s : Statement) (b : Bool) → IsWellFormed s → IsSentence statement (kinds_of (statement_says s ++ ending b))
said_matches (statements.CreateTable table columns) b h =
    this refl (one refl (one refl (one refl (regrouped (separated comma_lexeme column_says columns) (lexemes.Sign marks.Close ∷ []) (ending b)
    (list_matches column_of (One (Sign marks.Close) finish) _ (one refl (ends b)) refl refl columns h.0.0 (any columns) (fine_if_distinct 32 (λ c. c.name) columns h.0.1 h.1))))))
said_matches (statements.Insert table values) b h =
    other refl (this refl (one refl (one refl (one refl (one refl (regrouped (separated comma_lexeme value_says values) (lexemes.Sign marks.Close ∷ []) (ending b)
    (list_matches literal_of (One (Sign marks.Close) finish) _ (one refl (ends b)) refl refl values h.0 (any values) (fine_if_few (comma_separated 32 false) (λ v. kind_of (value_lexeme v)) values refl h.1))))))))
said_matches (statements.Select list table cs) b h = other refl (other refl (this refl (selection_matches list table cs b h.0 h.1)))
said_matches (statements.Delete table cs) b h = other refl (other refl (other refl (this refl (one refl (one refl (filter_matches cs b h))))))
said_matches (statements.Update table sets cs) b h =
    other refl (other refl (other refl (other refl (this refl (one refl (one refl (regrouped (separated comma_lexeme set_says sets) (filter_says cs) (ending b)
    (list_matches set_of (optional filter finish) _ (filter_matches cs b h.1) (filter_next cs b (Sign marks.Comma) refl refl) (filter_next cs b bracket refl refl) sets h.0.0.0 (any sets) (fine_if_distinct 32 (λ a. a.column) sets h.0.0.1 h.0.1)))))))))
said_matches (statements.Grant ps table users o) b h =
    other refl (other refl (other refl (other refl (other refl (this refl (regrouped (separated comma_lexeme privilege_says ps) _ (ending b)
    (privileges_match _ _ (one refl (one refl (one refl (regrouped (separated comma_lexeme user_says users) (option_says o) (ending b)
    (users_match (optional grant_option finish) _ (option_matches o b) (option_next o b (Sign marks.Comma) refl refl) (option_next o b bracket refl refl) users h.1))))) refl refl ps h.0)))))))
said_matches (statements.Revoke ps table users) b h =
    other refl (other refl (other refl (other refl (other refl (other refl (this refl (revoked_only ps table users b h.0.0.0 (revoked_matches ps table users b h.0 h.1))))))))
said_matches (statements.RevokeOption ps table users) b h =
    other refl (other refl (other refl (other refl (other refl (other refl (this refl (this refl (one refl (one refl (revoked_matches ps table users b h.0 h.1))))))))))
said_matches statements.Checkpoint b h = other refl (other refl (other refl (other refl (other refl (other refl (other refl (this refl (ends b))))))))
said_matches statements.Checkpoints b h = other refl (other refl (other refl (other refl (other refl (other refl (other refl (other refl (this refl (ends b)))))))))
said_matches (statements.Export number only) b h =
    let some : nat_le 1 number ≡ true = let low : 1 ≤ number = h.0 in grind (arith, nat_tests) in
    other refl (other refl (other refl (other refl (other refl (other refl (other refl (other refl (other refl (one refl (one some (only_matches only b)))))))))))

-- with its ending, as an equation
pub ended : (said : List Lexeme) (s : Statement) → SaysStatement said s → (b : Bool) × (said ≡ statement_says s ++ ending b)
ended said s (inl e) = (false, e ∙ sym (append-nil (statement_says s)))
ended said s (inr e) = (true, e)

pub says_whole : (said : List Lexeme) (s : Statement) → IsWellFormed s → SaysStatement said s → IsSentence statement (kinds_of said)
says_whole said s h p = let e = ended said s p in subst (λ (x : List Lexeme). IsSentence statement (kinds_of x)) (sym e.1) (said_matches s e.0 h)
