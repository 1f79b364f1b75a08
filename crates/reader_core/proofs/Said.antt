-- A whole sentence with no wrong token is said by a statement.
use Rattle.std.proofs.Common.{◌≡◌, ℕ, ◌<◌, ◌≤◌, true, false, List, [], ◌∷◌, ◌++◌, map, length, Some, None, ap, ◌∙◌, refl, arith, inl, inr}
use Rattle.base_core.specs.declared.keyword.Keyword.TheVariants as keywords
use Rattle.base_core.specs.declared.condition.Condition.{Condition}
use Rattle.lexer_core.specs.Lexing.{Lexeme, kind_of}
use Rattle.lexer_core.specs.Lexing as lexemes
use Rattle.lexer_core.specs.declared.token.TokenKind.TheVariants as kinds
use Rattle.lexer_core.specs.declared.token.Mark.TheVariants as marks
use Rattle.reader_core.specs.declared.privilege.Privilege.TheVariants as privileges_of
use Rattle.reader_core.specs.Grammar.{Grammar, One, Items, Key, Sign, AnyName, followed_by}
use Rattle.reader_core.specs.Matches.{Matches}
use Rattle.reader_core.specs.Privileges.{word_of, word_keyword}
use Rattle.reader_core.specs.Sentences.{comma_separated, names_rule, conditions_rule, privileges_rule, column_item, literal_item, name_item, name_list, set_item, condition_item, privilege_item, optional, filter, selection, grant_option, in_brackets, only_table}
use Rattle.reader_core.specs.Saying.{comma_lexeme, separated, name_says, names_say, user_says, column_says, value_says, value_lexeme, type_lexeme, comparison_mark, condition_says, set_says, filter_says, selection_says, columns_say, privilege_says, privilege_columns, option_says, only_says}
use Rattle.reader_core.specs.Forming.{AreNamed, IsSelection, IsWellFormedPrivilege, ArePrivileges, AreUsers}
use Rattle.reader_core.proofs.Fine.{few_if_fine, distinct_if_fine, different_if_fine}
use Rattle.reader_core.proofs.Fronts.{Front, TellsItem, Any, faultless_all, key_only, sign_only, key_front, sign_front, name_front, literal_front, type_front, test_front, case_front, list_front, then, and_then}

-- ---- items
pub column_of : TellsItem (names_rule 32) column_item comma_lexeme (λ c. kinds.Name c.name) column_says Any
column_of = record {
  tail = λ c. kind_of (type_lexeme c.ty) ∷ [];
  begins = λ c. refl;
  separates = sign_only marks.Comma;
  one_item = λ k said m.
      let n = name_front _ said m in
      let t = type_front k n.rest n.left in
      record { value = record { name = n.value; ty = t.value }; rest = t.rest; split = then _ n.split t.split; well_formed = tt; left = t.left };
}

pub literal_of : TellsItem (comma_separated 32 false) literal_item comma_lexeme (λ v. kind_of (value_lexeme v)) value_says Any
literal_of = record { tail = λ v. []; begins = λ v. refl; separates = sign_only marks.Comma; one_item = λ k said m. literal_front k said m }

name_of : (limit : ℕ) → TellsItem (names_rule limit) name_item comma_lexeme (λ n. kinds.Name n) name_says Any
name_of limit = record { tail = λ n. []; begins = λ n. refl; separates = sign_only marks.Comma; one_item = λ k said m. name_front k said m }

user_of : TellsItem (names_rule 16) name_item comma_lexeme (λ u. kinds.Name u.0) user_says Any
user_of = record {
  tail = λ u. [];
  begins = λ u. refl;
  separates = sign_only marks.Comma;
  one_item = λ k said m. let n = name_front k said m in record { value = record { 0 = n.value }; rest = n.rest; split = n.split; well_formed = tt; left = n.left };
}

pub set_of : TellsItem (names_rule 32) set_item comma_lexeme (λ a. kinds.Name a.column) set_says Any
set_of = record {
  tail = λ a. kinds.Mark marks.Equal ∷ kind_of (value_lexeme a.value) ∷ [];
  begins = λ a. refl;
  separates = sign_only marks.Comma;
  one_item = λ k said m.
      let n = name_front _ said m in
      let e = sign_front marks.Equal _ n.rest n.left in
      let v = literal_front k e.rest e.left in
      record { value = record { column = n.value; value = v.value }; rest = v.rest; split = then _ n.split (then _ e.split v.split); well_formed = tt; left = v.left };
}

condition_of : TellsItem conditions_rule condition_item (lexemes.Key keywords.And) (λ c. kinds.Name c.column) condition_says Any
condition_of = record {
  tail = λ c. kinds.Mark (comparison_mark c.comparison) ∷ kind_of (value_lexeme c.literal) ∷ [];
  begins = λ c. refl;
  separates = key_only keywords.And;
  one_item = λ k said m.
      let n = name_front _ said m in
      let t = test_front _ n.rest n.left in
      let v = literal_front k t.rest t.left in
      record { value = record { column = n.value; comparison = t.value; literal = v.value }; rest = v.rest; split = then _ n.split (then _ t.split v.split); well_formed = tt; left = v.left };
}

names_front : (limit : ℕ) (k : Grammar) (said : List Lexeme) → Matches (name_list limit k) (faultless_all said) → Front names_say (λ ns. AreNamed limit (λ n. n) ns) k said
names_front limit k said m =
    let t = list_front (name_of limit) k said m in
    record { value = t.value; rest = t.rest; split = t.split; well_formed = ((t.well_formed.0, few_if_fine (names_rule limit) (λ n. kinds.Name n) t.value t.well_formed.2), distinct_if_fine limit (λ n. n) t.value t.well_formed.2); left = t.left }

pub users_front : (k : Grammar) (said : List Lexeme) → Matches (name_list 16 k) (faultless_all said) → Front (separated comma_lexeme user_says) AreUsers k said
users_front k said m =
    let t = list_front user_of k said m in
    record { value = t.value; rest = t.rest; split = t.split; well_formed = ((t.well_formed.0, few_if_fine (names_rule 16) (λ u. kinds.Name u.0) t.value t.well_formed.2), distinct_if_fine 16 (λ u. u.0) t.value t.well_formed.2); left = t.left }

columns_front : (k : Grammar) (said : List Lexeme) → Matches (optional in_brackets k) (faultless_all said) → Front columns_say IsSelection k said
columns_front k said m = elim (case_front (Sign marks.Open) (lexemes.Sign marks.Open) (name_list 32 (One (Sign marks.Close) k)) k said (sign_only marks.Open) m) [
  | inl p ↦
      let ns = names_front 32 (One (Sign marks.Close) k) p.0 p.2 in
      let c = sign_front marks.Close k ns.rest ns.left in
      record { value = Some ns.value; rest = c.rest; split = then _ p.1 (and_then (names_say ns.value) (lexemes.Sign marks.Close ∷ []) c.rest ns.split c.split); well_formed = ns.well_formed; left = c.left }
  | inr n ↦ record { value = None; rest = said; split = refl; well_formed = tt; left = n }
]

privilege_front : (k : Grammar) (said : List Lexeme) → Matches (followed_by privilege_item k) (faultless_all said) → Front privilege_says IsWellFormedPrivilege k said
privilege_front k said m = elim (case_front (Key keywords.Select) (lexemes.Key keywords.Select) (optional in_brackets k) _ said (key_only keywords.Select) m) [
  | inl p ↦ let cs = columns_front k p.0 p.2 in record { value = privileges_of.Select cs.value; rest = cs.rest; split = then _ p.1 cs.split; well_formed = cs.well_formed; left = cs.left }
  | inr m ↦ elim (case_front (Key keywords.Insert) (lexemes.Key keywords.Insert) k _ said (key_only keywords.Insert) m) [
    | inl p ↦ record { value = privileges_of.Insert; rest = p.0; split = p.1; well_formed = tt; left = p.2 }
    | inr m ↦ elim (case_front (Key keywords.Delete) (lexemes.Key keywords.Delete) k _ said (key_only keywords.Delete) m) [
      | inl p ↦ record { value = privileges_of.Delete; rest = p.0; split = p.1; well_formed = tt; left = p.2 }
      | inr m ↦
          let u = key_front keywords.Update (optional in_brackets k) said m in
          let cs = columns_front k u.rest u.left in
          record { value = privileges_of.Update cs.value; rest = cs.rest; split = then _ u.split cs.split; well_formed = cs.well_formed; left = cs.left }
    ]
  ]
]

privilege_of : TellsItem privileges_rule privilege_item comma_lexeme (λ p. kinds.Keyword (word_keyword (word_of p))) privilege_says IsWellFormedPrivilege
privilege_of = record { tail = λ p. map kind_of (columns_say (privilege_columns p)); begins = λ p. refl; separates = sign_only marks.Comma; one_item = privilege_front }

pub privileges_front : (k : Grammar) (said : List Lexeme) → Matches (Items privileges_rule [] privilege_item k) (faultless_all said) → Front (separated comma_lexeme privilege_says) ArePrivileges k said
privileges_front k said m =
    let t = list_front privilege_of k said m in
    record { value = t.value; rest = t.rest; split = t.split; well_formed = ((t.well_formed.0, few_if_fine privileges_rule (λ p. kinds.Keyword (word_keyword (word_of p))) t.value t.well_formed.2), different_if_fine t.value t.well_formed.2, t.well_formed.1); left = t.left }

-- ---- parts that may be left out
pub filter_front : (k : Grammar) (said : List Lexeme) → Matches (optional filter k) (faultless_all said) → Front filter_says (λ cs. length cs ≤ 32) k said
filter_front k said m = elim (case_front (Key keywords.Where) (lexemes.Key keywords.Where) (Items conditions_rule [] condition_item k) k said (key_only keywords.Where) m) [
  | inl p ↦
      let t = list_front condition_of k p.0 p.2 in
      let few : length t.value ≤ 32 = few_if_fine conditions_rule (λ c. kinds.Name c.column) t.value t.well_formed.2 in
      record { value = t.value; rest = t.rest; split = then _ p.1 t.split ∙ ap (λ z. z ++ t.rest) (where_some t.value t.well_formed.0); well_formed = few; left = t.left }
  | inr n ↦ record { value = []; rest = said; split = refl; well_formed = omega arith; left = n }
]
  where
    where_some : (cs : List Condition) → 0 < length cs → lexemes.Key keywords.Where ∷ separated (lexemes.Key keywords.And) condition_says cs ≡ filter_says cs
    where_some [] some = absurd (omega arith)
    where_some (c ∷ cs) some = refl

pub option_front : (k : Grammar) (said : List Lexeme) → Matches (optional grant_option k) (faultless_all said) → Front option_says Any k said
option_front k said m = elim (case_front (Key keywords.With) (lexemes.Key keywords.With) _ k said (key_only keywords.With) m) [
  | inl p ↦
      let g = key_front keywords.Grant (One (Key keywords.Option) k) p.0 p.2 in
      let o = key_front keywords.Option k g.rest g.left in
      record { value = true; rest = o.rest; split = then _ p.1 (then _ g.split o.split); well_formed = tt; left = o.left }
  | inr n ↦ record { value = false; rest = said; split = refl; well_formed = tt; left = n }
]

pub only_front : (k : Grammar) (said : List Lexeme) → Matches (optional only_table k) (faultless_all said) → Front only_says Any k said
only_front k said m = elim (case_front (Key keywords.Only) (lexemes.Key keywords.Only) (One AnyName k) k said (key_only keywords.Only) m) [
  | inl p ↦
      let n = name_front k p.0 p.2 in
      record { value = Some n.value; rest = n.rest; split = then _ p.1 n.split; well_formed = tt; left = n.left }
  | inr n ↦ record { value = None; rest = said; split = refl; well_formed = tt; left = n }
]

pub selection_front : (k : Grammar) (said : List Lexeme) → Matches (selection k) (faultless_all said) → Front selection_says IsSelection k said
selection_front k said m = elim (case_front (Sign marks.Star) (lexemes.Sign marks.Star) k (name_list 32 k) said (sign_only marks.Star) m) [
  | inl p ↦ record { value = None; rest = p.0; split = p.1; well_formed = tt; left = p.2 }
  | inr n ↦ let ns = names_front 32 k said n in record { value = Some ns.value; rest = ns.rest; split = ns.split; well_formed = ns.well_formed; left = ns.left }
]
