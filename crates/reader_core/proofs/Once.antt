-- No tokens say two statements.
use Rattle.std.proofs.Common.{◌≡◌, ℕ, Bool, true, false, List, [], ◌∷◌, ◌++◌, Option, Some, None, ap, sym, ◌∙◌, refl, append_assoc, eqb}
use Rattle.std.proofs.lemmas.Bool.{eq-eqb, false≢true}
use Rattle.std.specs.List.{flat_map}
use Rattle.base_core.specs.declared.keyword.Keyword.{Keyword}
use Rattle.base_core.specs.declared.keyword.Keyword.TheVariants as keywords
use Rattle.base_core.specs.declared.name.Name.{Name}
use Rattle.base_core.specs.declared.name.User.{User}
use Rattle.base_core.specs.declared.value.Value.{Value}
use Rattle.base_core.specs.declared.value.Value.TheVariants as values
use Rattle.base_core.specs.declared.value.Column.{Column}
use Rattle.base_core.specs.declared.value.ColType.{ColType}
use Rattle.base_core.specs.declared.value.ColType.TheVariants as types
use Rattle.base_core.specs.declared.condition.Condition.{Condition}
use Rattle.base_core.specs.declared.condition.Assignment.{Assignment}
use Rattle.base_core.specs.declared.condition.Comparison.{Comparison}
use Rattle.base_core.specs.declared.condition.Comparison.TheVariants as comparisons
use Rattle.lexer_core.specs.Lexing.{Lexeme}
use Rattle.lexer_core.specs.Lexing as lexemes
use Rattle.lexer_core.specs.declared.token.Mark.TheVariants as marks
use Rattle.reader_core.specs.declared.privilege.Privilege.{Privilege}
use Rattle.reader_core.specs.declared.privilege.Privilege.TheVariants as privileges_of
use Rattle.reader_core.specs.declared.statement.Statement.{Statement}
use Rattle.reader_core.specs.declared.statement.Statement.TheVariants as statements
use Rattle.reader_core.specs.Grammar.{keyword_number}
use Rattle.reader_core.specs.Saying.{comma_lexeme, separated, name_says, names_say, user_says, column_says, value_says, value_lexeme, type_lexeme, comparison_mark, condition_says, set_says, filter_says, selection_says, columns_say, privilege_says, option_says, only_says, privileges_from_say, statement_says}
use Rattle.reader_core.specs.Language.{SaysStatement}
use Rattle.reader_core.proofs.Whole.{ending, ended}

abbrev bracket : Lexeme
bracket = lexemes.Sign marks.Open

abbrev close : Lexeme
close = lexemes.Sign marks.Close

-- it does not begin with this lexeme
abbrev IsFree : Lexeme → List Lexeme → Type 0
IsFree l u = (v : List Lexeme) → u ≡ l ∷ v → ⊥

-- What may follow a list: neither a further item nor more of the last.
record Stops {A : Type 0} (separator : Lexeme) (says : A → List Lexeme) (u : List Lexeme) : Type 0 where
  calm : IsFree separator u
  shut : IsFree bracket u
  none : (y : A) (w : List Lexeme) → u ≡ says y ++ w → ⊥

-- ---- lists
module _ {A : Type 0} (separator : Lexeme) (says : A → List Lexeme) (apart : separator ≡ bracket → ⊥)
    (one_item : (x y : A) (u v : List Lexeme) → IsFree bracket u → IsFree bracket v → says x ++ u ≡ says y ++ v → (x ≡ y) × (u ≡ v)) where
  abbrev behind : List A → List Lexeme
  behind xs = flat_map (λ y. separator ∷ says y) xs

  behind_shut : (xs : List A) (u : List Lexeme) → IsFree bracket u → IsFree bracket (behind xs ++ u)
  behind_shut [] u h = h
  behind_shut (x ∷ xs) u h = λ v e. apart (cc)

  same_each : (xs ys : List A) (u v : List Lexeme) → Stops separator says u → Stops separator says v → behind xs ++ u ≡ behind ys ++ v → (xs ≡ ys) × (u ≡ v)
  same_each [] [] u v p q e = (refl, e)
  same_each [] (y ∷ ys) u v p q e = absurd (p.calm _ e)
  same_each (x ∷ xs) [] u v p q e = absurd (q.calm _ (sym e))
  same_each (x ∷ xs) (y ∷ ys) u v p q e =
      let f : (says x ++ behind xs) ++ u ≡ (says y ++ behind ys) ++ v = cc in
      let i = one_item x y _ _ (behind_shut xs u p.shut) (behind_shut ys v q.shut) (sym (append_assoc (says x) (behind xs) u) ∙ f ∙ append_assoc (says y) (behind ys) v) in
      let r = same_each xs ys u v p q i.1 in
      (ap (λ z. z ∷ xs) i.0 ∙ ap (λ zs. y ∷ zs) r.0, r.1)

  same_list : (xs ys : List A) (u v : List Lexeme) → Stops separator says u → Stops separator says v → separated separator says xs ++ u ≡ separated separator says ys ++ v → (xs ≡ ys) × (u ≡ v)
  same_list [] [] u v p q e = (refl, e)
  same_list [] (y ∷ ys) u v p q e = absurd (p.none y _ (e ∙ append_assoc (says y) (behind ys) v))
  same_list (x ∷ xs) [] u v p q e = absurd (q.none x _ (sym e ∙ append_assoc (says x) (behind xs) u))
  same_list (x ∷ xs) (y ∷ ys) u v p q e =
      let i = one_item x y _ _ (behind_shut xs u p.shut) (behind_shut ys v q.shut) (sym (append_assoc (says x) (behind xs) u) ∙ e ∙ append_assoc (says y) (behind ys) v) in
      let r = same_each xs ys u v p q i.1 in
      (ap (λ z. z ∷ xs) i.0 ∙ ap (λ zs. y ∷ zs) r.0, r.1)

  -- the same before two parts
  same_front : (xs ys : List A) (u v a b : List Lexeme) → Stops separator says (u ++ a) → Stops separator says (v ++ b) → (separated separator says xs ++ u) ++ a ≡ (separated separator says ys ++ v) ++ b → (xs ≡ ys) × (u ++ a ≡ v ++ b)
  same_front xs ys u v a b p q e = same_list xs ys (u ++ a) (v ++ b) p q (sym (append_assoc (separated separator says xs) u a) ∙ e ∙ append_assoc (separated separator says ys) v b)

-- ---- items
same_type : (t u : ColType) → type_lexeme t ≡ type_lexeme u → t ≡ u
same_type types.Integer types.Integer e = refl
same_type types.Text types.Text e = refl
same_type types.Integer types.Text e = cc
same_type types.Text types.Integer e = cc

same_column : (x y : Column) → x.name ≡ y.name → x.ty ≡ y.ty → x ≡ y
same_column x y n t = ap (λ (z : List ℕ). record { name = z; ty = x.ty }) n ∙ ap (λ (z : ColType). record { name = y.name; ty = z }) t

one_column : (x y : Column) (u v : List Lexeme) → IsFree bracket u → IsFree bracket v → column_says x ++ u ≡ column_says y ++ v → (x ≡ y) × (u ≡ v)
one_column x y u v _ _ e =
    let k : type_lexeme x.ty ≡ type_lexeme y.ty = cc in
    (same_column x y (cc) (same_type x.ty y.ty k), cc)

same_value : (x y : Value) → value_lexeme x ≡ value_lexeme y → x ≡ y
same_value (values.Int m) (values.Int n) e = cc
same_value (values.Text m) (values.Text n) e = cc
same_value (values.Int m) (values.Text n) e = cc
same_value (values.Text m) (values.Int n) e = cc

one_value : (x y : Value) (u v : List Lexeme) → IsFree bracket u → IsFree bracket v → value_says x ++ u ≡ value_says y ++ v → (x ≡ y) × (u ≡ v)
one_value x y u v _ _ e = (same_value x y cc, cc)

one_name : (x y : Name) (u v : List Lexeme) → IsFree bracket u → IsFree bracket v → name_says x ++ u ≡ name_says y ++ v → (x ≡ y) × (u ≡ v)
one_name x y u v _ _ e = (cc, cc)

one_user : (x y : User) (u v : List Lexeme) → IsFree bracket u → IsFree bracket v → user_says x ++ u ≡ user_says y ++ v → (x ≡ y) × (u ≡ v)
one_user x y u v _ _ e = let n : x.0 ≡ y.0 = cc in (ap (λ z. record { 0 = z }) n, cc)

same_set : (x y : Assignment) → x.column ≡ y.column → x.value ≡ y.value → x ≡ y
same_set x y n v = ap (λ (z : List ℕ). record { column = z; value = x.value }) n ∙ ap (λ (z : Value). record { column = y.column; value = z }) v

one_set : (x y : Assignment) (u v : List Lexeme) → IsFree bracket u → IsFree bracket v → set_says x ++ u ≡ set_says y ++ v → (x ≡ y) × (u ≡ v)
one_set x y u v _ _ e =
    let k : value_lexeme x.value ≡ value_lexeme y.value = cc in
    (same_set x y (cc) (same_value x.value y.value k), cc)

same_comparison : (c d : Comparison) → comparison_mark c ≡ comparison_mark d → c ≡ d
same_comparison comparisons.Equal comparisons.Equal e = refl
same_comparison comparisons.NotEqual comparisons.NotEqual e = refl
same_comparison comparisons.Less comparisons.Less e = refl
same_comparison comparisons.LessEqual comparisons.LessEqual e = refl
same_comparison comparisons.Greater comparisons.Greater e = refl
same_comparison comparisons.GreaterEqual comparisons.GreaterEqual e = refl
same_comparison _ _ e = cc

same_condition : (x y : Condition) → x.column ≡ y.column → x.comparison ≡ y.comparison → x.literal ≡ y.literal → x ≡ y
same_condition x y n c v =
    ap (λ (z : List ℕ). record { column = z; comparison = x.comparison; literal = x.literal }) n
    ∙ ap (λ (z : Comparison). record { column = y.column; comparison = z; literal = x.literal }) c
    ∙ ap (λ (z : Value). record { column = y.column; comparison = y.comparison; literal = z }) v

one_condition : (x y : Condition) (u v : List Lexeme) → IsFree bracket u → IsFree bracket v → condition_says x ++ u ≡ condition_says y ++ v → (x ≡ y) × (u ≡ v)
one_condition x y u v _ _ e =
    let m : comparison_mark x.comparison ≡ comparison_mark y.comparison = cc in
    let k : value_lexeme x.literal ≡ value_lexeme y.literal = cc in
    (same_condition x y (cc) (same_comparison x.comparison y.comparison m) (same_value x.literal y.literal k), cc)

same_names : (xs ys : List Name) (u v : List Lexeme) → Stops comma_lexeme name_says u → Stops comma_lexeme name_says v → names_say xs ++ u ≡ names_say ys ++ v → (xs ≡ ys) × (u ≡ v)
same_names = same_list comma_lexeme name_says (λ e. cc) one_name

-- a closing bracket or a keyword stops a list of names
closes : (w : List Lexeme) → Stops comma_lexeme name_says (close ∷ w)
closes w = record { calm = λ v e. cc; shut = λ v e. cc; none = λ y z e. cc }

same_columns : (c d : Option (List Name)) (u v : List Lexeme) → IsFree bracket u → IsFree bracket v → columns_say c ++ u ≡ columns_say d ++ v → (c ≡ d) × (u ≡ v)
same_columns None None u v p q e = (refl, e)
same_columns None (Some ys) u v p q e = absurd (p _ e)
same_columns (Some xs) None u v p q e = absurd (q _ (sym e))
same_columns (Some xs) (Some ys) u v p q e =
    let f : (names_say xs ++ close ∷ []) ++ u ≡ (names_say ys ++ close ∷ []) ++ v = cc in
    let r = same_names xs ys (close ∷ u) (close ∷ v) (closes u) (closes v) (sym (append_assoc (names_say xs) (close ∷ []) u) ∙ f ∙ append_assoc (names_say ys) (close ∷ []) v) in
    (ap Some r.0, let g : close ∷ u ≡ close ∷ v = r.1 in cc)

one_privilege : (x y : Privilege) (u v : List Lexeme) → IsFree bracket u → IsFree bracket v → privilege_says x ++ u ≡ privilege_says y ++ v → (x ≡ y) × (u ≡ v)
one_privilege (privileges_of.Select c) (privileges_of.Select d) u v p q e = let r = same_columns c d u v p q (cc) in (ap privileges_of.Select r.0, r.1)
one_privilege privileges_of.Insert privileges_of.Insert u v p q e = (refl, cc)
one_privilege privileges_of.Delete privileges_of.Delete u v p q e = (refl, cc)
one_privilege (privileges_of.Update c) (privileges_of.Update d) u v p q e = let r = same_columns c d u v p q (cc) in (ap privileges_of.Update r.0, r.1)
one_privilege _ _ u v p q e = cc

-- ---- the ends of statements
same_filter : (cs ds : List Condition) (a b : Bool) → filter_says cs ++ ending a ≡ filter_says ds ++ ending b → cs ≡ ds
same_filter [] [] a b e = refl
same_filter [] (d ∷ ds) true b e = cc
same_filter [] (d ∷ ds) false b e = cc
same_filter (c ∷ cs) [] a true e = cc
same_filter (c ∷ cs) [] a false e = cc
same_filter (c ∷ cs) (d ∷ ds) a b e =
    let f : separated (lexemes.Key keywords.And) condition_says (c ∷ cs) ++ ending a ≡ separated (lexemes.Key keywords.And) condition_says (d ∷ ds) ++ ending b = cc in
    (same_list (lexemes.Key keywords.And) condition_says (λ z. cc) one_condition (c ∷ cs) (d ∷ ds) (ending a) (ending b) (stops a) (stops b) f).0
  where
    stops : (b : Bool) → Stops (lexemes.Key keywords.And) condition_says (ending b)
    stops true = record { calm = λ v e. cc; shut = λ v e. cc; none = λ y z e. cc }
    stops false = record { calm = λ v e. cc; shut = λ v e. cc; none = λ y z e. cc }

filter_stops : (cs : List Condition) (b : Bool) → Stops comma_lexeme set_says (filter_says cs ++ ending b)
filter_stops [] true = record { calm = λ v e. cc; shut = λ v e. cc; none = λ y z e. cc }
filter_stops [] false = record { calm = λ v e. cc; shut = λ v e. cc; none = λ y z e. cc }
filter_stops (c ∷ cs) b = record { calm = λ v e. cc; shut = λ v e. cc; none = λ y z e. cc }

same_option : (o p : Bool) (a b : Bool) → option_says o ++ ending a ≡ option_says p ++ ending b → o ≡ p
same_option true true a b e = refl
same_option false false a b e = refl
same_option true false a true e = cc
same_option true false a false e = cc
same_option false true true b e = cc
same_option false true false b e = cc

option_stops : (o b : Bool) → Stops comma_lexeme user_says (option_says o ++ ending b)
option_stops true b = record { calm = λ v e. cc; shut = λ v e. cc; none = λ y z e. cc }
option_stops false true = record { calm = λ v e. cc; shut = λ v e. cc; none = λ y z e. cc }
option_stops false false = record { calm = λ v e. cc; shut = λ v e. cc; none = λ y z e. cc }

same_only : (m n : Option Name) (a b : Bool) → only_says m ++ ending a ≡ only_says n ++ ending b → m ≡ n
same_only None None a b e = refl
same_only (Some m) (Some n) a b e = cc
same_only None (Some n) true b e = cc
same_only None (Some n) false b e = cc
same_only (Some m) None a true e = cc
same_only (Some m) None a false e = cc

abbrev from : Name → List Condition → List Lexeme
from table cs = lexemes.Key keywords.From ∷ lexemes.Named table ∷ filter_says cs

from_stops : (table : Name) (cs : List Condition) (b : Bool) → Stops comma_lexeme name_says (from table cs ++ ending b)
from_stops table cs b = record { calm = λ v e. cc; shut = λ v e. cc; none = λ y z e. cc }

same_selection : (l k : Option (List Name)) (m n : Name) (cs ds : List Condition) (a b : Bool) → (selection_says l ++ from m cs) ++ ending a ≡ (selection_says k ++ from n ds) ++ ending b → (l ≡ k) × (from m cs ++ ending a ≡ from n ds ++ ending b)
same_selection None None m n cs ds a b e = (refl, cc)
same_selection None (Some []) m n cs ds a b e = cc
same_selection None (Some (y ∷ ys)) m n cs ds a b e = cc
same_selection (Some []) None m n cs ds a b e = cc
same_selection (Some (x ∷ xs)) None m n cs ds a b e = cc
same_selection (Some xs) (Some ys) m n cs ds a b e =
    let r = same_front comma_lexeme name_says (λ z. cc) one_name xs ys (from m cs) (from n ds) (ending a) (ending b) (from_stops m cs a) (from_stops n ds b) e in
    (ap Some r.0, r.1)

-- ON name, and then a keyword
abbrev on : Name → List Lexeme → List Lexeme
on table u = lexemes.Key keywords.On ∷ lexemes.Named table ∷ u

on_stops : (table : Name) (u : List Lexeme) (b : Bool) → Stops comma_lexeme privilege_says (on table u ++ ending b)
on_stops table u b = record { calm = λ v e. cc; shut = λ v e. cc; none = none }
  where
    none : (y : Privilege) (w : List Lexeme) → on table u ++ ending b ≡ privilege_says y ++ w → ⊥
    none (privileges_of.Select c) w e = cc
    none privileges_of.Insert w e = cc
    none privileges_of.Delete w e = cc
    none (privileges_of.Update c) w e = cc

same_privileges : (xs ys : List Privilege) (m n : Name) (u v : List Lexeme) (a b : Bool) → (separated comma_lexeme privilege_says xs ++ on m u) ++ ending a ≡ (separated comma_lexeme privilege_says ys ++ on n v) ++ ending b → (xs ≡ ys) × (on m u ++ ending a ≡ on n v ++ ending b)
same_privileges xs ys m n u v a b e = same_front comma_lexeme privilege_says (λ z. cc) one_privilege xs ys (on m u) (on n v) (ending a) (ending b) (on_stops m u a) (on_stops n v b) e

close_stops_columns : (b : Bool) → Stops comma_lexeme column_says (close ∷ [] ++ ending b)
close_stops_columns b = record { calm = λ v e. cc; shut = λ v e. cc; none = λ y z e. cc }

close_stops_values : (b : Bool) → Stops comma_lexeme value_says (close ∷ [] ++ ending b)
close_stops_values b = record { calm = λ v e. cc; shut = λ v e. cc; none = none }
  where
    none : (y : Value) (w : List Lexeme) → close ∷ [] ++ ending b ≡ value_says y ++ w → ⊥
    none (values.Int n) w e = cc
    none (values.Text n) w e = cc

users_stop : (b : Bool) → Stops comma_lexeme user_says (ending b)
users_stop true = record { calm = λ v e. cc; shut = λ v e. cc; none = λ y z e. cc }
users_stop false = record { calm = λ v e. cc; shut = λ v e. cc; none = λ y z e. cc }

same_revoked : (ps qs : List Privilege) (m n : Name) (us vs : List User) (a b : Bool) → privileges_from_say ps m us ++ ending a ≡ privileges_from_say qs n vs ++ ending b → (ps ≡ qs) × (m ≡ n) × (us ≡ vs)
same_revoked ps qs m n us vs a b f =
    let l = same_privileges ps qs m n (lexemes.Key keywords.From ∷ separated comma_lexeme user_says us) (lexemes.Key keywords.From ∷ separated comma_lexeme user_says vs) a b f in
    let behind : on m (lexemes.Key keywords.From ∷ separated comma_lexeme user_says us) ++ ending a ≡ on n (lexemes.Key keywords.From ∷ separated comma_lexeme user_says vs) ++ ending b = l.1 in
    let g : separated comma_lexeme user_says us ++ ending a ≡ separated comma_lexeme user_says vs ++ ending b = cc in
    let r = same_list comma_lexeme user_says (λ z. cc) one_user us vs (ending a) (ending b) (users_stop a) (users_stop b) g in
    (l.0, cc, r.0)

-- no privilege begins with GRANT
no_option : (ps qs : List Privilege) (m n : Name) (us vs : List User) (a b : Bool) → privileges_from_say ps m us ++ ending a ≡ lexemes.Key keywords.Grant ∷ lexemes.Key keywords.Option ∷ lexemes.Key keywords.For ∷ (privileges_from_say qs n vs ++ ending b) → ⊥
no_option [] qs m n us vs a b e = cc
no_option (privileges_of.Select columns ∷ ps) qs m n us vs a b e = cc
no_option (privileges_of.Insert ∷ ps) qs m n us vs a b e = cc
no_option (privileges_of.Delete ∷ ps) qs m n us vs a b e = cc
no_option (privileges_of.Update columns ∷ ps) qs m n us vs a b e = cc

-- the word that a statement begins with
abbrev word : Statement → Keyword
word (statements.CreateTable m xs) = keywords.Create
word (statements.Insert m xs) = keywords.Insert
word (statements.Select l m cs) = keywords.Select
word (statements.Delete m cs) = keywords.Delete
word (statements.Update m xs cs) = keywords.Update
word (statements.Grant ps m us o) = keywords.Grant
word (statements.Revoke ps m us) = keywords.Revoke
word (statements.RevokeOption ps m us) = keywords.Revoke
word statements.Checkpoint = keywords.Checkpoint
word statements.Checkpoints = keywords.Checkpoints
word (statements.Export m o) = keywords.Export

begins : (s : Statement) (u : List Lexeme) → (w : List Lexeme) × (statement_says s ++ u ≡ lexemes.Key (word s) ∷ w)
begins (statements.CreateTable m xs) u = (_, refl)
begins (statements.Insert m xs) u = (_, refl)
begins (statements.Select l m cs) u = (_, refl)
begins (statements.Delete m cs) u = (_, refl)
begins (statements.Update m xs cs) u = (_, refl)
begins (statements.Grant ps m us o) u = (_, refl)
begins (statements.Revoke ps m us) u = (_, refl)
begins (statements.RevokeOption ps m us) u = (_, refl)
begins statements.Checkpoint u = (_, refl)
begins statements.Checkpoints u = (_, refl)
begins (statements.Export m o) u = (_, refl)

-- what says the same begins with the same word
same_word : (s t : Statement) (u v : List Lexeme) → statement_says s ++ u ≡ statement_says t ++ v → eqb (keyword_number (word s)) (keyword_number (word t)) ≡ true
same_word s t u v e =
    let p = begins s u in
    let q = begins t v in
    let f : lexemes.Key (word s) ∷ p.0 ≡ lexemes.Key (word t) ∷ q.0 = sym p.1 ∙ e ∙ q.1 in
    let same : word s ≡ word t = cc in
    eq-eqb _ _ (ap keyword_number same)

same_statement : (s t : Statement) (a b : Bool) → eqb (keyword_number (word s)) (keyword_number (word t)) ≡ true → statement_says s ++ ending a ≡ statement_says t ++ ending b → s ≡ t
same_statement (statements.CreateTable m xs) (statements.CreateTable n ys) a b w e =
    let f : (separated comma_lexeme column_says xs ++ close ∷ []) ++ ending a ≡ (separated comma_lexeme column_says ys ++ close ∷ []) ++ ending b = cc in
    let l = same_front comma_lexeme column_says (λ z. cc) one_column xs ys (close ∷ []) (close ∷ []) (ending a) (ending b) (close_stops_columns a) (close_stops_columns b) f in
    let same : xs ≡ ys = l.0 in
    cc
same_statement (statements.Insert m xs) (statements.Insert n ys) a b w e =
    let f : (separated comma_lexeme value_says xs ++ close ∷ []) ++ ending a ≡ (separated comma_lexeme value_says ys ++ close ∷ []) ++ ending b = cc in
    let l = same_front comma_lexeme value_says (λ z. cc) one_value xs ys (close ∷ []) (close ∷ []) (ending a) (ending b) (close_stops_values a) (close_stops_values b) f in
    let same : xs ≡ ys = l.0 in
    cc
same_statement (statements.Select l m cs) (statements.Select k n ds) a b w e =
    let f : (selection_says l ++ from m cs) ++ ending a ≡ (selection_says k ++ from n ds) ++ ending b = cc in
    let r = same_selection l k m n cs ds a b f in
    let list : l ≡ k = r.0 in
    let behind : from m cs ++ ending a ≡ from n ds ++ ending b = r.1 in
    let same : cs ≡ ds = same_filter cs ds a b (cc) in
    let table : m ≡ n = cc in
    cc
same_statement (statements.Delete m cs) (statements.Delete n ds) a b w e =
    let same : cs ≡ ds = same_filter cs ds a b (cc) in
    let table : m ≡ n = cc in
    cc
same_statement (statements.Update m xs cs) (statements.Update n ys ds) a b w e =
    let f : (separated comma_lexeme set_says xs ++ filter_says cs) ++ ending a ≡ (separated comma_lexeme set_says ys ++ filter_says ds) ++ ending b = cc in
    let l = same_front comma_lexeme set_says (λ z. cc) one_set xs ys (filter_says cs) (filter_says ds) (ending a) (ending b) (filter_stops cs a) (filter_stops ds b) f in
    let sets : xs ≡ ys = l.0 in
    let same : cs ≡ ds = same_filter cs ds a b l.1 in
    let table : m ≡ n = cc in
    cc
same_statement (statements.Grant ps m us o) (statements.Grant qs n vs p) a b w e =
    let f : (separated comma_lexeme privilege_says ps ++ on m (lexemes.Key keywords.To ∷ (separated comma_lexeme user_says us ++ option_says o))) ++ ending a ≡ (separated comma_lexeme privilege_says qs ++ on n (lexemes.Key keywords.To ∷ (separated comma_lexeme user_says vs ++ option_says p))) ++ ending b = cc in
    let l = same_privileges ps qs m n _ _ a b f in
    let privileges : ps ≡ qs = l.0 in
    let behind : on m (lexemes.Key keywords.To ∷ (separated comma_lexeme user_says us ++ option_says o)) ++ ending a ≡ on n (lexemes.Key keywords.To ∷ (separated comma_lexeme user_says vs ++ option_says p)) ++ ending b = l.1 in
    let table : m ≡ n = cc in
    let g : (separated comma_lexeme user_says us ++ option_says o) ++ ending a ≡ (separated comma_lexeme user_says vs ++ option_says p) ++ ending b = cc in
    let r = same_front comma_lexeme user_says (λ z. cc) one_user us vs (option_says o) (option_says p) (ending a) (ending b) (option_stops o a) (option_stops p b) g in
    let users : us ≡ vs = r.0 in
    let option : o ≡ p = same_option o p a b r.1 in
    cc
same_statement (statements.Revoke ps m us) (statements.Revoke qs n vs) a b w e =
    let r = same_revoked ps qs m n us vs a b (cc) in
    let privileges : ps ≡ qs = r.0 in
    let table : m ≡ n = r.1 in
    let users : us ≡ vs = r.2 in
    cc
same_statement (statements.RevokeOption ps m us) (statements.RevokeOption qs n vs) a b w e =
    let r = same_revoked ps qs m n us vs a b (cc) in
    let privileges : ps ≡ qs = r.0 in
    let table : m ≡ n = r.1 in
    let users : us ≡ vs = r.2 in
    cc
same_statement (statements.Revoke ps m us) (statements.RevokeOption qs n vs) a b w e = absurd (no_option ps qs m n us vs a b (cc))
same_statement (statements.RevokeOption ps m us) (statements.Revoke qs n vs) a b w e = absurd (no_option qs ps n m vs us b a (cc))
same_statement statements.Checkpoint statements.Checkpoint a b w e = refl
same_statement statements.Checkpoints statements.Checkpoints a b w e = refl
same_statement (statements.Export m o) (statements.Export n p) a b w e =
    let only : o ≡ p = same_only o p a b (cc) in
    let number : m ≡ n = cc in
    cc
same_statement _ _ a b w e = absurd (false≢true w)

pub said_once : (said : List Lexeme) (s t : Statement) → SaysStatement said s → SaysStatement said t → s ≡ t
said_once said s t p q = let a = ended said s p in let b = ended said t q in let e = sym a.1 ∙ b.1 in same_statement s t a.0 b.0 (same_word s t _ _ e) e
