-- A whole sentence with no wrong token is said by a statement.
use Rattle.std.proofs.Common.{◌≡◌, ℕ, pos, ◌<◌, ◌^◌, false, List, [], ◌∷◌, ◌++◌, All, ap, sym, subst, ◌∙◌, refl, inl, inr}
use Rattle.std.proofs.lemmas.List.Elements.{All-head, All-tail}
use mir.Syntax.{w64}
use mir.Val.{SFits as FitsSigned}
use Rattle.base_core.specs.declared.keyword.Keyword.{Keyword}
use Rattle.base_core.specs.declared.keyword.Keyword.TheVariants as keywords
use Rattle.base_core.specs.declared.name.Name.{Name}
use Rattle.base_core.specs.declared.name.User.{User}
use Rattle.lexer_core.specs.Lexing.{Lexeme, kind_of}
use Rattle.lexer_core.specs.Lexing as lexemes
use Rattle.lexer_core.specs.declared.token.TokenKind.TheVariants as kinds
use Rattle.lexer_core.specs.declared.token.Mark.TheVariants as marks
use Rattle.reader_core.specs.declared.privilege.Privilege.{Privilege}
use Rattle.reader_core.specs.declared.statement.Statement.{Statement}
use Rattle.reader_core.specs.declared.statement.Statement.TheVariants as statements
use Rattle.reader_core.specs.Grammar.{Grammar, End, One, Case, Items, Key, Sign, AnyName, AtLeastOne}
use Rattle.reader_core.specs.Matches.{Matches}
use Rattle.lexer_core.specs.Lexing.{IsProper}
use Rattle.reader_core.specs.Sentences.{names_rule, comma_separated, privileges_rule, column_item, literal_item, set_item, privilege_item, name_list, optional, filter, selection, from_table, grant_option, grant_option_for, privileges_from, only_table, statement, finish}
use Rattle.reader_core.specs.Saying.{comma_lexeme, separated, user_says, column_says, value_says, value_lexeme, set_says, filter_says, selection_says, privilege_says, option_says, privileges_from_say, statement_says, IsFinished}
use Rattle.reader_core.specs.Forming.{IsWellFormed, ArePrivileges, AreUsers}
use Rattle.reader_core.specs.Language.{SaysStatement}
use Rattle.reader_core.proofs.Fine.{few_if_fine, distinct_if_fine}
use Rattle.reader_core.proofs.Lines.{says_statement}
use Rattle.reader_core.proofs.Fronts.{Front, faultless_all, key_only, sign_only, key_front, sign_front, name_front, least_front, case_front, list_front, then, and_then}
use Rattle.reader_core.proofs.Said.{column_of, literal_of, set_of, users_front, privileges_front, filter_front, option_front, only_front, selection_front}

-- a statement, and what may stand behind it
abbrev Body : List Lexeme → Type 0
Body said = Front statement_says IsWellFormed finish said

create_body : (said : List Lexeme) → Matches (One (Key keywords.Table) (One AnyName (One (Sign marks.Open) (Items (names_rule 32) [] column_item (One (Sign marks.Close) finish))))) (faultless_all said) → Body (lexemes.Key keywords.Create ∷ said)
create_body said m =
    let a = key_front keywords.Table _ said m in
    let n = name_front _ a.rest a.left in
    let o = sign_front marks.Open _ n.rest n.left in
    let cs = list_front column_of (One (Sign marks.Close) finish) o.rest o.left in
    let c = sign_front marks.Close finish cs.rest cs.left in
    record {
      value = statements.CreateTable n.value cs.value;
      rest = c.rest;
      split = then _ refl (then _ a.split (then _ n.split (then _ o.split (and_then (separated comma_lexeme column_says cs.value) (lexemes.Sign marks.Close ∷ []) c.rest cs.split c.split))));
      well_formed = ((cs.well_formed.0, few_if_fine (names_rule 32) (λ c. kinds.Name c.name) cs.value cs.well_formed.2), distinct_if_fine 32 (λ c. c.name) cs.value cs.well_formed.2);
      left = c.left;
    }

insert_body : (said : List Lexeme) → Matches (One (Key keywords.Into) (One AnyName (One (Key keywords.Values) (One (Sign marks.Open) (Items (comma_separated 32 false) [] literal_item (One (Sign marks.Close) finish)))))) (faultless_all said) → Body (lexemes.Key keywords.Insert ∷ said)
insert_body said m =
    let a = key_front keywords.Into _ said m in
    let n = name_front _ a.rest a.left in
    let w = key_front keywords.Values _ n.rest n.left in
    let o = sign_front marks.Open _ w.rest w.left in
    let vs = list_front literal_of (One (Sign marks.Close) finish) o.rest o.left in
    let c = sign_front marks.Close finish vs.rest vs.left in
    record {
      value = statements.Insert n.value vs.value;
      rest = c.rest;
      split = then _ refl (then _ a.split (then _ n.split (then _ w.split (then _ o.split (and_then (separated comma_lexeme value_says vs.value) (lexemes.Sign marks.Close ∷ []) c.rest vs.split c.split)))));
      well_formed = (vs.well_formed.0, few_if_fine (comma_separated 32 false) (λ v. kind_of (value_lexeme v)) vs.value vs.well_formed.2);
      left = c.left;
    }

select_body : (said : List Lexeme) → Matches (selection (from_table finish)) (faultless_all said) → Body (lexemes.Key keywords.Select ∷ said)
select_body said m =
    let s = selection_front (from_table finish) said m in
    let f = key_front keywords.From _ s.rest s.left in
    let n = name_front _ f.rest f.left in
    let cs = filter_front finish n.rest n.left in
    record {
      value = statements.Select s.value n.value cs.value;
      rest = cs.rest;
      split = then _ refl (and_then (selection_says s.value) (lexemes.Key keywords.From ∷ lexemes.Named n.value ∷ filter_says cs.value) cs.rest s.split (then _ f.split (then _ n.split cs.split)));
      well_formed = (s.well_formed, cs.well_formed);
      left = cs.left;
    }

delete_body : (said : List Lexeme) → Matches (from_table finish) (faultless_all said) → Body (lexemes.Key keywords.Delete ∷ said)
delete_body said m =
    let f = key_front keywords.From _ said m in
    let n = name_front _ f.rest f.left in
    let cs = filter_front finish n.rest n.left in
    record {
      value = statements.Delete n.value cs.value;
      rest = cs.rest;
      split = then _ refl (then _ f.split (then _ n.split cs.split));
      well_formed = cs.well_formed;
      left = cs.left;
    }

update_body : (said : List Lexeme) → Matches (One AnyName (One (Key keywords.Set) (Items (names_rule 32) [] set_item (optional filter finish)))) (faultless_all said) → Body (lexemes.Key keywords.Update ∷ said)
update_body said m =
    let n = name_front _ said m in
    let w = key_front keywords.Set _ n.rest n.left in
    let xs = list_front set_of (optional filter finish) w.rest w.left in
    let cs = filter_front finish xs.rest xs.left in
    record {
      value = statements.Update n.value xs.value cs.value;
      rest = cs.rest;
      split = then _ refl (then _ n.split (then _ w.split (and_then (separated comma_lexeme set_says xs.value) (filter_says cs.value) cs.rest xs.split cs.split)));
      well_formed = (((xs.well_formed.0, few_if_fine (names_rule 32) (λ a. kinds.Name a.column) xs.value xs.well_formed.2), distinct_if_fine 32 (λ a. a.column) xs.value xs.well_formed.2), cs.well_formed);
      left = cs.left;
    }

grant_body : (said : List Lexeme) → Matches (Items privileges_rule [] privilege_item (One (Key keywords.On) (One AnyName (One (Key keywords.To) (name_list 16 (optional grant_option finish)))))) (faultless_all said) → Body (lexemes.Key keywords.Grant ∷ said)
grant_body said m =
    let ps = privileges_front _ said m in
    let o = key_front keywords.On _ ps.rest ps.left in
    let n = name_front _ o.rest o.left in
    let t = key_front keywords.To _ n.rest n.left in
    let us = users_front (optional grant_option finish) t.rest t.left in
    let w = option_front finish us.rest us.left in
    record {
      value = statements.Grant ps.value n.value us.value w.value;
      rest = w.rest;
      split = then _ refl (and_then (separated comma_lexeme privilege_says ps.value) (lexemes.Key keywords.On ∷ lexemes.Named n.value ∷ lexemes.Key keywords.To ∷ (separated comma_lexeme user_says us.value ++ option_says w.value)) w.rest ps.split
          (then _ o.split (then _ n.split (then _ t.split (and_then (separated comma_lexeme user_says us.value) (option_says w.value) w.rest us.split w.split)))));
      well_formed = (ps.well_formed, us.well_formed);
      left = w.left;
    }

-- what is revoked, of which table and from whom
record Revoked : Type 0 where
  privileges : List Privilege
  table : Name
  users : List User

abbrev revoked_says : Revoked → List Lexeme
revoked_says r = privileges_from_say r.privileges r.table r.users

abbrev IsWellFormedRevoked : Revoked → Type 0
IsWellFormedRevoked r = ArePrivileges r.privileges × AreUsers r.users

revoked_front : (said : List Lexeme) → Matches (privileges_from finish) (faultless_all said) → Front revoked_says IsWellFormedRevoked finish said
revoked_front said m =
    let ps = privileges_front _ said m in
    let o = key_front keywords.On _ ps.rest ps.left in
    let n = name_front _ o.rest o.left in
    let f = key_front keywords.From _ n.rest n.left in
    let us = users_front finish f.rest f.left in
    record {
      value = record { privileges = ps.value; table = n.value; users = us.value };
      rest = us.rest;
      split = and_then (separated comma_lexeme privilege_says ps.value) (lexemes.Key keywords.On ∷ lexemes.Named n.value ∷ lexemes.Key keywords.From ∷ separated comma_lexeme user_says us.value) us.rest ps.split
          (then _ o.split (then _ n.split (then _ f.split us.split)));
      well_formed = (ps.well_formed, us.well_formed);
      left = us.left;
    }

revoke_body : (said : List Lexeme) → Matches (optional grant_option_for (privileges_from finish)) (faultless_all said) → Body (lexemes.Key keywords.Revoke ∷ said)
revoke_body said m = elim (case_front (Key keywords.Grant) (lexemes.Key keywords.Grant) _ (privileges_from finish) said (key_only keywords.Grant) m) [
  | inl p ↦
      let o = key_front keywords.Option _ p.0 p.2 in
      let f = key_front keywords.For _ o.rest o.left in
      let r = revoked_front f.rest f.left in
      record { value = statements.RevokeOption r.value.privileges r.value.table r.value.users; rest = r.rest; split = then _ refl (then _ p.1 (then _ o.split (then _ f.split r.split))); well_formed = r.well_formed; left = r.left }
  | inr n ↦
      let r = revoked_front said n in
      record { value = statements.Revoke r.value.privileges r.value.table r.value.users; rest = r.rest; split = then _ refl r.split; well_formed = r.well_formed; left = r.left }
]

-- the number of EXPORT is one of 64 bits
small : (n : ℕ) (said rest : List Lexeme) → All IsProper said → said ≡ lexemes.Number (pos n) ∷ rest → n < 2 ^ 63
small n said rest h e =
    let fits : FitsSigned w64 (pos n) = All-head IsProper (lexemes.Number (pos n)) rest (subst (All IsProper) e h) in
    fits.sfits

export_body : (said : List Lexeme) → All IsProper said → Matches (One AtLeastOne (optional only_table finish)) (faultless_all said) → Body (lexemes.Key keywords.Export ∷ said)
export_body said h m =
    let n = least_front _ said m in
    let o = only_front finish n.rest n.left in
    record {
      value = statements.Export n.value o.value;
      rest = o.rest;
      split = then _ refl (then _ n.split o.split);
      well_formed = (n.well_formed, small n.value said n.rest h n.split);
      left = o.left;
    }

moved : {said next : List Lexeme} → said ≡ next → Body next → Body said
moved e b = subst Body (sym e) b

-- what begins with the keyword, or one of the others
chosen : (k : Keyword) (a b : Grammar) (said : List Lexeme) → ((rest : List Lexeme) → Matches a (faultless_all rest) → Body (lexemes.Key k ∷ rest)) → (Matches b (faultless_all said) → Body said) → Matches (Case (Key k) a b) (faultless_all said) → Body said
chosen k a b said first others m = elim (case_front (Key k) (lexemes.Key k) a b said (key_only k) m) [
  | inl p ↦ moved p.1 (first p.0 p.2)
  | inr n ↦ others n
]

body_front : (said : List Lexeme) → All IsProper said → Matches statement (faultless_all said) → Body said
body_front said h m =
    chosen keywords.Create _ _ said create_body (λ m.
    chosen keywords.Insert _ _ said insert_body (λ m.
    chosen keywords.Select _ _ said select_body (λ m.
    chosen keywords.Delete _ _ said delete_body (λ m.
    chosen keywords.Update _ _ said update_body (λ m.
    chosen keywords.Grant _ _ said grant_body (λ m.
    chosen keywords.Revoke _ _ said revoke_body (λ m.
    chosen keywords.Checkpoint _ _ said (λ rest m. record { value = statements.Checkpoint; rest = rest; split = refl; well_formed = tt; left = m }) (λ m.
    chosen keywords.Checkpoints _ _ said (λ rest m. record { value = statements.Checkpoints; rest = rest; split = refl; well_formed = tt; left = m }) (λ m.
    let e = key_front keywords.Export _ said m in
    moved e.split (export_body e.rest (All-tail IsProper (lexemes.Key keywords.Export) e.rest (subst (All IsProper) e.split h)) e.left)
    ) m) m) m) m) m) m) m) m) m

no_more : (said : List Lexeme) → Matches End (faultless_all said) → said ≡ []
no_more [] m = refl
no_more (l ∷ said) m = elim m [ ]

finished : (said : List Lexeme) → Matches finish (faultless_all said) → IsFinished said
finished said m = elim (case_front (Sign marks.Semicolon) (lexemes.Sign marks.Semicolon) End End said (sign_only marks.Semicolon) m) [
  | inl p ↦ inr (p.1 ∙ ap (λ z. lexemes.Sign marks.Semicolon ∷ z) (no_more p.0 p.2))
  | inr n ↦ inl (no_more said n)
]

pub whole_said : (said : List Lexeme) → All IsProper said → Matches statement (faultless_all said) → (s : Statement) × SaysStatement said s × IsWellFormed s
whole_said said h m =
    let b = body_front said h m in
    (b.value, says_statement said b.rest b.value b.split (finished b.rest b.left), b.well_formed)
