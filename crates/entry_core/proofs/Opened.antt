-- The line that begins a login of a user begins it of him.
use Rattle.std.proofs.Common.{rules, ◌≡◌, ◌&&◌, ℕ, List, [], ◌∷◌, ◌++◌, length, slice_index, drop, Bool, true, false, not, Option, Some, None, Ok, Err, codes, refl, sym, ap, subst, ◌∙◌, append-nil}
use Rattle.std.specs.Prelude.{nat_le, is_some, if◌then◌else◌, MatchOption, Result, IfOk}
use Rattle.std.specs.Char.{is_ascii_alphabetic}
use Rattle.std.specs.List.{list_all}
use Rattle.std.proofs.lemmas.Bool.{and_parts, false≢true}
use Rattle.std.proofs.lemmas.List.{append_cancel_left}
use Rattle.base_core.specs.Words.{name_of, is_name, is_word, is_word_byte, folded, keyword_of, IsName}
use Rattle.base_core.specs.declared.name.Name.{Name}
use Rattle.login_core.specs.Users.{Users}
use Rattle.login_core.specs.Login.{Beginning, Opens, IsNoOpening}
use Rattle.entry_core.specs.Steps.{login_line, OpensLogin, OpensNoLogin}

-- the line is made of these pieces
pub joined_line : (head user first : List ℕ) → head ≡ codes "LOGIN "
    → head ++ (user ++ (codes " " ++ (first ++ []))) ≡ login_line user first
joined_line head user first is =
    ap (λ (t : List ℕ). t ++ (user ++ 32 ∷ (first ++ []))) is
    ∙ ap (λ (t : List ℕ). codes "LOGIN " ++ (user ++ 32 ∷ t)) (append-nil first)

pub if_ok : {V E : Type 0} {P Q : V → Type 0} (r : Result V E) → IfOk r P → ((v : V) → P v → Q v) → IfOk r Q
if_ok (Ok v) p f = f v p
if_ok (Err e) p f = tt

-- a name spells itself
own_name : (name : Name) → IsName name → name_of name ≡ Some name
own_name name is =
    ap (λ (b : Bool). if b then Some (folded name) else None) is.named ∙ ap (λ (n : List ℕ). Some n) is.small

-- a word that spells a name has letters, digits and `_` alone
name_bytes : (word name : List ℕ) → name_of word ≡ Some name → list_all is_word_byte word ≡ true
name_bytes word name named = by (is_name word) refl named
  where
    by : (b : Bool) → is_name word ≡ b → (if b then Some (folded word) else None) ≡ Some name → list_all is_word_byte word ≡ true
    by true is e =
        let front = and_parts (is_word word && nat_le (length word) 30) (not (is_some (keyword_of word))) is in
        let parts = and_parts (is_word word) (nat_le (length word) 30) front.0 in
        (and_parts (is_ascii_alphabetic (slice_index word 0)) (list_all is_word_byte word) parts.0).1
    by false is e = absurd (search rules)

-- so a blank behind it is the first
one_word : (word rest other behind : List ℕ) → list_all is_word_byte word ≡ true → list_all is_word_byte other ≡ true
    → word ++ 32 ∷ rest ≡ other ++ 32 ∷ behind → word ≡ other
one_word [] rest [] behind a b e = refl
one_word [] rest (y ∷ ys) behind a b e =
    let heads : 32 ≡ y = ap (λ (t : List ℕ). slice_index t 0) e in
    let letter : is_word_byte y ≡ true = (and_parts (is_word_byte y) (list_all is_word_byte ys) b).0 in
    absurd (false≢true (ap is_word_byte heads ∙ letter))
one_word (x ∷ xs) rest [] behind a b e =
    let heads : x ≡ 32 = ap (λ (t : List ℕ). slice_index t 0) e in
    let letter : is_word_byte x ≡ true = (and_parts (is_word_byte x) (list_all is_word_byte xs) a).0 in
    absurd (false≢true (sym (ap is_word_byte heads) ∙ letter))
one_word (x ∷ xs) rest (y ∷ ys) behind a b e =
    let heads : x ≡ y = ap (λ (t : List ℕ). slice_index t 0) e in
    let tails : xs ≡ ys = one_word xs rest ys behind (and_parts (is_word_byte x) (list_all is_word_byte xs) a).1
    (and_parts (is_word_byte y) (list_all is_word_byte ys) b).1 (ap (drop 1) e) in
    λ k. heads k ∷ tails k

-- the login that the line begins is of the user whose name stands in it
opened_by : (users : Users) (secret own : List ℕ) (user : Name) (first : List ℕ) (begun : Beginning) → IsName user
    → OpensLogin users secret own user first begun → begun.user ≡ user
opened_by users secret own user first begun is opens =
    let o = opens.opening in
    let own : name_of user ≡ Some user = own_name user is in
    let behind : user ++ 32 ∷ first ≡ o.word ++ 32 ∷ o.first =
    append_cancel_left (codes "LOGIN ") (user ++ 32 ∷ first) (o.word ++ 32 ∷ o.first) o.said in
    let same : user ≡ o.word =
    one_word user first o.word o.first (name_bytes user user own) (name_bytes o.word begun.user o.named) behind in
    let both : Some begun.user ≡ Some user = sym o.named ∙ (ap name_of (sym same) ∙ own) in
    cc

-- what is read of the line that was made
pub opened : (users : Users) (secret own line : List ℕ) (user : Name) (first : List ℕ) (read : Option Beginning) → IsName user
    → line ≡ login_line user first
    → MatchOption read (IsNoOpening line) (λ begun. Opens users secret own line begun)
    → MatchOption read (OpensNoLogin users secret own user first)
    (λ begun. OpensLogin users secret own user first begun × (begun.user ≡ user))
opened users secret own line user first None is made none =
    λ begun opens.
    let at : Opens users secret own line begun = subst (λ l. Opens users secret own l begun) (sym made) opens in
    none begun.user begun.channel_binding begun.bare at.client_nonce at.opening
opened users secret own line user first (Some begun) is made opens =
    let as_made : OpensLogin users secret own user first begun = subst (λ l. Opens users secret own l begun) made opens in
    (as_made, opened_by users secret own user first begun is as_made)
