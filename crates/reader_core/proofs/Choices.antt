-- The language's choices are between parts that begin with different tokens.
use Rattle.std.proofs.Common.{◌≡◌, Bool, true, false, ◌||◌, List, [], ◌∷◌, ◌++◌, ◌⊎◌, inl, inr, Option, ap, sym, subst, ◌∙◌, refl}
use Rattle.base_core.specs.declared.keyword.Keyword.{Keyword}
use Rattle.base_core.specs.declared.keyword.Keyword.TheVariants as keywords
use Rattle.lexer_core.specs.declared.token.Mark.{Mark}
use Rattle.lexer_core.specs.declared.token.Mark.TheVariants as marks
use Rattle.lexer_core.specs.declared.token.TokenKind.{TokenKind}
use Rattle.lexer_core.specs.declared.token.TokenKind.TheVariants as kinds
use Rattle.lexer_core.specs.declared.fault.Code.{Code}
use Rattle.reader_core.specs.Grammar.{Grammar, End, One, Case, Items, More, Class, Key, Sign, fits, followed_by}
use Rattle.reader_core.specs.Matches.{TokenWithFault, is_next, Matches, done, one, this, other, item, next, last}
use Rattle.reader_core.specs.Choices.{Derives, stop, token, left, right, first, further, behind, can_begin, IsApart, IsPredictive, no_token}
use Rattle.reader_core.specs.Sentences.{statement, finish, optional, filter, grant_option, privileges_from, privilege_item, in_brackets}
use Rattle.reader_core.proofs.Taking.{key_fits, sign_fits}

-- ---- what follows may be told apart from the grammar
starts_same : (g : Grammar) (f h : TokenKind → Bool) → ((u : TokenKind) → f u ≡ h u) → (t : TokenKind) → can_begin g f t ≡ can_begin g h t
starts_same End f h e t = e t
starts_same (One c g) f h e t = refl
starts_same (Case c a b) f h e t = ap (λ (x : Bool). fits c t || x) (starts_same b f h e t)
starts_same (Items r s i g) f h e t = starts_same i (λ u. fits r.separator u || can_begin g f u) (λ u. fits r.separator u || can_begin g h u) (λ u. ap (λ (x : Bool). fits r.separator u || x) (starts_same g f h e u)) t
starts_same (More r s i g) f h e t = ap (λ (x : Bool). fits r.separator t || x) (starts_same g f h e t)

clear_same : (g : Grammar) (f h : TokenKind → Bool) → ((u : TokenKind) → f u ≡ h u) → IsPredictive g f → IsPredictive g h
clear_same End f h e x = x
clear_same (One c g) f h e x = clear_same g f h e x
clear_same (Case c a b) f h e x = (λ t p. starts_same b h f (λ u. sym (e u)) t ∙ x.0 t p, clear_same a f h e x.1, clear_same b f h e x.2)
clear_same (Items r s i g) f h e x = (
  clear_same i (λ u. fits r.separator u || can_begin g f u) (λ u. fits r.separator u || can_begin g h u) (λ u. ap (λ (z : Bool). fits r.separator u || z) (starts_same g f h e u)) x.0,
  λ t p. starts_same g h f (λ u. sym (e u)) t ∙ x.1 t p,
  clear_same g f h e x.2,
)
clear_same (More r s i g) f h e x = (
  clear_same i (λ u. fits r.separator u || can_begin g f u) (λ u. fits r.separator u || can_begin g h u) (λ u. ap (λ (z : Bool). fits r.separator u || z) (starts_same g f h e u)) x.0,
  λ t p. starts_same g h f (λ u. sym (e u)) t ∙ x.1 t p,
  clear_same g f h e x.2,
)

starts_followed : (g k : Grammar) (f : TokenKind → Bool) (t : TokenKind) → can_begin (followed_by g k) f t ≡ can_begin g (can_begin k f) t
starts_followed End k f t = refl
starts_followed (One c g) k f t = refl
starts_followed (Case c a b) k f t = ap (λ (x : Bool). fits c t || x) (starts_followed b k f t)
starts_followed (Items r s i g) k f t = starts_same i (λ u. fits r.separator u || can_begin (followed_by g k) f u) (λ u. fits r.separator u || can_begin g (can_begin k f) u) (λ u. ap (λ (x : Bool). fits r.separator u || x) (starts_followed g k f u)) t
starts_followed (More r s i g) k f t = ap (λ (x : Bool). fits r.separator t || x) (starts_followed g k f t)

clear_followed : (g k : Grammar) (f : TokenKind → Bool) → IsPredictive g (can_begin k f) → IsPredictive k f → IsPredictive (followed_by g k) f
clear_followed End k f x y = y
clear_followed (One c g) k f x y = clear_followed g k f x y
clear_followed (Case c a b) k f x y = (λ t p. starts_followed b k f t ∙ x.0 t p, clear_followed a k f x.1 y, clear_followed b k f x.2 y)
clear_followed (Items r s i g) k f x y = (
  clear_same i (λ u. fits r.separator u || can_begin g (can_begin k f) u) (λ u. fits r.separator u || can_begin (followed_by g k) f u) (λ u. ap (λ (z : Bool). fits r.separator u || z) (sym (starts_followed g k f u))) x.0,
  λ t p. starts_followed g k f t ∙ x.1 t p,
  clear_followed g k f x.2 y,
)
clear_followed (More r s i g) k f x y = (
  clear_same i (λ u. fits r.separator u || can_begin g (can_begin k f) u) (λ u. fits r.separator u || can_begin (followed_by g k) f u) (λ u. ap (λ (z : Bool). fits r.separator u || z) (sym (starts_followed g k f u))) x.0,
  λ t p. starts_followed g k f t ∙ x.1 t p,
  clear_followed g k f x.2 y,
)

-- ---- every sentence by some choice is one by the next token
first_starts : {g : Grammar} {t : TokenKind} {w : Option Code} {ss : List TokenWithFault} → Matches g (record { kind = t; wrong = w } ∷ ss) → can_begin g no_token t ≡ true
first_starts (one f m) = f
first_starts {g = Case c a b} {t} (this f m) = ap (λ (x : Bool). x || can_begin b no_token t) f
first_starts {g = Case c a b} {t} (other n m) = ap (λ (x : Bool). x || can_begin b no_token t) n ∙ first_starts m
first_starts {g = Items r s i g} {t} (item m) = sym (starts_followed i (More r (s ++ t ∷ []) i g) no_token t) ∙ first_starts m
first_starts {g = More r s i g} {t} (next f m) = ap (λ (x : Bool). x || can_begin g no_token t) f
first_starts {g = More r s i g} {t} (last n m) = ap (λ (x : Bool). x || can_begin g no_token t) n ∙ first_starts m

true_or_false : (b : Bool) → (b ≡ true) ⊎ (b ≡ false)
true_or_false true = inl refl
true_or_false false = inr refl

clash : (b : Bool) → b ≡ false → b ≡ true → ⊥
clash true e h = cc
clash false e h = cc

not_next : (c : Class) (g : Grammar) (ss : List TokenWithFault) → IsApart c (can_begin g no_token) → Matches g ss → is_next c ss ≡ false
not_next c g [] a m = refl
not_next c g (s ∷ ss) a m = elim (true_or_false (fits c s.kind)) [
  | inl e ↦ absurd (clash (can_begin g no_token s.kind) (a s.kind e) (first_starts m))
  | inr e ↦ e
]

by_next : {g : Grammar} {ss : List TokenWithFault} → IsPredictive g no_token → Derives g ss → Matches g ss
by_next x stop = done
by_next x (token f d) = one f (by_next x d)
by_next x (left f d) = this f (by_next x.1 d)
by_next {g = Case c a b} {ss} x (right d) = let m = by_next x.2 d in other (not_next c b ss x.0 m) m
by_next {g = Items r s i g} x (first {t} d) = item (by_next (clear_followed i (More r (s ++ t ∷ []) i g) no_token x.0 x) d)
by_next x (further f d) = next f (by_next x d)
by_next {g = More r s i g} {ss} x (behind d) = let m = by_next x.2 d in last (not_next r.separator g ss x.1 m) m

-- ---- the language
key : (k : Keyword) (f : TokenKind → Bool) → f (kinds.Keyword k) ≡ false → IsApart (Key k) f
key k f e = λ t p. subst (λ (u : TokenKind). f u ≡ false) (sym (key_fits k t p)) e

sign : (m : Mark) (f : TokenKind → Bool) → f (kinds.Mark m) ≡ false → IsApart (Sign m) f
sign m f e = λ t p. subst (λ (u : TokenKind). f u ≡ false) (sym (sign_fits m t p)) e

ends : IsPredictive finish no_token
ends = (sign marks.Semicolon _ refl, tt, tt)

filtered : IsPredictive (optional filter finish) no_token
filtered = (key keywords.Where _ refl, (tt, key keywords.And _ refl, ends), ends)

-- where no bracket can follow a privilege
privilege : (f : TokenKind → Bool) → f (kinds.Mark marks.Open) ≡ false → IsPredictive privilege_item f
privilege f e = (key keywords.Select _ refl, columns, (key keywords.Insert _ refl, tt, (key keywords.Delete _ refl, tt, columns)))
  where
    columns : IsPredictive (optional in_brackets End) f
    columns = (sign marks.Open _ e, (tt, sign marks.Comma _ refl, tt), tt)

granted : IsPredictive (optional grant_option finish) no_token
granted = (key keywords.With _ refl, ends, ends)

revoked : IsPredictive (privileges_from finish) no_token
revoked = (privilege _ refl, sign marks.Comma _ refl, (tt, sign marks.Comma _ refl, ends))

pub clear : IsPredictive statement no_token
clear = (
  key keywords.Create _ refl,
  (tt, sign marks.Comma _ refl, ends),
  (
    key keywords.Insert _ refl,
    (tt, sign marks.Comma _ refl, ends),
    (
      key keywords.Select _ refl,
      (sign marks.Star _ refl, filtered, (tt, sign marks.Comma _ refl, filtered)),
      (
        key keywords.Delete _ refl,
        filtered,
        (
          key keywords.Update _ refl,
          (tt, sign marks.Comma _ refl, filtered),
          (
            key keywords.Grant _ refl,
            (privilege _ refl, sign marks.Comma _ refl, (tt, sign marks.Comma _ refl, granted)),
            (
              key keywords.Revoke _ refl,
              (key keywords.Grant _ refl, revoked, revoked),
              (
                key keywords.Checkpoint _ refl,
                ends,
                (
                  key keywords.Checkpoints _ refl,
                  ends,
                  (key keywords.Only _ refl, ends, ends),
                ),
              ),
            ),
          ),
        ),
      ),
    ),
  ),
)

by_choice : {g : Grammar} {ss : List TokenWithFault} → Matches g ss → Derives g ss
by_choice done = stop
by_choice (one f m) = token f (by_choice m)
by_choice (this f m) = left f (by_choice m)
by_choice (other n m) = right (by_choice m)
by_choice (item m) = first (by_choice m)
by_choice (next f m) = further f (by_choice m)
by_choice (last n m) = behind (by_choice m)

pub one_choice : (ss : List TokenWithFault) → (Derives statement ss → Matches statement ss) × (Matches statement ss → Derives statement ss)
one_choice ss = (λ d. by_next clear d, λ m. by_choice m)
