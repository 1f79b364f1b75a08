-- A mark stands where a byte of one does.
use Rattle.std.proofs.Common.{◌≡◌, ◌⊎◌, ℕ, ◌<◌, Bool, true, false, ◌||◌, List, [], ◌∷◌, take, refl, ap, ◌∙◌, arith, inl, inr}
use Rattle.std.specs.Prelude.{◌==◌, slice_index}
use Rattle.lexer_core.specs.declared.token.Mark.{Mark}
use Rattle.lexer_core.specs.declared.token.Mark.TheVariants.{Open, Close, Comma, Star, Semicolon, Equal, NotEqual, Less, LessEqual, Greater, GreaterEqual}
use Rattle.lexer_core.specs.Lexing.{BeginsMark, is_mark_byte}
use Rattle.lexer_core.proofs.Numbers.{equal}

abbrev pub SomeMark : List ℕ → Type 0
SomeMark bytes = (m : Mark) × BeginsMark bytes m

either : (a b : Bool) → (a || b) ≡ true → (a ≡ true) ⊎ (b ≡ true)
either true b e = inl refl
either false b e = inr e

two : (a c b : ℕ) (rest : List ℕ) → a ≡ c → slice_index rest 0 ≡ b → 0 < b → take 2 (a ∷ rest) ≡ c ∷ b ∷ []
two a c b [] e f some = absurd (omega (arith, f))
two a c b (x ∷ rest) e f some = ap (λ (y : ℕ). y ∷ x ∷ []) e ∙ ap (λ (y : ℕ). c ∷ y ∷ []) f

module _ (a : ℕ) (rest : List ℕ) where
  one : (c : ℕ) → (a == c) ≡ true → a ∷ [] ≡ c ∷ []
  one c e = ap (λ (x : ℕ). x ∷ []) (equal a c e)

  less : a ≡ 60 → (equals greater : Bool) → (slice_index rest 0 == 61) ≡ equals → (slice_index rest 0 == 62) ≡ greater → SomeMark (a ∷ rest)
  less is true greater e f = (LessEqual, record { spelled = two a 60 61 rest is (equal _ 61 e) (omega arith); ends = refl })
  less is false true e f = (NotEqual, record { spelled = two a 60 62 rest is (equal _ 62 f) (omega arith); ends = refl })
  less is false false e f = (Less, record { spelled = ap (λ (x : ℕ). x ∷ []) is; ends = ap (λ (b : Bool). b || (slice_index rest 0 == 62)) e ∙ f })

  greater : a ≡ 62 → (equals : Bool) → (slice_index rest 0 == 61) ≡ equals → SomeMark (a ∷ rest)
  greater is true e = (GreaterEqual, record { spelled = two a 62 61 rest is (equal _ 61 e) (omega arith); ends = refl })
  greater is false e = (Greater, record { spelled = ap (λ (x : ℕ). x ∷ []) is; ends = e })

  some_mark : is_mark_byte a ≡ true → SomeMark (a ∷ rest)
  some_mark e = elim (either (a == 40) _ e) [
    | inl h ↦ (Open, record { spelled = one 40 h; ends = refl })
    | inr e ↦ elim (either (a == 41) _ e) [
      | inl h ↦ (Close, record { spelled = one 41 h; ends = refl })
      | inr e ↦ elim (either (a == 44) _ e) [
        | inl h ↦ (Comma, record { spelled = one 44 h; ends = refl })
        | inr e ↦ elim (either (a == 42) _ e) [
          | inl h ↦ (Star, record { spelled = one 42 h; ends = refl })
          | inr e ↦ elim (either (a == 59) _ e) [
            | inl h ↦ (Semicolon, record { spelled = one 59 h; ends = refl })
            | inr e ↦ elim (either (a == 61) _ e) [
              | inl h ↦ (Equal, record { spelled = one 61 h; ends = refl })
              | inr e ↦ elim (either (a == 60) _ e) [
                | inl h ↦ less (equal a 60 h) (slice_index rest 0 == 61) (slice_index rest 0 == 62) refl refl
                | inr e ↦ elim (either (a == 62) false e) [
                  | inl h ↦ greater (equal a 62 h) (slice_index rest 0 == 61) refl
                  | inr e ↦ cc e
                ]
              ]
            ]
          ]
        ]
      ]
    ]
  ]

pub mark_stands : (bytes : List ℕ) → is_mark_byte (slice_index bytes 0) ≡ true → SomeMark bytes
mark_stands [] e = let clash : false ≡ true = e in cc clash
mark_stands (a ∷ rest) e = some_mark a rest e
