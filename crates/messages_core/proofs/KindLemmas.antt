-- The byte of each type is its own.
use Rattle.std.proofs.Common.{◌≡◌, ℕ, ◌⊎◌, Bool, true, false, cond, eqb, Option, Some, None, refl, sym, ap, ◌∙◌, inl, inr}
use Rattle.std.proofs.lemmas.Bool.{eqb-true}
use Rattle.messages_core.specs.Kinds.{byte_of, kind_at}
use Rattle.messages_core.specs.declared.kinds.Kind.{Kind}
use Rattle.messages_core.specs.declared.kinds.Kind.TheVariants as kinds
use Rattle.messages_core.proofs.Codecs.{some_is}

pub kind_again : (kind : Kind) → kind_at (byte_of kind) ≡ Some kind
kind_again kinds.Bind = refl
kind_again kinds.Close = refl
kind_again kinds.Describe = refl
kind_again kinds.Execute = refl
kind_again kinds.Flush = refl
kind_again kinds.Parse = refl
kind_again kinds.Password = refl
kind_again kinds.Query = refl
kind_again kinds.Sync = refl
kind_again kinds.Terminate = refl

-- a chain of tests gave what one of them gives
tried : (byte : ℕ) (one : Kind) (others : Option Kind) (kind : Kind) → cond (eqb byte (byte_of one)) (Some one) others ≡ Some kind
    → (byte ≡ byte_of kind) ⊎ (others ≡ Some kind)
tried byte one others kind e = chosen (eqb byte (byte_of one)) refl e where
  chosen : (b : Bool) → eqb byte (byte_of one) ≡ b → cond b (Some one) others ≡ Some kind → (byte ≡ byte_of kind) ⊎ (others ≡ Some kind)
  chosen true is f = inl (eqb-true byte (byte_of one) is ∙ ap byte_of (some_is one kind f))
  chosen false is f = inr f

pub kind_takes : (byte : ℕ) (kind : Kind) → kind_at byte ≡ Some kind → byte ≡ byte_of kind
kind_takes byte kind e0 =
    elim (tried byte kinds.Bind _ kind e0) [
      | inl h ↦ h
      | inr e1 ↦
          elim (tried byte kinds.Close _ kind e1) [
            | inl h ↦ h
            | inr e2 ↦
                elim (tried byte kinds.Describe _ kind e2) [
                  | inl h ↦ h
                  | inr e3 ↦
                      elim (tried byte kinds.Execute _ kind e3) [
                        | inl h ↦ h
                        | inr e4 ↦
                            elim (tried byte kinds.Flush _ kind e4) [
                              | inl h ↦ h
                              | inr e5 ↦
                                  elim (tried byte kinds.Parse _ kind e5) [
                                    | inl h ↦ h
                                    | inr e6 ↦
                                        elim (tried byte kinds.Password _ kind e6) [
                                          | inl h ↦ h
                                          | inr e7 ↦
                                              elim (tried byte kinds.Query _ kind e7) [
                                                | inl h ↦ h
                                                | inr e8 ↦
                                                    elim (tried byte kinds.Sync _ kind e8) [
                                                      | inl h ↦ h
                                                      | inr e9 ↦
                                                          elim (tried byte kinds.Terminate None kind e9) [ inl h ↦ h | inr none ↦ absurd cc ]
                                                    ]
                                              ]
                                        ]
                                  ]
                            ]
                      ]
                ]
          ]
    ]

-- no two types have one byte
pub same_kind : (one other : Kind) → byte_of one ≡ byte_of other → one ≡ other
same_kind one other e = some_is one other (sym (kind_again one) ∙ ap kind_at e ∙ kind_again other)
