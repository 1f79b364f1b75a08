-- Which lines begin no login.
use Rattle.std.proofs.Common.{◌≡◌, ◌++◌, ◌∷◌, ℕ, List, Some, codes, refl, sym, ap, subst, ◌∙◌}
use Rattle.std.proofs.lemmas.List.{append_cancel_left}
use Rattle.base_core.specs.Words.{name_of}
use Rattle.base_core.specs.declared.name.Name.{Name}
use Rattle.login_core.specs.Decoding.{Splits}
use Rattle.login_core.specs.ClientFirst.{SaysFirst}
use Rattle.login_core.specs.Login.{IsNoOpening}
use Rattle.login_core.proofs.Naming.{free-name}
use Rattle.login_core.proofs.Spelling.{cut_is}

-- one whose word names nobody, or whose message is no first one
pub no-opening : (line named word message : List ℕ) → line ≡ codes "LOGIN " ++ named → Splits 32 named word message
    → ((user : Name) (channel_binding bare nonce : List ℕ) → name_of word ≡ Some user → SaysFirst message channel_binding bare nonce → ⊥)
    → IsNoOpening line
no-opening line named word message front at never user channel_binding bare nonce o =
    let rest : named ≡ o.word ++ 32 ∷ o.first = append_cancel_left (codes "LOGIN ") named (o.word ++ 32 ∷ o.first) (sym front ∙ o.said) in
    let same = cut_is 32 named word message o.word o.first at rest (free-name 32 o.word user refl o.named) in
    never user channel_binding bare nonce (ap name_of same.0 ∙ o.named) (subst (λ m. SaysFirst m channel_binding bare nonce) (sym same.1) o.says)
