-- What the client's last message says.
use Rattle.std.proofs.Common.{◌≡◌, ◌≢◌, ◌++◌, ℕ, List, length, codes, Option, Some, None, MatchOption, Bor, sym, ◌∙◌, ap, subst}
use Rattle.std.proofs.lemmas.List.{append_assoc, append_cancel_left}
use Rattle.base64.specs.Engines.{standard}
use Rattle.base64.specs.GeneralPurpose.{encode_of, IsBytes}
use Rattle.sha2.proofs.Facts256.{length-sha256}
use Rattle.login_core.specs.Hmac.{hmac}
use Rattle.login_core.specs.Scram.{Proves}
use Rattle.login_core.specs.ClientFinal.{ProvesToBe}
use Rattle.login_core.proofs.ExclusiveOr.{length-exclusive_or}

pub no_front : (front message : List ℕ) → ((rest : List ℕ) → message ≢ front ++ rest)
    → (text : List ℕ) → message ≢ front ++ codes ",p=" ++ text
no_front front message none text e = none (codes ",p=" ++ text) (e ∙ append_assoc front (codes ",p=") text)

-- what stands behind it, if the proof does
pub behind_front : (front message behind : List ℕ) (r : Option (Bor (List ℕ))) → message ≡ front ++ behind
    → MatchOption r ((rest : List ℕ) → behind ≢ codes ",p=" ++ rest) (λ t. behind ≡ codes ",p=" ++ t.now)
    → MatchOption r ((text : List ℕ) → message ≢ front ++ codes ",p=" ++ text) (λ t. message ≡ front ++ codes ",p=" ++ t.now)
behind_front front message behind None begins none = λ text e.
    none text (append_cancel_left front behind (codes ",p=" ++ text)
    (sym begins ∙ (e ∙ append_assoc front (codes ",p=") text)))
behind_front front message behind (Some t) begins goes_on =
    begins ∙ (ap (λ b. front ++ b) goes_on ∙ sym (append_assoc front (codes ",p=") t.now))

pub came : (stored front said message text proof : List ℕ) → message ≡ front ++ codes ",p=" ++ text
    → IsBytes proof → text ≡ encode_of standard proof → Proves stored said proof
    → ProvesToBe stored front said message
came stored front said message text proof begins bytes encoded proved =
    (proof, bytes, begins ∙ ap (λ t. front ++ codes ",p=" ++ t) encoded, proved)

pub text_is : (stored front said message text : List ℕ) → message ≡ front ++ codes ",p=" ++ text
    → (p : ProvesToBe stored front said message) → text ≡ encode_of standard p.0
text_is stored front said message text begins p =
    append_cancel_left (front ++ codes ",p=") text (encode_of standard p.0) (sym begins ∙ p.2)

pub proof_long : (stored front said message : List ℕ) → (p : ProvesToBe stored front said message)
    → length p.0 ≡ 32
proof_long stored front said message p =
    ap length p.3.2
    ∙ length-exclusive_or p.3.0 (hmac stored said) (p.3.1.0 ∙ sym (length-sha256 _)) ∙ p.3.1.0

pub shown_by : (stored front said message proof : List ℕ) → (p : ProvesToBe stored front said message)
    → p.0 ≡ proof → Proves stored said proof
shown_by stored front said message proof p same = subst (λ q. Proves stored said q) same p.3
