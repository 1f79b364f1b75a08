-- What the client's first message says.
use Rattle.std.proofs.Common.{inl, inr, ◌≡◌, ◌≢◌, ◌++◌, ◌<◌, ℕ, List, ◌∷◌, length, codes, true, sym, ◌∙◌, ap, subst, arith, slice_index}
use Rattle.std.proofs.lemmas.List.{append_assoc, append_cancel_left}
use Rattle.std.specs.List.{list_all}
use Rattle.login_core.specs.Decoding.{LacksByte, Splits}
use Rattle.login_core.specs.ClientFirst.{is_nonce_byte, SaysBare, IsNoBare, IsHeader, IsNoFirst}
use Rattle.login_core.proofs.Spelling.{cut_is, cut_somewhere}

-- ---- client-first-message-bare

-- a name, a comma, and what stands behind it
named_is : (bare named nonce : List ℕ) → bare ≡ codes "n=" ++ named → (s : SaysBare bare nonce)
    → named ≡ s.name ++ 44 ∷ (codes "r=" ++ nonce)
named_is bare named nonce begins s =
    append_cancel_left (codes "n=") named ((s.name ++ codes ",r=") ++ nonce) (sym begins ∙ s.said)
    ∙ append_assoc s.name (codes ",r=") nonce

pub no_prefix : (bare : List ℕ) → ((rest : List ℕ) → bare ≢ codes "n=" ++ rest) → IsNoBare bare
no_prefix bare none = λ nonce s. none ((s.name ++ codes ",r=") ++ nonce) s.said

pub no_comma : (bare named : List ℕ) → bare ≡ codes "n=" ++ named → LacksByte 44 named → IsNoBare bare
no_comma bare named begins free = λ nonce s.
    cut_somewhere 44 named s.name (codes "r=" ++ nonce) free (named_is bare named nonce begins s)

behind_is : (bare named name behind nonce : List ℕ) → bare ≡ codes "n=" ++ named
    → Splits 44 named name behind → SaysBare bare nonce → behind ≡ codes "r=" ++ nonce
behind_is bare named name behind nonce begins at s =
    (cut_is 44 named name behind s.name (codes "r=" ++ nonce) at (named_is bare named nonce begins s) s.name_bytes).1

pub no_nonce : (bare named name behind : List ℕ) → bare ≡ codes "n=" ++ named → Splits 44 named name behind
    → ((rest : List ℕ) → behind ≢ codes "r=" ++ rest) → IsNoBare bare
no_nonce bare named name behind begins at none = λ nonce s.
    none nonce (behind_is bare named name behind nonce begins at s)

-- the nonce that is read is the one that is said
pub nonce_is : (bare named name behind nonce said : List ℕ) → bare ≡ codes "n=" ++ named
    → Splits 44 named name behind → behind ≡ codes "r=" ++ nonce → SaysBare bare said → nonce ≡ said
nonce_is bare named name behind nonce said begins at goes_on s =
    append_cancel_left (codes "r=") nonce said
    (sym goes_on ∙ behind_is bare named name behind said begins at s)

pub says : (bare named name behind nonce : List ℕ) → bare ≡ codes "n=" ++ named → Splits 44 named name behind
    → behind ≡ codes "r=" ++ nonce → list_all is_nonce_byte nonce ≡ true → 0 < length nonce → SaysBare bare nonce
says bare named name behind nonce begins at goes_on good long =
    record {
      name = name;
      said = begins ∙ ap (λ m. codes "n=" ++ m) (at.said ∙ ap (λ b. name ++ 44 ∷ b) goes_on ∙ sym (append_assoc name (codes ",r=") nonce));
      name_bytes = at.free;
      nonce_bytes = good;
      some = long;
    }

-- ---- the header

no_n_is_y : (bare rest : List ℕ) → codes "n,," ++ bare ≡ codes "y,," ++ rest → ⊥
no_n_is_y bare rest e =
    let heads : 110 ≡ 121 = ap (λ t. slice_index t 0) e
    in omega (heads, arith)

-- a message has one header, and one rest
pub one_header : (message bare rest header other binding other_binding : List ℕ)
    → IsHeader header binding → message ≡ header ++ bare
    → IsHeader other other_binding → message ≡ other ++ rest → (binding ≡ other_binding) × (bare ≡ rest)
one_header message bare rest header other binding other_binding (inl h) e (inl k) d = (
  h.1 ∙ sym k.1,
  append_cancel_left (codes "n,,") bare rest
      (ap (λ t. t ++ bare) (sym h.0) ∙ (sym e ∙ (d ∙ ap (λ t. t ++ rest) k.0))),
)
one_header message bare rest header other binding other_binding (inr h) e (inr k) d = (
  h.1 ∙ sym k.1,
  append_cancel_left (codes "y,,") bare rest
      (ap (λ t. t ++ bare) (sym h.0) ∙ (sym e ∙ (d ∙ ap (λ t. t ++ rest) k.0))),
)
one_header message bare rest header other binding other_binding (inl h) e (inr k) d =
    absurd (no_n_is_y bare rest (ap (λ t. t ++ bare) (sym h.0) ∙ (sym e ∙ (d ∙ ap (λ t. t ++ rest) k.0))))
one_header message bare rest header other binding other_binding (inr h) e (inl k) d =
    absurd (no_n_is_y rest bare (ap (λ t. t ++ rest) (sym k.0) ∙ (sym d ∙ (e ∙ ap (λ t. t ++ bare) h.0))))

pub no_header : (message : List ℕ) → ((rest : List ℕ) → message ≢ codes "n,," ++ rest)
    → ((rest : List ℕ) → message ≢ codes "y,," ++ rest) → (header binding bare : List ℕ)
    → IsHeader header binding → message ≢ header ++ bare
no_header message no_n no_y header binding bare (inl h) e = no_n bare (e ∙ ap (λ t. t ++ bare) h.0)
no_header message no_n no_y header binding bare (inr h) e = no_y bare (e ∙ ap (λ t. t ++ bare) h.0)

-- ---- client-first-message

pub no_first : (message header binding bare : List ℕ) → IsHeader header binding → message ≡ header ++ bare
    → IsNoBare bare → IsNoFirst message
no_first message header binding bare h e never = λ other_binding rest nonce s.
    never nonce (subst (λ b. SaysBare b nonce)
    (sym (one_header message bare rest header s.header binding other_binding h e s.header_is s.said).1) s.nonce_is)
