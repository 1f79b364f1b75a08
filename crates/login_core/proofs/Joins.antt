-- What pieces make together.
use Rattle.std.proofs.Common.{◌≡◌, ◌++◌, ℕ, List, [], codes, sym, ap, ◌∙◌, append-nil, Ok, Err}
use Rattle.std.specs.Prelude.{Result, IfOk}
use Rattle.std.proofs.lemmas.List.{append_assoc}
use Rattle.login_core.specs.Scram.{auth_message}
use Rattle.login_core.specs.ClientFinal.{without_proof}

pub joined_message : (bare server_first without_proof : List ℕ)
    → bare ++ (codes "," ++ (server_first ++ (codes "," ++ (without_proof ++ []))))
    ≡ auth_message bare server_first without_proof
joined_message bare server_first without_proof =
    ap (λ t. bare ++ (codes "," ++ (server_first ++ (codes "," ++ t)))) (append-nil without_proof)
    ∙ sym (append_assoc ((bare ++ codes ",") ++ server_first) (codes ",") without_proof
    ∙ (append_assoc (bare ++ codes ",") server_first (codes "," ++ without_proof)
    ∙ append_assoc bare (codes ",") (server_first ++ (codes "," ++ without_proof))))

pub if_ok : {V E : Type 0} {P Q : V → Type 0} (r : Result V E) → IfOk r P → ((v : V) → P v → Q v) → IfOk r Q
if_ok (Ok v) p f = f v p
if_ok (Err e) p f = tt

pub joined_front : (head channel_binding nonce : List ℕ) → head ≡ codes "c="
    → head ++ (channel_binding ++ (codes ",r=" ++ (nonce ++ []))) ≡ without_proof channel_binding nonce
joined_front head channel_binding nonce h =
    ap (λ t. t ++ (channel_binding ++ (codes ",r=" ++ (nonce ++ [])))) h
    ∙ (ap (λ t. codes "c=" ++ (channel_binding ++ (codes ",r=" ++ t))) (append-nil nonce)
    ∙ sym (append_assoc (codes "c=" ++ channel_binding) (codes ",r=") nonce))

-- where the pieces stand for these bytes
pub joined_challenge : (head nonce salt encoded count digits : List ℕ)
    → head ≡ codes "r=" → salt ≡ encoded → count ≡ digits
    → head ++ (nonce ++ (codes ",s=" ++ (salt ++ (codes ",i=" ++ (count ++ [])))))
    ≡ codes "r=" ++ nonce ++ codes ",s=" ++ encoded ++ codes ",i=" ++ digits
joined_challenge head nonce salt encoded count digits h s k =
    ap (λ t. t ++ (nonce ++ (codes ",s=" ++ (salt ++ (codes ",i=" ++ (count ++ [])))))) h
    ∙ (ap (λ t. codes "r=" ++ (nonce ++ (codes ",s=" ++ (t ++ (codes ",i=" ++ (count ++ [])))))) s
    ∙ (ap (λ t. codes "r=" ++ (nonce ++ (codes ",s=" ++ (encoded ++ (codes ",i=" ++ t))))) (append-nil count ∙ k)
    ∙ sym (append_assoc (codes "r=" ++ nonce ++ codes ",s=" ++ encoded) (codes ",i=") digits
    ∙ (append_assoc (codes "r=" ++ nonce ++ codes ",s=") encoded (codes ",i=" ++ digits)
    ∙ append_assoc (codes "r=" ++ nonce) (codes ",s=") (encoded ++ (codes ",i=" ++ digits))))))

pub joined_verifier : (head count digits salt encoded stored first server second : List ℕ)
    → head ≡ codes "SCRAM-SHA-256$" → count ≡ digits → salt ≡ encoded → stored ≡ first → server ≡ second
    → head ++ (count ++ (codes ":" ++ (salt ++ (codes "$" ++ (stored ++ (codes ":" ++ (server ++ [])))))))
    ≡ codes "SCRAM-SHA-256$" ++ (digits ++ (codes ":" ++ (encoded ++ (codes "$" ++ (first ++ (codes ":" ++ second))))))
joined_verifier head count digits salt encoded stored first server second h k e f s =
    ap (λ t. t ++ (count ++ (codes ":" ++ (salt ++ (codes "$" ++ (stored ++ (codes ":" ++ (server ++ [])))))))) h
    ∙ (ap (λ t. codes "SCRAM-SHA-256$" ++ (t ++ (codes ":" ++ (salt ++ (codes "$" ++ (stored ++ (codes ":" ++ (server ++ [])))))))) k
    ∙ (ap (λ t. codes "SCRAM-SHA-256$" ++ (digits ++ (codes ":" ++ (t ++ (codes "$" ++ (stored ++ (codes ":" ++ (server ++ [])))))))) e
    ∙ (ap (λ t. codes "SCRAM-SHA-256$" ++ (digits ++ (codes ":" ++ (encoded ++ (codes "$" ++ (t ++ (codes ":" ++ (server ++ [])))))))) f
    ∙ ap (λ t. codes "SCRAM-SHA-256$" ++ (digits ++ (codes ":" ++ (encoded ++ (codes "$" ++ (first ++ (codes ":" ++ t))))))) (append-nil server ∙ s))))
