-- What the body of a client's first message has.
use Rattle.std.proofs.Common.{◌≡◌, ◌≢◌, ℕ, Bool, true, not, List, Some, None, codes, sym, ap, subst, ◌∙◌}
use Rattle.std.specs.Str.{bytes_eq}
use Rattle.std.proofs.lemmas.Bool.{false≢true}
use Rattle.std.proofs.lemmas.Slice.Eq.{bytes_eq-Decides}
use Rattle.messages_core.specs.Sasl.{SaysInitialResponse, IsNoInitialResponse}
use Rattle.messages_core.specs.Bodies.{initial_response_in}
use Rattle.messages_core.specs.declared.sasl.InitialResponse.{InitialResponse}
use Rattle.messages_core.proofs.BodyFields.{initial_response_in_body}
use Rattle.messages_core.proofs.Codecs.{some_is}
use Rattle.base_core.specs.declared.name.Name.{Name}
use Rattle.login_core.specs.Users.{Users}
use Rattle.entry_core.specs.Steps.{scram_response, SaysScram, IsNoScram, OpensLogin, OpensNoLogin, BeginsNoLogin}

-- texts that are the same do not differ
pub same_differs : (a b : List ℕ) (differ : Bool) → a ≡ b → differ ≡ not (bytes_eq a b) → differ ≡ true → ⊥
same_differs a b differ same is so = false≢true (sym (is ∙ ap not ((bytes_eq-Decides a b).1 same)) ∙ so)

-- a body is of one such message
one_response : (body : List ℕ) (i j : InitialResponse) → SaysInitialResponse body i → SaysInitialResponse body j → i ≡ j
one_response body i j p q =
    some_is i j
    (sym (initial_response_in_body.again i p.0)
    ∙ (ap initial_response_in (sym p.1 ∙ q.1) ∙ initial_response_in_body.again j q.0))

-- one that is of none has no message of the mechanism
pub no_body : (body : List ℕ) → IsNoInitialResponse body → IsNoScram body
no_body body none first said = none (scram_response first) said.0 said.1

-- nor has one of another mechanism
pub other_mechanism : (body : List ℕ) (i : InitialResponse) → SaysInitialResponse body i → i.mechanism ≢ codes "SCRAM-SHA-256"
    → IsNoScram body
other_mechanism body i says other first said =
    other (ap (λ (r : InitialResponse). r.mechanism) (one_response body i (scram_response first) says said))

-- nor one without a message
pub no_message : (body : List ℕ) (i : InitialResponse) → SaysInitialResponse body i → i.response ≡ None → IsNoScram body
no_message body i says none first said =
    let given : i.response ≡ Some first = ap (λ (r : InitialResponse). r.response) (one_response body i (scram_response first) says said) in
    absurd cc

-- one of the mechanism with a message has that
pub scram_said : (body : List ℕ) (i : InitialResponse) (first : List ℕ) → SaysInitialResponse body i
    → i.mechanism ≡ codes "SCRAM-SHA-256" → i.response ≡ Some first → SaysScram body first
scram_said body i first says named given =
    let same : i ≡ scram_response first = λ k. record { mechanism = named k; response = given k } in
    subst (SaysInitialResponse body) same says

-- and no other
one_message : (body first other : List ℕ) → SaysScram body first → SaysScram body other → first ≡ other
one_message body first other p q =
    some_is first other
    (ap (λ (r : InitialResponse). r.response) (one_response body (scram_response first) (scram_response other) p q))

-- so a body whose message begins no login begins none
pub begins_none : (users : Users) (secret own : List ℕ) (user : Name) (body first : List ℕ) → SaysScram body first
    → OpensNoLogin users secret own user first → BeginsNoLogin users secret own user body
begins_none users secret own user body first says none begun begins =
    none begun
    (subst (λ m. OpensLogin users secret own user m begun) (sym (one_message body first begins.first says begins.says)) begins.opens)
