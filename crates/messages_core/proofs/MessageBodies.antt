-- Messages: what is read of a body is what was spelled, and what was spelled is read.
use Rattle.std.proofs.Common.{◌≡◌, ℕ, eqb, List, [], length, Option, Some, None, option_map, refl, ap, subst}
use Rattle.std.proofs.lemmas.Bool.{eqb-true}
use Rattle.std.proofs.lemmas.List.{nil_from_length}
use Rattle.messages_core.specs.Client.{message_kind, body_of, IsMessage}
use Rattle.messages_core.specs.Bodies.{bind_in, parse_in, named_in, execute_in, query_in, if_empty, message_in}
use Rattle.messages_core.specs.declared.kinds.Kind.{Kind}
use Rattle.messages_core.specs.declared.kinds.Kind.TheVariants as kinds
use Rattle.messages_core.specs.declared.client.ClientMessage.{ClientMessage}
use Rattle.messages_core.specs.declared.client.ClientMessage.TheVariants as clients
use Rattle.messages_core.proofs.Codecs.{IsBytes, guard_met, some_is}
use Rattle.messages_core.proofs.BodyFields.{bind_in_body, parse_in_body, named_in_body, execute_in_body, query_in_body}

-- a message of this type with this body
pub record Says (kind : Kind) (body : List ℕ) (message : ClientMessage) : Type 0 where
  pub kind_is : message_kind message ≡ kind
  pub body_is : body ≡ body_of message
  pub is : IsMessage message

mapped : {A : Type 0} (make : A → ClientMessage) (read : Option A) (message : ClientMessage) → option_map make read ≡ Some message
    → (x : A) × (read ≡ Some x) × (make x ≡ message)
mapped make (Some x) message e = (x, refl, some_is (make x) message e)
mapped make None message e = absurd cc

empty_says : (message : ClientMessage) (body : List ℕ) (found : ClientMessage) → if_empty message body ≡ Some found
    → (body ≡ []) × (message ≡ found)
empty_says message body found e =
    let g = guard_met (eqb (length body) 0) message found e in
    (nil_from_length body (eqb-true (length body) 0 g.0), g.1)

pub message_takes : (kind : Kind) (body : List ℕ) (message : ClientMessage) → IsBytes body → message_in kind body ≡ Some message
    → Says kind body message
message_takes kinds.Bind body message fits e =
    let a = mapped (λ b. clients.Bind b) (bind_in body) message e in
    let t = bind_in_body.takes body a.0 fits a.1 in
    subst (Says kinds.Bind body) a.2 (record { kind_is = refl; body_is = t.0; is = t.1 })
message_takes kinds.Close body message fits e =
    let a = mapped (λ x. clients.Close x.0 x.1) (named_in body) message e in
    let t = named_in_body.takes body a.0 fits a.1 in
    subst (Says kinds.Close body) a.2 (record { kind_is = refl; body_is = t.0; is = t.1.1 })
message_takes kinds.Describe body message fits e =
    let a = mapped (λ x. clients.Describe x.0 x.1) (named_in body) message e in
    let t = named_in_body.takes body a.0 fits a.1 in
    subst (Says kinds.Describe body) a.2 (record { kind_is = refl; body_is = t.0; is = t.1.1 })
message_takes kinds.Execute body message fits e =
    let a = mapped (λ x. clients.Execute x.0 x.1) (execute_in body) message e in
    let t = execute_in_body.takes body a.0 fits a.1 in
    subst (Says kinds.Execute body) a.2 (record { kind_is = refl; body_is = t.0; is = t.1 })
message_takes kinds.Flush body message fits e =
    let t = empty_says clients.Flush body message e in
    subst (Says kinds.Flush body) t.1 (record { kind_is = refl; body_is = t.0; is = tt })
message_takes kinds.Parse body message fits e =
    let a = mapped (λ p. clients.Parse p) (parse_in body) message e in
    let t = parse_in_body.takes body a.0 fits a.1 in
    subst (Says kinds.Parse body) a.2 (record { kind_is = refl; body_is = t.0; is = t.1 })
message_takes kinds.Password body message fits e =
    subst (Says kinds.Password body) (some_is (clients.Password body) message e) (record { kind_is = refl; body_is = refl; is = tt })
message_takes kinds.Query body message fits e =
    let a = mapped (λ t. clients.Query t) (query_in body) message e in
    let t = query_in_body.takes body a.0 fits a.1 in
    subst (Says kinds.Query body) a.2 (record { kind_is = refl; body_is = t.0; is = t.1 })
message_takes kinds.Sync body message fits e =
    let t = empty_says clients.Sync body message e in
    subst (Says kinds.Sync body) t.1 (record { kind_is = refl; body_is = t.0; is = tt })
message_takes kinds.Terminate body message fits e =
    let t = empty_says clients.Terminate body message e in
    subst (Says kinds.Terminate body) t.1 (record { kind_is = refl; body_is = t.0; is = tt })

pub message_again : (message : ClientMessage) → IsMessage message → message_in (message_kind message) (body_of message) ≡ Some message
message_again (clients.Bind b) is = ap (option_map (λ b. clients.Bind b)) (bind_in_body.again b is)
message_again (clients.Close target name) is = ap (option_map (λ x. clients.Close x.0 x.1)) (named_in_body.again (target, name) (tt, is))
message_again (clients.Describe target name) is = ap (option_map (λ x. clients.Describe x.0 x.1)) (named_in_body.again (target, name) (tt, is))
message_again (clients.Execute portal most) is = ap (option_map (λ x. clients.Execute x.0 x.1)) (execute_in_body.again (portal, most) is)
message_again clients.Flush is = refl
message_again (clients.Parse p) is = ap (option_map (λ p. clients.Parse p)) (parse_in_body.again p is)
message_again (clients.Password text) is = refl
message_again (clients.Query text) is = ap (option_map (λ t. clients.Query t)) (query_in_body.again text is)
message_again clients.Sync is = refl
message_again clients.Terminate is = refl
