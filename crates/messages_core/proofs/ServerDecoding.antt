-- What a server wrote can be read again, so no two of its messages are spelled alike.
use Rattle.std.proofs.Common.{◌≡◌, ℕ, zero, suc, ◌+◌, ◌%◌, ◌^◌, ◌<◌, Bool, true, ◌&&◌, cond, eqb, List, [], ◌∷◌, ◌++◌, get_or, drop, Option, Some, None, option_map, refl, sym, ap, ◌∙◌, append_assoc, arith}
use Rattle.std.specs.Prelude.{IfSome}
use Rattle.std.specs.List.{flat_map, AllByRecursion}
use Rattle.std.specs.Int.{w32}
use Rattle.std.specs.Fmt.{decimal}
use Rattle.std.specs.Str.Parse.{digits_value}
use Rattle.std.proofs.lemmas.List.Concat.{flat_map-cons}
use Rattle.std.proofs.lemmas.List.Folds.{list_all-append}
use Rattle.std.proofs.lemmas.Fmt.{decimal_by_steps, decimal_is_IsNumeral}
use Rattle.messages_core.specs.Fields.{string, is_text_byte, HasNoZero}
use Rattle.messages_core.specs.Reading.{◌>>=◌, number_at, text_at, both_at, whole}
use Rattle.messages_core.specs.Bodies.{query_in, cancel_in}
use Rattle.messages_core.specs.Server.{severity_text, notice_field, position_fields, texts_body, notice_body, server_byte, server_body, server_spelling, framed, IsNotice, IsServerMessage, IsWholeServerMessage}
use Rattle.messages_core.specs.declared.server.Status.TheVariants as statuses
use Rattle.messages_core.specs.declared.server.Severity.{Severity}
use Rattle.messages_core.specs.declared.server.Severity.TheVariants as severities
use Rattle.messages_core.specs.declared.server.Notice.{Notice}
use Rattle.messages_core.specs.declared.server.ServerMessage.{ServerMessage}
use Rattle.messages_core.specs.declared.server.ServerMessage.TheVariants as servers
use Rattle.messages_core.proofs.Codecs.{some_is, both_field, whole_body}
use Rattle.messages_core.proofs.TextFields.{number32, text_field}
use Rattle.messages_core.proofs.BodyFields.{query_in_body, cancel_in_body}
use Rattle.messages_core.proofs.Streams.{first_frame}

-- ---- errors and notices

severity_at : List ℕ → Severity
severity_at text = cond (eqb (get_or text 0 0) 69) severities.Error (cond (eqb (get_or text 0 0) 70) severities.Fatal severities.Notice)

severity_again : (s : Severity) → severity_at (severity_text s) ≡ s
unfolding severity_at
severity_again severities.Error = refl
severity_again severities.Fatal = refl
severity_again severities.Notice = refl

severity_text_is : (s : Severity) → HasNoZero (severity_text s)
severity_text_is severities.Error = refl
severity_text_is severities.Fatal = refl
severity_text_is severities.Notice = refl

digit_is : (n : ℕ) → is_text_byte (48 + n) ≡ true
digit_is n = let above : 48 + n ≡ suc (47 + n) = omega arith in ap is_text_byte above

decimal_text : (n : ℕ) → n < 2 ^ 64 → HasNoZero (decimal n)
decimal_text n h =
    decimal_by_steps (λ n ds. HasNoZero ds) (λ n low. ap (λ (b : Bool). b && true) (digit_is n))
    (λ n ds high digits. list_all-append is_text_byte ds ((48 + n % 10) ∷ [])
    ∙ ap (λ (b : Bool). b && (is_text_byte (48 + n % 10) && true)) digits ∙ ap (λ (b : Bool). b && true) (digit_is (n % 10))) n h

-- what stands behind the message: a position or the end
position_at : List ℕ → Option ℕ
position_at [] = None
position_at (zero ∷ rest) = None
position_at (suc byte ∷ rest) = text_at rest >>= λ x. Some (digits_value 10 x.0)

position_again : (position : Option ℕ) → IfSome position (λ p. p < 2 ^ 32)
    → position_at (flat_map notice_field (position_fields (option_map decimal position)) ++ 0 ∷ []) ≡ position
unfolding position_at
position_again None h = refl
position_again (Some p) h =
    let small : p < 2 ^ 64 = omega arith in
    ap position_at (append_assoc (80 ∷ string (decimal p)) [] (0 ∷ []))
    ∙ ap (λ (read : Option (List ℕ × List ℕ)). read >>= λ x. Some (digits_value 10 x.0)) (text_field.again (decimal p) (0 ∷ []) (decimal_text p small))
    ∙ ap (λ (n : ℕ). Some n) (decimal_is_IsNumeral p small).1

notice_in : List ℕ → Option Notice
notice_in body =
    text_at (drop 1 body) >>= λ s. text_at (drop 1 s.1) >>= λ v. text_at (drop 1 v.1) >>= λ c. text_at (drop 1 c.1) >>= λ m.
    Some (record { severity = severity_at s.0; code = c.0; message = m.0; position = position_at m.1 })

-- the fields, each behind the one before
regrouped : (severity code message behind : List ℕ) → List ℕ
regrouped severity code message behind =
    83 ∷ (string severity ++ (86 ∷ (string severity ++ (67 ∷ (string code ++ (77 ∷ (string message ++ behind)))))))

notice_regrouped : (severity code message : List ℕ) (position : Option (List ℕ))
    → texts_body severity code message position
    ≡ regrouped severity code message (flat_map notice_field (position_fields position) ++ 0 ∷ [])
unfolding regrouped
notice_regrouped severity code message position = simp append_assoc

notice_again : (n : Notice) → IsNotice n → notice_in (notice_body n) ≡ Some n
unfolding notice_in regrouped
notice_again n is =
    let behind = flat_map notice_field (position_fields (option_map decimal n.position)) ++ 0 ∷ [] in
    let severity = severity_text n.severity in
    ap notice_in (notice_regrouped severity n.code n.message (option_map decimal n.position))
    ∙ rw (
      text_field.again severity (86 ∷ (string severity ++ (67 ∷ (string n.code ++ (77 ∷ (string n.message ++ behind)))))) (severity_text_is n.severity),
      text_field.again severity (67 ∷ (string n.code ++ (77 ∷ (string n.message ++ behind)))) (severity_text_is n.severity),
      text_field.again n.code (77 ∷ (string n.message ++ behind)) is.code,
      text_field.again n.message behind is.message,
    )
    (ap (λ (s : Severity). made s (position_at behind)) (severity_again n.severity)
    ∙ ap (λ (p : Option ℕ). made n.severity p) (position_again n.position is.position))
  where
    made : Severity → Option ℕ → Option Notice
    made s p = Some (record { severity = s; code = n.code; message = n.message; position = p })

-- ---- messages

login_of : Option (ℕ × List ℕ) → Option ServerMessage
login_of read = read >>= λ n.
    cond (eqb n.0 0) (Some servers.AuthenticationOk)
    (cond (eqb n.0 10) (Some servers.AuthenticationSasl)
    (cond (eqb n.0 11) (Some (servers.AuthenticationSaslContinue n.1)) (Some (servers.AuthenticationSaslFinal n.1))))

status_in : List ℕ → Option ServerMessage
status_in body = Some (servers.ReadyForQuery
    (cond (eqb (get_or body 0 0) 73) statuses.Idle (cond (eqb (get_or body 0 0) 84) statuses.InTransaction statuses.InFailedTransaction)))

two_texts_in : List ℕ → Option (List ℕ × List ℕ)
two_texts_in body = whole (both_at text_at text_at body)

two_texts_again : (x : List ℕ × List ℕ) → HasNoZero x.0 × HasNoZero x.1 → two_texts_in (string x.0 ++ string x.1) ≡ Some x
unfolding two_texts_in
two_texts_again x h = (whole_body (both_at text_at text_at) (λ y. string y.0 ++ string y.1) (λ y. HasNoZero y.0 × HasNoZero y.1)
    (both_field text_at string HasNoZero text_at string HasNoZero text_field text_field)).again x h

server_in : ℕ → List ℕ → Option ServerMessage
server_in byte body =
    cond (eqb byte 82) (login_of (number_at w32 body))
    (cond (eqb byte 75) (option_map (λ x. servers.BackendKeyData x.0 x.1) (cancel_in body))
    (cond (eqb byte 50) (Some servers.BindComplete)
    (cond (eqb byte 51) (Some servers.CloseComplete)
    (cond (eqb byte 67) (option_map (λ t. servers.CommandComplete t) (query_in body))
    (cond (eqb byte 73) (Some servers.EmptyQueryResponse)
    (cond (eqb byte 69) (option_map (λ n. servers.ErrorResponse n) (notice_in body))
    (cond (eqb byte 110) (Some servers.NoData)
    (cond (eqb byte 78) (option_map (λ n. servers.NoticeResponse n) (notice_in body))
    (cond (eqb byte 83) (option_map (λ x. servers.ParameterStatus x.0 x.1) (two_texts_in body))
    (cond (eqb byte 49) (Some servers.ParseComplete)
    (cond (eqb byte 115) (Some servers.PortalSuspended) (status_in body))))))))))))

server_again : (message : ServerMessage) → IsServerMessage message → server_in (server_byte message) (server_body message) ≡ Some message
unfolding server_in login_of status_in
server_again servers.AuthenticationOk is = refl
server_again servers.AuthenticationSasl is = refl
server_again (servers.AuthenticationSaslContinue text) is = ap login_of (number32.again 11 text (omega arith))
server_again (servers.AuthenticationSaslFinal text) is = ap login_of (number32.again 12 text (omega arith))
server_again (servers.BackendKeyData process secret) is = ap (option_map (λ x. servers.BackendKeyData x.0 x.1)) (cancel_in_body.again (process, secret) is)
server_again servers.BindComplete is = refl
server_again servers.CloseComplete is = refl
server_again (servers.CommandComplete tag) is = ap (option_map (λ t. servers.CommandComplete t)) (query_in_body.again tag is)
server_again servers.EmptyQueryResponse is = refl
server_again (servers.ErrorResponse notice) is = ap (option_map (λ n. servers.ErrorResponse n)) (notice_again notice is)
server_again servers.NoData is = refl
server_again (servers.NoticeResponse notice) is = ap (option_map (λ n. servers.NoticeResponse n)) (notice_again notice is)
server_again (servers.ParameterStatus name value) is = ap (option_map (λ x. servers.ParameterStatus x.0 x.1)) (two_texts_again (name, value) is)
server_again servers.ParseComplete is = refl
server_again servers.PortalSuspended is = refl
server_again (servers.ReadyForQuery statuses.Idle) is = refl
server_again (servers.ReadyForQuery statuses.InTransaction) is = refl
server_again (servers.ReadyForQuery statuses.InFailedTransaction) is = refl

abbrev frame_of : ServerMessage → ℕ × List ℕ
frame_of message = (server_byte message, server_body message)

same_server : (one other : ServerMessage) → IsServerMessage one → IsServerMessage other → frame_of one ≡ frame_of other → one ≡ other
same_server one other h k e =
    some_is one other (sym (server_again one h) ∙ ap (λ (f : ℕ × List ℕ). server_in f.0 f.1) e ∙ server_again other k)

-- no two lists of messages are spelled alike
pub one_list_of_server_messages : (ones others : List ServerMessage) → AllByRecursion IsWholeServerMessage ones
    → AllByRecursion IsWholeServerMessage others → flat_map server_spelling ones ≡ flat_map server_spelling others → ones ≡ others
one_list_of_server_messages [] [] h k e = refl
one_list_of_server_messages [] (other ∷ others) h k e =
    let f : [] ≡ server_spelling other ++ flat_map server_spelling others = e ∙ flat_map-cons server_spelling other others in
    absurd cc
one_list_of_server_messages (one ∷ ones) [] h k e =
    let f : server_spelling one ++ flat_map server_spelling ones ≡ [] = sym (flat_map-cons server_spelling one ones) ∙ e in
    absurd cc
one_list_of_server_messages (one ∷ ones) (other ∷ others) h k e =
    let f : framed (frame_of one) ++ flat_map server_spelling ones ≡ framed (frame_of other) ++ flat_map server_spelling others =
    sym (flat_map-cons server_spelling one ones) ∙ e ∙ flat_map-cons server_spelling other others in
    let same = first_frame (frame_of one) (frame_of other) (flat_map server_spelling ones) (flat_map server_spelling others) h.0.1 k.0.1 f in
    ap (λ (m : ServerMessage). m ∷ ones) (same_server one other h.0.0 k.0.0 same.0)
    ∙ ap (λ (ms : List ServerMessage). other ∷ ms) (one_list_of_server_messages ones others h.1 k.1 same.1)
