-- The message that begins a session, and what is wrong with one.
use Rattle.std.proofs.Common.{◌≡◌, ◌≢◌, ℕ, List, [], ◌++◌, None, Result, Ok, Err, sym, ap, subst, ◌∙◌, arith}
use Rattle.std.specs.Prelude.{IfOk, IfErr}
use Rattle.messages_core.specs.Fields.{int32, IsNumber32}
use Rattle.messages_core.specs.Frames.{HasBody}
use Rattle.messages_core.specs.Start.{start_code, fields_of, start_body, IsStart, AreNoParameters}
use Rattle.messages_core.specs.StartReading.{HasWrongFields, AreWrong, IsWrongStart, IsStartFault}
use Rattle.messages_core.specs.Bodies.{cancel_in}
use Rattle.messages_core.specs.Cutting.{cut_of}
use Rattle.messages_core.specs.declared.frames.Cut.{Cut}
use Rattle.messages_core.specs.declared.start.StartMessage.{StartMessage}
use Rattle.messages_core.specs.declared.start.StartMessage.TheVariants as starts
use Rattle.messages_core.specs.declared.start.StartFault.{StartFault}
use Rattle.messages_core.specs.declared.start.StartFault.TheVariants as faults
use Rattle.messages_core.proofs.Codecs.{IsBytes}
use Rattle.messages_core.proofs.BodyFields.{cancel_in_body, none_read}
use Rattle.messages_core.proofs.Cuts.{IsCut, cut_is}

no_cancel : (code : ℕ) (fields : List ℕ) → code ≡ 80877102 → cancel_in fields ≡ None
    → (start : StartMessage) → IsStart start → code ≡ start_code start → fields ≢ fields_of start
no_cancel code fields known none starts.SslRequest is same said = absurd (omega arith)
no_cancel code fields known none starts.GssEncRequest is same said = absurd (omega arith)
no_cancel code fields known none (starts.CancelRequest process secret) is same said =
    none_read cancel_in _ _ cancel_in_body fields none (process, secret) is said
no_cancel code fields known none (starts.Startup parameters) is same said = absurd (omega arith)

no_startup : (code : ℕ) (fields : List ℕ) → code ≡ 196608 → AreNoParameters fields
    → (start : StartMessage) → IsStart start → code ≡ start_code start → fields ≢ fields_of start
no_startup code fields known none starts.SslRequest is same said = absurd (omega arith)
no_startup code fields known none starts.GssEncRequest is same said = absurd (omega arith)
no_startup code fields known none (starts.CancelRequest process secret) is same said = absurd (omega arith)
no_startup code fields known none (starts.Startup parameters) is same said = none parameters is said

pub wrong_cancel : (code : ℕ) (fields : List ℕ) → code ≡ 80877102 → cancel_in fields ≡ None → HasWrongFields code fields
wrong_cancel code fields known none =
    record { start = starts.CancelRequest (0) (0); code_is = known; none = no_cancel code fields known none }

pub wrong_startup : (code : ℕ) (fields : List ℕ) → code ≡ 196608 → AreNoParameters fields → HasWrongFields code fields
wrong_startup code fields known none =
    record { start = starts.Startup []; code_is = known; none = no_startup code fields known none }

-- the number and the fields of a body, together
pub joined_ok : (result : Result StartMessage StartFault) (body : List ℕ) (code : ℕ) (fields : List ℕ) → body ≡ int32 code ++ fields
    → IfOk result (λ start. IsStart start × (code ≡ start_code start) × (fields ≡ fields_of start))
    → IfOk result (λ start. IsStart start × (body ≡ start_body start))
joined_ok (Ok start) body code fields said h =
    (h.0, said ∙ ap (λ (n : ℕ). int32 n ++ fields) h.1 ∙ ap (λ (tail : List ℕ). int32 (start_code start) ++ tail) h.2)
joined_ok (Err fault) body code fields said h = tt

pub joined_err : (result : Result StartMessage StartFault) (body : List ℕ) (code : ℕ) (fields : List ℕ) → body ≡ int32 code ++ fields
    → IsNumber32 code → IfErr result (AreWrong code fields) → IfErr result (IsWrongStart body)
joined_err (Ok start) body code fields said number h = tt
joined_err (Err fault) body code fields said number h =
    record { code = code; fields = fields; said = said; number = number; wrong = h }

-- what was cut off
pub cut_said : (least most : ℕ) (bytes : List ℕ) (cut : Cut) → IsBytes bytes → cut ≡ cut_of least most bytes → IsCut least most bytes cut
cut_said least most bytes cut fits e = subst (IsCut least most bytes) (sym e) (cut_is least most bytes fits)

-- the whole body is a message's
pub start_whole : (most : ℕ) (bytes body rest : List ℕ) (start : StartMessage) → HasBody 4 most bytes body rest
    → IsStart start × (body ≡ start_body start) → IsStart start × HasBody 4 most bytes (start_body start) rest
start_whole most bytes body rest start whole h = (h.0, subst (λ (b : List ℕ). HasBody 4 most bytes b rest) h.1 whole)

-- or it is wrong
pub start_wrong : (most : ℕ) (bytes body rest : List ℕ) (fault : StartFault) → HasBody 4 most bytes body rest
    → IsWrongStart body fault → IsStartFault most bytes fault
start_wrong most bytes body rest faults.Length whole h = absurd h.wrong
start_wrong most bytes body rest (faults.Code told) whole h = record { body = body; rest = rest; whole = whole; wrong = h }
start_wrong most bytes body rest faults.Body whole h = record { body = body; rest = rest; whole = whole; wrong = h }
