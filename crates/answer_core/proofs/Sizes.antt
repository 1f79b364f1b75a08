-- The lengths of errors, which can all be told.
use Rattle.std.proofs.Common.{◌≡◌, ℕ, ◌+◌, ◌^◌, ◌<◌, ◌≤◌, List, length, Some, arith}
use Rattle.std.specs.Fmt.{decimal}
use Rattle.std.proofs.lemmas.Fmt.{length-decimal-le}
use Rattle.std.proofs.lemmas.List.{length-append}
use Rattle.messages_core.specs.Server.{severity_text, texts_body}
use Rattle.messages_core.specs.declared.server.Severity.{Severity}
use Rattle.messages_core.specs.declared.server.Severity.TheVariants as severities

pub severity_short : (s : Severity) → length (severity_text s) ≤ 6
severity_short severities.Error = omega arith
severity_short severities.Fatal = omega arith
severity_short severities.Notice = omega arith

-- what an error tells that is about a place
pub texts_short_at : (s c m p : List ℕ) → length s ≤ 6 → length c ≡ 5 → length m < 2 ^ 30 → length p ≤ 10 → length (texts_body s c m (Some p)) + 6 < 2 ^ 31
texts_short_at s c m p hs hc hm hp = simp length-append (omega arith)

-- the digits of a place
pub place_short : (place : ℕ) → place < 2 ^ 32 → length (decimal place) ≤ 10
place_short place h = length-decimal-le 10 place (omega arith) (omega arith) (omega arith)
