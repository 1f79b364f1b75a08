-- Texts of fields without control characters.
use Rattle.std.proofs.Common.{◌≤◌, ℕ, List, [], ◌∷◌, ◌++◌}
use Rattle.std.proofs.lemmas.List.Elements.{All-append, All-nil}
use Rattle.base_core.specs.Words.{IsName}
use Rattle.reply_core.specs.Texts.{joined}
use Rattle.export_core.specs.Record.{IsPlain}
use Rattle.export_core.proofs.PlainNames.{IsPlain-name}

-- a name between two parts
pub IsPlain-around : (before name behind : List ℕ) → IsPlain before → IsName name → IsPlain behind → IsPlain (joined (before ∷ name ∷ behind ∷ []))
IsPlain-around before name behind first is last =
    All-append (λ b. 32 ≤ b) before (name ++ (behind ++ [])) first
    (All-append (λ b. 32 ≤ b) name (behind ++ []) (IsPlain-name name is)
    (All-append (λ b. 32 ≤ b) behind [] last (All-nil (λ b. 32 ≤ b))))
