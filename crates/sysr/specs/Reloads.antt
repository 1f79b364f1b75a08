-- What a server answers that read its file of users anew.
use Rattle.std.specs.Prelude.{◌≡◌, ℕ, List, ◌++◌, codes}

-- it has taken the file
abbrev pub IsTaken : List ℕ → Type 0
IsTaken answer = (rest : List ℕ) × (answer ≡ codes "reloaded " ++ rest)
