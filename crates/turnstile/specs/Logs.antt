-- Logs of entries, and what one turn may do to an object.
use Rattle.std.specs.Prelude.{◌≡◌, ℕ, ◌≤◌, ◌==◌, ◌⊎◌, List, [], ◌∷◌, ◌++◌, length, drop, filter}

-- the log begins with what was seen
abbrev pub StartsWith : {E : Type 0} → List E → List E → Type 0
StartsWith {E} log seen = (rest : List E) × (log ≡ seen ++ rest)

-- the entries that bear the number p
abbrev pub own : {E : Type 0} → (E → ℕ) → ℕ → List E → List E
own by p log = filter (λ e. by e == p) log

-- what a log has more than it had
abbrev pub gained : {E : Type 0} → List E → List E → List E
gained before after = drop (length before) after

-- the log is as before, or has one entry more, which bears the number p
abbrev pub AddsOneAtMost : {E : Type 0} → (E → ℕ) → ℕ → List E → List E → Type 0
AddsOneAtMost {E} by p before after =
    (after ≡ before) ⊎ ((e : E) × (by e ≡ p) × (after ≡ before ++ e ∷ []))

-- What a turn of the pass p may do to an object x, which is y afterwards.
pub record Grown {O E F : Type 0} (log : O → List E) (by : E → ℕ) (mark : O → ℕ) (fix : O → F)
    (p : ℕ) (x y : O) : Type 0 where
  pub adds : AddsOneAtMost by p (log x) (log y)
  pub rises : mark x ≤ mark y
  pub stays : fix y ≡ fix x
