-- What a store holds, as callers see it: a plain list of numbered items, and what a capture has
-- still to give.
use Rattle.std.specs.Prelude.{ℕ, ◌+◌, ◌≤◌, if◌then◌else◌, ◌==◌, nat_le, List, [], ◌∷◌, Option, Some, None, refl}
use Rattle.std.specs.Option.{unwrap_or}
use Rattle.std.specs.Coded.{Coded, code_by, coded×, coded_ℕ, coded_list, coded_option}

-- the items with their numbers, in number order; the number that comes next; while a capture is
-- active, the items that it still has to give; and how many pushes have their room already
pub record Holding (V : Type 0) : Type 0 where
  pub contents : List (ℕ × V)
  pub next : ℕ
  pub rest : Option (List (ℕ × V))
  pub spare : ℕ

-- equal holdings are those with equal parts
abbrev pub holding_code : {V : Type 0} → Coded V → Coded (Holding V)
holding_code {V} c =
    let items : Coded (List (ℕ × V)) = coded_list (coded× coded_ℕ c) in
    code_by
    ((List (ℕ × V) × ℕ) × (Option (List (ℕ × V)) × ℕ))
    (coded× (coded× items coded_ℕ) (coded× (coded_option items) coded_ℕ))
    (λ h. ((h.contents, h.next), (h.rest, h.spare)))
    (λ p. record { contents = p.0.0; next = p.0.1; rest = p.1.0; spare = p.1.1 })
    (λ _. refl)

-- what a capture still has to give: nothing where none is active
abbrev pub due : {V : Type 0} → Holding V → List (ℕ × V)
due h = unwrap_or h.rest []

-- a capture ends where it has nothing left to give
abbrev pub unfinished : {A : Type 0} → List A → Option (List A)
unfinished [] = None
unfinished (x ∷ xs) = Some (x ∷ xs)

-- the numbers of the items rise, from low on and below high
abbrev pub Rise : {V : Type 0} → ℕ → ℕ → List (ℕ × V) → Type 0
Rise low high [] = low ≤ high
Rise low high (e ∷ es) = (low ≤ e.0) × Rise (e.0 + 1) high es

-- the value of the item numbered n
abbrev pub value_at : {V : Type 0} → ℕ → List (ℕ × V) → Option V
value_at n [] = None
value_at n (e ∷ es) = if e.0 == n then Some e.1 else value_at n es

-- the first item with a number of at least n
abbrev pub first_from : {V : Type 0} → ℕ → List (ℕ × V) → Option (ℕ × V)
first_from n [] = None
first_from n (e ∷ es) = if nat_le n e.0 then Some e else first_from n es

-- the items, with value v at number n
abbrev pub with_item : {V : Type 0} → ℕ → V → List (ℕ × V) → List (ℕ × V)
with_item n v [] = []
with_item n v (e ∷ es) = if e.0 == n then (n, v) ∷ es else e ∷ with_item n v es

-- the items but the one numbered n
abbrev pub without_item : {V : Type 0} → ℕ → List (ℕ × V) → List (ℕ × V)
without_item n [] = []
without_item n (e ∷ es) = if e.0 == n then es else e ∷ without_item n es
