-- What a turn of a tally does.
use Rattle.std.specs.Prelude.{◌≡◌, ℕ, ◌+◌, ◌<◌, ◌≤◌, List, [], ◌∷◌, ◌++◌, Bool, true, false, Option, Some, None, refl}
use Rattle.std.proofs.Common.{inl, inr, ap, sym, ◌∙◌, subst, le_of_eq, le-add_right}
use Rattle.turnstile.specs.Logs.{Grown}

-- A tally: how many turns it counts at most, how many it counted, and the passes of those that were
-- entered.
pub record Tallied : Type 0 where
  pub most : ℕ
  pub counted : ℕ
  pub entries : List ℕ

-- the entries after a turn of the pass p, which was to be entered or not
abbrev pub entries_after : List ℕ → ℕ → Bool → List ℕ
entries_after entries p true = entries ++ p ∷ []
entries_after entries p false = entries

-- the turn was counted, and n were before it; or nothing was done
abbrev pub Tallies : Tallied → ℕ → Bool → Option ℕ → Tallied → Type 0
Tallies t p entered (Some n) u =
    (n ≡ t.counted)
    × (n < t.most)
    × (u
    ≡ record {
      most = t.most;
      counted = n + 1;
      entries = entries_after t.entries p entered;
    })
Tallies t p entered None u = u ≡ t

counts_up : (t u : Tallied) (n : ℕ) → n ≡ t.counted → u.counted ≡ n + 1 → t.counted ≤ u.counted
counts_up t u n is now =
    subst (λ m. t.counted ≤ m) (sym (now ∙ ap (λ m. m + 1) is)) (le-add_right t.counted 1)

pub tally_grows : (t : Tallied) (p : ℕ) (entered : Bool) (r : Option ℕ) (u : Tallied)
    → Tallies t p entered r u
    → Grown {O = Tallied} (λ x. x.entries) (λ (e : ℕ). e) (λ x. x.counted) (λ x. x.most) p t u
tally_grows t p true (Some n) u h = record {
  adds = inr (p, refl, ap (λ x. x.entries) h.2);
  rises = counts_up t u n h.0 (ap (λ x. x.counted) h.2);
  stays = ap (λ x. x.most) h.2;
}
tally_grows t p false (Some n) u h = record {
  adds = inl (ap (λ x. x.entries) h.2);
  rises = counts_up t u n h.0 (ap (λ x. x.counted) h.2);
  stays = ap (λ x. x.most) h.2;
}
tally_grows t p entered None u h = record {
  adds = inl (ap (λ x. x.entries) h);
  rises = le_of_eq (ap (λ x. x.counted) (sym h));
  stays = ap (λ x. x.most) h;
}
