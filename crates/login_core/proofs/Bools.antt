-- Tests of two truths.
use Rattle.std.proofs.Common.{rules, ◌≡◌, ◌&&◌, Bool, true, false, not, refl}

pub not_true : (b : Bool) → (b ≡ true → ⊥) → not b ≡ true
not_true true never = absurd (never refl)
not_true false never = refl

pub both_true : (a b : Bool) → a ≡ true → b ≡ true → (a && b) ≡ true
both_true true b x y = y
both_true false b x y = x

pub first_true : (a b : Bool) → (a && b) ≡ true → a ≡ true
first_true true b x = refl
first_true false b x = x

pub second_true : (a b : Bool) → (a && b) ≡ true → b ≡ true
second_true true b x = x
second_true false b x = absurd (search rules)

pub not_both : (b : Bool) → not b ≡ true → b ≡ true → ⊥
not_both true x y = absurd (search rules)
not_both false x y = absurd (search rules)
