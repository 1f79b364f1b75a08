-- Whether a user is there already.
use Rattle.std.proofs.Common.{rules, ◌≡◌, Option, Some, None, true, false, refl, sym, subst, Bor}
use Rattle.std.specs.Prelude.{is_some}
use Rattle.std.specs.Option.{option_copied}

pub there : {V : Type 0} (o : Option (Bor V)) (p : Option V) → option_copied o ≡ p → is_some o ≡ true → is_some p ≡ true
there (Some x) p e t = subst (λ z. is_some z ≡ true) e refl
there None p e t = absurd (search rules)

pub not-there : {V : Type 0} (o : Option (Bor V)) (p : Option V) → option_copied o ≡ p → is_some o ≡ false → p ≡ None
not-there (Some x) p e t = absurd (search rules)
not-there None p e t = sym e
