-- What the seat of a pass and that of a note have, and what contracts see of them.
use Rattle.std.specs.Prelude.{◌≡◌, [], ◌∷◌, Option, None, option_map}
use Rattle.turnstile.specs.declared.view.Known.{Known}
use Rattle.turnstile.specs.declared.view.Terms.{Terms}
use Rattle.turnstile.specs.Steps.{SeatState, first_known}
use Rattle.turnstile.specs.Passes.{Identity, TurnstileState, PassState, Told}

abbrev pub lock_at : {F : Type 0} → Identity → Terms F → TurnstileState F
lock_at z t = record { identity = z; count = t.count; start = t.start; fixed = t.fixed }

abbrev pub terms_of : {F : Type 0} → TurnstileState F → Terms F
terms_of l = record { count = l.count; start = l.start; fixed = l.fixed }

abbrev pub held_as : {E F : Type 0} → Option (TurnstileState F) → Known E → PassState E F
held_as l k =
    record {
      lock = l;
      number = k.number;
      seen = k.seen;
      mark = k.mark;
      turns = k.turns;
      drawn = k.drawn;
    }

abbrev pub known_in : {E F : Type 0} → PassState E F → Known E
known_in p =
    record { number = p.number; seen = p.seen; mark = p.mark; turns = p.turns; drawn = p.drawn }

module _ {O E F : Type 0} where
  abbrev pub known_of : SeatState O E F → Known E
  known_of m = first_known m.0.passes

  abbrev pub held_of : Identity → SeatState O E F → PassState E F
  held_of z m = held_as (option_map (lock_at z) m.0.terms) (known_of m)

  abbrev pub told_of : Identity → SeatState O E F → Told E F
  told_of z m =
      record { lock = option_map (lock_at z) m.0.terms; seen = m.0.told; mark = m.0.told_mark }

  -- it has one pass, no ticket and not the object
  pub record IsAtRest (m : SeatState O E F) : Type 0 where
    pub only : m.0.passes ≡ known_of m ∷ []
    pub no_ticket : m.0.ticket ≡ None
    pub none_taken : m.0.taken ≡ None
    pub carries : m.1 ≡ []

  -- it has no pass, and not the object
  pub record IsNote (m : SeatState O E F) : Type 0 where
    pub no_pass : m.0.passes ≡ []
    pub none_taken : m.0.taken ≡ None
    pub carries : m.1 ≡ []
