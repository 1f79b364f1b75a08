-- When grants end, and their options. None is never.
use Rattle.std.specs.Prelude.{◌≡◌, ℕ, ◌+◌, ◌==◌, Bool, true, false, nat_lt, if◌then◌else◌, List, [], ◌∷◌, drop, Option, Some, None}
use Rattle.base_core.specs.declared.value.Moment.{Moment}
use Rattle.grants_core.specs.declared.grant.Grant.{Grant}
use Rattle.grants_core.specs.declared.grant.Change.{Change}
use Rattle.grants_core.specs.Log.{noted_revocation, last_struck, last_unoptioned}
use Rattle.explain_core.specs.declared.coming.Ends.{Ends}
use Rattle.explain_core.specs.declared.coming.Coming.{Coming}
use Rattle.explain_core.specs.declared.supports.Support.{Support}
use Rattle.explain_core.specs.declared.life.Life.{Life}

-- whether the moment is before the end
abbrev pub is_before : ℕ → Option Moment → Bool
is_before m None = true
is_before m (Some end) = nat_lt m end.0

-- whether the first of two ends comes later
abbrev pub is_later : Option Moment → Option Moment → Bool
is_later end None = false
is_later None (Some other) = true
is_later (Some end) (Some other) = nat_lt other.0 end.0

-- the earlier of two ends
abbrev pub earlier : Option Moment → Option Moment → Option Moment
earlier end other = if is_later end other then other else end

-- the end at a moment, where 0 is none
abbrev pub end_at : ℕ → Option Moment
end_at m = if m == 0 then None else Some (record { 0 = m })

-- the moment of the first of the changes, from moment m on, that revokes the grant; or 0
abbrev pub next_struck : ℕ → List Change → Grant → ℕ
next_struck m [] g = 0
next_struck m (c ∷ cs) g = last_struck m c g (next_struck (m + 1) cs g)

-- and its option
abbrev pub next_unoptioned : ℕ → List Change → Grant → ℕ
next_unoptioned m [] g = 0
next_unoptioned m (c ∷ cs) g = last_unoptioned m c g (next_unoptioned (m + 1) cs g)

-- what is noted of the changes after the first m
pub record AreNoted (changes : List Change) (m : ℕ) (coming : Coming) : Type 0 where
  pub struck : (g : Grant)
      → noted_revocation coming.struck g ≡ next_struck (m + 1) (drop m changes) g
  pub unoptioned : (g : Grant)
      → noted_revocation coming.unoptioned g ≡ next_unoptioned (m + 1) (drop m changes) g

-- when the grant is next revoked after its moment, and when its option is
abbrev pub next_ends : List Change → Grant → Ends
next_ends changes g = record {
  struck = end_at (next_struck (g.moment.0 + 1) (drop g.moment.0 changes) g);
  unoptioned = end_at (next_unoptioned (g.moment.0 + 1) (drop g.moment.0 changes) g);
}

-- how long its grantor could have made the grant
abbrev pub upheld_until : Grant → Bool → Option Support → Option Moment
upheld_until g true support = None
upheld_until g false (Some support) = support.until
upheld_until g false None = Some g.moment

-- when the grant falls
abbrev pub fall_by : Ends → Option Moment → Option Moment
fall_by ends upheld = earlier ends.struck upheld

-- the life of a grant that is revoked so, and upheld until then
abbrev pub life_until : Grant → Ends → Option Moment → Life
life_until g ends upheld = record {
  grant = g;
  fell = fall_by ends upheld;
  option_end =
      if g.option then earlier ends.unoptioned (fall_by ends upheld) else Some g.moment;
}
