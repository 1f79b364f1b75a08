-- The stream of a journal: the effects of each of its entries.
use Rattle.std.specs.Prelude.{ℕ, ◌≡◌, ◌+◌, nat_lt, List, [], ◌∷◌, ◌++◌, length, take, filter, fold}
use Rattle.std.specs.List.{flat_map}
use Rattle.system_core.specs.declared.machine.event.Entry.{Entry}
use Rattle.system_core.specs.Journal.{tables_at, rights_at}
use Rattle.stream_core.specs.declared.effect.Effect.{Effect}
use Rattle.stream_core.specs.Effects.{AreEffectsOf, Contents, after_effects}
use Rattle.stream_core.specs.Lines.{effect_lines}

-- what a journal makes: its tables with their rows, and the grants in force
abbrev pub contents_at : List Entry → Contents
contents_at journal =
    record { tables = tables_at journal; grants = (rights_at journal).in_force }

-- the effects of the entry that made this moment
pub record ChangeTold : Type 0 where
  pub moment : ℕ
  pub all : List Effect

-- behind a journal, the entries have these effects, one after another
abbrev pub AreChangesTold : List Entry → List Entry → List ChangeTold → Type 0
AreChangesTold journal [] told = told ≡ []
AreChangesTold journal (e ∷ es) told =
    (all : List Effect) × (later : List ChangeTold)
    × AreEffectsOf (contents_at journal) (contents_at (journal ++ e ∷ [])) all
    × AreChangesTold (journal ++ e ∷ []) es later
    × (told ≡ record { moment = length journal + 1; all = all } ∷ later)

-- what is told of moments after this one
abbrev pub behind : ℕ → List ChangeTold → List ChangeTold
behind moment told = filter (λ one. nat_lt moment one.moment) told

-- what a reader has who applies it, one effect after another
abbrev pub after_told : Contents → List ChangeTold → Contents
after_told c told = fold (λ d one. after_effects d one.all) c told

-- the records of what is told, without the moments up to this one
abbrev pub stream_text : ℕ → List ChangeTold → List ℕ
stream_text from told = flat_map (λ one. effect_lines one.moment one.all) (behind from told)

-- ---- laws
-- a difference between two contents has one list of effects at most
abbrev pub EffectsAreOne : Type 0
EffectsAreOne =
    (before after : Contents) (all other : List Effect)
    → AreEffectsOf before after all
    → AreEffectsOf before after other
    → all ≡ other

-- a journal has one stream at most
abbrev pub StreamIsOne : Type 0
StreamIsOne =
    (journal : List Entry) (told other : List ChangeTold)
    → AreChangesTold [] journal told
    → AreChangesTold [] journal other
    → told ≡ other

-- who has what there was at a moment, and applies what is told of later ones, has what there is
abbrev pub StreamLeads : Type 0
StreamLeads =
    (journal : List Entry) (told : List ChangeTold) (moment : ℕ)
    → AreChangesTold [] journal told
    → after_told (contents_at (take moment journal)) (behind moment told) ≡ contents_at journal

-- whoever begins with nothing and applies all has what there is
abbrev pub StreamBegins : Type 0
StreamBegins =
    (journal : List Entry) (told : List ChangeTold)
    → AreChangesTold [] journal told
    → after_told (record { tables = []; grants = [] }) told ≡ contents_at journal
