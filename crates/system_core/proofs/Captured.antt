-- What a change to the journal leaves of the checkpoint in progress.
use Rattle.std.proofs.Common.{◌≡◌, ◌≤◌, ℕ, zero, suc, Bool, true, false, cond, List, [], ◌∷◌, ◌++◌, length, take, map, Option, Some, None, option_map, refl, sym, ap, ◌∙◌, subst, arith}
use Rattle.std.specs.Map.{lookup, set_value}
use Rattle.std.specs.Option.{option_map_or}
use Rattle.std.proofs.lemmas.List.{length-append, length-map, map-append}
use Rattle.base_core.specs.Words.{same_name}
use Rattle.base_core.specs.declared.name.Name.{Name}
use Rattle.base_core.specs.declared.name.User.{User}
use Rattle.base_core.specs.declared.value.Row.{Row}
use Rattle.reader_core.specs.declared.statement.Statement.{Statement}
use Rattle.reader_core.specs.declared.statement.Statement.TheVariants as statements
use Rattle.tables_core.specs.Contents.{Table, Database, empty_table, with_row, without_chosen_rows, with_updated_rows, with_change}
use Rattle.grants_core.specs.declared.grant.Grant.{Grant}
use Rattle.capture_core.specs.Filling.{Head, head, heads, completed}
use Rattle.capture_core.specs.Capturing.{ActiveCapture, Capturing, InProgress, CanGoOn, in_progress}
use Rattle.capture_core.specs.declared.image.Image.{Image}
use Rattle.system_core.specs.declared.machine.event.Entry.{Entry}
use Rattle.system_core.specs.Journal.{tables_at, tables_after}
use Rattle.system_core.specs.World.{ActiveCheckpoint}
use Rattle.system_core.specs.World.{with_entry}
use Rattle.system_core.specs.Standing.{LedgerState, Checkpointing, database_of, checkpointing, as_active, world_of, KeepsCheckpoints, Stands}
use Rattle.system_core.proofs.Holding.{after_abandon, holds-entered}
use Rattle.system_core.proofs.Keeping.{contents-more}

-- ---- names, owners and columns stay
module _ (name : Name) (change : Table → Table) (same : (n : Name) (t : Table) → head (n, change t) ≡ head (n, t)) where
  heads-change : (tables : List (Name × Table)) → map head (with_change name change tables) ≡ map head tables
  heads-change [] = refl
  heads-change (t ∷ ts) = by (same_name name t.0) (lookup (same_name name) ts) (heads-change ts)
    where
      by : (b : Bool) (o : Option Table) → map head (option_map_or (λ u. set_value (same_name name) ts (change u)) o ts) ≡ map head ts
          → map head (option_map_or (λ u. cond b ((t.0, change u) ∷ ts) (t ∷ set_value (same_name name) ts (change u))) (cond b (Some t.1) o) (t ∷ ts)) ≡ head t ∷ map head ts
      by true o h = ap (λ x. x ∷ map head ts) (same t.0 t.1)
      by false None h = refl
      by false (Some u) h = ap (λ l. head t ∷ l) h

-- the tables after a change, but for those behind them
heads-after : (tables : List (Name × Table)) (user : User) (s : Statement) (count : ℕ) → count ≤ length tables → heads count (tables_after tables user s) ≡ heads count tables
heads-after tables user (statements.CreateTable table columns) count within =
    let new : List (Name × Table) = (table, empty_table user columns) ∷ [] in
    ap (take count) (map-append head tables new) ∙ front count (map head tables) (map head new) (omega (arith, within, length-map tables head))
  where
    front : (n : ℕ) (xs ys : List Head) → n ≤ length xs → take n (xs ++ ys) ≡ take n xs
    front zero xs ys h = refl
    front (suc n) [] ys h = absurd (omega (arith, h))
    front (suc n) (x ∷ xs) ys h = ap (λ k. x ∷ k) (front n xs ys (omega (arith, h)))
heads-after tables user (statements.Insert table values) count within = ap (take count) (heads-change table (with_row (record { values = values })) (λ n t. refl) tables)
heads-after tables user (statements.Delete table filter) count within = ap (take count) (heads-change table (without_chosen_rows filter) (λ n t. refl) tables)
heads-after tables user (statements.Update table sets filter) count within = ap (take count) (heads-change table (with_updated_rows sets filter) (λ n t. refl) tables)
heads-after tables user _ count within = refl

-- no table goes
as_many : (tables others : List (Name × Table)) → map head others ≡ map head tables → length tables ≤ length others
as_many tables others same = omega (arith, ap length same, length-map others head, length-map tables head)

more-after : (tables : List (Name × Table)) (user : User) (s : Statement) → length tables ≤ length (tables_after tables user s)
more-after tables user (statements.CreateTable table columns) = omega (arith, length-append tables ((table, empty_table user columns) ∷ []))
more-after tables user (statements.Insert table values) = as_many tables _ (heads-change table (with_row (record { values = values })) (λ n t. refl) tables)
more-after tables user (statements.Delete table filter) = as_many tables _ (heads-change table (without_chosen_rows filter) (λ n t. refl) tables)
more-after tables user (statements.Update table sets filter) = as_many tables _ (heads-change table (with_updated_rows sets filter) (λ n t. refl) tables)
more-after tables user _ = omega arith

-- ---- one more entry
abbrev pub entered : LedgerState → Entry → LedgerState
entered accepted e = record accepted { journal = accepted.journal ++ e ∷ [] }

module _ (accepted : LedgerState) (e : Entry) where
  heads-entered : (count : ℕ) → count ≤ length (tables_at accepted.journal) → heads count (tables_at (accepted.journal ++ e ∷ [])) ≡ heads count (tables_at accepted.journal)
  heads-entered count within = ap (heads count) (contents-more accepted.journal e) ∙ heads-after (tables_at accepted.journal) e.user e.statement count within

  -- the same image is to come
  same-progress : (o : Option ActiveCapture) → CanGoOn o (database_of accepted) accepted.grants_due
      → in_progress o (database_of (entered accepted e)) accepted.grants_due ≡ in_progress o (database_of accepted) accepted.grants_due
  same-progress None h = refl
  same-progress (Some a) h =
      let by : List Head → Option InProgress = λ hs. Some (record {
        left = a.left;
        coming = record {
          number = a.number;
          point = a.point;
          tables = completed hs a.filled accepted.rows_due;
          grants = a.grants ++ accepted.grants_due;
        };
      }) in
      ap by (heads-entered (length accepted.rows_due) h.0)

  pub checkpointing-entered : (c : Capturing) → CanGoOn c.active (database_of accepted) accepted.grants_due → checkpointing c (entered accepted e) ≡ checkpointing c accepted
  checkpointing-entered c h = ap (λ (o : Option InProgress). record { begun = c.begun; active = o }) (same-progress c.active h)

  -- and the capture can go on
  pub goes_on-entered : (o : Option ActiveCapture) → CanGoOn o (database_of accepted) accepted.grants_due → CanGoOn o (database_of (entered accepted e)) accepted.grants_due
  goes_on-entered None h = tt
  goes_on-entered (Some a) h = (
    omega (arith, h.0, more-after (tables_at accepted.journal) e.user e.statement, ap length (contents-more accepted.journal e)),
    h.1,
    h.2,
    h.3,
  )

-- **after one more entry the system stands**
pub stands-entered : (chunk : ℕ) (accepted : LedgerState) (e : Entry) (c : Capturing) (images : List Image) → Stands chunk accepted c images → Stands chunk (entered accepted e) c images
stands-entered chunk accepted e c images h = record {
  keeps = subst (λ (k : Checkpointing). KeepsCheckpoints chunk (entered accepted e) k images) (sym (checkpointing-entered accepted e c h.goes_on))
      (holds-entered chunk accepted (checkpointing c accepted) images e h.keeps);
  goes_on = goes_on-entered accepted e c.active h.goes_on;
}

-- the world has one more entry
pub world-entered : (chunk : ℕ) (accepted : LedgerState) (e : Entry) (c : Capturing) (images : List Image) → Stands chunk accepted c images
    → world_of chunk (entered accepted e) (checkpointing c (entered accepted e)) images ≡ with_entry (world_of chunk accepted (checkpointing c accepted) images) e
world-entered chunk accepted e c images h = ap (λ k. world_of chunk (entered accepted e) k images) (checkpointing-entered accepted e c h.goes_on)

-- the world has the active capture as a checkpoint in progress
pub as_active-in_progress : (o : Option ActiveCapture) (d : Database) (due : List Grant) → ◌≡◌ {A = Option ActiveCheckpoint} (option_map (λ a. record { number = a.number; point = a.point; left = a.left }) o) (option_map as_active (in_progress o d due))
as_active-in_progress None d due = refl
as_active-in_progress (Some a) d due = refl

-- what is due changes nothing of the checkpoints
pub keeps-due : (chunk : ℕ) (accepted : LedgerState) (rows : List (List Row)) (grants : List Grant) (c : Checkpointing) (images : List Image)
    → KeepsCheckpoints chunk accepted c images → KeepsCheckpoints chunk (record accepted { rows_due = rows; grants_due = grants }) c images
keeps-due chunk accepted rows grants c images h = record {
  some = h.some;
  small = h.small;
  images_of = h.images_of;
  coming_of = h.coming_of;
  sound = h.sound;
}

-- with other rows and grants due the system stands, where the checkpoints do
pub stands-due : (chunk : ℕ) (accepted new : LedgerState) (capture : Capturing) (c : Checkpointing) (images : List Image)
    → new ≡ record accepted { rows_due = new.rows_due; grants_due = new.grants_due }
    → checkpointing capture new ≡ c
    → KeepsCheckpoints chunk accepted c images
    → CanGoOn capture.active (database_of new) new.grants_due
    → Stands chunk new capture images
stands-due chunk accepted new capture c images same is h goes_on =
    let due : KeepsCheckpoints chunk (record accepted { rows_due = new.rows_due; grants_due = new.grants_due }) c images =
    keeps-due chunk accepted new.rows_due new.grants_due c images h in
    let here : KeepsCheckpoints chunk new c images = subst (λ (l : LedgerState). KeepsCheckpoints chunk l c images) (sym same) due in
    record {
      keeps = subst (λ (k : Checkpointing). KeepsCheckpoints chunk new k images) (sym is) here;
      goes_on = goes_on;
    }

-- it is given up
pub checkpointing-given_up : (accepted new : LedgerState) (c k : Capturing) → k ≡ record c { active = None } → checkpointing k new ≡ after_abandon (checkpointing c accepted)
checkpointing-given_up accepted new c k e = ap (λ j. checkpointing j new) e

pub goes_on-given_up : (c k : Capturing) (d : Database) (due : List Grant) → k ≡ record c { active = None } → CanGoOn k.active d due
goes_on-given_up c k d due e = subst (λ (j : Capturing). CanGoOn j.active d due) (sym e) tt
