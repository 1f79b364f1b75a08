-- Who goes on with sessions keeps his pass.
use Rattle.std.proofs.Common.{◌≡◌, ℕ, ◌+◌, ◌⊎◌, refl, sym, ap, subst, ◌∙◌, inl, inr}
use Rattle.turnstile.specs.Passes.{IsSamePass}
use Rattle.desk_core.specs.Guarded.{DeskLock, DeskPass}
use Rattle.session_core.specs.Gains.{Watches}
use Rattle.session_core.specs.Machines.{Protocol}
use Rattle.door_core.specs.Entrance.{Admittance}
use Rattle.server_core.specs.Sessions.{ServesPiece, ServesPieces, no_piece, next_piece, looked, IsOf, Working, Attended, nobody, admitted, went_on, watched}

pub piece_same : {K : Type 0} (protocol : Protocol K) (by : Admittance) (desk : DeskLock K) (old new : DeskPass K) → ServesPiece protocol by desk old new → IsSamePass old new
piece_same protocol by desk old new (inl same) = (ap (λ p. p.lock) same, ap (λ p. p.number) same)
piece_same protocol by desk old new (inr (same, attends)) = same

pub attended_same : {K : Type 0} (protocol : Protocol K) (by : Admittance) (desk : DeskLock K) (old new : Working K) → Attended protocol by desk old new → IsSamePass old.pass new.pass
attended_same protocol by desk old _ nobody = (refl, refl)
attended_same protocol by desk old _ (admitted between before) = attended_same protocol by desk old between before
attended_same protocol by desk old _ (went_on between pass before same session) =
    let first = attended_same protocol by desk old between before in
    (same.0 ∙ first.0, same.1 ∙ first.1)
attended_same protocol by desk old _ (watched between pass before look) =
    let first = attended_same protocol by desk old between before in
    (look.same.0 ∙ first.0, look.same.1 ∙ first.1)

-- one piece more, or none
pub piece_then : {K : Type 0} (protocol : Protocol K) (by : Admittance) (desk : DeskLock K) (old between new : DeskPass K) → ServesPieces protocol by desk old between → ServesPiece protocol by desk between new → ServesPieces protocol by desk old new
piece_then protocol by desk old between new before (inl same) = subst (ServesPieces protocol by desk old) (sym same) before
piece_then protocol by desk old between new before (inr (same, session)) = next_piece between new before same session

pub one_piece : {K : Type 0} (protocol : Protocol K) (by : Admittance) (desk : DeskLock K) (old new : DeskPass K) → ServesPiece protocol by desk old new → ServesPieces protocol by desk old new
one_piece protocol by desk old new served = piece_then protocol by desk old old new no_piece served

pub pieces_same : {K : Type 0} (protocol : Protocol K) (by : Admittance) (desk : DeskLock K) (old new : DeskPass K) → ServesPieces protocol by desk old new → IsSamePass old new
pieces_same protocol by desk old _ no_piece = (refl, refl)
pieces_same protocol by desk old _ (next_piece between new before same session) =
    let first = pieces_same protocol by desk old between before in
    (same.0 ∙ first.0, same.1 ∙ first.1)
pieces_same protocol by desk old _ (looked between new before look) =
    let first = pieces_same protocol by desk old between before in
    (look.same.0 ∙ first.0, look.same.1 ∙ first.1)

-- behind a look it is one of the desk still
pub looked_own : {K : Type 0} (desk : DeskLock K) (old new : DeskPass K) → Watches old new → IsOf desk old → IsOf desk new
looked_own desk old new look own = look.same.0 ∙ own

-- some pieces more
pub pieces_then : {K : Type 0} (protocol : Protocol K) (by : Admittance) (desk : DeskLock K) (old between new : DeskPass K) → ServesPieces protocol by desk old between → ServesPieces protocol by desk between new
    → ServesPieces protocol by desk old new
pieces_then protocol by desk old between _ before no_piece = before
pieces_then protocol by desk old between new before (next_piece mid _ pieces same session) =
    next_piece mid new (pieces_then protocol by desk old between mid before pieces) same session
pieces_then protocol by desk old between new before (looked mid _ pieces look) =
    looked mid new (pieces_then protocol by desk old between mid before pieces) look

-- the worker has gone on with some pieces more
pub attended_pieces : {K : Type 0} (protocol : Protocol K) (by : Admittance) (desk : DeskLock K) (old between : Working K) (pass : DeskPass K) → Attended protocol by desk old between → ServesPieces protocol by desk between.pass pass
    → Attended protocol by desk old (record { pass = pass; sessions = between.sessions })
attended_pieces protocol by desk old between _ before no_piece = before
attended_pieces protocol by desk old between pass before (next_piece mid new pieces same session) =
    went_on (record { pass = mid; sessions = between.sessions }) pass (attended_pieces protocol by desk old between mid before pieces) same session
attended_pieces protocol by desk old between pass before (looked mid new pieces look) =
    watched (record { pass = mid; sessions = between.sessions }) pass (attended_pieces protocol by desk old between mid before pieces) look

-- he was admitted one more, or none
pub attended_count : {K : Type 0} (protocol : Protocol K) (by : Admittance) (desk : DeskLock K) (old between : Working K) (sessions : ℕ) → Attended protocol by desk old between
    → (sessions ≡ between.sessions) ⊎ (sessions ≡ between.sessions + 1) → Attended protocol by desk old (record { pass = between.pass; sessions = sessions })
attended_count protocol by desk old between sessions before (inl same) =
    subst (λ n. Attended protocol by desk old (record { pass = between.pass; sessions = n })) (sym same) before
attended_count protocol by desk old between sessions before (inr more) =
    subst (λ n. Attended protocol by desk old (record { pass = between.pass; sessions = n })) (sym more) (admitted between before)
