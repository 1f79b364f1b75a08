-- What a worker has done who went on with a session.
use Rattle.std.proofs.Common.{◌≡◌, ap, sym, refl, false, Option, Some, None, inr}
use Rattle.std.specs.Option.{is_some}
use Rattle.std.proofs.lemmas.Bool.{false≢true}
use Rattle.std.proofs.Math.Logic.{∥∥₁_elim, ∥∥₁_map, ∥∥₁_prop}
use Rattle.base_core.specs.declared.name.User.{User}
use Rattle.turnstile.specs.Passes.{IsSamePass}
use Rattle.desk_core.specs.Guarded.{DeskLock, DeskPass, DeskNote}
use Rattle.session_core.specs.declared.admission.Admission.{Admission}
use Rattle.session_core.specs.Machines.{Protocol}
use Rattle.session_core.specs.Parking.{GainsFor, pass_note}
use Rattle.door_core.specs.Entrance.{Admittance, IsAdmitted}
use Rattle.server_core.specs.Sessions.{ServesPiece, nothing_known}
use Rattle.std.proofs.Common.{subst}

abbrev value_or : {X : Type 0} → X → Option X → X
value_or x (Some y) = y
value_or x None = x

pub same_value : {X : Type 0} (x y : X) → Some x ≡ Some y → x ≡ y
same_value x y e = ap (value_or x) e

gains_same : {K : Type 0} (found : Option User) (old new : DeskPass K) → GainsFor found old new → IsSamePass old new
gains_same (Some user) old new g = g.same
gains_same None old new g = g.same

pub none_owed : {X : Type 0} (owed : Option X) → is_some owed ≡ false → owed ≡ None
none_owed None h = refl
none_owed (Some x) h = absurd (false≢true (sym h))

pub serves : {K : Type 0} (protocol : Protocol K) (by : Admittance) (desk : DeskLock K) (admission : Admission) (old new : DeskPass K) (user : Option User) (note : Option (DeskNote K))
    → ∥ IsAdmitted by admission ∥₁ → ∥ protocol desk admission user note nothing_known ∥₁ → note ≡ Some (pass_note desk new) → GainsFor user old new → ServesPiece protocol by desk old new
serves protocol by desk admission old new user note admitted spoken told gained =
    inr (
      gains_same user old new gained,
      ∥∥₁_elim admitted ∥∥₁_prop (λ a. ∥∥₁_map spoken (λ s. record {
        admission = admission;
        admitted = a;
        user = user;
        spoken = subst (λ n. protocol desk admission user n nothing_known) told s;
        gained = gained;
      })),
    )
