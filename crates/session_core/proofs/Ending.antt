-- How a session ends of which a reply was withheld.
use Rattle.std.proofs.Common.{◌≡◌, ◌⊎◌, Bool, true, false, Ok, Err, inl, inr, refl, subst, ⊎_elim}
use Rattle.std.specs.Prelude.{◌↔◌, Result, IsErrOf}
use Rattle.lines_core.specs.Serving.{Traffic}
use Rattle.lines_core.specs.declared.serving.SessionFault.{SessionFault}
use Rattle.lines_core.specs.declared.serving.SessionFault.TheVariants as session_faults
use Rattle.desk_core.specs.Guarded.{DeskLock, DeskPass}
use Rattle.session_core.specs.declared.session_end.SessionEnd.TheVariants as session_ends
use Rattle.session_core.specs.declared.admission.Admission.{Admission}
use Rattle.session_core.specs.Session.{SessionState, EndsAt, EndsBy, end_of}

pub either-end : (P : Result (Unit {0}) SessionFault → Type 0) (ending : Result (Unit {0}) SessionFault) → (ending ≡ Ok tt) ⊎ (ending ≡ Err session_faults.Write) → P ending → P (Ok tt) ⊎ P (Err session_faults.Write)
either-end P ending how p = ⊎_elim (λ (e : ending ≡ Ok tt). inl (subst P e p)) (λ (e : ending ≡ Err session_faults.Write). inr (subst P e p)) how

-- it did not end by the reader
pub not-read : (ending : Result (Unit {0}) SessionFault) → (ending ≡ Ok tt) ⊎ (ending ≡ Err session_faults.Write) → ending ≡ Err session_faults.Read → ⊥
not-read ending (inl e) r = cc
not-read ending (inr e) r = cc

module _ {K : Type 0} (desk : DeskLock K) (admission : Admission) (last : SessionState K) (old new : DeskPass K) (traffic : Traffic) where
  pub ends-by : (unkept : Bool) (served : Result (Unit {0}) SessionFault) → last.unkept ≡ unkept → EndsAt desk admission served last old new traffic
      → (unkept ≡ true → (served ≡ Ok tt) ⊎ (served ≡ Err session_faults.Write)) → EndsBy desk admission (end_of unkept served) last old new traffic
  ends-by true served is ends how = (is, either-end (λ r. EndsAt desk admission r last old new traffic) served (how refl) ends)
  ends-by false (Ok x) is ends how = (is, ends)
  ends-by false (Err f) is ends how = (is, ends)

-- the end of a session is the reader's fault, or the writer's, exactly where the answering of its lines ended so
pub ends-read : (unkept : Bool) (served : Result (Unit {0}) SessionFault) → (unkept ≡ true → (served ≡ Ok tt) ⊎ (served ≡ Err session_faults.Write))
    → IsErrOf (end_of unkept served) (session_ends.Session session_faults.Read) ↔ IsErrOf served session_faults.Read
ends-read true served how = (λ is. absurd (cc), λ is. absurd (not-read served (how refl) is))
ends-read false (Ok x) how = (λ is. absurd (cc), λ is. absurd (cc))
ends-read false (Err f) how = (λ is. cc, λ is. cc)

pub ends-write : (unkept : Bool) (served : Result (Unit {0}) SessionFault)
    → IsErrOf (end_of unkept served) (session_ends.Session session_faults.Write) ↔ (IsErrOf served session_faults.Write × ¬ IsErrOf (end_of unkept served) session_ends.Journal)
ends-write true served = (λ is. absurd (cc), λ is. absurd (is.1 refl))
ends-write false (Ok x) = (λ is. absurd (cc), λ is. let e = is.0 in absurd (cc))
ends-write false (Err f) = (λ is. (cc, λ e. cc), λ is. let e = is.0 in cc)
