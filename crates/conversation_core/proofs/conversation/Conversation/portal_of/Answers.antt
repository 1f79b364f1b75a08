use Rattle.std.proofs.Common.{◌≡◌, List, ℕ, Some, None, false, refl, sym, subst, ◌∙◌}
use Rattle.sending_core.specs.declared.problem.Problem.{Problem}
use Rattle.conversation_core.specs.Extending.{IsPortalFault, IsPortalNameFault, IsPortalNameFree}
use Rattle.conversation_core.specs.Extending.IsPortalFault.{exhausted, misnamed, not_prepared, unbound, unformatted}
use Rattle.conversation_core.specs.State.{statement_named}
use Rattle.conversation_core.specs.declared.portals.Bound.{Bound}
use Rattle.conversation_core.proofs.conversation.Conversation.portal_of.Goals as goal

pub returns-in_default : goal.returns-in_default
returns-in_default c =
    not_prepared (subst (λ (n : List ℕ). statement_named n c.args.self.now.state.statements ≡ None) c.as_slice.ensures (sym c.in_default.ensures))

pub returns-in-Some-portal_fault : goal.returns-in-Some-portal_fault
returns-in-Some-portal_fault c =
    misnamed (subst (λ (n : List ℕ). statement_named n c.args.self.now.state.statements ≡ Some c.in-Some.made.now) c.as_slice.ensures (sym c.in-Some.ensures))
    (subst (λ (n : List ℕ). IsPortalNameFault c.args.self.now.state.portals n c.in-Some-portal_fault.problem) c.as_slice-2.ensures c.in-Some-portal_fault.ensures)

pub returns-in-Err : goal.returns-in-Err
returns-in-Err c =
    let made = subst (λ (n : List ℕ). statement_named n c.args.self.now.state.statements ≡ Some c.in-Some.made.now) c.as_slice.ensures (sym c.in-Some.ensures) in
    let free = subst (λ (n : List ℕ). IsPortalNameFree c.args.self.now.state.portals n) c.as_slice-2.ensures c.in_default-portal_fault.ensures in
    subst (λ (p : Problem). IsPortalFault c.args.self.now.state c.args.wanted.now p) (sym c.in-Err.ensures.1)
    (unbound c.in-Err.ensures.0 made free c.in-Err.ensures.2)

pub returns-in-Err-formats_of : goal.returns-in-Err-formats_of
returns-in-Err-formats_of c =
    let made = subst (λ (n : List ℕ). statement_named n c.args.self.now.state.statements ≡ Some c.in-Some.made.now) c.as_slice.ensures (sym c.in-Some.ensures) in
    let free = subst (λ (n : List ℕ). IsPortalNameFree c.args.self.now.state.portals n) c.as_slice-2.ensures c.in_default-portal_fault.ensures in
    subst (λ (p : Problem). IsPortalFault c.args.self.now.state c.args.wanted.now p) (sym c.in-Err-formats_of.ensures.problem)
    (unformatted made free c.in-Ok.ensures c.in-Err-formats_of.ensures.unknown.1)

pub returns-in_default-from_slice : goal.returns-in_default-from_slice
returns-in_default-from_slice c =
    let portal : Bound = record { name = c.args.wanted.now.portal; line = c.in-Ok.line; formats = c.in-Ok-formats_of.formats; was_executed = false } in
    exhausted {portal = portal} (record {
      made = c.in-Some.made.now;
      prepared = subst (λ (n : List ℕ). statement_named n c.args.self.now.state.statements ≡ Some c.in-Some.made.now) c.as_slice.ensures (sym c.in-Some.ensures);
      free = subst (λ (n : List ℕ). IsPortalNameFree c.args.self.now.state.portals n) c.as_slice-2.ensures c.in_default-portal_fault.ensures;
      name_is = refl;
      binds = c.in-Ok.ensures;
      whole = c.in-Ok-formats_of.ensures.whole;
      formats_are = c.in-Ok-formats_of.ensures.formats;
      fresh = refl;
    })

pub returns : goal.returns
returns c = record {
  made = c.in-Some.made.now;
  prepared = subst (λ (n : List ℕ). statement_named n c.args.self.now.state.statements ≡ Some c.in-Some.made.now) c.as_slice.ensures (sym c.in-Some.ensures);
  free = subst (λ (n : List ℕ). IsPortalNameFree c.args.self.now.state.portals n) c.as_slice-2.ensures c.in_default-portal_fault.ensures;
  name_is = c.from_vec-name.ensures ∙ (c.in-Ok-from_slice.ensures.items ∙ c.as_slice-3.ensures);
  binds = c.in-Ok.ensures;
  whole = c.in-Ok-formats_of.ensures.whole;
  formats_are = c.in-Ok-formats_of.ensures.formats;
  fresh = refl;
}
