-- What a piece comes to, behind what is kept.
use Rattle.std.proofs.Common.{◌≡◌, ℕ, ◌+◌, ◌-◌, ◌<◌, ◌≤◌, true, false, List, [], ◌++◌, length, take, drop, refl, sym, ap, ◌∙◌, subst, inl, inr, arith, append_assoc}
use Rattle.std.specs.Prelude.{◌⊎◌}
use Rattle.std.proofs.lemmas.List.{length-append, length-take-le, take-append-le, take_all, take-append-drop}
use Rattle.desk_core.specs.Guarded.{DeskLock, DeskPass}
use Rattle.session_core.specs.declared.admission.Admission.{Admission}
use Rattle.sending_core.specs.declared.item.Item.{Item}
use Rattle.sending_core.specs.declared.problem.Problem.TheVariants as problems
use Rattle.conversation_core.specs.Telling.{fatal_error}
use Rattle.wire_core.specs.State.{ClientAndQueue, ClientState, IsFront, WireState, gone}
use Rattle.wire_core.specs.Running.{IsHeard, IsUnheard, StandsBefore, Takes, over, exhausted}
use Rattle.wire_core.specs.Coming.{IsFed, held, answered}

-- fronts of one length of the same bytes are the same
pub same_fronts : (x u y v : List ℕ) → x ++ u ≡ y ++ v → length x ≡ length y → x ≡ y
same_fronts x u y v same size =
    sym (take_all (length x) x (omega arith))
    ∙ (sym (take-append-le (length x) x u (omega arith))
    ∙ (ap (take (length x)) same
    ∙ (take-append-le (length x) y v (omega (arith, size)) ∙ take_all (length x) y (omega (arith, size)))))

module _ {K : Type 0} (desk : DeskLock K) (admission : Admission) (old new : WireState K) (before : DeskPass K) (piece : List ℕ) where
  pub over_fed : old.client.talk.over ≡ true → old.kept ≡ [] → old.sending.items ≡ [] → IsFed desk admission old before piece old before
  over_fed is nothing free =
      answered nothing (subst (λ (q : List Item). Takes desk admission old.client before (old.kept ++ piece) q old.client before) (sym free) (over is))

  pub exhausted_fed : old.client.talk.over ≡ false → new.kept ≡ [] → new.sending.items ≡ fatal_error problems.NoMemory → new.client ≡ gone old.client
      → IsFed desk admission old before piece new before
  exhausted_fed opened nothing items client =
      answered nothing (subst (λ (z : List Item × ClientState). Takes desk admission old.client before (old.kept ++ piece) z.0 z.1 before) (λ i. (sym items i, sym client i)) (exhausted opened))

-- a message that stands first
module _ {K : Type 0} (desk : DeskLock K) (admission : Admission) (old new : WireState K) (before after : DeskPass K) (piece : List ℕ) (client : ClientAndQueue) (rest : ℕ)
    (heard : IsHeard desk admission client before (old.kept ++ piece) rest (record { state = new.client; sending = new.sending }) after)
    (first : StandsBefore client.state (old.kept ++ piece) rest) (front : IsFront old.client old.kept) (same : client.state ≡ old.client) where
  sizes : length old.kept + length piece ≡ length heard.first + rest
  sizes =
      let whole = length-append old.kept piece in
      let cut = ap length heard.cut ∙ length-append heard.first heard.behind in
      let told = heard.rest_is in
      omega (arith, whole, cut, told)

  stands : (rest ≡ 0) ⊎ (rest < length piece)
  stands = first old.kept piece refl (subst (λ (z : ClientState). IsFront z old.kept) (sym same) front)

  pub within : rest ≤ length piece
  within = of stands where
    of : (rest ≡ 0) ⊎ (rest < length piece) → rest ≤ length piece
    of (inl none) = omega (arith, none)
    of (inr less) = omega (arith, less)

  first_is : old.kept ++ take (length piece - rest) piece ≡ heard.first
  first_is =
      let n = length piece - rest in
      let size = length-take-le n piece (omega arith) in
      let all = length-append old.kept (take n piece) in
      let told = sizes in
      let bound = within in
      same_fronts (old.kept ++ take n piece) (drop n piece) heard.first heard.behind
      (append_assoc old.kept (take n piece) (drop n piece) ∙ (ap (λ (t : List ℕ). old.kept ++ t) (take-append-drop n piece) ∙ heard.cut))
      (omega (arith, size, all, told, bound))

  pub heard_fed : new.kept ≡ [] → IsFed desk admission old before (take (length piece - rest) piece) new after
  heard_fed nothing =
      answered nothing (subst (λ (z : ClientState × List ℕ). Takes desk admission z.0 before z.1 new.sending.items new.client after) (λ i. (same i, sym first_is i)) heard.takes)
