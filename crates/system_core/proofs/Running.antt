-- A run goes on by one step.
use Rattle.std.proofs.Common.{List, [], ◌∷◌, ◌++◌, refl, subst}
use Rattle.system_core.specs.declared.machine.event.Event.{Event}
use Rattle.system_core.specs.declared.machine.event.Reply.{Reply}
use Rattle.system_core.specs.World.{World}
use Rattle.system_core.specs.Step.{Step, Run}

pub Run-more : (old mid new : World) (events : List Event) (replies : List Reply) (event : Event) (reply : Reply) → Run old events replies mid → Step mid event reply new → Run old (events ++ event ∷ []) (replies ++ reply ∷ []) new
Run-more old mid new [] [] event reply h step =
    let P : World → Type 0 = λ w. Step w event reply new in
    (new, subst P h step, refl)
Run-more old mid new (e ∷ es) (r ∷ rs) event reply h step = (h.0, h.1, Run-more h.0 mid new es rs event reply h.2 step)
Run-more old mid new [] (r ∷ rs) event reply h step = absurd h
Run-more old mid new (e ∷ es) [] event reply h step = absurd h
