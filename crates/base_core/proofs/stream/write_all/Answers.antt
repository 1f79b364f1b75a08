use Rattle.std.proofs.Common.{◌≡◌, ◌-◌, ℕ, List, length, ◌++◌, take, drop, ap, ◌∙◌}
use Rattle.std.proofs.lemmas.List.{append_assoc, take-append-drop, take_rest}
use Rattle.std.proofs.KnownBytes.{Appends-trans}
use Rattle.base_core.proofs.stream.write_all.Goals as goal

-- the next bytes go from the rest to what was written
forward : (part rest bytes : List ℕ) (n : ℕ) → part ++ rest ≡ bytes → (part ++ take n rest) ++ take (length rest - n) (drop n rest) ≡ bytes
forward part rest bytes n e =
    ap (λ x. (part ++ take n rest) ++ x) (take_rest rest n)
    ∙ append_assoc part (take n rest) (drop n rest)
    ∙ ap (λ x. part ++ x) (take-append-drop n rest)
    ∙ e

pub loop-rest-preserved : goal.loop-rest-preserved
loop-rest-preserved g c =
    let before = c.loop-rest.invariant.1 in (
      c.in_ok-n.ensures.failed,
      (
        before.0 ++ take c.in_ok-n.n c.loop-rest.rest.now,
        Appends-trans _ _ _ _ _ before.1 c.in_ok-n.ensures.bytes,
        forward before.0 c.loop-rest.rest.now c.args.bytes.now c.in_ok-n.n before.2,
      ),
    )
