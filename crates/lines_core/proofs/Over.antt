-- How an answering ended behind which the server is over.
use Rattle.std.proofs.Common.{◌≡◌, ◌⊎◌, Bool, true, false, Result, Ok, Err, inl, inr, refl, sym, ◌∙◌}
use Rattle.std.specs.Result.{OnErr}
use Rattle.std.proofs.lemmas.Bool.{false≢true}
use Rattle.lines_core.specs.declared.serving.SessionFault.{SessionFault}
use Rattle.lines_core.specs.declared.serving.SessionFault.TheVariants as faults

-- If it was open at its start, that was at the end of the input, or because it was over, or by the writer.
pub over-or-broken : (ending : Result (Unit {0}) SessionFault) (written start end : Bool) → (written ≡ true → ending ≡ Err faults.Write) → (written ≡ false → OnErr ending (start ≡ false → end ≡ false))
    → start ≡ false → end ≡ true → (ending ≡ Ok tt) ⊎ (ending ≡ Err faults.Write)
over-or-broken ending true start end writes opens s e = inr (writes refl)
over-or-broken (Ok u) false start end writes opens s e = inl refl
over-or-broken (Err f) false start end writes opens s e = absurd (false≢true (sym (opens refl s) ∙ e))
