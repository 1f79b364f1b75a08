use Rattle.std.proofs.Common.{ℕ, List, subst}
use Rattle.std.specs.Io.KnownBytes.{Appends}
use Rattle.sysr.specs.Passwords.{IsPassword, IsLineOf}
use Rattle.sysr.proofs.verifying.verifier.Goals as goal

pub returns-in-Ok-clause-ok : goal.returns-in-Ok-clause-ok
returns-in-Ok-clause-ok g c =
    let password = c.in-Some.password.now in
    let said = subst (λ (text : List ℕ). IsPassword password × IsLineOf text password) c.as_slice.ensures.value c.in-Some.ensures in
    let line = c.in_ok-line.ensures.ok in
    let Writes : List ℕ → Type 0 = λ text. Appends (g.W.Sink.taken c.args.writer.now) (g.W.Sink.taken c.write_whole.new.writer) text in record {
      text = c.in_ok-text.text.items;
      password = password;
      kept = line.0;
      read = c.in_ok-text.ensures.ok.0;
      whole = c.in_ok-text.ensures.ok.1;
      is_line = said.1;
      is_password = said.0;
      of_password = line.1;
      wrote = subst Writes line.2 (subst Writes c.as_slice-2.ensures.value c.in-Ok.ensures.ok);
    }
