use Rattle.std.proofs.Common.{◌≡◌, ℕ, List, rules, subst}
use Rattle.std.specs.Io.KnownBytes.{Appends}
use Rattle.std.proofs.KnownBytes.{Appends-kept}
use Rattle.base_core.specs.declared.name.Name.{Name}
use Rattle.tables_core.specs.Contents.{Table}
use Rattle.system_core.specs.Journal.{tables_at}
use Rattle.explain_text.specs.Answering.{IsAnswerTo}
use Rattle.explain_text.specs.Asking.{IsAsked}
use Rattle.explain_text.proofs.explaining.explain.Goals as goal

pub returns-clause-answers : goal.returns-clause-answers
returns-clause-answers g c =
    let taken = g.W.Sink.taken in
    let answer = c.in_ok-answer.answer in
    let asked = c.in_ok-asked.asked in
    let tables_are : c.tables.result.now.tables ≡ tables_at c.args.replayed.now.world.journal = search rules in
    let numbers_are : c.as_slice.result.now ≡ c.args.replayed.now.numbers = search rules in
    let Asked : List (Name × Table) → Type 0 = λ tables. IsAsked tables c.args.question.now asked in
    let Told : List ℕ → Type 0 = λ numbers. IsAnswerTo c.args.history.now numbers asked c.args.format answer.text.items in
    let Wrote : List ℕ → Type 0 = λ text. Appends (taken c.args.writer.now) (taken c.write_all.new.writer) text in (
      answer.text.items,
      Appends-kept (taken c.args.writer.now) (taken c.write_all.new.writer) (taken c.flush.new.self) answer.text.items (subst Wrote c.deref.ensures.value c.in_ok-write_all.ensures.1) c.flush.ensures.bytes,
      record {
        asked = asked;
        read = subst Asked tables_are c.in_ok-asked.ensures;
        yes = c.is_yes-is_yes.ensures;
        told = subst Told numbers_are c.in_ok-answer.ensures.told;
        alone = c.in_ok-answer.ensures.alone;
      },
    )
