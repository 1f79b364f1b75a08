-- Lines that follow a journal lead to what they lead to from one that leaves the same.
use Rattle.std.proofs.Common.{◌≡◌, ◌≤◌, ℕ, List, [], ◌∷◌, ◌++◌, length, map, sym, ap, subst, ◌∙◌, arith, length-append}
use Rattle.std.specs.List.{AllByRecursion}
use Rattle.std.proofs.lemmas.List.{length-map}
use Rattle.base_core.specs.declared.limits.Limits.{Limits}
use Rattle.grants_core.specs.History.{content_after}
use Rattle.printer_core.specs.Printing.{journal_line}
use Rattle.system_core.specs.Journal.{IsLawful}
use Rattle.system_core.specs.declared.machine.event.Entry.{Entry}
use Rattle.system_core.proofs.Keeping.{lawful-more}
use Rattle.journal_core.specs.Text.{journal_lines, WasRead}
use Rattle.load_core.specs.Loading.{Loads, without_pass}
use Rattle.load_core.proofs.Once.{loads_once}
use Rattle.load_core.proofs.GoneOn.{lawful_behind}
use Rattle.load_core.proofs.Written.{loads, same_tables, same_changes}
use Rattle.load_core.proofs.Room.{Loads-few, Loads-count}
use Rattle.dump_core.specs.Dump.{dump}
use Rattle.dump_core.specs.Alike.{plain_tables, plain_grants, AreAlike}
use Rattle.dump_core.specs.Laws.{MayBeDumped, AreLawfulAlike}
use Rattle.dump_core.proofs.Steps.{stay-alike}
use Rattle.dump_core.proofs.Dumped.{dump-lawful, dump-alike}

-- what is loaded is lawful
pub loaded_lawful : (l : Limits) (before after : List Entry) (lines : List (List ℕ)) → Loads l before lines after → IsLawful l before → IsLawful l after
loaded_lawful l before after [] h lawful = subst (IsLawful l) (sym h) lawful
loaded_lawful l before after (line ∷ lines) (e, says, more) lawful =
    loaded_lawful l (before ++ e ∷ []) after lines more (lawful-more l [] before e lawful says.allowed says.change)

-- entries without their passes leave the same
pub bare_alike : (journal : List Entry) → AreAlike journal (map without_pass journal)
bare_alike journal = record {
  tables = ap plain_tables (sym (same_tables [] journal));
  grants = ap (λ cs. plain_grants (content_after cs).in_force) (sym (same_changes [] journal));
}

-- what leaves the same as what leaves the same
pub alike_then : (a b c : List Entry) → AreAlike a b → AreAlike b c → AreAlike a c
alike_then a b c x y = record { tables = x.tables ∙ y.tables; grants = x.grants ∙ y.grants }

module _ (most : Limits) (a b more journal : List Entry) (alike : AreLawfulAlike most a b) (lawful : IsLawful most (a ++ more)) (read : AllByRecursion WasRead more) (bare_b : map without_pass b ≡ b) (loaded : Loads most b (journal_lines more) journal) (room : length b ≤ most.changes) where
  stays : AreLawfulAlike most (a ++ more) (b ++ more)
  stays =
      let few = Loads-few most b (journal_lines more) journal room loaded in
      let size = Loads-count most b (journal_lines more) journal loaded in
      let same = length-map more (λ e. journal_line e.user e.statement) in
      let both = length-append b more in
      stay-alike most a b more alike lawful (omega arith)

  journal_is : journal ≡ map without_pass (b ++ more)
  journal_is =
      let from_b = lawful_behind most [] b more stays.second in
      let again = loads most b more from_b read in
      loads_once most b journal (map without_pass (b ++ more)) (journal_lines more) loaded (subst (λ j. Loads most j (journal_lines more) (map without_pass (b ++ more))) bare_b again)

  -- **from a journal that leaves the same these lines lead to one that leaves the same**
  pub follows : AreLawfulAlike most (a ++ more) journal
  follows =
      let stay = stays in
      record {
        first = lawful;
        second = loaded_lawful most b journal (journal_lines more) loaded alike.second;
        alike = subst (AreAlike (a ++ more)) (sym journal_is) (alike_then (a ++ more) (b ++ more) (map without_pass (b ++ more)) stay.alike (bare_alike (b ++ more)));
      }

-- the same of a dump, which nothing stands before
module _ (most : Limits) (front start : List Entry) (may : MayBeDumped most front) (read : AllByRecursion WasRead (dump front)) (loaded : Loads most [] (journal_lines (dump front)) start) where
  start_is : start ≡ map without_pass (dump front)
  start_is = loads_once most [] start (map without_pass (dump front)) (journal_lines (dump front)) loaded (loads most [] (dump front) (dump-lawful most front may) read)

  pub dump_follows : AreLawfulAlike most front start
  dump_follows = record {
    first = may.lawful;
    second = loaded_lawful most [] start (journal_lines (dump front)) loaded tt;
    alike = subst (AreAlike front) (sym start_is) (alike_then front (dump front) (map without_pass (dump front)) (dump-alike most front may) (bare_alike (dump front)));
  }
