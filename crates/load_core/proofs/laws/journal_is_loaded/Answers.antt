use Rattle.std.proofs.Common.{ℕ, List, [], map, sym, subst}
use Rattle.std.specs.List.{AllByRecursion}
use Rattle.base_core.specs.declared.limits.Limits.{Limits}
use Rattle.system_core.specs.Journal.{IsLawful}
use Rattle.system_core.specs.declared.machine.event.Entry.{Entry}
use Rattle.journal_core.specs.Text.{WasRead}
use Rattle.load_core.specs.Loading.{Loads, without_pass}
use Rattle.load_core.proofs.Text.{lines_are}
use Rattle.load_core.proofs.Written.{loads, lines_unmarked_is}
use Rattle.load_core.proofs.laws.journal_is_loaded.Goals as goal

pub returns-clause-loads : goal.returns-clause-loads
returns-clause-loads c = λ (limits : Limits) (journal : List Entry) (lawful : IsLawful limits journal) (read : AllByRecursion WasRead journal).
    let P = λ (ls : List (List ℕ)). Loads limits [] ls (map without_pass journal) in
    subst P (sym (lines_unmarked_is journal read)) (loads limits [] journal lawful read)

pub returns-clause-text : goal.returns-clause-text
returns-clause-text c = lines_are
