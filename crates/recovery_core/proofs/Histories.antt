-- What a start restores is the history.
use Rattle.std.proofs.Common.{◌≡◌, ◌≤◌, ◌+◌, ℕ, zero, suc, true, false, leb, leb-true, leb-false, List, [], ◌∷◌, ◌++◌, length, map, take, drop, refl, sym, ap, subst, ◌∙◌, arith, take-append-drop, append_assoc, length-append}
use Rattle.std.specs.List.{AllByRecursion}
use Rattle.std.proofs.lemmas.List.{take_at, drop_at, take-map, drop-map, length-take-le, take-take, take_all}
use Rattle.base_core.specs.declared.limits.Limits.{Limits}
use Rattle.printer_core.specs.Printing.{journal_line}
use Rattle.system_core.specs.Journal.{IsLawfulFrom, IsLawful}
use Rattle.system_core.specs.declared.machine.event.Entry.{Entry}
use Rattle.system_core.proofs.Rising.{each-front, each-drop}
use Rattle.journal_core.specs.Text.{journal_lines, WasRead}
use Rattle.load_core.specs.Loading.{Loads, without_pass}
use Rattle.load_core.specs.Loader.{lines_at}
use Rattle.load_core.proofs.Again.{loaded_passes}
use Rattle.load_core.proofs.GoneOn.{bare}
use Rattle.load_core.proofs.Room.{Loads-few}
use Rattle.load_core.proofs.Text.{each_whole}
use Rattle.load_core.proofs.Written.{lines_unmarked_is}
use Rattle.dump_core.specs.Dump.{dump}
use Rattle.dump_core.specs.Laws.{AreWellFormed, AreLawfulAlike}
use Rattle.folder_core.specs.Serving.{crashed, Reaches, IsRestored}
use Rattle.folder_core.specs.Calls.{TextState}
use Rattle.folder_core.proofs.Outlives.{told_outlives}
use Rattle.folder_core.proofs.Found.{restores_one}
use Rattle.recovery_core.specs.declared.recovered.Recovered.{Recovered}
use Rattle.recovery_core.specs.Reading.{as_read}
use Rattle.recovery_core.specs.Recovered.{MakesCore}
use Rattle.recovery_core.specs.History.{IsGreatest, IsHistory, AreLinesOfDump, IsDumpOfHistory, nothing_dumped, IsHistoryUpTo}
use Rattle.recovery_core.proofs.Wider.{AreWider, Loads_wider}
use Rattle.recovery_core.proofs.Alike.{follows, dump_follows}

-- no limits are above the greatest
pub wider_than : (limits most : Limits) → IsGreatest most → AreWider limits most
wider_than limits most g =
    let c = g.changes_are in
    let t = g.tables in
    let n = g.grants in
    let cw = limits.changes_within in
    let tw = limits.tables_within in
    let nw = limits.grants_within in
    record { changes = (omega arith); tables = (omega arith); grants = (omega arith) }

-- what was read from lines is well formed
pub were_formed : (entries : List Entry) → AllByRecursion WasRead entries → AreWellFormed entries
were_formed [] read = tt
were_formed (e ∷ es) read = (read.0.spelled.well_formed, were_formed es read.1)

-- ---- fronts of a history
pub lawful_front : (l : Limits) (before front rest : List Entry) → IsLawfulFrom l before (front ++ rest) → IsLawfulFrom l before front
lawful_front l before [] rest h = tt
lawful_front l before (e ∷ es) rest h = (h.0, h.1, lawful_front l (before ++ e ∷ []) es rest h.2)

take_short : (n : ℕ) (es : List Entry) → length (take n es) ≤ n
take_short zero es = omega arith
take_short (suc n) [] = omega arith
take_short (suc n) (e ∷ es) = (let more = take_short n es in omega arith)

module _ (most : Limits) (entries : List Entry) (history : IsHistory most entries) where
  parts : (n : ℕ) → entries ≡ take n entries ++ drop n entries
  parts n = sym (take-append-drop n entries)

  front_few : (n count : ℕ) → length (dump (take count (take n entries))) ≤ most.changes
  front_few n count =
      elim (leb count n) as (λ z. leb count n ≡ z → length (dump (take count (take n entries))) ≤ most.changes) [
        | true ↦ λ e. subst (λ es. length (dump es) ≤ most.changes) (sym (take-take count n entries (leb-true count n e))) (history.few count)
        | false ↦ λ e. (let more = leb-false count n e in let size = take_short n entries in subst (λ es. length (dump es) ≤ most.changes) (sym (take_all count (take n entries) (omega arith))) (history.few n))
      ] refl

  pub front_of : (n : ℕ) → IsHistory most (take n entries)
  front_of n = record {
    greatest = history.greatest;
    lawful = lawful_front most [] (take n entries) (drop n entries) (subst (IsLawful most) (parts n) history.lawful);
    few = front_few n;
    read = each-front WasRead (take n entries) (drop n entries) (subst (AllByRecursion WasRead) (parts n) history.read);
  }

-- the dump of all of it
pub whole_few : (most : Limits) (entries : List Entry) → IsHistory most entries → length (dump entries) ≤ most.changes
whole_few most entries history = subst (λ es. length (dump es) ≤ most.changes) (take_all (length entries) entries (omega arith)) (history.few (length entries))

-- ---- lines of entries
abbrev pub line_of : Entry → List ℕ
line_of e = journal_line e.user e.statement

lines_at_is : (start es : List Entry) → AllByRecursion WasRead es → lines_at start (as_read (journal_lines es)) ≡ journal_lines es
lines_at_is [] es read = ap (lines_at []) (each_whole es read) ∙ lines_unmarked_is es read
lines_at_is (x ∷ xs) es read = each_whole es read

module _ (chunk : ℕ) (limits most : Limits) (r : Recovered) (s : TextState) (entries : List Entry) (reached : Reaches IsDumpOfHistory s) (over : s.phase ≡ crashed) (core : MakesCore chunk limits r s) (history : IsHistory most entries) (lines : take r.at s.journal ≡ journal_lines entries) where
  wider : AreWider limits most
  wider = wider_than limits most history.greatest

  restored : IsRestored IsDumpOfHistory s
  restored = told_outlives IsDumpOfHistory nothing_dumped s reached over

  abbrev point : ℕ
  point = restored.point

  same : (point ≡ r.point) × (restored.resumes ≡ r.resumes) × (restored.base ≡ core.base) × (restored.behind ≡ core.behind)
  same = restores_one s.disk point r.point restored.resumes r.resumes restored.base core.base restored.behind core.behind restored.restores core.restores

  at_is : point + length restored.behind ≡ r.at
  at_is = (let a = core.at_is in let p = same.0 in let b = ap length same.3 in omega arith)

  -- ---- the lines of the entries
  abbrev front : List (List ℕ)
  front = take point s.journal

  front_length : length front ≡ point
  front_length = length-take-le point s.journal restored.within

  lines_are : journal_lines entries ≡ front ++ restored.behind
  lines_are =
      let whole : s.journal ≡ (front ++ restored.behind) ++ restored.rest = restored.journal_is ∙ sym (append_assoc front restored.behind restored.rest) in
      let size : length (front ++ restored.behind) ≡ r.at = length-append front restored.behind ∙ (ap (λ n. n + length restored.behind) front_length ∙ at_is) in
      sym lines ∙ (ap (take r.at) whole ∙ take_at (front ++ restored.behind) restored.rest r.at size)

  abbrev first : List Entry
  first = take point entries

  abbrev second : List Entry
  second = drop point entries

  first_lines : front ≡ journal_lines first
  first_lines = sym (take_at front restored.behind point front_length) ∙ (ap (take point) (sym lines_are) ∙ take-map line_of point entries)

  second_lines : restored.behind ≡ journal_lines second
  second_lines = sym (drop_at front restored.behind point front_length) ∙ (ap (drop point) (sym lines_are) ∙ drop-map line_of point entries)

  -- ---- the dump
  of_first : IsHistory most first
  of_first = front_of most entries history point

  base_is : AreLinesOfDump first restored.base
  base_is = restored.base_is most first of_first first_lines

  start_loaded : Loads most [] (journal_lines (dump first)) core.load.start
  start_loaded =
      let its : core.base ≡ journal_lines (dump first) = sym same.2 ∙ base_is.lines in
      Loads_wider limits most wider [] core.load.start (journal_lines (dump first))
      (subst (λ ls. Loads limits [] ls core.load.start) (ap (λ ls. lines_at [] (as_read ls)) its ∙ lines_at_is [] (dump first) base_is.read) core.load.loads_base)

  start_alike : AreLawfulAlike most first core.load.start
  start_alike = dump_follows most first core.load.start (record { lawful = of_first.lawful; well_formed = were_formed first of_first.read; few = whole_few most first of_first }) base_is.read start_loaded

  start_bare : map without_pass core.load.start ≡ core.load.start
  start_bare = bare core.load.start (loaded_passes most [] core.load.start (journal_lines (dump first)) start_loaded tt)

  start_few : length core.load.start ≤ most.changes
  start_few = Loads-few most [] (journal_lines (dump first)) core.load.start (omega arith) start_loaded

  -- ---- the lines behind it
  second_read : AllByRecursion WasRead second
  second_read = each-drop WasRead point entries history.read

  both_lawful : IsLawful most (first ++ second)
  both_lawful = subst (IsLawful most) (sym (take-append-drop point entries)) history.lawful

  behind_loaded : Loads most core.load.start (journal_lines second) r.system.journal
  behind_loaded =
      let its : core.behind ≡ journal_lines second = sym same.3 ∙ second_lines in
      Loads_wider limits most wider core.load.start r.system.journal (journal_lines second)
      (subst (λ ls. Loads limits core.load.start ls r.system.journal) (ap (λ ls. lines_at core.load.start (as_read ls)) its ∙ lines_at_is core.load.start second second_read) core.load.loads_behind)

  pub history_restored : IsHistoryUpTo most entries r s
  history_restored = record {
    alike = subst (λ j. AreLawfulAlike most j r.system.journal) (take-append-drop point entries)
        (follows most first core.load.start second r.system.journal start_alike both_lawful second_read start_bare behind_loaded start_few);
    all_told = (let t = restored.all_told in let a = at_is in omega arith);
  }
