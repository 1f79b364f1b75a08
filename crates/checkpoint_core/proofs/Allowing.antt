-- A dump of an image is one of what the history's first changes leave.
use Rattle.std.proofs.Common.{◌≡◌, ◌≤◌, ◌<◌, ◌+◌, ◌-◌, ℕ, Bool, true, Option, Some, None, IfSome, List, [], ◌∷◌, ◌++◌, length, map, take, drop, refl, sym, ap, subst, ◌∙◌, arith, append_assoc, length-append, take-append-drop}
use Rattle.std.specs.Prelude.{unwrap_or}
use Rattle.std.specs.List.{AllByRecursion}
use Rattle.std.specs.Io.KnownBytes.{Appends}
use Rattle.std.proofs.lemmas.List.{take_at, drop_at, take-map, drop-map, take-take, take-append-le, map-append, length-map}
use Rattle.std.proofs.lemmas.List.Concat.{flat_map-append}
use Rattle.base_core.specs.declared.limits.Limits.{Limits}
use Rattle.grants_core.proofs.OwnersLemmas.{AllByRecursion-append}
use Rattle.lines_core.specs.declared.line.TheConstants.{LONGEST_LINE}
use Rattle.turnstile.specs.Logs.{StartsWith}
use Rattle.printer_core.specs.Printing.{journal_line}
use Rattle.script_core.proofs.Addressed.{asked_once}
use Rattle.system_core.specs.Journal.{IsLawful, IsLawfulFrom, state_of}
use Rattle.system_core.specs.Standing.{IsImageOf}
use Rattle.system_core.specs.declared.machine.event.Entry.{Entry}
use Rattle.system_core.proofs.Keeping.{room}
use Rattle.system_core.proofs.Rising.{each-front, each-drop}
use Rattle.capture_core.specs.declared.image.Image.{Image}
use Rattle.journal_core.specs.Text.{journal_lines, journal_text, WasRead}
use Rattle.journal_core.specs.Keeping.{KeepsOrOwes, all, but_last, LineKeeperState, line_rules}
use Rattle.journal_core.proofs.Kept.{owed-text}
use Rattle.load_core.specs.Loading.{SaysEntry, without_pass}
use Rattle.load_core.proofs.GoneOn.{kept_were_read}
use Rattle.load_core.proofs.Text.{line_open}
use Rattle.load_core.proofs.Written.{says_it}
use Rattle.dump_core.specs.Dump.{dump, dump_of_image}
use Rattle.dump_core.specs.Alike.{AreAlike}
use Rattle.dump_core.specs.Laws.{AreWellFormed, AreLawfulAlike}
use Rattle.dump_core.proofs.Steps.{stay-alike}
use Rattle.dump_core.proofs.OneDump.{same-dump}
use Rattle.dump_core.proofs.Formed.{dump-formed}
use Rattle.dump_core.proofs.Imaged.{image_is_dumped}
use Rattle.folder_core.specs.declared.errand.Errand.{Errand}
use Rattle.folder_core.specs.Texts.{line_text, lines_text, part_text, IsInOneLine, AreLines}
use Rattle.data_core.specs.Errands.{IsDumpOfText}
use Rattle.recovery_core.specs.History.{IsHistory, IsDumpOfHistory}
use Rattle.recovery_core.proofs.Wider.{lawful_wider}
use Rattle.recovery_core.proofs.Alike.{bare_alike, alike_then}
use Rattle.recovery_core.proofs.Histories.{line_of, lawful_front, front_of, wider_than, were_formed}
use Rattle.desk_core.specs.Guarded.{Origin}
use Rattle.desk_core.specs.Kept.{HasKept}
use Rattle.checkpoint_core.specs.Beginning.{TextStandsFor, BeginsBehind, AreLinesOfImage}
use Rattle.checkpoint_core.proofs.Lines.{front_lines, take_behind}

-- ---- a journal that is lawful is within its limit
pub lawful_few : (l : Limits) (before es : List Entry) → IsLawfulFrom l before es → length before ≤ l.changes → length (before ++ es) ≤ l.changes
lawful_few l before [] h few = (let n = length-append before [] in omega arith)
lawful_few l before (e ∷ es) h few =
    let here : length before < l.changes = room (state_of l before) e.user e.statement h.0 h.1 in
    let n = length-append before (e ∷ []) in
    subst (λ j. length j ≤ l.changes) (append_assoc before (e ∷ []) es) (lawful_few l (before ++ e ∷ []) es h.2 (omega arith))

-- ---- entries of which the lines are the same
one_said : (d e : Entry) → WasRead d → WasRead e → journal_line d.user d.statement ≡ journal_line e.user e.statement → without_pass d ≡ without_pass e
one_said d e read other same =
    let a : SaysEntry LONGEST_LINE (journal_line d.user d.statement) (without_pass d) = says_it d.user d.statement (record { line = read.line; spelled = read.spelled; name = read.name }) in
    let b : SaysEntry LONGEST_LINE (journal_line e.user e.statement) (without_pass e) = says_it e.user e.statement (record { line = other.line; spelled = other.spelled; name = other.name }) in
    let c = subst (λ line. SaysEntry LONGEST_LINE line (without_pass e)) (sym same) b in
    let one = asked_once LONGEST_LINE (journal_line d.user d.statement) d.user e.user d.statement e.statement a.asks c.asks in
    λ i. record (without_pass d) { user = one.0 i; statement = one.1 i }

same_said : (ds es : List Entry) → AllByRecursion WasRead ds → AllByRecursion WasRead es → journal_lines ds ≡ journal_lines es → map without_pass ds ≡ map without_pass es
same_said [] [] read other same = refl
same_said [] (e ∷ es) read other same = absurd (let n = ap length same in omega arith)
same_said (d ∷ ds) [] read other same = absurd (let n = ap length same in omega arith)
same_said (d ∷ ds) (e ∷ es) read other same =
    let line : journal_line d.user d.statement ≡ journal_line e.user e.statement = cc in
    let rest : journal_lines ds ≡ journal_lines es = cc in
    let one = one_said d e read.0 other.0 line in
    let more = same_said ds es read.1 other.1 rest in
    λ i. one i ∷ more i

-- ---- what was kept was read
module _ (may_run : Option (List ℕ) → Errand → Type 0) (knows : Bool) where
  were_read : (old new : LineKeeperState) (es : List Entry) → KeepsOrOwes (line_rules may_run knows) old es new → AllByRecursion WasRead es
  were_read old new es (all n kept) = kept_were_read old new es kept
  were_read old new es (but_last n front last mid is kept owes) =
      subst (AllByRecursion WasRead) (sym is) (AllByRecursion-append WasRead front (last ∷ []) (kept_were_read old mid front kept) (owes.read, tt))

pub each_open : (es : List Entry) → AllByRecursion WasRead es → AllByRecursion IsInOneLine (journal_lines es)
each_open [] read = tt
each_open (e ∷ es) read = (line_open e read.0, each_open es read.1)

-- ---- the lines of a text
module _ (before lines : List (List ℕ)) (since : List Entry) (text text' owed : List ℕ) (part : Option (List ℕ))
    (open_before : AllByRecursion IsInOneLine before) (read : AllByRecursion WasRead since) (are : AreLines lines part)
    (behind : text ≡ lines_text before ++ text') (is : text ≡ lines_text lines ++ part_text part) (all_text : journal_text since ≡ text' ++ owed) where
  -- they are those before, and the first of those since
  pub lines_are : take (length lines) (before ++ journal_lines since) ≡ lines
  lines_are =
      let whole : lines_text lines ++ (part_text part ++ owed) ≡ lines_text (before ++ journal_lines since) =
      sym (append_assoc (lines_text lines) (part_text part) owed)
      ∙ (ap (λ z. z ++ owed) (sym is ∙ behind)
      ∙ (append_assoc (lines_text before) text' owed
      ∙ (ap (λ z. lines_text before ++ z) (sym all_text)
      ∙ sym (flat_map-append line_text before (journal_lines since))))) in
      front_lines lines (before ++ journal_lines since) (part_text part ++ owed) are.0 (AllByRecursion-append IsInOneLine before (journal_lines since) open_before (each_open since read)) whole

  -- so many of them
  pub front_is : (count k : ℕ) → length before ≡ count → count + k ≤ length lines → take (count + k) lines ≡ before ++ journal_lines (take k since)
  front_is count k size within =
      ap (take (count + k)) (sym lines_are)
      ∙ (take-take (count + k) (length lines) (before ++ journal_lines since) within
      ∙ (take_behind before (journal_lines since) count k size
      ∙ ap (λ z. before ++ z) (take-map line_of k since)))

-- ---- a history whose front the core at the start stands for
module _ (limits : Limits) (count : ℕ) (start entered : List Entry) (before : List (List ℕ)) (size : length before ≡ count) (lawful : IsLawful limits (start ++ entered)) (read : AllByRecursion WasRead entered)
    (stands : (most : Limits) (entries : List Entry) → IsHistory most entries → before ≡ journal_lines entries → AreLawfulAlike most entries start)
    (most : Limits) (entries : List Entry) (history : IsHistory most entries) (same : before ++ journal_lines entered ≡ journal_lines entries) where
  abbrev first : List Entry
  first = take count entries

  abbrev second : List Entry
  second = drop count entries

  first_lines : before ≡ journal_lines first
  first_lines = sym (take_at before (journal_lines entered) count size) ∙ (ap (take count) same ∙ take-map line_of count entries)

  second_lines : journal_lines entered ≡ journal_lines second
  second_lines = sym (drop_at before (journal_lines entered) count size) ∙ (ap (drop count) same ∙ drop-map line_of count entries)

  same_entries : map without_pass entered ≡ map without_pass second
  same_entries = same_said entered second read (each-drop WasRead count entries history.read) second_lines

  room_for : length (start ++ second) ≤ most.changes
  room_for =
      let wide = lawful_wider limits most (wider_than limits most history.greatest) [] (start ++ entered) lawful in
      let few = lawful_few most [] (start ++ entered) wide (omega arith) in
      let a = length-append start entered in
      let b = length-append start second in
      let c = ap length same_entries in
      let d = length-map entered without_pass in
      let e = length-map second without_pass in
      omega arith

  goes_on : AreAlike entries (start ++ second)
  goes_on =
      let alike = stands most first (front_of most entries history count) first_lines in
      let whole : first ++ second ≡ entries = take-append-drop count entries in
      let stays = stay-alike most first start second alike (subst (IsLawful most) (sym whole) history.lawful) room_for in
      subst (λ es. AreAlike es (start ++ second)) whole stays.alike

  pub alike_now : AreAlike entries (start ++ entered)
  alike_now =
      let bare : map without_pass (start ++ second) ≡ map without_pass (start ++ entered) = map-append without_pass start second ∙ (ap (λ z. map without_pass start ++ z) (sym same_entries) ∙ sym (map-append without_pass start entered)) in
      let its = bare_alike (start ++ entered) in
      let back : AreAlike (map without_pass (start ++ entered)) (start ++ entered) = record { tables = sym its.tables; grants = sym its.grants } in
      alike_then entries (start ++ second) (start ++ entered) goes_on
      (alike_then (start ++ second) (map without_pass (start ++ second)) (start ++ entered) (bare_alike (start ++ second)) (subst (λ j. AreAlike j (start ++ entered)) (sym bare) back))

-- ---- **an image may be put**
text_behind : (old new : Option (List ℕ)) (begun now more : List ℕ) → old ≡ Some begun → new ≡ Some now → Appends old new more → now ≡ begun ++ more
text_behind old new begun now more a b h = subst (λ (x : Option (List ℕ)). Appends x (Some now) more) a (subst (λ (y : Option (List ℕ)). Appends old y more) b h)

some_or : (P : List ℕ → Type 0) (o : Option (List ℕ)) → ((text : List ℕ) → o ≡ Some text → P text) → IfSome o P
some_or P None says = tt
some_or P (Some text) says = says text refl

module _ (may_run : Option (List ℕ) → Errand → Type 0) (knows : Bool) (count : ℕ) (limits : Limits) (start seen journal : List Entry) (origin : Origin LineKeeperState) (image : Image) (dumped : List (List ℕ)) (keeper : LineKeeperState)
    (begins : BeginsBehind knows count start origin) (lawful : IsLawful limits seen) (seen_is : StartsWith seen start) (of : IsImageOf seen image) (within : length start ≤ image.point.0) (are : AreLinesOfImage image dumped) (goes_on : StartsWith journal seen)
    (kept : HasKept (line_rules may_run knows) origin journal keeper) where
  -- what was entered since the start, and of that what the image has
  abbrev since : List Entry
  since = drop origin.front journal

  abbrev k : ℕ
  k = image.point.0 - length start

  abbrev entered : List Entry
  entered = take k since

  journal_is : journal ≡ start ++ (seen_is.0 ++ goes_on.0)
  journal_is = goes_on.1 ∙ (ap (λ z. z ++ goes_on.0) seen_is.1 ∙ append_assoc start seen_is.0 goes_on.0)

  since_is : since ≡ seen_is.0 ++ goes_on.0
  since_is = ap (λ n. drop n journal) begins.front_is ∙ (ap (drop (length start)) journal_is ∙ drop_at start (seen_is.0 ++ goes_on.0) (length start) refl)

  few : k ≤ length seen_is.0
  few =
      let past = of.past in
      let n = ap length seen_is.1 in
      let m = length-append start seen_is.0 in
      omega arith

  entered_is : entered ≡ take k seen_is.0
  entered_is = ap (take k) since_is ∙ take-append-le k seen_is.0 goes_on.0 few

  image_journal : start ++ entered ≡ take image.point.0 seen
  image_journal =
      let n : length start + k ≡ image.point.0 = omega arith in
      ap (λ z. start ++ z) entered_is ∙ (sym (take_behind start seen_is.0 (length start) k refl) ∙ (ap (λ m. take m (start ++ seen_is.0)) n ∙ ap (take image.point.0) (sym seen_is.1)))

  image_lawful : IsLawful limits (start ++ entered)
  image_lawful = subst (IsLawful limits) (sym image_journal) (lawful_front limits [] (take image.point.0 seen) (drop image.point.0 seen) (subst (IsLawful limits) (sym (take-append-drop image.point.0 seen)) lawful))

  since_read : AllByRecursion WasRead since
  since_read = were_read may_run knows origin.keeper keeper since kept

  entered_read : AllByRecursion WasRead entered
  entered_read = each-front WasRead entered (drop k since) (subst (AllByRecursion WasRead) (sym (take-append-drop k since)) since_read)

  image_dump : dump_of_image image ≡ dump (start ++ entered)
  image_dump = image_is_dumped seen image of ∙ ap dump (sym image_journal)

  -- where what was taken is known
  module _ (text0 text : List ℕ) (began : origin.keeper.taken ≡ Some text0) (now : keeper.taken ≡ Some text) (stands : TextStandsFor count start text0) where
    of_text : IsDumpOfText IsDumpOfHistory (count + k) dumped text
    of_text lines part open_lines is long most entries history same =
        let owes = owed-text may_run knows origin.keeper keeper since kept in
        let behind = text_behind origin.keeper.taken keeper.taken text0 text owes.0 began now owes.2 in
        let begun : text ≡ lines_text stands.0 ++ owes.0 = behind ∙ ap (λ z. z ++ owes.0) stands.2 in
        let front = front_is stands.0 lines since text owes.0 (unwrap_or keeper.owed []) part stands.1 since_read open_lines begun is owes.1 count k stands.3 long in
        let alike = alike_now limits count start entered stands.0 stands.3 image_lawful entered_read stands.4 most entries history (sym front ∙ same) in
        let one : dump_of_image image ≡ dump entries = image_dump ∙ sym (same-dump entries (start ++ entered) alike) in
        record {
          lines = are.lines ∙ ap journal_lines one;
          read = subst (AllByRecursion WasRead) one are.read;
        }

  pub image_may_be_put : knows ≡ true → IfSome keeper.taken (IsDumpOfText IsDumpOfHistory (count + k) dumped)
  image_may_be_put known =
      let began = begins.text known in
      some_or (IsDumpOfText IsDumpOfHistory (count + k) dumped) keeper.taken (λ text now. of_text began.0 text began.1 now began.2)

-- ---- the dump of an image is well formed
module _ (may_run : Option (List ℕ) → Errand → Type 0) (knows : Bool) (count : ℕ) (limits : Limits) (start seen : List Entry) (origin : Origin LineKeeperState) (image : Image) (keeper : LineKeeperState)
    (begins : BeginsBehind knows count start origin) (lawful : IsLawful limits seen) (seen_is : StartsWith seen start) (of : IsImageOf seen image) (kept : HasKept (line_rules may_run knows) origin seen keeper) where
  seen_read : AllByRecursion WasRead seen
  seen_read =
      let since : drop origin.front seen ≡ seen_is.0 = ap (λ n. drop n seen) begins.front_is ∙ (ap (drop (length start)) seen_is.1 ∙ drop_at start seen_is.0 (length start) refl) in
      let read = subst (AllByRecursion WasRead) since (were_read may_run knows origin.keeper keeper (drop origin.front seen) kept) in
      subst (AllByRecursion WasRead) (sym seen_is.1) (AllByRecursion-append WasRead start seen_is.0 begins.read read)

  pub image_formed : AreWellFormed (dump_of_image image)
  image_formed =
      let n : ℕ = image.point.0 in
      let parts : seen ≡ take n seen ++ drop n seen = sym (take-append-drop n seen) in
      let front_read = each-front WasRead (take n seen) (drop n seen) (subst (AllByRecursion WasRead) parts seen_read) in
      let front_lawful = lawful_front limits [] (take n seen) (drop n seen) (subst (IsLawful limits) parts lawful) in
      subst AreWellFormed (sym (image_is_dumped seen image of)) (dump-formed limits (take n seen) front_lawful (were_formed (take n seen) front_read))
