-- A file whose last line was broken off.
use Rattle.std.proofs.Common.{◌≡◌, ◌≢◌, ℕ, Option, List, [], ◌∷◌, ◌++◌, length, map, refl, sym, ap, subst, ◌∙◌, append_assoc, append-nil, length-append, inl, inr, arith}
use Rattle.std.specs.List.{AllByRecursion}
use Rattle.std.specs.Str.Lines.{lines, strip_carriage_return}
use Rattle.std.proofs.lemmas.List.{map-append}
use Rattle.std.proofs.KnownBytes.{Appends-trans}
use Rattle.base_core.specs.declared.limits.Limits.{Limits}
use Rattle.grants_core.proofs.OwnersLemmas.{AllByRecursion-append}
use Rattle.printer_core.specs.Printing.{journal_line}
use Rattle.lines_core.specs.Lines.{Cut, NoFeed, IsWhole, whole_lines}
use Rattle.lines_core.proofs.LineLemmas.{Cut-append, Cut-open, lines-Cut, whole_lines-Cut}
use Rattle.system_core.specs.Journal.{IsLawfulFrom, IsLawful}
use Rattle.system_core.specs.declared.machine.event.Entry.{Entry}
use Rattle.journal_core.specs.Text.{entry_text, journal_text, WasRead}
use Rattle.journal_core.specs.Keeping.{KeepsAll, LineKeeperState, KeepsLine, OwesLine}
use Rattle.journal_core.proofs.Kept.{kept-text}
use Rattle.load_core.specs.Kept.{LoadsCutEnd, CanBeLoadedCut}
use Rattle.load_core.specs.Loading.{Loads, lines_unmarked, without_pass}
use Rattle.load_core.proofs.Again.{whole_text}
use Rattle.load_core.proofs.GoneOn.{whole_cut, lawful_behind, gone_on, kept_were_read}
use Rattle.load_core.proofs.Text.{line_open}

-- ---- a line that was broken off has no line feed
front_is_open : (line front missing : List ℕ) (b : ℕ) → NoFeed line → line ++ 10 ∷ [] ≡ front ++ b ∷ missing → NoFeed front
front_is_open line [] missing b open_line is = tt
front_is_open [] (x ∷ front) missing b open_line is = absurd (omega (arith, ap length is, length-append front (b ∷ missing)))
front_is_open (y ∷ line) (x ∷ front) missing b open_line is =
    let same : y ≡ x = cc in
    let behind : line ++ 10 ∷ [] ≡ front ++ b ∷ missing = cc in
    (subst (λ (n : ℕ). n ≢ 10) same open_line.0, front_is_open line front missing b open_line.1 behind)

-- ---- the lines of a whole text, with or without it
whole_both : (old text : List ℕ) → IsWhole old → IsWhole text → IsWhole (old ++ text)
whole_both old text first (inl none) = subst (λ (t : List ℕ). IsWhole (old ++ t)) (sym none) (subst IsWhole (sym (append-nil old)) first)
whole_both old text first (inr (front, is)) = inr (old ++ front, ap (λ (t : List ℕ). old ++ t) is ∙ sym (append_assoc old front (10 ∷ [])))

lines_before : (text front : List ℕ) → IsWhole text → NoFeed front → whole_lines (text ++ front) ≡ lines text
lines_before text front whole open_front =
    let c = whole_cut text whole in
    let all : Cut (text ++ front) (c.0 ++ []) front = Cut-append text front c.0 [] [] front c.1 (Cut-open front open_front) in
    whole_lines-Cut (text ++ front) (c.0 ++ []) front all
    ∙ ap (map strip_carriage_return) (append-nil c.0)
    ∙ sym (lines-Cut text c.0 [] c.1 ∙ append-nil (map strip_carriage_return c.0))

lines_of_whole : (text : List ℕ) → IsWhole text → whole_lines text ≡ lines text
lines_of_whole text whole = ap whole_lines (sym (append-nil text)) ∙ lines_before text [] whole tt

-- ---- entries before the last
read_before : (entries : List Entry) (e : Entry) → AllByRecursion WasRead (entries ++ e ∷ []) → AllByRecursion WasRead entries × WasRead e
read_before [] e read = (tt, read.0)
read_before (x ∷ entries) e read =
    let more = read_before entries e read.1 in ((read.0, more.0), more.1)

lawful_before : (limits : Limits) (before entries : List Entry) (e : Entry) → IsLawfulFrom limits before (entries ++ e ∷ []) → IsLawfulFrom limits before entries
lawful_before limits before [] e lawful = tt
lawful_before limits before (x ∷ entries) e (change, allowed, more) = (change, allowed, lawful_before limits (before ++ x ∷ []) entries e more)

text_more : (entries : List Entry) (e : Entry) → journal_text (entries ++ e ∷ []) ≡ journal_text entries ++ entry_text e
text_more [] e = append-nil (entry_text e)
text_more (x ∷ entries) e = ap (λ (t : List ℕ). entry_text x ++ t) (text_more entries e) ∙ sym (append_assoc (entry_text x) (journal_text entries) (entry_text e))

-- **its whole lines load the entries before that line, and the line's own if nothing of it is missing**
pub cut_end : (limits : Limits) (old front missing : List ℕ) (start entries : List Entry) (e : Entry) → IsWhole old → Loads limits [] (lines_unmarked (lines old)) start → AllByRecursion WasRead (entries ++ e ∷ []) → IsLawfulFrom limits start (entries ++ e ∷ []) → entry_text e ≡ front ++ missing
    → LoadsCutEnd limits (old ++ journal_text entries ++ front) (start ++ map without_pass entries) e missing
cut_end limits old front [] start entries e whole first read lawful is =
    let all = entries ++ e ∷ [] in
    let text : old ++ journal_text all ≡ old ++ journal_text entries ++ front =
    ap (λ (t : List ℕ). old ++ t) (text_more entries e ∙ ap (λ (t : List ℕ). journal_text entries ++ t) (is ∙ append-nil front)) ∙ sym (append_assoc old (journal_text entries) front) in
    let loaded : Loads limits [] (lines_unmarked (lines (old ++ journal_text all))) (start ++ map without_pass all) = gone_on limits old (journal_text all) start all whole first read lawful refl in
    let same : lines (old ++ journal_text all) ≡ whole_lines (old ++ journal_text entries ++ front) =
    sym (lines_of_whole (old ++ journal_text all) (whole_both old (journal_text all) whole (whole_text all))) ∙ ap whole_lines text in
    let journal : start ++ map without_pass all ≡ start ++ map without_pass entries ++ without_pass e ∷ [] =
    ap (λ (j : List Entry). start ++ j) (map-append without_pass entries (e ∷ [])) ∙ sym (append_assoc start (map without_pass entries) (without_pass e ∷ [])) in
    subst (λ (ls : List (List ℕ)). Loads limits [] (lines_unmarked ls) (start ++ map without_pass entries ++ without_pass e ∷ [])) same
    (subst (λ (j : List Entry). Loads limits [] (lines_unmarked (lines (old ++ journal_text all))) j) journal loaded)
cut_end limits old front (b ∷ missing) start entries e whole first read lawful is =
    let known = read_before entries e read in
    let loaded : Loads limits [] (lines_unmarked (lines (old ++ journal_text entries))) (start ++ map without_pass entries) = gone_on limits old (journal_text entries) start entries whole first known.0 (lawful_before limits start entries e lawful) refl in
    let open_front : NoFeed front = front_is_open (journal_line e.user e.statement) front missing b (line_open e known.1) is in
    subst (λ (ls : List (List ℕ)). Loads limits [] (lines_unmarked ls) (start ++ map without_pass entries))
    (sym (lines_before (old ++ journal_text entries) front (whole_both old (journal_text entries) whole (whole_text entries)) open_front)) loaded

-- ---- by a keeper of lines that owes what is left of one
pub told_on : (limits : Limits) (old : List ℕ) (start kept : List Entry) (e : Entry) (begun mid keeper : LineKeeperState) → KeepsAll KeepsLine begun kept mid → OwesLine mid e keeper → IsLawful limits (start ++ kept ++ e ∷ [])
    → IsWhole old → Loads limits [] (lines_unmarked (lines old)) start → CanBeLoadedCut limits old begun.taken keeper.taken start kept e
told_on limits old start kept e begun mid keeper keeps owes lawful whole first =
    let known : AllByRecursion WasRead (kept ++ e ∷ []) = AllByRecursion-append WasRead kept (e ∷ []) (kept_were_read begun mid kept keeps) (owes.read, tt) in
    let behind : IsLawfulFrom limits start (kept ++ e ∷ []) = lawful_behind limits [] start (kept ++ e ∷ []) (subst (IsLawful limits) (append_assoc start kept (e ∷ [])) lawful) in
    record {
      front = owes.part;
      missing = owes.rest;
      line = owes.line;
      wrote = Appends-trans begun.taken mid.taken keeper.taken (journal_text kept) owes.part (kept-text begun mid kept keeps) owes.wrote;
      loads = subst (λ (bytes : List ℕ). LoadsCutEnd limits bytes (start ++ map without_pass kept) e owes.rest) (append_assoc old (journal_text kept) owes.part)
          (cut_end limits old owes.part owes.rest start kept e whole first known behind owes.line);
    }
