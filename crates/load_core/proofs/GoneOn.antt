-- A file that loads a journal, gone on with.
use Rattle.std.proofs.Common.{◌≡◌, ◌≢◌, ℕ, Bool, true, false, Option, List, [], ◌∷◌, ◌++◌, Ok, length, map, drop, refl, sym, ap, subst, ◌∙◌, append_assoc, append-nil, inl, inr, arith}
use Rattle.std.specs.Prelude.{◌==◌, None, is_some}
use Rattle.std.specs.List.{AllByRecursion}
use Rattle.std.specs.Str.Lines.{lines, strip_carriage_return}
use Rattle.std.proofs.lemmas.List.{map-append}
use Rattle.base_core.specs.declared.limits.Limits.{Limits}
use Rattle.folder_core.specs.declared.errand.Errand.{Errand}
use Rattle.lines_core.specs.Serving.{Traffic}
use Rattle.lines_core.specs.Lines.{Cut, NoFeed, IsWhole}
use Rattle.lines_core.proofs.LineLemmas.{Cut-nil, Cut-append, Cut-open, Cut-feed, lines-Cut, last_line}
use Rattle.system_core.specs.Journal.{IsLawfulFrom, IsLawful}
use Rattle.system_core.specs.World.{World, IsLawfulWorld}
use Rattle.system_core.specs.declared.machine.event.Entry.{Entry}
use Rattle.journal_core.specs.Text.{journal_lines, journal_text, WasRead}
use Rattle.journal_core.specs.Keeping.{KeepsAll, LineKeeperState, KeepsLine, line_rules}
use Rattle.journal_core.proofs.Kept.{kept-text}
use Rattle.journal_core.specs.Recorder.{with_keeper}
use Rattle.script_core.specs.Keeping.{EndsKeptFrom}
use Rattle.script_core.proofs.KeptLemmas.{grown-kept}
use Rattle.load_core.specs.Kept.{CanBeLoadedBehind}
use Rattle.load_core.specs.Loading.{Loads, lines_unmarked, without_pass}
use Rattle.load_core.proofs.Again.{whole_text, loaded_passes, loaded_said}
use Rattle.load_core.proofs.Said.{WasSaid, Said, ends-said, no_pass}
use Rattle.load_core.proofs.Text.{lines_are}
use Rattle.load_core.proofs.Written.{loads, lines_unmarked_is}

-- ---- bytes are cut at their line feeds
record Parts (bytes : List ℕ) : Type 0 where
  parts : List (List ℕ)
  rest : List ℕ
  cut : Cut bytes parts rest

no_feed_more : (rest : List ℕ) (b : ℕ) → NoFeed rest → b ≢ 10 → NoFeed (rest ++ b ∷ [])
no_feed_more [] b h other = (other, tt)
no_feed_more (x ∷ xs) b h other = (h.0, no_feed_more xs b h.1 other)

parts_by : (feed : Bool) (rest : List ℕ) (b : ℕ) (bs : List ℕ) → (b == 10) ≡ feed → NoFeed rest → ((new : List ℕ) → NoFeed new → Parts (new ++ bs)) → Parts (rest ++ b ∷ bs)
parts_by true rest b bs is open_rest more =
    let p = more [] tt in
    let ends : b ≡ 10 = grind (arith, is) in
    let cut : Cut ((rest ++ 10 ∷ []) ++ bs) (rest ∷ p.parts) p.rest = Cut-append (rest ++ 10 ∷ []) bs (rest ∷ []) p.parts [] p.rest (Cut-feed rest open_rest) p.cut in
    let same : (rest ++ 10 ∷ []) ++ bs ≡ rest ++ b ∷ bs = append_assoc rest (10 ∷ []) bs ∙ ap (λ (n : ℕ). rest ++ n ∷ bs) (sym ends) in
    record { parts = rest ∷ p.parts; rest = p.rest; cut = subst (λ (t : List ℕ). Cut t (rest ∷ p.parts) p.rest) same cut }
parts_by false rest b bs is open_rest more =
    let p = more (rest ++ b ∷ []) (no_feed_more rest b open_rest (λ (e : b ≡ 10). grind (arith, is, e))) in
    record { parts = p.parts; rest = p.rest; cut = subst (λ (t : List ℕ). Cut t p.parts p.rest) (append_assoc rest (b ∷ []) bs) p.cut }

parts_behind : (bytes rest : List ℕ) → NoFeed rest → Parts (rest ++ bytes)
parts_behind [] rest open_rest = record { parts = []; rest = rest; cut = subst (λ (t : List ℕ). Cut t [] rest) (sym (append-nil rest)) (Cut-open rest open_rest) }
parts_behind (b ∷ bs) rest open_rest = parts_by (b == 10) rest b bs refl open_rest (λ new h. parts_behind bs new h)

-- whole lines are parts and no rest
pub whole_cut : (old : List ℕ) → IsWhole old → (parts : List (List ℕ)) × Cut old parts []
whole_cut old (inl none) = ([], subst (λ (t : List ℕ). Cut t [] []) (sym none) Cut-nil)
whole_cut old (inr (front, is)) =
    let p = parts_behind front [] tt in
    (p.parts ++ p.rest ∷ [], subst (λ (t : List ℕ). Cut t (p.parts ++ p.rest ∷ []) []) (sym is) (Cut-append front (10 ∷ []) p.parts (p.rest ∷ []) p.rest [] p.cut (Cut-feed p.rest p.cut.open_rest)))

-- what stands behind whole lines has its own lines
lines_more : (old text : List ℕ) → IsWhole old → lines (old ++ text) ≡ lines old ++ lines text
lines_more old text whole =
    let c = whole_cut old whole in
    let p = parts_behind text [] tt in
    let all = Cut-append old text c.0 p.parts [] p.rest c.1 p.cut in
    lines-Cut (old ++ text) (c.0 ++ p.parts) p.rest all
    ∙ ap (λ (ls : List (List ℕ)). ls ++ last_line p.rest) (map-append strip_carriage_return c.0 p.parts)
    ∙ append_assoc (map strip_carriage_return c.0) (map strip_carriage_return p.parts) (last_line p.rest)
    ∙ ap (λ (ls : List (List ℕ)). map strip_carriage_return c.0 ++ ls) (sym (lines-Cut text p.parts p.rest p.cut))
    ∙ ap (λ (ls : List (List ℕ)). ls ++ lines text) (sym (lines-Cut old c.0 [] c.1 ∙ append-nil (map strip_carriage_return c.0)))

-- a journal's line has no mark, also where it is the first
unmarked_behind : (ls : List (List ℕ)) (entries : List Entry) → AllByRecursion WasRead entries → lines_unmarked (ls ++ journal_lines entries) ≡ lines_unmarked ls ++ journal_lines entries
unmarked_behind [] entries read = lines_unmarked_is entries read
unmarked_behind (line ∷ ls) entries read = refl

-- ---- what is loaded, line after line
Loads-append : (limits : Limits) (before mid after : List Entry) (xs ys : List (List ℕ)) → Loads limits before xs mid → Loads limits mid ys after → Loads limits before (xs ++ ys) after
Loads-append limits before mid after [] ys first second = subst (λ (j : List Entry). Loads limits j ys after) first second
Loads-append limits before mid after (x ∷ xs) ys (e, says, more) second = (e, says, Loads-append limits (before ++ e ∷ []) mid after xs ys more second)

-- what stands behind lawful entries goes on from them
pub lawful_behind : (limits : Limits) (before front rest : List Entry) → IsLawfulFrom limits before (front ++ rest) → IsLawfulFrom limits (before ++ front) rest
lawful_behind limits before [] rest lawful = subst (λ (j : List Entry). IsLawfulFrom limits j rest) (sym (append-nil before)) lawful
lawful_behind limits before (e ∷ front) rest lawful =
    subst (λ (j : List Entry). IsLawfulFrom limits j rest) (append_assoc before (e ∷ []) front) (lawful_behind limits (before ++ e ∷ []) front rest lawful.2)

pub bare : (es : List Entry) → AllByRecursion (λ e. e.pass ≡ 0) es → map without_pass es ≡ es
bare [] all = refl
bare (e ∷ es) all =
    ap (λ (p : ℕ). record e { pass = p } ∷ map without_pass es) (sym all.0) ∙ ap (λ (xs : List Entry). e ∷ xs) (bare es all.1)

-- **a file that loads a journal, gone on with, loads what it came to**
pub gone_on : (limits : Limits) (old text : List ℕ) (start entries : List Entry) → IsWhole old → Loads limits [] (lines_unmarked (lines old)) start → AllByRecursion WasRead entries → IsLawfulFrom limits start entries → text ≡ journal_text entries
    → Loads limits [] (lines_unmarked (lines (old ++ text))) (start ++ map without_pass entries)
gone_on limits old text start entries whole first read lawful is =
    let same : map without_pass start ≡ start = bare start (loaded_passes limits [] start (lines_unmarked (lines old)) first tt) in
    let written : Loads limits (map without_pass start) (journal_lines entries) (map without_pass (start ++ entries)) = loads limits start entries lawful read in
    let after : map without_pass (start ++ entries) ≡ start ++ map without_pass entries = map-append without_pass start entries ∙ ap (λ (j : List Entry). j ++ map without_pass entries) same in
    let second : Loads limits start (journal_lines entries) (start ++ map without_pass entries) =
    subst (λ (j : List Entry). Loads limits j (journal_lines entries) (start ++ map without_pass entries)) same
    (subst (λ (j : List Entry). Loads limits (map without_pass start) (journal_lines entries) j) after written) in
    let all : lines_unmarked (lines (old ++ text)) ≡ lines_unmarked (lines old) ++ journal_lines entries =
    ap lines_unmarked (lines_more old text whole ∙ ap (λ (t : List ℕ). lines old ++ lines t) is ∙ ap (λ (ls : List (List ℕ)). lines old ++ ls) (lines_are entries read)) ∙ unmarked_behind (lines old) entries read in
    subst (λ (ls : List (List ℕ)). Loads limits [] ls (start ++ map without_pass entries)) (sym all)
    (Loads-append limits [] start (start ++ map without_pass entries) (lines_unmarked (lines old)) (journal_lines entries) first second)

-- ---- by a keeper of lines
drop-behind : {A : Type 0} (front rest : List A) → drop (length front) (front ++ rest) ≡ rest
drop-behind [] rest = refl
drop-behind (x ∷ front) rest = drop-behind front rest

pub kept_were_read : (begun keeper : LineKeeperState) (es : List Entry) → KeepsAll KeepsLine begun es keeper → AllByRecursion WasRead es
kept_were_read begun keeper [] kept = tt
kept_were_read begun keeper (e ∷ es) (mid, one, more) = (one.read, kept_were_read mid keeper es more)

kept_behind : (limits : Limits) (old : List ℕ) (start rest : List Entry) (begun keeper : LineKeeperState) → KeepsAll KeepsLine begun rest keeper → IsLawfulFrom limits start rest → IsWhole old → Loads limits [] (lines_unmarked (lines old)) start
    → CanBeLoadedBehind limits old begun.taken keeper.taken (start ++ map without_pass rest)
kept_behind limits old start rest begun keeper kept lawful whole first = record {
  text = journal_text rest;
  wrote = kept-text begun keeper rest kept;
  whole = whole_text rest;
  loads = gone_on limits old (journal_text rest) start rest whole first (kept_were_read begun keeper rest kept) lawful refl;
}

-- **of a journal that was gone on with**
pub kept_on : (limits : Limits) (old : List ℕ) (start rest journal : List Entry) (begun keeper : LineKeeperState) → KeepsAll KeepsLine begun (drop (length start) journal) keeper → journal ≡ start ++ rest → IsLawful limits journal → IsWhole old
    → Loads limits [] (lines_unmarked (lines old)) start → CanBeLoadedBehind limits old begun.taken keeper.taken (start ++ map without_pass rest)
kept_on limits old start rest journal begun keeper kept is lawful whole first =
    let behind : drop (length start) journal ≡ rest = ap (drop (length start)) is ∙ drop-behind start rest in
    kept_behind limits old start rest begun keeper (subst (λ (es : List Entry). KeepsAll KeepsLine begun es keeper) behind kept)
    (lawful_behind limits [] start rest (subst (IsLawful limits) is lawful)) whole first

-- ---- of a script that was gone on with
said_behind : (front rest : List Entry) → AllByRecursion WasSaid (front ++ rest) → AllByRecursion WasSaid rest
said_behind [] rest said = said
said_behind (e ∷ front) rest said = said_behind front rest said.1

pub script_on : (may_run : Option (List ℕ) → Errand → Type 0) (knows : Bool) (start new : World) (old : List ℕ) (keeper keeper' : LineKeeperState) (traffic : Traffic) → keeper.owed ≡ None → IsLawfulWorld start → IsWhole old → Loads start.limits [] (lines_unmarked (lines old)) start.journal
    → EndsKeptFrom (line_rules may_run knows) start (Ok new) keeper keeper' traffic
    → CanBeLoadedBehind start.limits old keeper.taken keeper'.taken new.journal
script_on may_run knows start new old keeper keeper' traffic nothing lawful whole first ends =
    let began : Said start.limits start = (lawful, loaded_said start.limits [] start.journal (lines_unmarked (lines old)) first tt, refl) in
    let said : Said start.limits new = ends-said (line_rules may_run knows) start.limits (Ok tt) (with_keeper start keeper) (with_keeper new keeper') traffic began ends.1 in
    let k = grown-kept (line_rules may_run knows) start new keeper keeper' traffic (ap is_some nothing) ends in
    let rest = k.entries in
    let all : AllByRecursion WasSaid (start.journal ++ rest) = subst (AllByRecursion WasSaid) k.journal said.1 in
    let lawful_then : IsLawful start.limits (start.journal ++ rest) = subst (λ (l : Limits). IsLawful l (start.journal ++ rest)) said.2 (subst (IsLawful new.limits) k.journal said.0.journal) in
    let loaded = kept_behind start.limits old start.journal rest keeper keeper' k.kept (lawful_behind start.limits [] start.journal rest lawful_then) whole first in
    let same : start.journal ++ map without_pass rest ≡ new.journal = ap (λ (es : List Entry). start.journal ++ es) (no_pass rest (said_behind start.journal rest all)) ∙ sym k.journal in
    subst (λ (j : List Entry). CanBeLoadedBehind start.limits old keeper.taken keeper'.taken j) same loaded
