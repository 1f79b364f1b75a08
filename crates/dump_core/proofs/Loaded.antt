-- The lines of a dump load it.
use Rattle.std.proofs.Common.{◌≡◌, ℕ, List, [], ◌∷◌, ◌++◌, Option, map, refl, sym, ap, subst, ◌∙◌}
use Rattle.std.specs.List.{AllByRecursion, flat_map}
use Rattle.std.specs.Str.Lines.{lines}
use Rattle.std.proofs.lemmas.List.{map-append}
use Rattle.base_core.specs.declared.name.Name.{Name}
use Rattle.base_core.specs.declared.limits.Limits.{Limits}
use Rattle.printer_core.specs.Printing.{minified}
use Rattle.tables_core.specs.Contents.{Table}
use Rattle.system_core.specs.Journal.{tables_at, rights_at}
use Rattle.system_core.specs.declared.machine.event.Entry.{Entry}
use Rattle.journal_core.specs.Text.{journal_lines, journal_text, WasRead}
use Rattle.load_core.specs.Kept.{CanBeLoaded}
use Rattle.load_core.specs.Loading.{Loads, lines_unmarked, without_pass}
use Rattle.load_core.proofs.Again.{whole_text}
use Rattle.load_core.proofs.Text.{lines_are}
use Rattle.load_core.proofs.Written.{loads, lines_unmarked_is}
use Rattle.dump_core.specs.Dump.{creation, insertions, insertion, granting, grants_together, dump}
use Rattle.dump_core.specs.Laws.{MayBeDumped}
use Rattle.dump_core.specs.Ending.{HasLine, WritesLines}
use Rattle.dump_core.proofs.Dumped.{dump-lawful}

was_read : (es : List Entry) → AllByRecursion HasLine es → AllByRecursion WasRead es
was_read [] h = tt
was_read (e ∷ es) h = (record { line = minified e.statement; spelled = h.0.spelled; name = h.0.name }, was_read es h.1)

-- no entry of a dump bears another pass than 0
same_passes : {A : Type 0} (f : A → Entry) (xs : List A) → ((x : A) → without_pass (f x) ≡ f x) → map without_pass (map f xs) ≡ map f xs
same_passes f [] h = refl
same_passes f (x ∷ xs) h = ap (λ (e : Entry). e ∷ map without_pass (map f xs)) (h x) ∙ ap (λ (es : List Entry). f x ∷ es) (same_passes f xs h)

same_insertions : (ts : List (Name × Table)) → map without_pass (flat_map insertions ts) ≡ flat_map insertions ts
same_insertions [] = refl
same_insertions (t ∷ ts) =
    map-append without_pass (insertions t) (flat_map insertions ts)
    ∙ ap (λ (es : List Entry). es ++ map without_pass (flat_map insertions ts)) (same_passes (insertion t.0 t.1.owner) t.1.rows (λ r. refl))
    ∙ ap (λ (es : List Entry). insertions t ++ es) (same_insertions ts)

passes : (journal : List Entry) → map without_pass (dump journal) ≡ dump journal
passes journal =
    let ts = tables_at journal in
    let made = map granting (grants_together (rights_at journal).in_force) in
    map-append without_pass (map creation ts) (flat_map insertions ts ++ made)
    ∙ ap (λ (es : List Entry). es ++ map without_pass (flat_map insertions ts ++ made)) (same_passes creation ts (λ t. refl))
    ∙ ap (λ (es : List Entry). map creation ts ++ es)
    (map-append without_pass (flat_map insertions ts) made
    ∙ ap (λ (es : List Entry). es ++ map without_pass made) (same_insertions ts)
    ∙ ap (λ (es : List Entry). flat_map insertions ts ++ es) (same_passes granting (grants_together (rights_at journal).in_force) (λ g. refl)))

pub dump-loaded : (limits : Limits) (journal : List Entry) (taken taken' : Option (List ℕ)) → MayBeDumped limits journal → WritesLines (dump journal) taken taken' → CanBeLoaded limits taken taken' (dump journal)
dump-loaded limits journal taken taken' may w =
    let read = was_read (dump journal) w.each in
    let as_lines : lines_unmarked (lines (journal_text (dump journal))) ≡ journal_lines (dump journal) = ap lines_unmarked (lines_are (dump journal) read) ∙ lines_unmarked_is (dump journal) read in
    let loaded : Loads limits [] (journal_lines (dump journal)) (map without_pass (dump journal)) = loads limits [] (dump journal) (dump-lawful limits journal may) read in
    record {
      text = journal_text (dump journal);
      wrote = w.wrote;
      whole = whole_text (dump journal);
      loads = subst (λ (ls : List (List ℕ)). Loads limits [] ls (dump journal)) (sym as_lines) (subst (λ (es : List Entry). Loads limits [] (journal_lines (dump journal)) es) (passes journal) loaded);
    }
