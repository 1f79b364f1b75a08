-- What is printed is read back.
use Rattle.std.proofs.Common.{◌≡◌, ℕ, ◌+◌, ◌<◌, ◌≤◌, Bool, true, false, ◌||◌, List, [], ◌∷◌, ◌++◌, length, drop, get_or, All, ap, sym, subst, ◌∙◌, refl, append_assoc, length-append, arith, ◌⊎◌, inl, inr}
use Rattle.std.specs.Prelude.{◌==◌, not, slice_index}
use Rattle.std.proofs.lemmas.Bool.Decides.{nat_tests}
use Rattle.std.proofs.lemmas.List.{append-nil, get_or-append-add, get_or_append_left}
use Rattle.std.proofs.lemmas.List.Elements.{All-nil, All-cons, All-head, All-tail, All-same}
use Rattle.std.proofs.Math.Seq.{drop-append_seam, take-append_seam, get_or-append_seam}
use Rattle.base_core.specs.Words.{is_word_byte}
use Rattle.lexer_core.specs.Lexing.{IsProper, Lexeme, Key, Named, Number, Text, Sign, SpellsLexeme, BeginsLexeme, Lexed, start, blank, token, goes_on, mark_goes_on, kind_of, is_blank}
use Rattle.lexer_core.specs.declared.token.Mark.{Mark}
use Rattle.lexer_core.specs.declared.token.Mark.TheVariants as marks
use Rattle.lexer_core.specs.declared.token.Token as tokens
use Rattle.printer_core.specs.declared.spacing.LastToken.{LastToken}
use Rattle.lexer_core.proofs.Proper.{proper_lexed}
use Rattle.reader_core.specs.declared.statement.Statement.{Statement}
use Rattle.reader_core.specs.Saying.{statement_says}
use Rattle.reader_core.specs.Forming.{IsWellFormed}
use Rattle.reader_core.specs.Language.{SaysStatement, Spells}
use Rattle.printer_core.specs.declared.spacing.Spacing.{Spacing}
use Rattle.printer_core.specs.declared.spacing.Spacing.TheVariants as spacings
use Rattle.printer_core.specs.Printing.{spaced_text, gap, lexeme_text, is_opening, is_trailing, is_parted, blank_if, as_last, runs_on, at_front, statement_text}
use Rattle.printer_core.proofs.Spelling.{lexeme_spells, some_text}

-- ---- where a token ends
mark_stops : (m : Mark) (b : ℕ) → (b == 61) ≡ false → (b == 62) ≡ false → mark_goes_on m b ≡ false
mark_stops marks.Less b e f = ap (λ x. x || (b == 62)) e ∙ f
mark_stops marks.Greater b e f = e
mark_stops _ b e f = refl

stops : (l : Lexeme) (b : ℕ) → is_word_byte b ≡ false → (b == 39) ≡ false → (b == 61) ≡ false → (b == 62) ≡ false → goes_on l b ≡ false
stops (Key k) b w q e f = w
stops (Named n) b w q e f = w
stops (Number z) b w q e f = w
stops (Text t) b w q e f = q
stops (Sign m) b w q e f = mark_stops m b e f

open_stops : (l : Lexeme) (b : ℕ) → is_opening (as_last l) ≡ true → goes_on l b ≡ false
open_stops (Sign marks.Open) b e = refl
open_stops _ b e = cc

trailing_stops : (l : Lexeme) (b : ℕ) → is_trailing b ≡ true → goes_on l b ≡ false
trailing_stops l b e = stops l b (grind (arith, nat_tests)) (grind (arith, nat_tests)) (grind (arith, nat_tests)) (grind (arith, nat_tests))

pub runs_on_is : (l : Lexeme) (b : ℕ) → runs_on (as_last l) b ≡ goes_on l b
runs_on_is (Key k) b = refl
runs_on_is (Named n) b = refl
runs_on_is (Number z) b = refl
runs_on_is (Text t) b = refl
runs_on_is (Sign marks.Open) b = refl
runs_on_is (Sign marks.Less) b = refl
runs_on_is (Sign marks.Greater) b = refl
runs_on_is (Sign _) b = refl

-- where no blank stands between two tokens, the first ends
apart : (spacing : Spacing) (l : Lexeme) (b : ℕ) → is_parted spacing (as_last l) b ≡ false → goes_on l b ≡ false
apart spacings.Canonical l b e = in_canonical (is_opening (as_last l)) refl (is_trailing b) refl e
  where
    in_canonical : (opening : Bool) → is_opening (as_last l) ≡ opening → (trailing : Bool) → is_trailing b ≡ trailing → not (opening || trailing) ≡ false → goes_on l b ≡ false
    in_canonical true o trailing t e = open_stops l b o
    in_canonical false o true t e = trailing_stops l b t
    in_canonical false o false t e = cc e
apart spacings.Minified l b e = sym (runs_on_is l b) ∙ e

first_of : (text rest : List ℕ) → 0 < length text → slice_index (text ++ rest) 0 ≡ slice_index text 0
first_of text rest some = get_or_append_left text rest 0 0 some

-- what print puts behind a token ends it
next_stops : (spacing : Spacing) (l : Lexeme) (ls : List Lexeme) → All IsProper ls → goes_on l (slice_index (spaced_text spacing (as_last l) ls) 0) ≡ false
next_stops spacing l [] p = stops l 0 refl refl refl refl
next_stops spacing l (m ∷ ms) p = go (is_parted spacing (as_last l) (slice_index (lexeme_text m) 0)) refl
  where
    go : (b : Bool) → is_parted spacing (as_last l) (slice_index (lexeme_text m) 0) ≡ b → goes_on l (slice_index (blank_if b ++ (lexeme_text m ++ spaced_text spacing (as_last m) ms)) 0) ≡ false
    go true e = stops l 32 refl refl refl refl
    go false e = ap (goes_on l) (first_of (lexeme_text m) (spaced_text spacing (as_last m) ms) (some_text m (All-head IsProper m ms p))) ∙ apart spacing l (slice_index (lexeme_text m) 0) e

begins : (l : Lexeme) (rest : List ℕ) → IsProper l → goes_on l (slice_index rest 0) ≡ false → BeginsLexeme (lexeme_text l ++ rest) l (length (lexeme_text l))
begins l rest p e =
    let text = lexeme_text l in
    let place : length text ≡ length text + 0 = omega arith in
    record {
      some = some_text l p;
      within = omega (arith, length-append text rest);
      spelled = subst (SpellsLexeme l) (sym (take-append_seam text rest)) (lexeme_spells l p);
      ends = ap (goes_on l) (ap (λ (k : ℕ). get_or (text ++ rest) k 0) place ∙ get_or-append-add text rest 0 0) ∙ e;
    }

-- ---- along the line
gap_by : (b : Bool) → (blank_if b ≡ []) ⊎ (blank_if b ≡ 32 ∷ [])
gap_by true = inr refl
gap_by false = inl refl

gap_is : (spacing : Spacing) (last : LastToken) (text : List ℕ) → (gap spacing last text ≡ []) ⊎ (gap spacing last text ≡ 32 ∷ [])
gap_is spacing last text = gap_by (is_parted spacing last (slice_index text 0))

past_gap : (line before more g : List ℕ) (ts : List tokens.Token) (said : List Lexeme) → (g ≡ []) ⊎ (g ≡ 32 ∷ []) → line ≡ before ++ (g ++ more) → Lexed line (length before) ts said → Lexed line (length (before ++ g)) ts said
past_gap line before more g ts said (inl none) e m =
    subst (λ (x : List ℕ). Lexed line (length x) ts said) (sym (ap (λ (x : List ℕ). before ++ x) none ∙ append-nil before)) m
past_gap line before more g ts said (inr space) e m =
    let f : line ≡ before ++ 32 ∷ more = e ∙ ap (λ (x : List ℕ). before ++ (x ++ more)) space in
    let here : slice_index line (length before) ≡ 32 = ap (λ (x : List ℕ). slice_index x (length before)) f ∙ get_or-append_seam before 32 more 0 in
    let size : length line ≡ length (before ++ 32 ∷ more) = ap length f in
    let place : length before + 1 ≡ length (before ++ g) = sym (ap (λ (x : List ℕ). length (before ++ x)) space ∙ length-append before (32 ∷ [])) in
    subst (λ (k : ℕ). Lexed line k ts said) place (blank m (omega (arith, length-append before (32 ∷ more))) (ap is_blank here))

lexed_on : (spacing : Spacing) (line before : List ℕ) (last : LastToken) (ls : List Lexeme) (ts : List tokens.Token) (said : List Lexeme) → line ≡ before ++ spaced_text spacing last ls → Lexed line (length before) ts said → All IsProper ls → (all : List tokens.Token) × Lexed line (length line) all (said ++ ls)
lexed_on spacing line before last [] ts said e m p =
    (ts, subst (λ (x : List ℕ). Lexed line (length x) ts (said ++ [])) (sym (e ∙ append-nil before)) (subst (λ (x : List Lexeme). Lexed line (length before) ts x) (sym (append-nil said)) m))
lexed_on spacing line before last (l ∷ ls) ts said e m p =
    let rest = spaced_text spacing (as_last l) ls in
    let text = lexeme_text l in
    let space = gap spacing last text in
    let here = before ++ space in
    let spaced : Lexed line (length here) ts said = past_gap line before (text ++ rest) space ts said (gap_is spacing last text) e m in
    let split : line ≡ here ++ (text ++ rest) = e ∙ sym (append_assoc before space (text ++ rest)) in
    let left : drop (length here) line ≡ text ++ rest = ap (drop (length here)) split ∙ drop-append_seam here (text ++ rest) in
    let first : BeginsLexeme (drop (length here) line) l (length text) = subst (λ (x : List ℕ). BeginsLexeme x l (length text)) (sym left) (begins l rest (All-head IsProper l ls p) (next_stops spacing l ls (All-tail IsProper l ls p))) in
    let t : tokens.Token = record { kind = kind_of l; start = length here; end = length here + length text } in
    let next : Lexed line (length (here ++ text)) (ts ++ t ∷ []) (said ++ l ∷ []) = subst (λ (k : ℕ). Lexed line k (ts ++ t ∷ []) (said ++ l ∷ [])) (sym (length-append here text)) (token spaced first) in
    let more = lexed_on spacing line (here ++ text) (as_last l) ls (ts ++ t ∷ []) (said ++ l ∷ []) (split ∙ sym (append_assoc here text rest)) next (All-tail IsProper l ls p) in
    (more.0, subst (λ (x : List Lexeme). Lexed line (length line) more.0 x) (append_assoc said (l ∷ []) ls) more.1)

-- the text of a statement spells it
pub spells_back : (spacing : Spacing) (s : Statement) → IsWellFormed s → All IsProper (statement_says s) → length (statement_text spacing s) ≤ 4096 → Spells (statement_text spacing s) s
spells_back spacing s well_formed p h =
    let text = statement_text spacing s in
    let r = lexed_on spacing text [] at_front (statement_says s) [] [] refl start p in
    record { said = statement_says s; says = record { short = h; tokens_of = r.0; lexed = r.1 }; statement_of = inl refl; well_formed = well_formed }

-- ---- what was read, printed
front_proper : (xs ys : List Lexeme) → All IsProper (xs ++ ys) → All IsProper xs
front_proper [] ys h = All-nil IsProper
front_proper (x ∷ xs) ys h = All-cons IsProper x xs (All-head IsProper x (xs ++ ys) h) (front_proper xs ys (All-tail IsProper x (xs ++ ys) h))

proper_said : (said : List Lexeme) (s : Statement) → All IsProper said → SaysStatement said s → All IsProper (statement_says s)
proper_said said s h (inl e) = All-same IsProper (statement_says s) said (sym e) h
proper_said said s h (inr e) = front_proper (statement_says s) _ (All-same IsProper _ said (sym e) h)

pub proper_read : (line : List ℕ) (s : Statement) → Spells line s → All IsProper (statement_says s)
proper_read line s p = proper_said p.said s (proper_lexed line (length line) p.says.tokens_of p.said p.says.lexed) p.statement_of

-- so the text of a statement that some line spells spells it too
pub spells_again : (spacing : Spacing) (line : List ℕ) (s : Statement) → Spells line s → length (statement_text spacing s) ≤ 4096 → Spells (statement_text spacing s) s
spells_again spacing line s p h = spells_back spacing s p.well_formed (proper_read line s p) h

-- and so it does behind a blank
pub spells_behind_blank : (spacing : Spacing) (line : List ℕ) (s : Statement) → Spells line s → length (32 ∷ statement_text spacing s) ≤ 4096 → Spells (32 ∷ statement_text spacing s) s
spells_behind_blank spacing line s p h =
    let text = 32 ∷ statement_text spacing s in
    let r = lexed_on spacing text (32 ∷ []) at_front (statement_says s) [] [] refl (blank start (omega arith) refl) (proper_read line s p) in
    record { said = statement_says s; says = record { short = h; tokens_of = r.0; lexed = r.1 }; statement_of = inl refl; well_formed = p.well_formed }
