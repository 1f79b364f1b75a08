-- The line of a journal on its page, and read again.
use Rattle.std.proofs.Common.{◌≡◌, ℕ, ◌+◌, ◌≤◌, Bool, true, false, Option, Some, List, [], ◌∷◌, ◌++◌, length, drop, ap, sym, subst, ◌∙◌, refl, append_assoc, length-append, arith, All}
use Rattle.std.specs.Prelude.{if◌then◌else◌, nat_le, MatchOption}
use Rattle.std.proofs.Math.Seq.{drop-append_seam}
use Rattle.base_core.specs.declared.name.User.{User}
use Rattle.reader_core.specs.declared.statement.Statement.{Statement}
use Rattle.lexer_core.specs.Lexing.{IsProper}
use Rattle.reader_core.specs.Forming.{IsWellFormed}
use Rattle.reader_core.specs.Language.{Spells}
use Rattle.printer_core.specs.declared.spacing.Spacing.TheVariants as spacings
use Rattle.printer_core.specs.Printing.{added, at_front, canonical, minified, line_text, statement_text, ended_line}
use Rattle.reader_core.specs.Saying.{statement_says}
use Rattle.base_core.specs.Words.{IsName}
use Rattle.std.proofs.lemmas.List.Elements.{All-cons, All-append}
use Rattle.printer_core.specs.declared.spacing.Spacing.{Spacing}
use Rattle.printer_core.proofs.Back.{proper_read, spells_again, spells_back, spells_behind_blank}
use Rattle.printer_core.proofs.Plain.{IsHigh, name_high, spaced_high}
use Rattle.printer_core.proofs.Room.{added_short, beyond, fits_is, is_beyond, is_within, within}
use Rattle.printer_core.proofs.Shortest.{no_shorter}

behind_colon : (user rest : List ℕ) → drop (length user + 1) (user ++ 58 ∷ rest) ≡ rest
behind_colon user rest =
    let place : length user + 1 ≡ length (user ++ 58 ∷ []) = omega (arith, length-append user (58 ∷ [])) in
    ap (λ (k : ℕ). drop k (user ++ 58 ∷ rest)) place
    ∙ ap (drop (length (user ++ 58 ∷ []))) (sym (append_assoc user (58 ∷ []) rest))
    ∙ drop-append_seam (user ++ 58 ∷ []) rest

-- a line feed counts as one byte more
pub feed_counts : (xs : List ℕ) (most : ℕ) → nat_le (length (xs ++ 10 ∷ [])) (most + 1) ≡ nat_le (length xs) most
feed_counts xs most = go (nat_le (length xs) most) refl
  where
    go : (b : Bool) → nat_le (length xs) most ≡ b → nat_le (length (xs ++ 10 ∷ [])) (most + 1) ≡ nat_le (length xs) most
    go true e =
        let h = within (length xs) most e in
        is_within (length (xs ++ 10 ∷ [])) (most + 1) (omega (arith, length-append xs (10 ∷ []))) ∙ sym e
    go false e =
        let h = beyond (length xs) most e in
        is_beyond (length (xs ++ 10 ∷ [])) (most + 1) (omega (arith, length-append xs (10 ∷ []))) ∙ sym e

module _ (user : User) (s : Statement) where
  abbrev pub whole : List ℕ
  whole = line_text spacings.Canonical user s

  abbrev pub short : List ℕ
  short = line_text spacings.Minified user s

  whole_len : length whole ≡ length user.0 + 2 + length (canonical s)
  whole_len = omega (arith, length-append user.0 (58 ∷ 32 ∷ canonical s))

  short_len : length short ≡ length user.0 + 1 + length (minified s)
  short_len = omega (arith, length-append user.0 (58 ∷ minified s))

  abbrev pub line_by : Bool → List ℕ
  line_by fits = if fits then whole else short

  pub as_canonical : nat_le (length whole) 4096 ≡ true → added (Some []) (whole ++ 10 ∷ []) ≡ Some (ended_line user s)
  as_canonical e =
      let h = within (length whole) 4096 e in
      added_short (whole ++ 10 ∷ []) (omega (arith, length-append whole (10 ∷ []))) ∙ ap (λ (b : Bool). Some (line_by b ++ 10 ∷ [])) (sym e)

  -- whether the canonical line has at most 4,096 bytes before its line feed, by what stands on the page
  pub canonical_fits : (o : Option (List ℕ)) (r : Bool) → o ≡ added (Some []) (whole ++ 10 ∷ []) → MatchOption o (r ≡ false) (λ text. r ≡ nat_le (length text) 4097) → r ≡ nat_le (length whole) 4096
  canonical_fits o r is m = fits_is (whole ++ 10 ∷ []) o 4097 r is (omega arith) m ∙ feed_counts whole 4096

  pub as_minified : nat_le (length whole) 4096 ≡ false → length user.0 ≤ 30 → length (minified s) ≤ 4096 → added (Some []) (short ++ 10 ∷ []) ≡ Some (ended_line user s)
  as_minified e few k = added_short (short ++ 10 ∷ []) (omega (arith, short_len, length-append short (10 ∷ []))) ∙ ap (λ (b : Bool). Some (line_by b ++ 10 ∷ [])) (sym e)

  -- a line that fits in canonical text has a minified one that fits, since no line is shorter
  pub fits_minified : IsWellFormed s → All IsProper (statement_says s) → nat_le (length whole) 4096 ≡ true → nat_le (length (minified s)) 4096 ≡ true
  fits_minified well_formed proper e =
      let h = within (length whole) 4096 e in
      let few : length (canonical s) ≤ 4096 = omega (arith, whole_len) in
      let shorter = no_shorter (canonical s) s (spells_back spacings.Canonical s well_formed proper few) in
      is_within (length (minified s)) 4096 (omega arith)

  -- whether the minified line has at most 4,096 bytes behind the colon
  pub behind_fits : nat_le (length short) (length user.0 + 1 + 4096) ≡ nat_le (length (minified s)) 4096
  behind_fits = go (nat_le (length short) (length user.0 + 1 + 4096)) refl
    where
      go : (b : Bool) → nat_le (length short) (length user.0 + 1 + 4096) ≡ b → b ≡ nat_le (length (minified s)) 4096
      go true e =
          let h = within (length short) (length user.0 + 1 + 4096) e in
          sym (is_within (length (minified s)) 4096 (omega (arith, short_len)))
      go false e =
          let h = beyond (length short) (length user.0 + 1 + 4096) e in
          sym (is_beyond (length (minified s)) 4096 (omega (arith, short_len)))

  pub at_most : (fits : Bool) → nat_le (length whole) 4096 ≡ fits → length user.0 ≤ 30 → length (minified s) ≤ 4096 → length (line_by fits) ≤ 4128
  at_most true e few k = let h = within (length whole) 4096 e in omega arith
  at_most false e few k = omega (arith, short_len)

  pub spelled_behind : (line : List ℕ) → Spells line s → (fits : Bool) → nat_le (length whole) 4096 ≡ fits → Spells (drop (length user.0 + 1) (line_by fits)) s
  spelled_behind line p true e =
      let h = within (length whole) 4096 e in
      subst (λ (x : List ℕ). Spells x s) (sym (behind_colon user.0 (32 ∷ canonical s))) (spells_behind_blank spacings.Canonical line s p (omega (arith, whole_len)))
  spelled_behind line p false e =
      subst (λ (x : List ℕ). Spells x s) (sym (behind_colon user.0 (minified s))) (spells_again spacings.Minified line s p (omega (arith, no_shorter line s p, p.says.short)))

  pub high_by : (line : List ℕ) → Spells line s → IsName user.0 → (fits : Bool) → All IsHigh (line_by fits)
  high_by line p name fits = by fits
    where
      statement_high : (spacing : Spacing) → All IsHigh (statement_text spacing s)
      statement_high spacing = spaced_high spacing at_front (statement_says s) (proper_read line s p)

      by : (fits : Bool) → All IsHigh (line_by fits)
      by true = All-append IsHigh user.0 (58 ∷ 32 ∷ canonical s) (name_high user.0 name) (All-cons IsHigh 58 (32 ∷ canonical s) (omega arith) (All-cons IsHigh 32 (canonical s) (omega arith) (statement_high spacings.Canonical)))
      by false = All-append IsHigh user.0 (58 ∷ minified s) (name_high user.0 name) (All-cons IsHigh 58 (minified s) (omega arith) (statement_high spacings.Minified))
