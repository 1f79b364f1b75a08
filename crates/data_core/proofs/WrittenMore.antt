-- More text is written to the journal.
use Rattle.std.proofs.Common.{◌≡◌, ◌≢◌, ℕ, true, false, Option, Some, None, List, [], ◌∷◌, ◌++◌, length, refl, sym, ap, subst, ◌∙◌, append_assoc, append-nil, length-append, arith}
use Rattle.std.specs.List.{AllByRecursion}
use Rattle.std.proofs.lemmas.List.Concat.{flat_map-append}
use Rattle.std.specs.Io.KnownBytes.{Appends}
use Rattle.folder_core.specs.FileNames.{piece}
use Rattle.folder_core.specs.Texts.{line_text, lines_text, part_text, IsInOneLine}
use Rattle.folder_core.specs.Calls.{TextState, Moves, WritesText, part_in, part_of, part_at}
use Rattle.data_core.specs.Written.{text_of, text_written, is_some_text}

module _ (text : List ℕ) (s t : TextState) (w : WritesText text s t) where
  pub phase_is : t.phase ≡ s.phase
  phase_is = ap (λ (x : TextState). x.phase) w.is

  pub part_was : part_at s.phase s.disk ≡ part_text w.file.part
  part_was = ap (λ p. part_at p s.disk) w.serves ∙ (ap (part_of s.disk) w.here ∙ ap part_in w.wrote.was)

  pub part_is : part_at t.phase t.disk ≡ part_text w.part
  part_is = ap (λ p. part_at p t.disk) (phase_is ∙ w.serves) ∙ (ap (part_of t.disk) (w.wrote.now (piece w.first) ∙ w.here) ∙ ap part_in w.wrote.is)

  pub text_more : text_of t ≡ text_of s ++ text
  text_more =
      let front : List ℕ = lines_text s.journal in
      ap (λ (x : TextState). lines_text x.journal ++ part_at t.phase t.disk) w.is
      ∙ (ap (λ z. z ++ part_at t.phase t.disk) (flat_map-append line_text s.journal w.lines)
      ∙ (ap (λ z. (front ++ lines_text w.lines) ++ z) part_is
      ∙ (append_assoc front (lines_text w.lines) (part_text w.part)
      ∙ (ap (λ z. front ++ z) (sym w.text_is)
      ∙ (sym (append_assoc front (part_text w.file.part) text)
      ∙ ap (λ z. (front ++ z) ++ text) (sym part_was))))))

-- ---- where the state is known
pub written_more : (text : List ℕ) (o p : Option TextState) → Moves (WritesText text) o p → Appends (text_written o) (text_written p) text
written_more text None p moved = tt
written_more text (Some s) p (t, is, w) = subst (λ (x : Option TextState). Appends (Some (text_of s)) (text_written x) text) (sym is) (text_more text s t w)

-- ---- whether a part of a line stands at the end
-- the last byte, or this one
abbrev last_or : ℕ → List ℕ → ℕ
last_or byte [] = byte
last_or byte (b ∷ bs) = last_or b bs

last_behind : (a : List ℕ) (byte b : ℕ) (bs : List ℕ) → last_or byte (a ++ b ∷ bs) ≡ last_or b bs
last_behind [] byte b bs = refl
last_behind (x ∷ xs) byte b bs = last_behind xs x b bs

last_has : (P : ℕ → Type 0) (b : ℕ) (bs : List ℕ) → P b → AllByRecursion P bs → P (last_or b bs)
last_has P b [] p all = p
last_has P b (x ∷ xs) p all = last_has P x xs all.0 all.1

-- lines end with a line feed
no_text : (line more : List ℕ) → (line ++ 10 ∷ []) ++ more ≡ [] → ⊥
no_text line more e =
    let n = ap length e in
    let m = length-append (line ++ 10 ∷ []) more in
    let k = length-append line (10 ∷ []) in
    absurd (omega arith)

last_of_both : (byte : ℕ) (line more : List ℕ) → ((other : ℕ) → last_or other more ≡ 10) → more ≢ [] → last_or byte ((line ++ 10 ∷ []) ++ more) ≡ 10
last_of_both byte line [] its some = absurd (some refl)
last_of_both byte line (b ∷ bs) its some = last_behind (line ++ 10 ∷ []) byte b bs ∙ its 0

last_of_lines : (line : List ℕ) (lines : List (List ℕ)) (byte : ℕ) → last_or byte (lines_text (line ∷ lines)) ≡ 10
last_of_lines line [] byte = ap (last_or byte) (append-nil (line ++ 10 ∷ [])) ∙ last_behind line byte 10 []
last_of_lines line (l ∷ ls) byte = last_of_both byte line (lines_text (l ∷ ls)) (last_of_lines l ls) (no_text l (lines_text ls))

module _ (front : List ℕ) (x : ℕ) (before : List ℕ) (lines : List (List ℕ)) (one : List ℕ) (in_one : IsInOneLine one) (both : before ++ (front ++ x ∷ []) ≡ lines_text lines ++ one) where
  last_is : last_or 0 (before ++ (front ++ x ∷ [])) ≡ x
  last_is = ap (last_or 0) (sym (append_assoc before front (x ∷ []))) ∙ last_behind (before ++ front) 0 x []

  pub in_line_if : is_some_text one ≡ true → x ≢ 10
  in_line_if some = by one refl
    where
      by : (p : List ℕ) → p ≡ one → x ≢ 10
      by [] e = absurd (tt_ff (ap is_some_text e ∙ some))
        where
          tt_ff : false ≡ true → ⊥
          tt_ff e' = absurd cc
      by (b ∷ bs) e = subst (λ z. z ≢ 10) (sym (sym last_is ∙ (ap (last_or 0) both ∙ (ap (λ z. last_or 0 (lines_text lines ++ z)) (sym e) ∙ last_behind (lines_text lines) 0 b bs))))
          (let all = subst IsInOneLine (sym e) in_one in last_has (λ byte. byte ≢ 10) b bs all.0 all.1)

  pub ended_if : is_some_text one ≡ false → x ≡ 10
  ended_if none = by lines one refl refl
    where
      by : (ls : List (List ℕ)) (p : List ℕ) → ls ≡ lines → p ≡ one → x ≡ 10
      by [] [] e f = (let n = ap length (both ∙ (ap (λ z. lines_text z ++ one) (sym e) ∙ sym f)) in let m = length-append before (front ++ x ∷ []) in let k = length-append front (x ∷ []) in absurd (omega arith))
      by (l ∷ ls) [] e f = sym last_is ∙ (ap (last_or 0) both ∙ (ap (λ z. last_or 0 (lines_text lines ++ z)) (sym f) ∙ (ap (last_or 0) (append-nil (lines_text lines)) ∙ (ap (λ z. last_or 0 (lines_text z)) (sym e) ∙ last_of_lines l ls 0))))
      by ls (b ∷ bs) e f = absurd (ff_tt (ap is_some_text f ∙ none))
        where
          ff_tt : true ≡ false → ⊥
          ff_tt e' = absurd cc
