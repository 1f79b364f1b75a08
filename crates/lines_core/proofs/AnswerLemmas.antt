-- Answers to a line of which the front was kept, and to lines one after another.
use Rattle.std.proofs.Common.{◌≤◌, ◌<◌, ◌+◌, ◌-◌, ℕ, List, [], ◌∷◌, ◌++◌, refl, sym, ap, ◌∙◌, append_assoc, append-nil, eqb, true, false, map, length, cond, take, arith, ⊎_elim, subst, get_or}
use Rattle.std.specs.Str.Lines.{strip_carriage_return}
use Rattle.std.proofs.lemmas.List.{take_all, length-take, map-append}
use Rattle.std.proofs.lemmas.Bool.{cases_lt}
use Rattle.lines_core.specs.declared.line.TheConstants.{KEPT_BYTES, LONGEST_LINE}
use Rattle.lines_core.specs.Serving.{AnswersAll}

strip_length : (l : List ℕ) → length l ≤ length (strip_carriage_return l) + 1
strip_length l = elim (eqb (get_or l (length l - 1) 0) 13) as (λ b. length l ≤ length (cond b (take (length l - 1) l) l) + 1) [
  | true ↦ omega (arith, length-take (length l - 1) l)
  | false ↦ omega arith
]

module _ {X : Type 0} (R : X → List ℕ → List ℕ → X → Type 0) where
  pub AnswersAll-append : (old mid new : X) (xs ys : List (List ℕ)) (text more : List ℕ)
      → AnswersAll R old xs text mid → AnswersAll R mid ys more new → AnswersAll R old (xs ++ ys) (text ++ more) new
  AnswersAll-append old mid new [] ys text more p q =
      subst (λ w. AnswersAll R w ys (text ++ more) new) p.1 (subst (λ t. AnswersAll R mid ys (t ++ more) new) (sym p.0) q)
  AnswersAll-append old mid new (x ∷ xs) ys text more p q =
      (p.0, p.1, p.2 ++ more, p.3, AnswersAll-append p.1 mid new xs ys p.2 more p.4 q, ap (λ t. t ++ more) p.5 ∙ append_assoc p.0 p.2 more)

  -- the lines before, and then those of the next piece
  pub AnswersAll-parts : (old mid new : X) (parts ended : List (List ℕ)) (text more : List ℕ) → AnswersAll R old (map strip_carriage_return parts) text mid
      → AnswersAll R mid (map strip_carriage_return ended) more new → AnswersAll R old (map strip_carriage_return (parts ++ ended)) (text ++ more) new
  AnswersAll-parts old mid new parts ended text more p q =
      subst (λ ls. AnswersAll R old ls (text ++ more) new) (sym (map-append strip_carriage_return parts ended))
      (AnswersAll-append old mid new (map strip_carriage_return parts) (map strip_carriage_return ended) text more p q)

  -- one line
  pub AnswersAll-one : (old new : X) (line text : List ℕ) → R old line text new → AnswersAll R old (line ∷ []) text new
  AnswersAll-one old new line text p = (text, new, [], p, (refl, refl), sym (append-nil text))

-- no answer depends on what wasn't kept
module _ {X : Type 0} (R : X → List ℕ → List ℕ → X → Type 0)
    (too_long : (old new : X) (line other text : List ℕ) → LONGEST_LINE < length line → LONGEST_LINE < length other → R old line text new → R old other text new) where
  pub R-kept : (l : List ℕ) (old new : X) (text : List ℕ) → R old (take KEPT_BYTES l) text new → R old l text new
  R-kept l old new text p = ⊎_elim
      (λ h. too_long old new (take KEPT_BYTES l) l text (omega (arith, length-take KEPT_BYTES l)) (omega arith) p)
      (λ h. subst (λ x. R old x text new) (take_all KEPT_BYTES l h) p)
      (cases_lt KEPT_BYTES (length l))

  pub R-kept_strip : (l : List ℕ) (old new : X) (text : List ℕ) → R old (strip_carriage_return (take KEPT_BYTES l)) text new → R old (strip_carriage_return l) text new
  R-kept_strip l old new text p = ⊎_elim
      (λ h. too_long old new (strip_carriage_return (take KEPT_BYTES l)) (strip_carriage_return l) text (omega (arith, length-take KEPT_BYTES l, strip_length (take KEPT_BYTES l))) (omega (arith, strip_length l)) p)
      (λ h. subst (λ x. R old (strip_carriage_return x) text new) (take_all KEPT_BYTES l h) p)
      (cases_lt KEPT_BYTES (length l))
