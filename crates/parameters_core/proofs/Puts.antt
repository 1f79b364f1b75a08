-- One call after another that puts bytes behind a line.
use Rattle.std.proofs.Common.{◌≡◌, ℕ, pos, ◌+◌, ◌-◌, ◌<◌, ◌≤◌, Bool, false, List, [], ◌∷◌, ◌++◌, Some, Result, Ok, Err, IfErr, IsErrAnd, length, take, drop, get_or, refl, sym, ◌∙◌, ap, subst, arith, append_assoc, length-append}
use Rattle.std.specs.Prelude.{◌==◌, if◌then◌else◌}
use Rattle.std.proofs.lemmas.List.{append-nil, get_or_read, take_more, take-append-drop, length-take-le}
use Rattle.std.proofs.lemmas.List.Concat.{flat_map-append}
use Rattle.lexer_core.proofs.Texts.{not_quote}
use Rattle.base_core.specs.declared.value.Value.{Value}
use Rattle.base_core.specs.declared.value.Value.TheVariants as values
use Rattle.reader_core.specs.Saying.{value_lexeme}
use Rattle.printer_core.specs.Printing.{doubled, lexeme_text}
use Rattle.parameters_core.specs.declared.fault.FillFault.{FillFault}
use Rattle.parameters_core.specs.declared.fault.FillFault.TheVariants as faults
use Rattle.parameters_core.specs.Statements.{inside_behind, open_behind}
use Rattle.parameters_core.specs.Filling.{line_byte, line_bytes, as_line}
use Rattle.parameters_core.specs.Putting.{IsPut, IsPutFault, says_by}
use Rattle.parameters_core.proofs.FilledLines.{length-line}

pub put_none : (line : List ℕ) → length line ≤ 4096 → IsPut [] line line
put_none line h = record { joined = sym (append-nil line); short = h }

pub put_more : (xs ys old mid new : List ℕ) → IsPut xs old mid → IsPut ys mid new → IsPut (xs ++ ys) old new
put_more xs ys old mid new a b = record {
  joined = b.joined ∙ (ap (λ (z : List ℕ). z ++ ys) a.joined ∙ append_assoc old xs ys);
  short = b.short;
}

pub put_same : (xs ys old new : List ℕ) → xs ≡ ys → IsPut xs old new → IsPut ys old new
put_same xs ys old new e p = subst (λ (z : List ℕ). IsPut z old new) e p

pub fault_same : (m n : ℕ) (e : FillFault) → m ≤ n → IsPutFault m e → IsPutFault n e
fault_same m n faults.NoMemory h f = tt
fault_same m n faults.TooLong h f = omega (arith, h, f)
fault_same m n (faults.NoValue k) h f = f

-- what had room before, and then had none
pub fault_more : (xs old mid : List ℕ) (n most : ℕ) (e : FillFault) → IsPut xs old mid → length xs + n ≤ most → IsPutFault (length mid + n) e → IsPutFault (length old + most) e
fault_more xs old mid n most e p h f = fault_same (length mid + n) (length old + most) e (omega (arith, h, ap length p.joined, length-append old xs)) f

-- what the exit of a `?` returns
pub exit : {V : Type 0} (P : FillFault → Type 0) (r : Result V FillFault) (e : FillFault) → IsErrAnd r (λ y. y ≡ e) → P e → IfErr r P
exit P (Ok v) e p f = absurd p
exit P (Err y) e p f = subst P (sym p) f

pub put_made : (bytes old new : List ℕ) → new ≡ old ++ bytes → length old + length bytes ≤ 4096 → IsPut bytes old new
put_made bytes old new e h = record { joined = e; short = omega (arith, h, ap length e, length-append old bytes) }

-- ---- three after one another
module _ (xs ys zs old : List ℕ) where
  abbrev pub all_three : List ℕ
  all_three = xs ++ (ys ++ zs)

  size : length all_three ≡ length xs + (length ys + length zs)
  size = omega (arith, length-append xs (ys ++ zs), length-append ys zs)

  pub three_put : (a b new : List ℕ) → IsPut xs old a → IsPut ys a b → IsPut zs b new → IsPut all_three old new
  three_put a b new p q r = put_same ((xs ++ ys) ++ zs) all_three old new (append_assoc xs ys zs) (put_more (xs ++ ys) zs old b new (put_more xs ys old a b p q) r)

  pub first_fault : (e : FillFault) → IsPutFault (length old + length xs) e → IsPutFault (length old + length all_three) e
  first_fault e f = fault_same (length old + length xs) (length old + length all_three) e (omega (arith, size)) f

  pub second_fault : (a : List ℕ) (e : FillFault) → IsPut xs old a → IsPutFault (length a + length ys) e → IsPutFault (length old + length all_three) e
  second_fault a e p f = fault_more xs old a (length ys) (length all_three) e p (omega (arith, size)) f

  pub third_fault : (a b : List ℕ) (e : FillFault) → IsPut xs old a → IsPut ys a b → IsPutFault (length b + length zs) e → IsPutFault (length old + length all_three) e
  third_fault a b e p q f = fault_more (xs ++ ys) old b (length zs) (length all_three) e (put_more xs ys old a b p q) (omega (arith, size, length-append xs ys)) f

-- ---- texts
pub doubled-append : (xs ys : List ℕ) → doubled (xs ++ ys) ≡ doubled xs ++ doubled ys
doubled-append xs ys = flat_map-append (λ (b : ℕ). if b == 39 then 39 ∷ 39 ∷ [] else b ∷ []) xs ys

pub quote_doubled : (b : ℕ) → b ≡ 39 → 39 ∷ 39 ∷ [] ≡ doubled (b ∷ [])
quote_doubled b e = ap (λ (x : ℕ). doubled (x ∷ [])) (sym e)

pub other_doubled : (b : ℕ) → (b ≡ 39 → ⊥) → b ∷ [] ≡ doubled (b ∷ [])
other_doubled b h = ap (λ (x : Bool). (if x then 39 ∷ 39 ∷ [] else b ∷ []) ++ []) (sym (not_quote b h))

module _ (text : List ℕ) (i : ℕ) (h : i < length text) where
  doubled_more : doubled (take i text) ++ doubled (get_or text i 0 ∷ []) ≡ doubled (take (i + 1) text)
  doubled_more = sym (ap doubled (take_more text i 0 h) ∙ doubled-append (take i text) (get_or text i 0 ∷ []))

  doubled_part : length (doubled (take i text)) + length (doubled (get_or text i 0 ∷ [])) ≤ length (doubled text)
  doubled_part =
      let whole : doubled (take (i + 1) text) ++ doubled (drop (i + 1) text) ≡ doubled text =
      sym (doubled-append (take (i + 1) text) (drop (i + 1) text)) ∙ ap doubled (take-append-drop (i + 1) text) in
      omega (arith, ap length whole, length-append (doubled (take (i + 1) text)) (doubled (drop (i + 1) text)), ap length doubled_more, length-append (doubled (take i text)) (doubled (get_or text i 0 ∷ [])))

  pub next_doubled : (old mid new : List ℕ) → IsPut (doubled (take i text)) old mid → IsPut (doubled (get_or text i 0 ∷ [])) mid new → IsPut (doubled (take (i + 1) text)) old new
  next_doubled old mid new a b = put_same (doubled (take i text) ++ doubled (get_or text i 0 ∷ [])) (doubled (take (i + 1) text)) old new doubled_more (put_more (doubled (take i text)) (doubled (get_or text i 0 ∷ [])) old mid new a b)

  pub fault_doubled : (old mid : List ℕ) (e : FillFault) → IsPut (doubled (take i text)) old mid → IsPutFault (length mid + length (doubled (get_or text i 0 ∷ []))) e → IsPutFault (length old + length (doubled text)) e
  fault_doubled old mid e a f = fault_more (doubled (take i text)) old mid (length (doubled (get_or text i 0 ∷ []))) (length (doubled text)) e a doubled_part f

-- ---- segments
line-append : (q : Bool) (xs ys : List ℕ) → line_bytes q (xs ++ ys) ≡ line_bytes q xs ++ line_bytes (open_behind q xs) ys
line-append q [] ys = refl
line-append q (x ∷ xs) ys = ap (λ (z : List ℕ). line_byte q x ∷ z) (line-append (inside_behind q x) xs ys)

module _ (segment : List ℕ) (i : ℕ) (h : i < length segment) where
  abbrev inside : Bool
  inside = open_behind false (take i segment)

  line_more : as_line (take i segment) ++ line_byte inside (get_or segment i 0) ∷ [] ≡ as_line (take (i + 1) segment)
  line_more = sym (ap as_line (take_more segment i 0 h) ∙ line-append false (take i segment) (get_or segment i 0 ∷ []))

  pub next_line : (old mid new : List ℕ) (b : ℕ) → b ≡ line_byte inside (get_or segment i 0) → IsPut (as_line (take i segment)) old mid → IsPut (b ∷ []) mid new → IsPut (as_line (take (i + 1) segment)) old new
  next_line old mid new b e p q =
      put_same (as_line (take i segment) ++ b ∷ []) (as_line (take (i + 1) segment)) old new
      (ap (λ (x : ℕ). as_line (take i segment) ++ x ∷ []) e ∙ line_more)
      (put_more (as_line (take i segment)) (b ∷ []) old mid new p q)

  pub fault_line : (old mid : List ℕ) (e : FillFault) → IsPut (as_line (take i segment)) old mid → IsPutFault (length mid + 1) e → IsPutFault (length old + length (as_line segment)) e
  fault_line old mid e p f =
      fault_more (as_line (take i segment)) old mid 1 (length (as_line segment)) e p
      (omega (arith, h, length-line false (take i segment), length-line false segment, length-take-le i segment (omega (arith, h)))) f

-- ---- values
pub value_here : (vs : List Value) (n : ℕ) (v : Value) → 1 ≤ n → n ≤ length vs → v ≡ get_or vs (n - 1) v → lexeme_text (value_lexeme v) ≡ lexeme_text (says_by (Some vs) n)
value_here vs n v low high e = ap (λ (w : Value). lexeme_text (value_lexeme w)) (get_or_read vs (n - 1) v (omega (arith, low, high)) e (values.Int (pos 0)))
