-- One text stands at the front, or one fault.
use Rattle.std.proofs.lemmas.Bool.{and_parts}
use Rattle.std.proofs.Common.{◌≡◌, ℕ, true, List, [], ◌∷◌, ◌++◌, length, drop, get_or, refl, sym, ◌∙◌, ap, arith, append_assoc, length-append}
use Rattle.std.proofs.lemmas.List.{append_cancel_left}
use Rattle.std.proofs.lemmas.Str.{encode_same}
use Rattle.std.specs.List.{list_all}
use Rattle.std.specs.Char.{encode_utf8, IsScalar}
use Rattle.std.specs.Str.{all_scalars}
use Rattle.base_core.specs.Texts.{is_printable}
use Rattle.lexer_core.specs.Text.{written, written_all, BeginsText, BeginsWithNoPlain}
use Rattle.lexer_core.proofs.Texts.{quote_encoded, written_other}
use Rattle.lexer_core.proofs.Halfway.{same_first, written_starts, written_some, step_is}

-- no character of a text goes on here
abbrev pub IsStuck : List ℕ → Type 0
IsStuck r = (c : ℕ) (more : List ℕ) → IsScalar c → is_printable c ≡ true → r ≡ written c ++ more → ⊥

one_reading : (cs ds r t : List ℕ) → all_scalars cs ≡ true → list_all is_printable cs ≡ true → all_scalars ds ≡ true → list_all is_printable ds ≡ true → IsStuck r → IsStuck t → written_all cs ++ r ≡ written_all ds ++ t → (cs ≡ ds) × (r ≡ t)
one_reading [] [] r t sc pc sd pd x y e = (refl, e)
one_reading [] (d ∷ ds) r t sc pc sd pd x y e = absurd (x d (written_all ds ++ t) (and_parts _ (all_scalars ds) sd).0 (and_parts _ (list_all is_printable ds) pd).0 (e ∙ append_assoc (written d) (written_all ds) t))
one_reading (c ∷ cs) [] r t sc pc sd pd x y e = absurd (y c (written_all cs ++ r) (and_parts _ (all_scalars cs) sc).0 (and_parts _ (list_all is_printable cs) pc).0 (sym e ∙ append_assoc (written c) (written_all cs) r))
one_reading (c ∷ cs) (d ∷ ds) r t sc pc sd pd x y e =
    let f : written c ++ (written_all cs ++ r) ≡ written d ++ (written_all ds ++ t) = sym (append_assoc (written c) (written_all cs) r) ∙ (e ∙ append_assoc (written d) (written_all ds) t) in
    let same : c ≡ d = same_first c d (written_all cs ++ r) (written_all ds ++ t) f in
    let g : written d ++ (written_all cs ++ r) ≡ written d ++ (written_all ds ++ t) = ap (λ (z : ℕ). written z ++ (written_all cs ++ r)) (sym same) ∙ f in
    let rest = one_reading cs ds r t (and_parts _ (all_scalars cs) sc).1 (and_parts _ (list_all is_printable cs) pc).1 (and_parts _ (all_scalars ds) sd).1 (and_parts _ (list_all is_printable ds) pd).1 x y (append_cancel_left (written d) (written_all cs ++ r) (written_all ds ++ t) g) in
    let heads : (c ∷ cs) ≡ (d ∷ ds) = ap (λ (z : ℕ). z ∷ cs) same ∙ ap (λ (zs : List ℕ). d ∷ zs) rest.0 in
    (heads, rest.1)

-- a text is read up to one place: its end, the line's, or a bad byte
pub one_text : (bytes cs ds r t : List ℕ) → BeginsText bytes cs r → BeginsText bytes ds t → IsStuck r → IsStuck t → (cs ≡ ds) × (r ≡ t)
one_text bytes cs ds r t a b x y = one_reading cs ds r t a.plain.scalars a.plain.printable b.plain.scalars b.plain.printable x y (ap (drop 1) (sym a.split ∙ b.split))

-- a closing quote, the line's end and a bad byte are such places
pub stuck_end : IsStuck []
stuck_end c more s p e = omega (arith, ap length e, length-append (written c) more, sym (step_is c), written_some c)

pub stuck_quote : (rest : List ℕ) → (get_or rest 0 0 ≡ 39 → ⊥) → IsStuck (39 ∷ rest)
stuck_quote rest alone c more s p e =
    let w = written_starts c in
    let q : 39 ∷ rest ≡ encode_utf8 39 ++ rest = ap (λ (r : List ℕ). r ++ rest) (sym quote_encoded) in
    let same : 39 ≡ c = (encode_same 39 c rest (w.0 ++ more) (sym q ∙ (e ∙ (ap (λ (u : List ℕ). u ++ more) w.1 ∙ append_assoc (encode_utf8 c) w.0 more)))).0 in
    let f : 39 ∷ rest ≡ 39 ∷ (39 ∷ more) = e ∙ ap (λ (z : ℕ). written z ++ more) (sym same) in
    alone (ap (λ (r : List ℕ). get_or r 1 0) f)

pub stuck_bad : (rest : List ℕ) → (get_or rest 0 0 ≡ 39 → ⊥) → BeginsWithNoPlain rest → IsStuck rest
stuck_bad rest other none c more s p e =
    let no : c ≡ 39 → ⊥ = λ q. other (ap (λ (r : List ℕ). get_or r 0 0) (e ∙ ap (λ (z : ℕ). written z ++ more) q)) in
    none c more s p (e ∙ ap (λ (u : List ℕ). u ++ more) (written_other c no))
