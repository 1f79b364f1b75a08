-- Keywords stand in capitals, so that only the word is folded.
use Rattle.std.proofs.Common.{◌≡◌, ℕ, ◌+◌, ◌<◌, ◌≤◌, Bool, true, false, ◌&&◌, ◌||◌, not, nat_eq, bit_and, List, length, get_or, refl, sym, ◌∙◌, ap, arith}
use Rattle.std.proofs.lemmas.Bool.Decides.{nat_tests}
use Rattle.std.proofs.lemmas.List.{ext_get_or, get_or-map, length-map}
use Rattle.std.proofs.lemmas.List.Folds.{list_all_at}
use Rattle.std.specs.List.{list_all}
use Rattle.std.specs.Char.{is_ascii_uppercase, to_ascii_lowercase}
use Rattle.std.specs.Int.{is_in_range}
use Rattle.base_core.specs.Words.{folded, text_of}
use Rattle.base_core.specs.declared.keyword.Keyword.{Keyword}
use Rattle.base_core.specs.declared.keyword.Keyword.TheVariants as keywords
use Rattle.base_core.proofs.EachByte.{each_below, holds_below}

pub in_capitals : (k : Keyword) → list_all is_ascii_uppercase (text_of k) ≡ true
in_capitals keywords.And = refl
in_capitals keywords.Checkpoint = refl
in_capitals keywords.Checkpoints = refl
in_capitals keywords.Create = refl
in_capitals keywords.Delete = refl
in_capitals keywords.Export = refl
in_capitals keywords.For = refl
in_capitals keywords.From = refl
in_capitals keywords.Grant = refl
in_capitals keywords.Insert = refl
in_capitals keywords.Integer = refl
in_capitals keywords.Into = refl
in_capitals keywords.On = refl
in_capitals keywords.Only = refl
in_capitals keywords.Option = refl
in_capitals keywords.Revoke = refl
in_capitals keywords.Select = refl
in_capitals keywords.Set = refl
in_capitals keywords.Table = refl
in_capitals keywords.Text = refl
in_capitals keywords.To = refl
in_capitals keywords.Update = refl
in_capitals keywords.Values = refl
in_capitals keywords.Where = refl
in_capitals keywords.With = refl

-- a byte without its small bit is a capital just where the byte is that letter
abbrev is_one_letter : ℕ → Bool
is_one_letter w =
    (not (is_ascii_uppercase (bit_and w 223)) || nat_eq (to_ascii_lowercase w) (bit_and w 223 + 32))
    && (not (is_in_range 97 122 (to_ascii_lowercase w)) || nat_eq (bit_and w 223 + 32) (to_ascii_lowercase w))

one_letter : (w : ℕ) → w < 256 → is_one_letter w ≡ true
unfolding holds_below
one_letter w l = each_below is_one_letter 256 refl w l

capital_folded : (t w : ℕ) → w < 256 → is_ascii_uppercase t ≡ true → bit_and w 223 ≡ t → to_ascii_lowercase t ≡ to_ascii_lowercase w
capital_folded t w l h e = let one = one_letter w l in grind (arith, nat_tests)

capital_alone : (t w : ℕ) → w < 256 → is_ascii_uppercase t ≡ true → to_ascii_lowercase t ≡ to_ascii_lowercase w → bit_and w 223 ≡ t
capital_alone t w l h e = let one = one_letter w l in grind (arith, nat_tests)

-- each of them is one
is_capital : (capitals : List ℕ) (i : ℕ) → list_all is_ascii_uppercase capitals ≡ true → i < length capitals → is_ascii_uppercase (get_or capitals i 0) ≡ true
is_capital capitals i h l = by (is_ascii_uppercase (get_or capitals i 0)) refl
  where
    by : (b : Bool) → is_ascii_uppercase (get_or capitals i 0) ≡ b → b ≡ true
    by true e = refl
    by false e = let clash : list_all is_ascii_uppercase capitals ≡ false = list_all_at is_ascii_uppercase capitals i 0 l e in cc

-- the two have one length, and the first i bytes agree
pub record AgreesTo (capitals word : List ℕ) (i : ℕ) : Type 0 where
  pub size : length word ≡ length capitals
  pub front : (k : ℕ) → k < i → bit_and (get_or word k 0) 223 ≡ get_or capitals k 0

module _ (capitals word : List ℕ) (h : list_all is_ascii_uppercase capitals ≡ true) (bytes : (i : ℕ) → get_or word i 0 < 256) where
  pub all_agree : (i : ℕ) → length word ≤ i → AgreesTo capitals word i → folded capitals ≡ folded word
  all_agree i end a =
      ext_get_or 0 (folded capitals) (folded word) (omega (arith, a.size, length-map capitals to_ascii_lowercase, length-map word to_ascii_lowercase))
      (λ k l.
      let inside : k < length capitals = omega (arith, length-map capitals to_ascii_lowercase) in
      get_or-map to_ascii_lowercase capitals k 0 0 inside
      ∙ (capital_folded (get_or capitals k 0) (get_or word k 0) (bytes k) (is_capital capitals k h inside) (a.front k (omega (arith, a.size)))
      ∙ sym (get_or-map to_ascii_lowercase word k 0 0 (omega (arith, a.size)))))

  pub each_agrees : (i : ℕ) → i < length word → folded capitals ≡ folded word → bit_and (get_or word i 0) 223 ≡ get_or capitals i 0
  each_agrees i l e =
      let size : length capitals ≡ length word = sym (length-map capitals to_ascii_lowercase) ∙ (ap length e ∙ length-map word to_ascii_lowercase) in
      let inside : i < length capitals = omega arith in
      capital_alone (get_or capitals i 0) (get_or word i 0) (bytes i) (is_capital capitals i h inside)
      (sym (get_or-map to_ascii_lowercase capitals i 0 0 inside) ∙ (ap (λ (l : List ℕ). get_or l i 0) e ∙ get_or-map to_ascii_lowercase word i 0 0 l))

  pub one_length : folded capitals ≡ folded word → length word ≡ length capitals
  one_length e = sym (sym (length-map capitals to_ascii_lowercase) ∙ (ap length e ∙ length-map word to_ascii_lowercase))
