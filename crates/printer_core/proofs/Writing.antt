-- Tokens on a page, one part behind another.
use Rattle.std.proofs.Common.{◌≡◌, ℕ, ◌+◌, ◌-◌, ◌<◌, ◌≤◌, arith, Bool, true, false, Option, Some, List, [], ◌∷◌, ◌++◌, length, take, drop, get_or, All, ap, sym, subst, ◌∙◌, refl, append_assoc}
use Rattle.std.specs.Prelude.{slice_index, nat_le, MatchOption, IfSome}
use Rattle.std.specs.List.{flat_map}
use Rattle.std.proofs.lemmas.Grind.{flat_map-append}
use Rattle.std.proofs.lemmas.List.{append-nil, take_more, take_rest}
use Rattle.std.proofs.lemmas.List.Elements.{All-nil, All-cons, All-append, All-push, All-same}
use Rattle.base_core.specs.declared.keyword.Keyword.TheVariants as keywords
use Rattle.base_core.specs.declared.condition.Condition.{Condition}
use Rattle.printer_core.specs.declared.spacing.LastToken.{LastToken}
use Rattle.lexer_core.specs.Lexing as lexemes
use Rattle.lexer_core.specs.Lexing.{Lexeme, IsProper}
use Rattle.reader_core.specs.Saying.{separated, condition_says, filter_says}
use Rattle.printer_core.specs.declared.spacing.Spacing.{Spacing}
use Rattle.printer_core.specs.Printing.{Sheet, IsStarted, Adds, OpensToken, Prints, spaced_text, last_behind, gap, blank_if, is_parted, as_last, lexeme_text, at_front, colon_text, added}
use Rattle.printer_core.proofs.Room.{added_both, added_nothing, added_short, fits_is, slice_is, within}

module _ (spacing : Spacing) where
  pub spaced-append : (t : LastToken) (xs ys : List Lexeme) → spaced_text spacing t (xs ++ ys) ≡ spaced_text spacing t xs ++ spaced_text spacing (last_behind t xs) ys
  spaced-append t [] ys = refl
  spaced-append t (x ∷ xs) ys =
      let rest = spaced_text spacing (as_last x) xs in
      let more = spaced_text spacing (last_behind (as_last x) xs) ys in
      ap (λ z. gap spacing t (lexeme_text x) ++ (lexeme_text x ++ z)) (spaced-append (as_last x) xs ys)
      ∙ ap (λ z. gap spacing t (lexeme_text x) ++ z) (sym (append_assoc (lexeme_text x) rest more))
      ∙ sym (append_assoc (gap spacing t (lexeme_text x)) (lexeme_text x ++ rest) more)

pub last-append : (t : LastToken) (xs ys : List Lexeme) → last_behind t (xs ++ ys) ≡ last_behind (last_behind t xs) ys
last-append t [] ys = refl
last-append t (x ∷ xs) ys = last-append (as_last x) xs ys

pub nothing : (s : Sheet) → Prints [] s s
nothing s = record { text = sym (added_nothing s.text); spacing = refl; last = refl; proper = All-nil IsProper }

pub then : {xs ys : List Lexeme} {old mid new : Sheet} → Prints xs old mid → Prints ys mid new → Prints (xs ++ ys) old new
then {xs} {ys} {old} {mid} {new} v w =
    let near = spaced_text old.spacing old.last xs in
    let far = spaced_text old.spacing (last_behind old.last xs) ys in
    let behind : spaced_text mid.spacing mid.last ys ≡ far =
    ap (λ (g : Spacing). spaced_text g mid.last ys) v.spacing ∙ ap (λ (t : LastToken). spaced_text old.spacing t ys) v.last in
    record {
      text =
          w.text ∙ ap (added mid.text) behind ∙ ap (λ (o : Option (List ℕ)). added o far) v.text
          ∙ added_both old.text near far ∙ ap (added old.text) (sym (spaced-append old.spacing old.last xs ys));
      spacing = w.spacing ∙ v.spacing;
      last = w.last ∙ ap (λ (t : LastToken). last_behind t ys) v.last ∙ sym (last-append old.last xs ys);
      proper = All-append IsProper xs ys v.proper w.proper;
    }

-- ---- a token
pub add_none : (s : Sheet) → Adds [] s s
add_none s = record { text = sym (added_nothing s.text); spacing = refl; last = refl }

pub add : {xs ys : List ℕ} {old mid new : Sheet} → Adds xs old mid → Adds ys mid new → Adds (xs ++ ys) old new
add {xs} {ys} {old} {mid} {new} v w = record {
  text = w.text ∙ ap (λ (o : Option (List ℕ)). added o ys) v.text ∙ added_both old.text xs ys;
  spacing = w.spacing ∙ v.spacing;
  last = w.last ∙ v.last;
}

-- a user's name and the colon, on a page that was cleared
pub started : (items name : List ℕ) (spacing : Spacing) {bytes behind : List ℕ} {mid new : Sheet} → items ≡ [] → bytes ≡ name → behind ≡ colon_text spacing → Adds bytes (record { text = Some items; spacing = spacing; last = at_front }) mid → Adds behind mid new → IsStarted (name ++ colon_text spacing) spacing new
started items name spacing {bytes} {behind} {mid} {new} none same is v w =
    let both = add v w in
    record {
      text = both.text ∙ ap (λ (x : List ℕ). added (Some x) (bytes ++ behind)) none ∙ ap (λ (x : List ℕ). added (Some []) (x ++ behind)) same ∙ ap (λ (x : List ℕ). added (Some []) (name ++ x)) is;
      spacing = both.spacing;
      last = both.last;
    }

-- what has to stand before it
pub parted : (bytes : List ℕ) {old mid : Sheet} → is_parted old.spacing old.last (slice_index bytes 0) ≡ true → Adds (32 ∷ []) old mid → Adds (gap old.spacing old.last bytes) old mid
parted bytes {old} {mid} e v = subst (λ (b : List ℕ). Adds b old mid) (sym (ap blank_if e)) v

pub joined : (bytes : List ℕ) {old mid : Sheet} → is_parted old.spacing old.last (slice_index bytes 0) ≡ false → mid ≡ old → Adds (gap old.spacing old.last bytes) old mid
joined bytes {old} {mid} e same = subst (λ (b : List ℕ). Adds b old mid) (sym (ap blank_if e)) (subst (λ (s : Sheet). Adds [] old s) (sym same) (add_none old))

pub opened : {bytes : List ℕ} {last : LastToken} {old mid new : Sheet} → Adds (gap old.spacing old.last bytes) old mid → Adds bytes (record { text = mid.text; spacing = mid.spacing; last = last }) new → OpensToken last bytes old new
opened {bytes} {last} {old} {mid} {new} v w = record {
  text = w.text ∙ ap (λ (o : Option (List ℕ)). added o bytes) v.text ∙ added_both old.text (gap old.spacing old.last bytes) bytes;
  spacing = w.spacing ∙ v.spacing;
  last = w.last;
}

-- one that begins so, and then the rest of it
pub token : {start rest : List ℕ} {old mid new : Sheet} (l : Lexeme) → IsProper l → OpensToken (as_last l) start old mid → Adds rest mid new → lexeme_text l ≡ start ++ rest → gap old.spacing old.last (lexeme_text l) ≡ gap old.spacing old.last start → Prints (l ∷ []) old new
token {start} {rest} {old} {mid} {new} l p v w e same =
    let space = gap old.spacing old.last start in
    let whole : (space ++ start) ++ rest ≡ spaced_text old.spacing old.last (l ∷ []) =
    append_assoc space start rest ∙ ap (λ z. z ++ (start ++ rest)) (sym same) ∙ ap (λ z. gap old.spacing old.last (lexeme_text l) ++ z) (sym e ∙ sym (append-nil (lexeme_text l))) in
    record {
      text = w.text ∙ ap (λ (o : Option (List ℕ)). added o rest) v.text ∙ added_both old.text (space ++ start) rest ∙ ap (added old.text) whole;
      spacing = w.spacing ∙ v.spacing;
      last = w.last ∙ v.last;
      proper = All-cons IsProper l [] p (All-nil IsProper);
    }

-- one in one piece
pub whole_token : {bytes : List ℕ} {old new : Sheet} (l : Lexeme) → IsProper l → OpensToken (as_last l) bytes old new → bytes ≡ lexeme_text l → Prints (l ∷ []) old new
whole_token {bytes} {old} {new} l p v e = record {
  text = v.text ∙ ap (λ (b : List ℕ). added old.text (gap old.spacing old.last b ++ b)) e ∙ ap (λ z. added old.text (gap old.spacing old.last (lexeme_text l) ++ z)) (sym (append-nil (lexeme_text l)));
  spacing = v.spacing;
  last = v.last;
  proper = All-cons IsProper l [] p (All-nil IsProper);
}

-- ---- items, each behind a separator
module _ {A : Type 0} (separator : Lexeme) (says : A → List Lexeme) (IsItem : A → Type 0) (xs : List A) (i : ℕ) (x : A) (within : i < length xs) (is : x ≡ get_or xs i x) where
  one_more : take (i + 1) xs ≡ take i xs ++ x ∷ []
  one_more = take_more xs i x within ∙ ap (λ y. take i xs ++ y ∷ []) (sym is)

  abbrev behind : List A → List Lexeme
  behind ys = flat_map (λ y. separator ∷ says y) ys

  behind_more : behind (take (i + 1) xs) ≡ behind (take i xs) ++ separator ∷ says x
  behind_more = ap behind one_more ∙ flat_map-append (λ y. separator ∷ says y) (take i xs) (x ∷ []) ∙ ap (λ z. behind (take i xs) ++ z) (append-nil (separator ∷ says x))

  pub each_on : {old here mid new : Sheet} → Prints (behind (take i xs)) old here → Prints (separator ∷ []) here mid → Prints (says x) mid new → Prints (behind (take (i + 1) xs)) old new
  each_on {old} {here} {mid} {new} v s w = subst (λ (said : List Lexeme). Prints said old new) (sym behind_more) (then v (then s w))

  pub all_on : All IsItem (take i xs) → IsItem x → All IsItem (take (i + 1) xs)
  all_on h p = All-same IsItem (take (i + 1) xs) (take i xs ++ x ∷ []) one_more (All-push IsItem (take i xs) x h p)

pub first_and_rest : {A : Type 0} (separator : Lexeme) (says : A → List Lexeme) (xs : List A) (x : A) {old mid new : Sheet} → 0 < length xs → x ≡ get_or xs 0 x → Prints (says x) old mid → Prints (flat_map (λ y. separator ∷ says y) (take (length xs - 1) (drop 1 xs))) mid new → Prints (separated separator says xs) old new
first_and_rest separator says [] x some is v w = absurd (omega arith)
first_and_rest separator says (y ∷ ys) x {old} {mid} {new} some is v w =
    then (subst (λ z. Prints (says z) old mid) is v) (subst (λ zs. Prints (flat_map (λ z. separator ∷ says z) zs) mid new) (take_rest (y ∷ ys) 1) w)

pub none_listed : {A : Type 0} (separator : Lexeme) (says : A → List Lexeme) (xs : List A) (s : Sheet) → length xs ≤ 0 → Prints (separated separator says xs) s s
none_listed separator says [] s h = nothing s
none_listed separator says (x ∷ xs) s h = absurd (omega arith)

-- an empty filter, and one that is not
pub no_filter : (cs : List Condition) (s : Sheet) → length cs ≤ 0 → Prints (filter_says cs) s s
no_filter [] s h = nothing s
no_filter (c ∷ cs) s h = absurd (omega arith)

pub filter_written : (cs : List Condition) {old new : Sheet} → 0 < length cs → Prints (lexemes.Key keywords.Where ∷ separated (lexemes.Key keywords.And) condition_says cs) old new → Prints (filter_says cs) old new
filter_written [] some w = absurd (omega arith)
filter_written (c ∷ cs) some w = w

-- a whole text
pub text_on : (start : List ℕ) {spacing : Spacing} {said : List Lexeme} {mid new : Sheet} → IsStarted start spacing mid → Prints said mid new → new.text ≡ added (Some []) (start ++ spaced_text spacing at_front said)
text_on start {spacing} {said} {mid} {new} v w =
    w.text
    ∙ ap (λ (g : Spacing). added mid.text (spaced_text g mid.last said)) v.spacing
    ∙ ap (λ (t : LastToken). added mid.text (spaced_text spacing t said)) v.last
    ∙ ap (λ (o : Option (List ℕ)). added o (spaced_text spacing at_front said)) v.text
    ∙ added_both (Some []) start (spaced_text spacing at_front said)

-- and whether it has at most 4,096 bytes
pub test_on : {spacing : Spacing} {said : List Lexeme} {mid new : Sheet} (r : Bool) → IsStarted [] spacing mid → Prints said mid new → MatchOption new.text (r ≡ false) (λ text. r ≡ nat_le (length text) 4096) → r ≡ nat_le (length (spaced_text spacing at_front said)) 4096
test_on {spacing} {said} {mid} {new} r v w m = fits_is (spaced_text spacing at_front said) new.text 4096 r (text_on [] v w) (omega arith) m

-- then the bytes of the page are it
pub whole_on : {spacing : Spacing} {said : List Lexeme} {mid new : Sheet} (r : Bool) (bytes : List ℕ) → IsStarted [] spacing mid → Prints said mid new → MatchOption new.text (r ≡ false) (λ text. r ≡ nat_le (length text) 4096) → r ≡ true → IfSome new.text (λ text. bytes ≡ text) → (bytes ≡ spaced_text spacing at_front said) × (length (spaced_text spacing at_front said) ≤ 4096)
whole_on {spacing} {said} {mid} {new} r bytes v w m is stands =
    let text = spaced_text spacing at_front said in
    let short = within (length text) 4096 (sym (test_on r v w m) ∙ is) in
    (slice_is new.text text bytes (text_on [] v w ∙ added_short text (omega arith)) stands, short)
