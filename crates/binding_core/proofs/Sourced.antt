-- Where the literals of a filled text come from: from its segments, or from its places.
use Rattle.std.proofs.Common.{◌≡◌, ℕ, ℤ, pos, suc, zero, ◌+◌, ◌-◌, ◌≤◌, Option, Some, None, List, [], ◌∷◌, ◌++◌, map, length, refl, sym, ◌∙◌, ap, subst, arith}
use Rattle.std.specs.Prelude.{option_map, slice_get}
use Rattle.std.specs.Option.{option_and_then}
use Rattle.std.proofs.lemmas.List.{length-map, map-append}
use Rattle.std.proofs.lemmas.Option.{none-some, same_Some, slice_get-map}
use Rattle.base_core.specs.declared.value.Value.{Value}
use Rattle.base_core.specs.declared.value.Value.TheVariants as values_of
use Rattle.lexer_core.specs.Lexing.{Lexeme, Says}
use Rattle.lexer_core.proofs.Lines.{says_once}
use Rattle.reader_core.specs.declared.statement.Statement.{Statement}
use Rattle.reader_core.specs.Saying.{value_lexeme}
use Rattle.parameters_core.specs.Places.{Part, AreParts, greatest_number, place_number}
use Rattle.parameters_core.specs.Filling.{AreProper, SpellsWith, as_line, value_of_place}
use Rattle.parameters_core.specs.Meaning.{SayInTurn}
use Rattle.parameters_core.proofs.Parts.{parts_once}
use Rattle.parameters_core.proofs.FilledLines.{says_split}
use Rattle.binding_core.specs.Literals.{literals, literal_number, value_number}
use Rattle.binding_core.specs.Standing.{AreNumbersFrom, StandsAt, place_value}
use Rattle.binding_core.proofs.Bounds.{line_is}
use Rattle.binding_core.proofs.Stands.{in_second}
use Rattle.binding_core.proofs.Said.{literals_in, both, one, said_literals}

-- a literal of the text, or the number of a place
pub data Source : Type 0 where
  Fixed : Value → Source
  Placed : ℕ → Source

abbrev pick : (ℕ → Value) → Source → Value
pick v (Fixed x) = x
pick v (Placed n) = v n

-- the sources of the literals in what is said in turn
abbrev sources : (says : ℕ → Lexeme) (parts : List Part) (last : List ℕ) (said : List Lexeme) → SayInTurn says parts last said → List Source
sources says [] last said s = map Fixed (literals_in said)
sources says (part ∷ parts) last said s = map Fixed (literals_in s.0) ++ Placed (place_number part.place) ∷ sources says parts last s.1 s.4

fixed_same : (v : ℕ → Value) (xs : List Value) → map (pick v) (map Fixed xs) ≡ xs
fixed_same v [] = refl
fixed_same v (x ∷ xs) = ap (λ (ys : List Value). x ∷ ys) (fixed_same v xs)

-- whatever the places say, the literals are those of the sources
by_sources : (says : ℕ → Lexeme) (v : ℕ → Value) (parts : List Part) (last : List ℕ) (said other : List Lexeme) (s : SayInTurn says parts last said) → SayInTurn (λ n. value_lexeme (v n)) parts last other → literals_in other ≡ map (pick v) (sources says parts last said s)
by_sources says v [] last said other s t = ap literals_in (says_once (as_line last) other said t s) ∙ sym (fixed_same v (literals_in said))
by_sources says v (part ∷ parts) last said other s t =
    let n = place_number part.place in
    let rest = sources says parts last s.1 s.4 in
    let front : t.0 ≡ s.0 = says_once (as_line part.segment) t.0 s.0 t.3 s.3 in
    let more : literals_in t.1 ≡ map (pick v) rest = by_sources says v parts last s.1 t.1 s.4 t.4 in
    let here : literals_in (value_lexeme (v n) ∷ t.1) ≡ v n ∷ map (pick v) rest = one (v n) t.1 ∙ ap (λ (ys : List Value). v n ∷ ys) more in
    let told : literals_in other ≡ literals_in s.0 ++ (v n ∷ map (pick v) rest) =
    ap literals_in t.2
    ∙ (both t.0 (value_lexeme (v n) ∷ t.1)
    ∙ (ap (λ (ls : List Lexeme). literals_in ls ++ literals_in (value_lexeme (v n) ∷ t.1)) front
    ∙ ap (λ (ys : List Value). literals_in s.0 ++ ys) here)) in
    told
    ∙ (ap (λ (ys : List Value). ys ++ (v n ∷ map (pick v) rest)) (sym (fixed_same v (literals_in s.0)))
    ∙ sym (map-append (pick v) (map Fixed (literals_in s.0)) (Placed n ∷ rest)))

-- ---- the numbers of places
abbrev AreLow : ℕ → List Source → Type 0
AreLow most [] = Unit {0}
AreLow most (Fixed x ∷ ss) = AreLow most ss
AreLow most (Placed n ∷ ss) = ((1 ≤ n) × (n ≤ most)) × AreLow most ss

low_fixed : (most : ℕ) (xs : List Value) → AreLow most (map Fixed xs)
low_fixed most [] = tt
low_fixed most (x ∷ xs) = low_fixed most xs

low_behind : (most : ℕ) (xs : List Value) (ss : List Source) → AreLow most ss → AreLow most (map Fixed xs ++ ss)
low_behind most [] ss h = h
low_behind most (x ∷ xs) ss h = low_behind most xs ss h

low_sources : (says : ℕ → Lexeme) (text : List ℕ) (parts : List Part) (last : List ℕ) (said : List Lexeme) (s : SayInTurn says parts last said) (most : ℕ) → AreParts text parts last → greatest_number parts ≤ most → AreLow most (sources says parts last said s)
low_sources says text [] last said s most a h = low_fixed most (literals_in said)
low_sources says text (part ∷ parts) last said s most a h =
    let p = a.1.is_place in
    let low : 1 ≤ place_number part.place = p.some in
    low_behind most (literals_in s.0) (Placed (place_number part.place) ∷ sources says parts last s.1 s.4)
    ((low, omega (arith, h)), low_sources says a.0 parts last s.1 s.4 most a.2 (omega (arith, h)))

low_at : (most : ℕ) (ss : List Source) (i n : ℕ) → AreLow most ss → slice_get ss i ≡ Some (Placed n) → (1 ≤ n) × (n ≤ most)
low_at most [] i n h e = absurd (none-some (Placed n) e)
low_at most (Fixed x ∷ ss) zero n h e = absurd (cc)
low_at most (Fixed x ∷ ss) (suc i) n h e = low_at most ss i n h e
low_at most (Placed m ∷ ss) zero n h e = let same : m ≡ n = cc in subst (λ (k : ℕ). (1 ≤ k) × (k ≤ most)) same h.0
low_at most (Placed m ∷ ss) (suc i) n h e = low_at most ss i n h.1 e

-- ---- a statement that is spelled with values
module _ (text : List ℕ) (vs : List Value) (s : Statement) (w : SpellsWith text vs s) (proper : AreProper vs) (parts : List Part) (last : List ℕ) (a : AreParts text parts last) where
  pub in_turn : SayInTurn (value_of_place vs) parts last w.spelled.said
  in_turn =
      let is = line_is text vs w.line parts last w.is_filled a in
      says_split text last vs parts w.spelled.said a proper (subst (λ (x : List ℕ). Says x w.spelled.said) is w.spelled.says)

  literals_by : (says : ℕ → Lexeme) (said : List Lexeme) (t : SayInTurn says parts last said) → literals s ≡ map (pick (place_value vs)) (sources says parts last said t)
  literals_by says said t =
      sym (said_literals w.spelled.said s w.spelled.statement_of)
      ∙ by_sources says (place_value vs) parts last said w.spelled.said t in_turn

  literal_by : (says : ℕ → Lexeme) (said : List Lexeme) (t : SayInTurn says parts last said) (index : ℕ) (o : Option Source) → slice_get (sources says parts last said t) index ≡ o → slice_get (literals s) index ≡ option_map (pick (place_value vs)) o
  literal_by says said t index o e =
      ap (λ (xs : List Value). slice_get xs index) (literals_by says said t)
      ∙ (slice_get-map (pick (place_value vs)) (sources says parts last said t) index ∙ ap (option_map (pick (place_value vs))) e)

-- ---- two statements that are spelled with other numbers in the places
module _ (text : List ℕ) (ns ms : List Value) (ones others : Statement) (numbers : AreNumbersFrom 1 ns)
    (pn : AreProper ns) (pm : AreProper ms) (wn : SpellsWith text ns ones) (wm : SpellsWith text ms others) (parts : List Part) (last : List ℕ)
    (cut : AreParts text parts last) (enough : greatest_number parts ≤ length ns) where
  pub spoken : SayInTurn (value_of_place ns) parts last wn.spelled.said
  spoken = in_turn text ns ones wn pn parts last cut

  abbrev all : List Source
  all = sources (value_of_place ns) parts last wn.spelled.said spoken

  in_ones : (index : ℕ) (o : Option Source) → slice_get all index ≡ o → literal_number ones index ≡ option_and_then value_number (option_map (pick (place_value ns)) o)
  in_ones index o e = ap (option_and_then value_number) (literal_by text ns ones wn pn parts last cut (value_of_place ns) wn.spelled.said spoken index o e)

  in_others : (index : ℕ) (o : Option Source) → slice_get all index ≡ o → literal_number others index ≡ option_and_then value_number (option_map (pick (place_value ms)) o)
  in_others index o e = ap (option_and_then value_number) (literal_by text ms others wm pm parts last cut (value_of_place ns) wn.spelled.said spoken index o e)

  -- a place's own number
  own : (index n : ℕ) → slice_get all index ≡ Some (Placed n) → place_value ns n ≡ values_of.Int (pos n)
  own index n e =
      let low = low_at (length ns) all index n (low_sources (value_of_place ns) text parts last wn.spelled.said spoken (length ns) cut enough) e in
      let is : 1 + (n - 1) ≡ n = omega (arith, low.0) in
      numbers (n - 1) (omega (arith, low.0, low.1)) ∙ ap (λ (k : ℕ). values_of.Int (pos k)) is

  -- where a place stands, there is its value
  module _ (vs : List Value) (s : Statement) (pv : AreProper vs) (wv : SpellsWith text vs s) (number index : ℕ) (stands : StandsAt ones others number index) where
    by : (o : Option Source) → slice_get all index ≡ o → slice_get (literals s) index ≡ Some (place_value vs number)
    by None e = absurd (none-some (pos number) (sym (in_ones index None e) ∙ stands.has))
    by (Some (Fixed x)) e = absurd (stands.differs (in_others index (Some (Fixed x)) e ∙ (sym (in_ones index (Some (Fixed x)) e) ∙ stands.has)))
    by (Some (Placed n)) e =
        let found : Some (pos n) ≡ Some (pos number) = sym (in_ones index (Some (Placed n)) e ∙ ap value_number (own index n e)) ∙ stands.has in
        let same : n ≡ number = cc in
        literal_by text vs s wv pv parts last cut (value_of_place ns) wn.spelled.said spoken index (Some (Placed n)) e
        ∙ ap (λ (k : ℕ). Some (place_value vs k)) same

    pub place_says : slice_get (literals s) index ≡ Some (place_value vs number)
    place_says = by (slice_get all index) refl

  -- and a place in which the two have other values stands somewhere
  is_number : (v : Value) (z : ℤ) → value_number v ≡ Some z → v ≡ values_of.Int z
  is_number (values_of.Int y) z e = ap (λ (x : ℤ). values_of.Int x) (same_Some y z e)
  is_number (values_of.Text t) z e = absurd (none-some z e)

  pub stands_where : (index n : ℕ) → slice_get all index ≡ Some (Placed n) → (place_value ms n ≡ values_of.Int (pos n) → ⊥) → StandsAt ones others n index
  stands_where index n e other = record {
    has = in_ones index (Some (Placed n)) e ∙ ap value_number (own index n e);
    differs = λ f. other (is_number (place_value ms n) (pos n) (sym (in_others index (Some (Placed n)) e) ∙ f));
  }

-- ---- each place is among the sources
source_of : (says : ℕ → Lexeme) (front : List Part) (part : Part) (behind : List Part) (last : List ℕ) (said : List Lexeme) (s : SayInTurn says (front ++ part ∷ behind) last said)
    → (i : ℕ) × (slice_get (sources says (front ++ part ∷ behind) last said s) i ≡ Some (Placed (place_number part.place)))
source_of says [] part behind last said s =
    let fixed = literals_in s.0 in
    (length fixed, in_second (map Fixed fixed) (Placed (place_number part.place) ∷ sources says behind last s.1 s.4) (length fixed) 0 (omega (arith, length-map fixed Fixed)))
source_of says (p ∷ front) part behind last said s =
    let fixed = literals_in s.0 in
    let rest = sources says (front ++ part ∷ behind) last s.1 s.4 in
    let r = source_of says front part behind last s.1 s.4 in
    (length fixed + suc r.0, in_second (map Fixed fixed) (Placed (place_number p.place) ∷ rest) (length fixed + suc r.0) (suc r.0) (omega (arith, length-map fixed Fixed)) ∙ r.1)

module _ (text : List ℕ) (ns ms : List Value) (ones others : Statement) (numbers : AreNumbersFrom 1 ns)
    (pn : AreProper ns) (pm : AreProper ms) (wn : SpellsWith text ns ones) (wm : SpellsWith text ms others) where
  pub there_is_value : (vs : List Value) (s : Statement) (number index : ℕ) → AreProper vs → SpellsWith text vs s → StandsAt ones others number index → slice_get (literals s) index ≡ Some (place_value vs number)
  there_is_value vs s number index pv wv stands =
      let f = wn.is_filled in
      place_says text ns ms ones others numbers pn pm wn wm f.parts f.last f.cut f.enough vs s pv wv number index stands

  pub stands_somewhere : (front : List Part) (part : Part) (behind : List Part) (last : List ℕ) → AreParts text (front ++ part ∷ behind) last → (place_value ms (place_number part.place) ≡ values_of.Int (pos (place_number part.place)) → ⊥) → (index : ℕ) × StandsAt ones others (place_number part.place) index
  unfolding spoken in_turn
  stands_somewhere front part behind last a other =
      let parts = front ++ part ∷ behind in
      let f = wn.is_filled in
      let same = (parts_once text f.parts parts f.last last f.cut a).0 in
      let enough : greatest_number parts ≤ length ns = subst (λ (ps : List Part). greatest_number ps ≤ length ns) same f.enough in
      let t = in_turn text ns ones wn pn parts last a in
      let r = source_of (value_of_place ns) front part behind last wn.spelled.said t in
      (r.0, stands_where text ns ms ones others numbers pn pm wn wm parts last a enough r.0 (place_number part.place) r.1 other)
