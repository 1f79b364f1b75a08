-- The lives of grants, from what stands at each moment.
use Rattle.std.proofs.Common.{◌≡◌, ℕ, ◌+◌, ◌-◌, ◌<◌, ◌≤◌, Bool, true, false, not, ◌&&◌, ◌||◌, cond, eqb, ltb, List, [], ◌∷◌, length, get_or, map, slice_get, take, suc, zero, add-zero, Option, Some, None, refl, sym, ap, ◌∙◌, subst, arith, ⊎_elim}
use Rattle.std.specs.List.{AllByRecursion, All, list_any, find, range_with_len}
use Rattle.std.specs.Option.{option_map}
use Rattle.std.proofs.lemmas.Bool.{le-leb, lt-ltb, le-ltb, eq-eqb, ne_eqb, and_right, cases_eq}
use Rattle.std.proofs.lemmas.List.{length-map, get_or-map}
use Rattle.std.proofs.lemmas.List.Elements.{recursion_from_All, All-same}
use Rattle.std.proofs.lemmas.Option.{none-some, same_Some, slice_get_within, get_or_from_slice_get, slice_get-get_or}
use Rattle.base_core.specs.declared.value.Moment.{Moment}
use Rattle.grants_core.specs.declared.grant.Grant.{Grant}
use Rattle.grants_core.specs.declared.grant.Change.{Change}
use Rattle.grants_core.specs.Content.{option_off}
use Rattle.grants_core.specs.History.{granted, is_unoptioned, made_by_all, in_force_after, owners_after}
use Rattle.grants_core.specs.Valid.{valid}
use Rattle.grants_core.proofs.NumberLemmas.{numbers-granted}
use Rattle.explain_core.specs.declared.life.Life.{Life}
use Rattle.grants_core.specs.Lawful.{AreLawful}
use Rattle.explain_core.specs.Lives.{stands_at, has_option_at, first_failure, life_of, lives_of}
use Rattle.explain_core.specs.Ends.{is_before}
use Rattle.explain_core.specs.Reading.{left_at, stands, standing_at, EndsRight, EndsWithin, AreLives}
use Rattle.explain_core.proofs.MadeLemmas.{in_force-left, moment-granted}
use Rattle.explain_core.proofs.ListLemmas.{all_at}
use Rattle.explain_core.proofs.Standing.{grant_of, list_any-standing}

-- lives whose grants are numbered from n on
abbrev AreNumbered : ℕ → List Life → Type 0
AreNumbered n [] = Unit {0}
AreNumbered n (l ∷ ls) = (l.grant.number ≡ n) × AreNumbered (n + 1) ls

numbered-from : (n k : ℕ) (ls : List Life) → map (λ g. g.number) (map grant_of ls) ≡ range_with_len n k → AreNumbered n ls
numbered-from n k [] h = tt
numbered-from n zero (l ∷ ls) h = cc
numbered-from n (suc k) (l ∷ ls) h = (number h, numbered-from (n + 1) k ls (rest h))
  where
    number : l.grant.number ∷ map (λ g. g.number) (map grant_of ls) ≡ n ∷ range_with_len (n + 1) k → l.grant.number ≡ n
    number e = cc

    rest : l.grant.number ∷ map (λ g. g.number) (map grant_of ls) ≡ n ∷ range_with_len (n + 1) k → map (λ g. g.number) (map grant_of ls) ≡ range_with_len (n + 1) k
    rest e = cc

-- a test that asks for another number too finds none
none-numbered : (n k : ℕ) (q : Life → Bool) (ls : List Life) → AreNumbered n ls → k < n → list_any (λ h. q h && eqb h.grant.number k) ls ≡ false
none-numbered n k q [] h lt = refl
none-numbered n k q (l ∷ ls) h lt =
    let e : l.grant.number ≡ n = h.0 in
    ap (λ b. b || list_any (λ h. q h && eqb h.grant.number k) ls) (and_right (q l) _ (ne_eqb l.grant.number k (λ f. omega arith)))
    ∙ none-numbered (n + 1) k q ls h.1 (omega arith)

or_nothing : (b : Bool) → (b || false) ≡ b
or_nothing true = refl
or_nothing false = refl

and_always : (b : Bool) → (b && true) ≡ b
and_always true = refl
and_always false = refl

-- a test that asks for a number too is one of the life that bears it
abbrev OnlyOne : (Life → Bool) → List Life → Life → Type 0
OnlyOne q all l = list_any (λ h. q h && eqb h.grant.number l.grant.number) all ≡ q l

only-first : (n : ℕ) (q : Life → Bool) (l : Life) (ls : List Life) → AreNumbered n (l ∷ ls) → OnlyOne q (l ∷ ls) l
only-first n q l ls h =
    let e : l.grant.number ≡ n = h.0 in
    ap (λ b. (q l && b) || list_any (λ k. q k && eqb k.grant.number l.grant.number) ls) (eq-eqb l.grant.number l.grant.number refl)
    ∙ ap (λ b. (q l && true) || b) (none-numbered (n + 1) l.grant.number q ls h.1 (omega arith))
    ∙ or_nothing (q l && true) ∙ and_always (q l)

number-at : (n k : ℕ) (ls : List Life) (l : Life) → AreNumbered n ls → slice_get ls k ≡ Some l → l.grant.number ≡ n + k
number-at n k [] l h e = absurd (none-some l e)
number-at n zero (x ∷ xs) l h e =
    let same : x ≡ l = same_Some x l e in
    let is : x.grant.number ≡ n = h.0 in
    ap (λ (y : Life). y.grant.number) (sym same) ∙ is ∙ sym (add-zero n)
number-at n (suc k) (x ∷ xs) l h e =
    let next : l.grant.number ≡ (n + 1) + k = number-at (n + 1) k xs l h.1 e in
    omega arith

only-at : (n k : ℕ) (q : Life → Bool) (ls : List Life) (l : Life) → AreNumbered n ls → slice_get ls k ≡ Some l → OnlyOne q ls l
only-at n k q [] l h e = absurd (none-some l e)
only-at n zero q (x ∷ xs) l h e =
    let P : Life → Type 0 = λ y. OnlyOne q (x ∷ xs) y in
    subst P (same_Some x l e) (only-first n q x xs h)
only-at n (suc k) q (x ∷ xs) l h e =
    let is : x.grant.number ≡ n = h.0 in
    let next : l.grant.number ≡ (n + 1) + k = number-at (n + 1) k xs l h.1 e in
    ap (λ b. b || list_any (λ j. q j && eqb j.grant.number l.grant.number) xs) (and_right (q x) _ (ne_eqb x.grant.number l.grant.number (λ f. omega arith)))
    ∙ only-at (n + 1) k q xs l h.1 e

numbered-lives : (changes : List Change) (lives : List Life) → map grant_of lives ≡ granted changes → AreNumbered 0 lives
numbered-lives changes lives made = numbered-from 0 (made_by_all changes) lives (ap (map (λ g. g.number)) made ∙ numbers-granted changes)

abbrev moment_at : ℕ → Moment
moment_at m = record { 0 = m }

-- the first moment at which a test fails that passes up to an end
first-end : (test : ℕ → Bool) (end : Option Moment) (len a high : ℕ) → high + 1 ≡ a + len → ((m : ℕ) → a ≤ m → m ≤ high → test m ≡ is_before m end) → EndsWithin a high end → option_map moment_at (find (λ m. not (test m)) (range_with_len a len)) ≡ end
first-end test None zero a high count same within = refl
first-end test (Some e) zero a high count same within = let low = within.0 in let up = within.1 in absurd (omega (arith, low, up, count))
first-end test None (suc len) a high count same within =
    ap (λ b. option_map moment_at (cond (not b) (Some a) (find (λ m. not (test m)) (range_with_len (a + 1) len)))) (same a (omega arith) (omega arith))
    ∙ first-end test None len (a + 1) high (omega arith) (λ m le up. same m (omega arith) up) tt
first-end test (Some e) (suc len) a high count same within =
    let low = within.0 in
    let up = within.1 in
    let here : test a ≡ ltb a e.0 = same a (omega arith) (omega arith) in
    ⊎_elim
    (λ (equal : a ≡ e.0).
    ap (λ b. option_map moment_at (cond (not b) (Some a) (find (λ m. not (test m)) (range_with_len (a + 1) len)))) (here ∙ le-ltb a e.0 (omega arith))
    ∙ ap (λ n. Some (moment_at n)) equal)
    (λ (other : a ≡ e.0 → ⊥).
    let lt : a < e.0 = below a e.0 low other in
    ap (λ b. option_map moment_at (cond (not b) (Some a) (find (λ m. not (test m)) (range_with_len (a + 1) len)))) (here ∙ lt-ltb a e.0 lt)
    ∙ first-end test (Some e) len (a + 1) high (omega arith) (λ m le top. same m (omega arith) top) (omega arith, up))
    (cases_eq a e.0)
  where
    below : (a b : ℕ) → a ≤ b → (a ≡ b → ⊥) → a < b
    below a b le ne = omega arith

turned : (f o t : Bool) → (f && (o && not t)) ≡ (o && (not t && f))
turned true true true = refl
turned true true false = refl
turned true false t = refl
turned false true true = refl
turned false true false = refl
turned false false t = refl

and_grouped : (a b c : Bool) → (a && (b && c)) ≡ ((a && b) && c)
and_grouped true b c = refl
and_grouped false b c = refl

list_any-grouped : (a b c : Life → Bool) (ls : List Life) → list_any (λ h. a h && (b h && c h)) ls ≡ list_any (λ h. (a h && b h) && c h) ls
list_any-grouped a b c [] = refl
list_any-grouped a b c (l ∷ ls) =
    ap (λ k. k || list_any (λ h. a h && (b h && c h)) ls) (and_grouped (a l) (b l) (c l))
    ∙ ap (λ k. ((a l && b l) && c l) || k) (list_any-grouped a b c ls)

module _ (changes : List Change) (lives : List Life) (lawful : AreLawful changes)
    (read : AreLives changes lives) (made : map grant_of lives ≡ granted changes)
    (k : ℕ) (l : Life) (at : slice_get lives k ≡ Some l) where
  in_force-standing : (m : ℕ) → m ≤ length changes → in_force_after (take m changes) ≡ standing_at changes m lives
  in_force-standing m h =
      in_force-left changes m lawful h
      ∙ ap (λ gs. valid (owners_after changes) (left_at changes m gs)) (sym made) ∙ read.stand m

  right : EndsRight changes l
  right = all_at (EndsRight changes) lives k l at read.options

  same_fall : (m : ℕ) → l.grant.moment.0 ≤ m → m ≤ length changes → stands_at changes l.grant m ≡ is_before m l.fell
  same_fall m early within =
      ap (list_any (λ h. eqb h.number l.grant.number)) (in_force-standing m within)
      ∙ list_any-standing changes m (λ h. eqb h.number l.grant.number) lives
      ∙ only-at 0 k (stands m) lives l (numbered-lives changes lives made) at
      ∙ ap (λ b. b && is_before m l.fell) (le-leb l.grant.moment.0 m early)

  same_end : (m : ℕ) → l.grant.moment.0 ≤ m → m ≤ length changes → has_option_at changes l.grant m ≡ is_before m l.option_end
  same_end m early within =
      let off : Life → Grant = λ h. option_off (is_unoptioned (take m changes)) h.grant in
      let q : Life → Bool = λ h. stands m h && (off h).option in
      ap (list_any (λ h. h.option && eqb h.number l.grant.number)) (in_force-standing m within)
      ∙ list_any-standing changes m (λ h. h.option && eqb h.number l.grant.number) lives
      ∙ list_any-grouped (λ h. stands m h) (λ h. (off h).option) (λ h. eqb h.grant.number l.grant.number) lives
      ∙ only-at 0 k q lives l (numbered-lives changes lives made) at
      ∙ ap (λ b. (b && is_before m l.fell) && (off l).option) (le-leb l.grant.moment.0 m early)
      ∙ turned (is_before m l.fell) l.grant.option (is_unoptioned (take m changes) l.grant)
      ∙ sym (right m early)

  early_enough : l.grant.moment.0 ≤ length changes
  early_enough =
      let P : Grant → Type 0 = λ g. g.moment.0 ≤ length changes in
      let inside : k < length lives = slice_get_within lives k l at in
      let there : k < length (map grant_of lives) = let e = length-map lives grant_of in omega arith in
      let whole : All P (map grant_of lives) = All-same P (map grant_of lives) (granted changes) made (moment-granted changes) in
      let is : get_or (map grant_of lives) k l.grant ≡ l.grant = get_or-map grant_of lives k l l.grant inside ∙ ap grant_of (get_or_from_slice_get lives k l l at) in
      subst P is (whole k l.grant there)

  -- **a life of the lives is that of its grant**
  pub life-right : life_of changes l.grant ≡ l
  life-right =
      let a : ℕ = l.grant.moment.0 in
      let count : length changes + 1 ≡ a + (length changes + 1 - a) = let h = early_enough in omega arith in
      let fell : first_failure (stands_at changes l.grant) changes l.grant ≡ l.fell =
      first-end (stands_at changes l.grant) l.fell (length changes + 1 - a) a (length changes) count same_fall (all_at (λ h. EndsWithin h.grant.moment.0 (length changes) h.fell) lives k l at read.falls) in
      let end : first_failure (has_option_at changes l.grant) changes l.grant ≡ l.option_end =
      first-end (has_option_at changes l.grant) l.option_end (length changes + 1 - a) a (length changes) count same_end (all_at (λ h. EndsWithin h.grant.moment.0 (length changes) h.option_end) lives k l at read.ends) in
      let With_fell : Option Moment → Life = λ f. record { grant = l.grant; fell = f; option_end = first_failure (has_option_at changes l.grant) changes l.grant } in
      let With_end : Option Moment → Life = λ e. record { grant = l.grant; fell = l.fell; option_end = e } in
      ap With_fell fell ∙ ap With_end end

All-lives : (changes : List Change) (lives : List Life) → AreLawful changes → AreLives changes lives → map grant_of lives ≡ granted changes → All (λ l. life_of changes l.grant ≡ l) lives
All-lives changes lives lawful read made k d within =
    life-right changes lives lawful read made k (get_or lives k d) (slice_get-get_or lives k d within)

map-fixed : (f : Life → Life) (ls : List Life) → AllByRecursion (λ l. f l ≡ l) ls → map f ls ≡ ls
map-fixed f [] h = refl
map-fixed f (l ∷ ls) h = ap (λ x. x ∷ map f ls) h.0 ∙ ap (λ k. l ∷ k) (map-fixed f ls h.1)

map-grants : (changes : List Change) (ls : List Life) → map (life_of changes) (map grant_of ls) ≡ map (λ l. life_of changes l.grant) ls
map-grants changes [] = refl
map-grants changes (l ∷ ls) = ap (λ k. life_of changes l.grant ∷ k) (map-grants changes ls)

-- **the lives that were read are those of all grants**
pub lives-right : (changes : List Change) (lives : List Life) → AreLawful changes → AreLives changes lives → map grant_of lives ≡ granted changes → lives ≡ lives_of changes
lives-right changes lives lawful read made =
    let Fixed : Life → Type 0 = λ l. life_of changes l.grant ≡ l in
    sym (ap (map (life_of changes)) (sym made) ∙ map-grants changes lives
    ∙ map-fixed (λ l. life_of changes l.grant) lives (recursion_from_All Fixed lives (All-lives changes lives lawful read made)))
