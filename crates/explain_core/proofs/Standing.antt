-- Which grants stand at a moment, by the lives of the grants.
use Rattle.std.proofs.Common.{◌≡◌, ℕ, ◌+◌, ◌<◌, ◌≤◌, Bool, true, false, not, ◌&&◌, ◌||◌, cond, leb, ltb, List, [], ◌∷◌, ◌++◌, map, take, refl, sym, ap, ◌∙◌, arith, ⊎_elim}
use Rattle.std.specs.List.{AllByRecursion, All, list_any, filter}
use Rattle.std.proofs.lemmas.Bool.{cases_Bool, le-leb, lt-leb, and_left, and_right, cases_lt, ltb-true}
use Rattle.std.proofs.lemmas.List.{append-nil, map-append}
use Rattle.std.proofs.lemmas.List.Elements.{filter-append, recursion_from_All}
use Rattle.base_core.specs.Users.{same_user}
use Rattle.base_core.specs.Privileges.{same_atom}
use Rattle.grants_core.specs.declared.grant.Grant.{Grant}
use Rattle.grants_core.specs.declared.grant.Ownership.{Ownership}
use Rattle.grants_core.specs.declared.grant.Change.{Change}
use Rattle.grants_core.specs.Owners.{owns}
use Rattle.grants_core.specs.Valid.{valid, supports, is_supported, kept_with}
use Rattle.grants_core.specs.Content.{option_off}
use Rattle.grants_core.specs.History.{is_struck, is_unoptioned}
use Rattle.grants_core.proofs.ValidLemmas.{valid-push}
use Rattle.grants_core.proofs.OptionLemmas.{support_of-option_off}
use Rattle.explain_core.specs.declared.life.Life.{Life}
use Rattle.explain_core.specs.Ends.{is_before}
use Rattle.explain_core.specs.Reading.{left_at, stands, standing_at, EndsRight}

abbrev pub grant_of : Life → Grant
grant_of life = life.grant

-- a test of what stands, as a test of the lives
pub list_any-standing : (changes : List Change) (m : ℕ) (p : Grant → Bool) (lives : List Life) → list_any p (standing_at changes m lives) ≡ list_any (λ h. stands m h && p (option_off (is_unoptioned (take m changes)) h.grant)) lives
list_any-standing changes m p [] = refl
list_any-standing changes m p (l ∷ ls) =
    let off : Life → Grant = λ h. option_off (is_unoptioned (take m changes)) h.grant in
    elim (stands m l) as (λ b. list_any p (map off (cond b (l ∷ filter (stands m) ls) (filter (stands m) ls))) ≡ ((b && p (off l)) || list_any (λ h. stands m h && p (off h)) ls)) [
      | true ↦ ap (λ b. p (off l) || b) (list_any-standing changes m p ls)
      | false ↦ list_any-standing changes m p ls
    ]

pub list_any-alike : (p q : Life → Bool) (lives : List Life) → AllByRecursion (λ l. p l ≡ q l) lives → list_any p lives ≡ list_any q lives
list_any-alike p q [] h = refl
list_any-alike p q (l ∷ ls) h = ap (λ b. b || list_any p ls) h.0 ∙ ap (λ b. q l || b) (list_any-alike p q ls h.1)

-- whether a life's grant supports g at a moment
abbrev pub upholds : ℕ → Grant → Life → Bool
upholds m g h = supports h.grant g && is_before m h.option_end

same_support : (o t a u f : Bool) → (f && ((((o && not t) && a) && u) && true)) ≡ ((((o && a) && u) && true) && (o && (not t && f)))
same_support true true true true true = refl
same_support true true true true false = refl
same_support true true true false true = refl
same_support true true true false false = refl
same_support true true false u true = refl
same_support true true false u false = refl
same_support true false true true true = refl
same_support true false true true false = refl
same_support true false true false true = refl
same_support true false true false false = refl
same_support true false false u true = refl
same_support true false false u false = refl
same_support false t a u true = refl
same_support false t a u false = refl

upholds-standing : (changes : List Change) (m : ℕ) (g : Grant) (h : Life) → g.moment.0 ≤ m + 1 → EndsRight changes h → (stands m h && supports (option_off (is_unoptioned (take m changes)) h.grant) g) ≡ upholds m g h
unfolding supports
upholds-standing changes m g h within ends =
    let e : Grant = h.grant in
    let t : Bool = is_unoptioned (take m changes) e in
    let a : Bool = same_atom e.atom g.atom in
    let u : Bool = same_user e.grantee g.grantor in
    let f : Bool = is_before m h.fell in
    ⊎_elim
    (λ (early : ltb e.moment.0 g.moment.0 ≡ true).
    let lt : e.moment.0 < g.moment.0 = ltb-true e.moment.0 g.moment.0 early in
    let le : e.moment.0 ≤ m = omega arith in
    ap (λ b. (b && f) && ((((e.option && not t) && a) && u) && ltb e.moment.0 g.moment.0)) (le-leb e.moment.0 m le)
    ∙ ap (λ b. f && ((((e.option && not t) && a) && u) && b)) early
    ∙ same_support e.option t a u f
    ∙ sym (ap (λ b. (((e.option && a) && u) && b) && is_before m h.option_end) early ∙ ap (λ b. (((e.option && a) && u) && true) && b) (ends m le)))
    (λ (late : ltb e.moment.0 g.moment.0 ≡ false).
    ap (λ b. stands m h && ((((e.option && not t) && a) && u) && b)) late
    ∙ and_right (stands m h) _ (and_right (((e.option && not t) && a) && u) false refl)
    ∙ sym (and_left _ (is_before m h.option_end) (ap (λ b. ((e.option && a) && u) && b) late ∙ and_right ((e.option && a) && u) false refl)))
    (cases_Bool (ltb e.moment.0 g.moment.0))

-- what stands supports g where a life does
pub supported-standing : (changes : List Change) (o : List Ownership) (m : ℕ) (g : Grant) (lives : List Life) → g.moment.0 ≤ m + 1 → All (EndsRight changes) lives → is_supported o (standing_at changes m lives) g ≡ (owns o g.grantor g.atom || list_any (upholds m g) lives)
supported-standing changes o m g lives within ends =
    let Alike : Life → Type 0 = λ h. (stands m h && supports (option_off (is_unoptioned (take m changes)) h.grant) g) ≡ upholds m g h in
    let each : (ls : List Life) → AllByRecursion (EndsRight changes) ls → AllByRecursion Alike ls = λ ls. each_of ls in
    ap (λ b. owns o g.grantor g.atom || b)
    (list_any-standing changes m (λ k. supports k g) lives
    ∙ list_any-alike (λ h. stands m h && supports (option_off (is_unoptioned (take m changes)) h.grant) g) (upholds m g) lives (each lives (recursion_from_All (EndsRight changes) lives ends)))
  where
    each_of : (ls : List Life) → AllByRecursion (EndsRight changes) ls → AllByRecursion (λ h. (stands m h && supports (option_off (is_unoptioned (take m changes)) h.grant) g) ≡ upholds m g h) ls
    each_of [] h = tt
    each_of (l ∷ ls) h = (upholds-standing changes m g l within h.0, each_of ls h.1)

left-push : (changes : List Change) (m : ℕ) (xs : List Grant) (g : Grant) → left_at changes m (xs ++ g ∷ []) ≡ left_at changes m xs ++ cond (leb g.moment.0 m && not (is_struck (take m changes) g)) (option_off (is_unoptioned (take m changes)) g ∷ []) []
left-push changes m xs g =
    let off : Grant → Grant = option_off (is_unoptioned (take m changes)) in
    let made : Grant → Bool = λ h. leb h.moment.0 m in
    let kept : Grant → Bool = λ h. not (is_struck (take m changes) h) in
    let last : map off (filter kept (filter made (g ∷ []))) ≡ cond (made g && kept g) (off g ∷ []) [] =
    elim (made g) as (λ b. map off (filter kept (cond b (g ∷ []) [])) ≡ cond (b && kept g) (off g ∷ []) []) [
      | true ↦ elim (kept g) as (λ b. map off (cond b (g ∷ []) []) ≡ cond b (off g ∷ []) []) [ true ↦ refl | false ↦ refl ]
      | false ↦ refl
    ] in
    ap (λ k. map off (filter kept k)) (filter-append made xs (g ∷ []))
    ∙ ap (map off) (filter-append kept (filter made xs) (filter made (g ∷ [])))
    ∙ map-append off (filter kept (filter made xs)) (filter kept (filter made (g ∷ [])))
    ∙ ap (λ k. left_at changes m xs ++ k) last

standing-push : (changes : List Change) (m : ℕ) (lives : List Life) (l : Life) → standing_at changes m (lives ++ l ∷ []) ≡ standing_at changes m lives ++ cond (stands m l) (option_off (is_unoptioned (take m changes)) l.grant ∷ []) []
standing-push changes m lives l =
    let off : Life → Grant = λ h. option_off (is_unoptioned (take m changes)) h.grant in
    let last : map off (filter (stands m) (l ∷ [])) ≡ cond (stands m l) (off l ∷ []) [] =
    elim (stands m l) as (λ b. map off (cond b (l ∷ []) []) ≡ cond b (off l ∷ []) []) [ true ↦ refl | false ↦ refl ] in
    ap (map off) (filter-append (stands m) lives (l ∷ [])) ∙ map-append off (filter (stands m) lives) (filter (stands m) (l ∷ []))
    ∙ ap (λ k. standing_at changes m lives ++ k) last

append-cond : (b : Bool) (xs : List Grant) (g : Grant) → cond b (xs ++ g ∷ []) xs ≡ xs ++ cond b (g ∷ []) []
append-cond true xs g = refl
append-cond false xs g = sym (append-nil xs)

-- when a grant stands by the lives of the grants before it
abbrev pub FallsRight : List Change → List Ownership → List Life → Life → Type 0
FallsRight changes o lives l =
    (m : ℕ) → l.grant.moment.0 ≤ m
    → is_before m l.fell
    ≡ (not (is_struck (take m changes) l.grant) && (owns o l.grant.grantor l.grant.atom || list_any (upholds m l.grant) lives))

module _ (changes : List Change) (o : List Ownership) (m : ℕ) (lives : List Life) (l : Life)
    (stand : valid o (left_at changes m (map grant_of lives)) ≡ standing_at changes m lives)
    (ends : All (EndsRight changes) lives) (falls : FallsRight changes o lives l) where
  abbrev off_last : Grant
  off_last = option_off (is_unoptioned (take m changes)) l.grant

  abbrev upheld : Bool
  upheld = owns o l.grant.grantor l.grant.atom || list_any (upholds m l.grant) lives

  -- the last grant is valid where it is upheld
  valid-last : l.grant.moment.0 ≤ m → valid o (left_at changes m (map grant_of lives) ++ off_last ∷ []) ≡ standing_at changes m lives ++ cond upheld (off_last ∷ []) []
  valid-last le =
      let before : List Grant = left_at changes m (map grant_of lives) in
      let supported : is_supported o (standing_at changes m lives) off_last ≡ upheld =
      support_of-option_off o (is_unoptioned (take m changes)) (standing_at changes m lives) l.grant
      ∙ supported-standing changes o m l.grant lives (omega arith) ends in
      valid-push o before off_last
      ∙ ap (λ k. kept_with o k off_last) stand
      ∙ ap (λ b. cond b (standing_at changes m lives ++ off_last ∷ []) (standing_at changes m lives)) supported
      ∙ append-cond upheld (standing_at changes m lives) off_last

  stand-last : valid o (left_at changes m (map grant_of lives) ++ cond (leb l.grant.moment.0 m && not (is_struck (take m changes) l.grant)) (off_last ∷ []) []) ≡ standing_at changes m lives ++ cond (stands m l) (off_last ∷ []) []
  stand-last =
      let before : List Grant = left_at changes m (map grant_of lives) in
      let now : List Grant = standing_at changes m lives in
      let none : valid o (before ++ []) ≡ now ++ [] = ap (valid o) (append-nil before) ∙ stand ∙ sym (append-nil now) in
      ⊎_elim
      (λ (early : l.grant.moment.0 < m + 1).
      let le : l.grant.moment.0 ≤ m = omega arith in
      let s : Bool = is_struck (take m changes) l.grant in
      let by_case : valid o (before ++ cond (not s) (off_last ∷ []) []) ≡ now ++ cond (not s && upheld) (off_last ∷ []) [] =
      elim s as (λ b. valid o (before ++ cond (not b) (off_last ∷ []) []) ≡ now ++ cond (not b && upheld) (off_last ∷ []) []) [ true ↦ none | false ↦ valid-last le ] in
      ap (λ b. valid o (before ++ cond (b && not s) (off_last ∷ []) [])) (le-leb l.grant.moment.0 m le)
      ∙ by_case
      ∙ sym (ap (λ b. now ++ cond (b && is_before m l.fell) (off_last ∷ []) []) (le-leb l.grant.moment.0 m le) ∙ ap (λ b. now ++ cond b (off_last ∷ []) []) (falls m le)))
      (λ (late : m + 1 ≤ l.grant.moment.0).
      let lt : m < l.grant.moment.0 = omega arith in
      ap (λ b. valid o (before ++ cond (b && not (is_struck (take m changes) l.grant)) (off_last ∷ []) [])) (lt-leb l.grant.moment.0 m lt)
      ∙ none ∙ sym (ap (λ b. now ++ cond (b && is_before m l.fell) (off_last ∷ []) []) (lt-leb l.grant.moment.0 m lt)))
      (cases_lt l.grant.moment.0 (m + 1))

  -- **one more grant: what is valid is what stands, by its life too**
  pub stand-push : valid o (left_at changes m (map grant_of (lives ++ l ∷ []))) ≡ standing_at changes m (lives ++ l ∷ [])
  stand-push =
      ap (λ k. valid o (left_at changes m k)) (map-append grant_of lives (l ∷ []))
      ∙ ap (valid o) (left-push changes m (map grant_of lives) l.grant)
      ∙ stand-last ∙ sym (standing-push changes m lives l)
