-- Users whom a revocation could leave out.
use Rattle.std.proofs.Common.{◌≡◌, ⊎_elim, ℕ, ◌<◌, ◌≤◌, ◌+◌, ◌-◌, ◌/◌, arith, Bool, true, false, not, ◌||◌, cond, List, [], ◌∷◌, ◌++◌, length, take, drop, sym, ap, ◌∙◌, subst}
use Rattle.std.specs.List.{All, AllByRecursion, list_any, filter}
use Rattle.std.proofs.lemmas.Bool.{or_cases, or_left, or_right, cond-false}
use Rattle.std.proofs.lemmas.List.{length-take-le}
use Rattle.std.proofs.Math.Seq.{drop-append_seam}
use Rattle.std.proofs.lemmas.List.Elements.{All-weaker, All-cons, All-append, All-take, All-drop}
use Rattle.base_core.specs.Users.{same_user}
use Rattle.base_core.specs.declared.name.User.{User}
use Rattle.base_core.specs.declared.privilege.Atom.{Atom}
use Rattle.base_core.proofs.SameLemmas.{same_user-refl}
use Rattle.grants_core.specs.declared.grant.Grant.{Grant}
use Rattle.grants_core.specs.declared.grant.Ownership.{Ownership}
use Rattle.grants_core.specs.Content.{has_made, names}
use Rattle.explain_core.specs.Losses.{holds_without, IsLoss, others_than}
use Rattle.explain_core.proofs.ListLemmas.{drop-here, item-here, split-here, split-range}
use Rattle.explain_core.proofs.FewerLemmas.{holds-fewer, names-fewer}

-- what is found among those that a filter keeps
any-filtered : (p q : User → Bool) (xs : List User) → list_any p (filter q xs) ≡ true → list_any p xs ≡ true
any-filtered p q [] h = h
any-filtered p q (x ∷ xs) h =
    elim (q x) as (λ b. list_any p (cond b (x ∷ filter q xs) (filter q xs)) ≡ true → (p x || list_any p xs) ≡ true) [
      | true ↦ λ k.
          ⊎_elim
          (λ (here : p x ≡ true). or_left (p x) (list_any p xs) here)
          (λ (there : list_any p (filter q xs) ≡ true). or_right (p x) (list_any p xs) (any-filtered p q xs there))
          (or_cases (p x) (list_any p (filter q xs)) k)
      | false ↦ λ k. or_right (p x) (list_any p xs) (any-filtered p q xs k)
    ] h

-- and where the filter leaves this one out
any-without : (p q : User → Bool) (before : List User) (one : User) (after : List User) → q one ≡ false → list_any p (filter q (before ++ one ∷ after)) ≡ true → list_any p (before ++ after) ≡ true
any-without p q [] one after out h =
    any-filtered p q after (sym (ap (list_any p) (cond-false (q one) (one ∷ filter q after) (filter q after) out)) ∙ h)
any-without p q (x ∷ before) one after out h =
    let rest : List User = filter q (before ++ one ∷ after) in
    elim (q x) as (λ b. list_any p (cond b (x ∷ rest) rest) ≡ true → (p x || list_any p (before ++ after)) ≡ true) [
      | true ↦ λ k.
          ⊎_elim
          (λ (here : p x ≡ true). or_left (p x) (list_any p (before ++ after)) here)
          (λ (there : list_any p rest ≡ true). or_right (p x) (list_any p (before ++ after)) (any-without p q before one after out there))
          (or_cases (p x) (list_any p rest) k)
      | false ↦ λ k. or_right (p x) (list_any p (before ++ after)) (any-without p q before one after out k)
    ] h

-- more of them are filtered
any-behind : (p q : User → Bool) (more after : List User) → list_any p (filter q after) ≡ true → list_any p (filter q (more ++ after)) ≡ true
any-behind p q [] after h = h
any-behind p q (x ∷ more) after h =
    let there : list_any p (filter q (more ++ after)) ≡ true = any-behind p q more after h in
    elim (q x) as (λ b. list_any p (cond b (x ∷ filter q (more ++ after)) (filter q (more ++ after))) ≡ true) [
      | true ↦ or_right (p x) (list_any p (filter q (more ++ after))) there
      | false ↦ there
    ]

any-with : (p q : User → Bool) (before more after : List User) → list_any p (filter q (before ++ after)) ≡ true → list_any p (filter q (before ++ more ++ after)) ≡ true
any-with p q [] more after h = any-behind p q more after h
any-with p q (x ∷ before) more after h =
    let less : List User = filter q (before ++ after) in
    let all : List User = filter q (before ++ more ++ after) in
    elim (q x) as (λ b. list_any p (cond b (x ∷ less) less) ≡ true → list_any p (cond b (x ∷ all) all) ≡ true) [
      | true ↦ λ k.
          ⊎_elim
          (λ (here : p x ≡ true). or_left (p x) (list_any p all) here)
          (λ (there : list_any p less ≡ true). or_right (p x) (list_any p all) (any-with p q before more after there))
          (or_cases (p x) (list_any p less) k)
      | false ↦ λ k. any-with p q before more after k
    ] h

module _ (o : List Ownership) (grants : List Grant) (atom : Atom) (user by : User) where
  Holds : List User → Type 0
  Holds whom = holds_without o grants atom user by whom ≡ true

  -- who still holds the atom, holds it where it is revoked from fewer
  fewer-holds : (fewer more : List User) → ((u : User) → list_any (λ v. same_user v u) fewer ≡ true → list_any (λ v. same_user v u) more ≡ true) → Holds more → Holds fewer
  unfolding Holds
  fewer-holds fewer more listed holds = holds-fewer o grants atom user by fewer more (all grants) holds
    where
      all : (gs : List Grant) → AllByRecursion (λ g. names by (atom ∷ []) fewer g ≡ true → names by (atom ∷ []) more g ≡ true) gs
      all [] = tt
      all (g ∷ gs) = (names-fewer by (atom ∷ []) fewer more g (listed g.grantee), all gs)

  Tried : List User → User → Type 0
  Tried whom v = holds_without o grants atom user by (others_than v whom) ≡ true

  -- the user at a place is tried, and the rest is not enough
  module _ (xs : List User) (at : ℕ) (within : at < length xs) where
    pub tried-stays : (rest : List User) → rest ≡ take at xs ++ drop (at + 1) xs → holds_without o grants atom user by rest ≡ true → All (λ v. holds_without o grants atom user by (others_than v xs) ≡ true) (drop (at + 1) xs) → All (λ v. holds_without o grants atom user by (others_than v xs) ≡ true) (drop at xs)
    unfolding Tried Holds
    tried-stays rest is_rest enough tried =
        let before = take at xs in
        let after = drop (at + 1) xs in
        let (one, is) = item-here xs at within in
        let Of : List User → Type 0 = λ k. All (Tried xs) k in
        let Other : List User → Type 0 = λ k. Tried k one in
        let here : Tried (before ++ one ∷ after) one =
        fewer-holds (others_than one (before ++ one ∷ after)) rest
        (λ u there. ap (list_any (λ v. same_user v u)) is_rest ∙ any-without (λ v. same_user v u) (λ v. not (same_user v one)) before one after (ap not (same_user-refl one)) there)
        enough in
        subst Of (sym (drop-here xs at one within is)) (All-cons (Tried xs) one after (subst Other (sym (split-here xs at one within is)) here) tried)

  -- those from one place up to another are tried, and the rest is enough
  module _ (xs : List User) (from to : ℕ) (some : from ≤ to) (within : to ≤ length xs) (rest : List User) (is_rest : rest ≡ take from xs ++ drop to xs) where
    pub tried-left_out : All (λ v. holds_without o grants atom user by (others_than v xs) ≡ true) (drop to xs) → All (λ v. holds_without o grants atom user by (others_than v rest) ≡ true) (drop from rest)
    unfolding Tried Holds
    tried-left_out tried =
        let before = take from xs in
        let more = take (to - from) (drop from xs) in
        let after = drop to xs in
        let Of : List User → Type 0 = λ k. All (Tried rest) k in
        let front : length before ≡ from = length-take-le from xs (omega (arith, some, within)) in
        let back : drop from rest ≡ after = ap (drop from) is_rest ∙ ap (λ n. drop n (before ++ after)) (sym front) ∙ drop-append_seam before after in
        let split : before ++ more ++ after ≡ xs = split-range xs from to some within in
        let fewer : (v : User) → Tried xs v → Tried rest v = λ v old.
        fewer-holds (others_than v rest) (others_than v xs)
        (λ u there.
        ap (λ k. list_any (λ w. same_user w u) (others_than v k)) (sym split)
        ∙ any-with (λ w. same_user w u) (λ w. not (same_user w v)) before more after (ap (λ k. list_any (λ w. same_user w u) (others_than v k)) (sym is_rest) ∙ there))
        old in
        subst Of (sym back) (All-weaker (Tried xs) (Tried rest) fewer after tried)

    pub loss-left_out : IsLoss o grants atom user by xs → holds_without o grants atom user by rest ≡ false → IsLoss o grants atom user by rest
    loss-left_out loss lost =
        let Made : User → Type 0 = λ v. has_made grants by v atom ≡ true in
        let AllMade : List User → Type 0 = λ k. All Made k in
        record {
          made = subst AllMade (sym is_rest) (All-append Made (take from xs) (drop to xs) (All-take Made from xs loss.made) (All-drop Made to xs loss.made));
          lost = lost;
        }

-- half of more than one is at least one
pub half-some : (from to half : ℕ) → from < to → (from + 1 ≡ to → ⊥) → half ≡ (to - from) / 2 → 1 ≤ half
half-some from to half less more is = omega (arith, less, more, is)
