-- How grants fell, from below.
use Rattle.std.proofs.Common.{◌≡◌, ◌⊎◌, inl, inr, ⊎_elim, ℕ, ◌<◌, ◌≤◌, Bool, true, false, not, ◌&&◌, ◌||◌, List, [], ◌∷◌, ◌++◌, Option, Some, None, map, refl, sym, ap, ◌∙◌, subst, arith}
use Rattle.std.specs.List.{All, Contains, slice_get}
use Rattle.std.proofs.lemmas.Bool.{cases_Bool, or_cases, or_parts, and_parts, both_ways}
use Rattle.std.proofs.lemmas.List.Elements.{All-nil, All-cons}
use Rattle.base_core.specs.declared.value.Moment.{Moment}
use Rattle.grants_core.specs.declared.grant.Change.{Change}
use Rattle.grants_core.specs.History.{owners_after}
use Rattle.explain_core.specs.declared.life.Life.{Life}
use Rattle.explain_core.specs.Lives.{lives_of}
use Rattle.explain_core.specs.Chains.{EachSupportsNext}
use Rattle.explain_core.specs.Falls.{strikes, takes_option, IsChangeAt, IsDescent}
use Rattle.explain_core.specs.Kept.{SupportsLife, IsByOwner, IsSupported}
use Rattle.explain_core.specs.Branches.{is_named_in_line, IsAbove}
use Rattle.explain_core.proofs.ListLemmas.{Contains-at}
use Rattle.explain_core.proofs.ChainLemmas.{supports-option}

pub above-unnamed : (changes : List Change) (c : Change) (is_last : Bool) (place : ℕ) (life : Life) (support : Option ℕ) → life.grant.number ≡ place → is_named_in_line c is_last life.grant ≡ false → IsSupported changes (owners_after changes) (lives_of changes) life support → IsAbove changes c is_last place life support
above-unnamed changes c is_last place life None number unnamed is = inr is
above-unnamed changes c is_last place life (Some support) number unnamed is =
    let before : support < life.grant.number = is.0 in
    (unnamed, omega (arith, number, before), is.1, is.2, is.3)

-- A line of lives from the one at this place down to the last, which is at this number: each but the
-- last had its option until the moment.
pub record FallsFrom (changes : List Change) (at : Moment) (number place : ℕ) (last : Life) (line : List Life) : Type 0 where
  pub top : Life
  pub top_at : slice_get (lives_of changes) place ≡ Some top
  pub more : List Life
  pub first : line ≡ top ∷ more
  pub still : ((place ≡ number) × (top ≡ last))
      ⊎ ((place < number) × (top.option_end ≡ Some at) × (top.grant.option ≡ true) × (more ≡ [] → ⊥))
  pub made : All (λ life. Contains (lives_of changes) life) line
  pub linked : EachSupportsNext (map (λ (life : Life). life.grant) line)
  pub until : All (λ life. (life.option_end ≡ Some at) ⊎ (life ≡ last)) line
  pub ends : (front : List Life) × (line ≡ front ++ last ∷ [])

or_none : (b : Bool) → (b || false) ≡ true → b ≡ true
or_none true h = refl
or_none false h = h

module _ (changes : List Change) (at : Moment) (number : ℕ) (last : Life) where
  pub falls_alone : slice_get (lives_of changes) number ≡ Some last → FallsFrom changes at number number last (last ∷ [])
  falls_alone there =
      let Until : Life → Type 0 = λ life. (life.option_end ≡ Some at) ⊎ (life ≡ last) in
      record {
        top = last;
        top_at = there;
        more = [];
        first = refl;
        still = inl (refl, refl);
        made = All-cons (λ life. Contains (lives_of changes) life) last [] (Contains-at (lives_of changes) number last there) (All-nil (λ life. Contains (lives_of changes) life));
        linked = tt;
        until = All-cons Until last [] (inr refl) (All-nil Until);
        ends = ([], refl);
      }

  module _ (c : Change) (change : IsChangeAt changes at c) (fell : last.fell ≡ Some at) (place : ℕ) (line : List Life) (from : FallsFrom changes at number place last line) (is_last : Bool) (tells : (place ≡ number → is_last ≡ true) × (place < number → is_last ≡ false)) where
    -- what the change does not name ends by its support
    ended_above : (above : Life) → SupportsLife changes above from.top → is_named_in_line c is_last from.top.grant ≡ false → above.option_end ≡ Some at
    ended_above above is unnamed =
        let parts = or_parts (strikes c from.top.grant) (not is_last && takes_option c from.top.grant) unnamed in
        ⊎_elim
        (λ (here : (place ≡ number) × (from.top ≡ last)).
        is.falls at c (record { fell = ap (λ (l : Life). l.fell) here.1 ∙ fell; change = change; unstruck = parts.0 }))
        (λ (passed : (place < number) × (from.top.option_end ≡ Some at) × (from.top.grant.option ≡ true) × (from.more ≡ [] → ⊥)).
        let untaken : takes_option c from.top.grant ≡ false = ap (λ b. not b && takes_option c from.top.grant) (sym (tells.1 passed.0)) ∙ parts.1 in
        is.ends at c (record { option = passed.2; ended = passed.1; change = change; unstruck = parts.0; untaken = untaken }))
        from.still

    at_most : place ≤ number
    at_most = ⊎_elim (λ (here : (place ≡ number) × (from.top ≡ last)). let e : place ≡ number = here.0 in omega (arith, e)) (λ (passed : (place < number) × (from.top.option_end ≡ Some at) × (from.top.grant.option ≡ true) × (from.more ≡ [] → ⊥)). let e : place < number = passed.0 in omega (arith, e)) from.still

    -- the line with the support of its first
    pub falls_above : (support : ℕ) (is : IsAbove changes c is_last place from.top (Some support)) → FallsFrom changes at number support last (is.2 ∷ line)
    falls_above support is =
        let above : Life = is.2 in
        let end = ended_above above is.4 is.0 in
        let Until : Life → Type 0 = λ life. (life.option_end ≡ Some at) ⊎ (life ≡ last) in
        let Linked : List Life → Type 0 = λ k. EachSupportsNext (map (λ (life : Life). life.grant) k) → EachSupportsNext (map (λ (life : Life). life.grant) (above ∷ k)) in
        let before : support < place = is.1 in
        let highest = at_most in
        record {
          top = above;
          top_at = is.3;
          more = line;
          first = refl;
          still = inr (omega (arith, before, highest), end, supports-option above.grant from.top.grant is.4.supports, λ (none : line ≡ []). let e : from.top ∷ from.more ≡ [] = sym from.first ∙ none in let never : ⊥ = cc in never);
          made = All-cons (λ life. Contains (lives_of changes) life) above line (Contains-at (lives_of changes) support above is.3) from.made;
          linked = subst Linked (sym from.first) (λ rest. (is.4.supports, rest)) from.linked;
          until = All-cons Until above line (inl end) from.until;
          ends = (above ∷ from.ends.0, ap (λ k. above ∷ k) from.ends.1);
        }

    -- how the line begins, where its first ends by the change itself
    begun : IsAbove changes c is_last place from.top None → (strikes c from.top.grant ≡ true) ⊎ ((takes_option c from.top.grant ≡ true) × (from.more ≡ [] → ⊥))
    begun is =
        ⊎_elim
        (λ (struck : strikes c from.top.grant ≡ true). inl struck)
        (λ (unstruck : strikes c from.top.grant ≡ false).
        ⊎_elim
        (λ (here : (place ≡ number) × (from.top ≡ last)).
        ⊎_elim
        (λ (named : is_named_in_line c is_last from.top.grant ≡ true).
        inl (or_none (strikes c from.top.grant) (ap (λ b. strikes c from.top.grant || not b && takes_option c from.top.grant) (sym (tells.0 here.0)) ∙ named)))
        (λ (owned : IsByOwner changes (owners_after changes) from.top).
        absurd (owned.falls at c (record { fell = ap (λ (l : Life). l.fell) here.1 ∙ fell; change = change; unstruck = unstruck })))
        is)
        (λ (passed : (place < number) × (from.top.option_end ≡ Some at) × (from.top.grant.option ≡ true) × (from.more ≡ [] → ⊥)).
        ⊎_elim
        (λ (taken : takes_option c from.top.grant ≡ true). inr (taken, passed.3))
        (λ (untaken : takes_option c from.top.grant ≡ false).
        absurd (⊎_elim
        (λ (named : is_named_in_line c is_last from.top.grant ≡ true).
        ⊎_elim
        (λ (s : strikes c from.top.grant ≡ true). both_ways (strikes c from.top.grant) unstruck s)
        (λ (t : (not is_last && takes_option c from.top.grant) ≡ true). both_ways (takes_option c from.top.grant) untaken (and_parts (not is_last) (takes_option c from.top.grant) t).1)
        (or_cases (strikes c from.top.grant) (not is_last && takes_option c from.top.grant) named))
        (λ (owned : IsByOwner changes (owners_after changes) from.top).
        owned.ends at c (record { option = passed.2; ended = passed.1; change = change; unstruck = unstruck; untaken = untaken }))
        is))
        (cases_Bool (takes_option c from.top.grant)))
        from.still)
        (cases_Bool (strikes c from.top.grant))

    pub descent_from : IsAbove changes c is_last place from.top None → IsDescent changes at line last
    descent_from is = record {
      made = from.made;
      linked = from.linked;
      until = from.until;
      fell = fell;
      begins = (from.top, from.more, c, from.first, change, begun is);
      ends = from.ends;
    }
