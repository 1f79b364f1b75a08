-- What a revocation leaves of the grants in force is left of them.
use Rattle.std.proofs.Common.{◌≡◌, Bool, true, false, not, ◌&&◌, cond, List, [], ◌∷◌, map, refl, subst}
use Rattle.std.specs.List.{filter}
use Rattle.base_core.specs.declared.name.User.{User}
use Rattle.base_core.specs.declared.privilege.Atom.{Atom}
use Rattle.grants_core.specs.declared.grant.Grant.{Grant}
use Rattle.grants_core.specs.declared.grant.Ownership.{Ownership}
use Rattle.grants_core.specs.Valid.{IsPart, valid, nothing as none_part, with_first, without_first}
use Rattle.grants_core.specs.Content.{names, option_off, options_off, without}
use Rattle.grants_core.proofs.ValidLemmas.{valid-part}
use Rattle.stream_core.specs.Losses.{IsReducedTo, falls, nothing, stays, unoptioned}

-- a part of what is left is left
left-part : (before xs after : List Grant) → IsReducedTo before xs → IsPart after xs → IsReducedTo before after
left-part _ _ _ nothing none_part = nothing
left-part _ _ _ (stays {before = before} {after = xs} rest) (with_first {xs = after} part) = stays (left-part before xs after rest part)
left-part _ _ after (stays {before = before} {after = xs} rest) (without_first part) = falls (left-part before xs after rest part)
left-part _ _ _ (unoptioned {before = before} {after = xs} rest) (with_first {xs = after} part) = unoptioned (left-part before xs after rest part)
left-part _ _ after (unoptioned {before = before} {after = xs} rest) (without_first part) = falls (left-part before xs after rest part)
left-part _ xs after (falls {before = before} rest) part = falls (left-part before xs after rest part)

left-filter : (test : Grant → Bool) (gs : List Grant) → IsReducedTo gs (filter test gs)
left-filter test [] = nothing
left-filter test (g ∷ gs) = by (test g) (left-filter test gs)
  where
    by : (b : Bool) → IsReducedTo gs (filter test gs) → IsReducedTo (g ∷ gs) (cond b (g ∷ filter test gs) (filter test gs))
    by true rest = stays rest
    by false rest = falls rest

left-options : (test : Grant → Bool) (gs : List Grant) → IsReducedTo gs (map (option_off test) gs)
left-options test [] = nothing
left-options test (g ∷ gs) = by (test g) g.option refl (left-options test gs)
  where
    by : (b had : Bool) → g.option ≡ had → IsReducedTo gs (map (option_off test) gs) → IsReducedTo (g ∷ gs) (record g { option = had && not b } ∷ map (option_off test) gs)
    by true true is rest = unoptioned rest
    by true false is rest = unoptioned rest
    by false true is rest = subst (λ b. IsReducedTo (g ∷ gs) (record g { option = b } ∷ map (option_off test) gs)) is (stays rest)
    by false false is rest = subst (λ b. IsReducedTo (g ∷ gs) (record g { option = b } ∷ map (option_off test) gs)) is (stays rest)

pub left-revoked : (owners : List Ownership) (by : User) (atoms : List Atom) (whom : List User) (gs : List Grant) → IsReducedTo gs (valid owners (without by atoms whom gs))
left-revoked owners by atoms whom gs = left-part gs (without by atoms whom gs) _ (left-filter (λ g. not (names by atoms whom g)) gs) (valid-part owners (without by atoms whom gs))

pub left-unoptioned : (owners : List Ownership) (by : User) (atoms : List Atom) (whom : List User) (gs : List Grant) → IsReducedTo gs (valid owners (options_off by atoms whom gs))
left-unoptioned owners by atoms whom gs = left-part gs (options_off by atoms whom gs) _ (left-options (names by atoms whom) gs) (valid-part owners (options_off by atoms whom gs))
