-- The numbers of links, and their standings, are those of the grants for which they stand.
use Rattle.std.proofs.Common.{◌≡◌, ◌∙◌, ℕ, ◌+◌, ◌<◌, List, [], ◌∷◌, length, false, get_or, map, zero, suc, refl, sym, ap, arith}
use Rattle.std.specs.List.{range_with_len}
use Rattle.std.proofs.lemmas.List.{length-map, get_or-map}
use Rattle.std.proofs.lemmas.List.Elements.{All-from_recursion}
use Rattle.grants_core.specs.Numbers.{IsNumbered}
use Rattle.grants_core.specs.declared.grant.Grant.{Grant}
use Rattle.links_core.specs.declared.link.Link.{Link}
use Rattle.links_core.specs.Links.{AreNumbered, Rises, AreBelow, standing_of_link}
use Rattle.graph_core.specs.Indices.{Indexed, grant_of, standing_of}

numbers_same : (indexed : Indexed) (links : List Link) → map (λ g. g.number) (map (grant_of indexed) links) ≡ map (λ l. l.number) links
numbers_same indexed [] = refl
numbers_same indexed (l ∷ ls) = ap (λ k. l.number ∷ k) (numbers_same indexed ls)

abbrev head_or : ℕ → List ℕ → ℕ
head_or d [] = d
head_or d (x ∷ xs) = x

abbrev tail_of : List ℕ → List ℕ
tail_of [] = []
tail_of (x ∷ xs) = xs

in_range : (n k : ℕ) (links : List Link) → map (λ l. l.number) links ≡ range_with_len n k → AreNumbered n links
in_range n k [] h = tt
in_range n zero (l ∷ ls) h = absurd cc
in_range n (suc k) (l ∷ ls) h = (ap (head_or 0) h, in_range (n + 1) k ls (ap tail_of h))

-- **links for grants that are numbered from n on are so too**
pub numbered_alike : (indexed : Indexed) (links : List Link) (grants : List Grant) (n k : ℕ) → map (grant_of indexed) links ≡ grants → map (λ g. g.number) grants ≡ range_with_len n k → AreNumbered n links
numbered_alike indexed links grants n k is numbers = in_range n k links (sym (numbers_same indexed links) ∙ ap (map (λ g. g.number)) is ∙ numbers)

pair_rises : (links : List Link) → Rises links → (i j : ℕ) (d : Link) → i < j → j < length links → (get_or links i d).number < (get_or links j d).number
pair_rises [] h i j d less here = absurd (omega (arith, here))
pair_rises (l ∷ ls) h zero zero d less here = absurd (omega (arith, less))
pair_rises (l ∷ ls) h zero (suc j) d less here = All-from_recursion (λ m. l.number < m.number) ls h.0 j d (omega (arith, here))
pair_rises (l ∷ ls) h (suc i) zero d less here = absurd (omega (arith, less))
pair_rises (l ∷ ls) h (suc i) (suc j) d less here = pair_rises ls h.1 i j d (omega (arith, less)) (omega (arith, here))

-- **and their numbers rise as theirs**
pub numbered_grants : (indexed : Indexed) (links : List Link) (n : ℕ) → Rises links → AreBelow n links → IsNumbered n (map (grant_of indexed) links)
numbered_grants indexed links n rises below = record {
  rising = λ i j d less here.
      let long = length-map links (grant_of indexed) in
      let inside : j < length links = omega (arith, here, long) in
      let first = number_at i d (omega (arith, less, inside)) in
      let second = number_at j d inside in
      let rise = pair_rises links rises i j blank less inside in
      omega (arith, first, second, rise);
  below = λ i d here.
      let long = length-map links (grant_of indexed) in
      let inside : i < length links = omega (arith, here, long) in
      let is = number_at i d inside in
      let less = All-from_recursion (λ l. l.number < n) links below i blank inside in
      omega (arith, is, less);
}
  where
    blank : Link
    blank = record { number = 0; moment = record { 0 = 0 }; atom = 0; grantor = 0; grantee = 0; option = false }

    number_at : (i : ℕ) (d : Grant) → i < length links → (get_or (map (grant_of indexed) links) i d).number ≡ (get_or links i blank).number
    number_at i d inside = ap (λ (g : Grant). g.number) (get_or-map (grant_of indexed) links i blank d inside)

pub standings_same : (indexed : Indexed) (links : List Link) → map standing_of_link links ≡ map standing_of (map (grant_of indexed) links)
standings_same indexed [] = refl
standings_same indexed (l ∷ ls) = ap (λ k. standing_of_link l ∷ k) (standings_same indexed ls)
