-- What callers see of the links, and how store and indexes agree.
use Rattle.std.specs.Prelude.{◌≡◌, ◌<◌, ℕ, Bool, false, not, ◌&&◌, ◌==◌, ◌+◌, List, [], ◌∷◌, Option, Some, None, map, filter, count_by}
use Rattle.std.specs.List.{AllByRecursion, list_any}
use Rattle.copyup_core.specs.Holding.{value_at}
use Rattle.links_core.specs.declared.link.Link.{Link}
use Rattle.links_core.specs.declared.standing.Standing.{Standing}
use Rattle.links_core.specs.declared.end.End.{End}
use Rattle.links_core.specs.Ends.{EndsState}
use Rattle.links_core.specs.Listed.{numbers, count}

-- the links in number order, the number of the next, and the links that a capture has still to give
pub record Linked : Type 0 where
  pub links : List Link
  pub next : ℕ
  pub rest : List Link

-- whether the link gives the user the privilege
unfoldable pub goes_to : ℕ → ℕ → Link → Bool
goes_to user atom l = l.atom == atom && (l.grantee == user)

-- whether the user made the link, of the privilege
unfoldable pub comes_from : ℕ → ℕ → Link → Bool
comes_from user atom l = l.grantor == user && (l.atom == atom)

-- the link, without its option where the test holds; one that has none stays as it is
abbrev pub link_off : (Link → Bool) → Link → Link
link_off test l = record l { option = l.option && not (test l) }

-- whether the user made the link, and one of the ends is that of its number
abbrev pub is_listed_by : ℕ → List End → Link → Bool
is_listed_by by ends l = l.grantor == by && list_any (λ e. l.number == e.number) ends

-- its number, and whether it has its option
abbrev pub standing_of_link : Link → Standing
standing_of_link l = record { number = l.number; option = l.option }

-- how many of the links are of the privilege
abbrev pub count_at : ℕ → List Link → ℕ
count_at atom links = count_by (λ l. l.atom == atom) links

-- the links bear the numbers from n on
abbrev pub AreNumbered : ℕ → List Link → Type 0
AreNumbered n [] = Unit {0}
AreNumbered n (l ∷ ls) = (l.number ≡ n) × AreNumbered (n + 1) ls

-- the numbers of the links rise
abbrev pub Rises : List Link → Type 0
Rises [] = Unit {0}
Rises (l ∷ ls) = AllByRecursion (λ m. l.number < m.number) ls × Rises ls

-- the numbers of the links are below n
abbrev pub AreBelow : ℕ → List Link → Type 0
AreBelow n links = AllByRecursion (λ l. l.number < n) links

-- links under their own numbers
abbrev pub numbered_as : List Link → List (ℕ × Link)
numbered_as links = map (λ l. (l.number, l)) links

-- the links of a store
abbrev pub links_in : List (ℕ × Link) → List Link
links_in contents = map (λ p. p.1) contents

-- whether the link is of the privilege and, at the one of its ends, at the user
abbrev pub ends_at : (Link → ℕ) → ℕ → ℕ → Link → Bool
ends_at end atom user l = l.atom == atom && (end l == user)

-- the user who made a link, and the user to whom it gives its privilege
abbrev pub grantor_of : Link → ℕ
grantor_of l = l.grantor

abbrev pub grantee_of : Link → ℕ
grantee_of l = l.grantee

-- an index lists for each privilege and user the numbers of exactly the links that end there, in
-- order, and for each privilege as many ends as there are links of it
pub record Agrees (index : List EndsState) (end : Link → ℕ) (links : List Link) : Type 0 where
  pub at : (atom user : ℕ)
      → numbers index atom user ≡ map (λ l. l.number) (filter (ends_at end atom user) links)
  pub counted : (atom : ℕ) → count index atom ≡ count_at atom links

-- each link stands under its own number, numbers rise and are below the next, and both indexes
-- agree with the links
pub record IsLinked (contents : List (ℕ × Link)) (next : ℕ) (received given : List EndsState) : Type 0 where
  pub own : contents ≡ numbered_as (links_in contents)
  pub rising : Rises (links_in contents)
  pub below : AreBelow next (links_in contents)
  pub received_at : Agrees received grantee_of (links_in contents)
  pub given_at : Agrees given grantor_of (links_in contents)

-- whether there is a link with this number and it passes the test
abbrev pub passes : (Link → Bool) → Option Link → Bool
passes test None = false
passes test (Some l) = test l

-- whether the link of this number is there, and passes the test
abbrev pub passes_at : (Link → Bool) → List (ℕ × Link) → ℕ → Bool
passes_at test contents n = passes test (value_at n contents)
