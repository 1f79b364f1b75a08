-- What links that lose their options leave of store and indexes.
use Rattle.std.proofs.Common.{◌≡◌, ◌∙◌, ℕ, ◌+◌, ◌<◌, ◌==◌, Bool, true, false, not, ◌&&◌, ◌||◌, cond, List, [], ◌∷◌, Some, map, refl, sym, ap, subst, arith}
use Rattle.std.specs.List.{AllByRecursion, list_any, filter}
use Rattle.std.specs.Option.{unwrap_or}
use Rattle.std.proofs.lemmas.Option.{none-some}
use Rattle.std.proofs.lemmas.Bool.{cond-true, cond-false, eq-eqb, eqb-true, ne_eqb}
use Rattle.links_core.specs.declared.link.Link.{Link}
use Rattle.links_core.specs.declared.end.End.{End}
use Rattle.copyup_core.specs.Holding.{value_at, with_item}
use Rattle.links_core.specs.Ends.{EndsState}
use Rattle.links_core.specs.Links.{numbered_as, links_in, ends_at, grantee_of, grantor_of, goes_to, link_off, is_listed_by, passes, passes_at, count_at, Agrees, IsLinked, Rises, AreBelow}
use Rattle.links_core.proofs.EndsLemmas.{all_implied, all_two}
use Rattle.links_core.proofs.LinksLemmas.{links_in-numbered_as, numbers_of, count-cons}
use Rattle.links_core.proofs.LookUpLemmas.{any_map, goes_to_is}

and_false : (b : Bool) → (b && false) ≡ false
and_false true = refl
and_false false = refl

and_all : (b : Bool) → (b && true) ≡ b
and_all true = refl
and_all false = refl

-- a link that the test doesn't mean keeps its option
pub link_kept : (test : Link → Bool) (l : Link) → test l ≡ false → link_off test l ≡ l
link_kept test l h = ap (λ b. record l { option = l.option && not b }) h ∙ ap (λ b. record l { option = b }) (and_all l.option)

-- a link with the option that the test doesn't mean, or one without
link_idle : (test : Link → Bool) (l : Link) → (l.option && test l) ≡ false → link_off test l ≡ l
link_idle test l h = ap (λ b. record l { option = b }) (step l.option (test l) h)
  where
    step : (o t : Bool) → (o && t) ≡ false → (o && not t) ≡ o
    step true true k = sym k
    step true false k = refl
    step false t k = refl

links_kept : (test : Link → Bool) (xs : List Link) → AllByRecursion (λ l. test l ≡ false) xs → map (link_off test) xs ≡ xs
links_kept test [] h = refl
links_kept test (x ∷ xs) h = ap (λ k. k ∷ map (link_off test) xs) (link_kept test x h.0) ∙ ap (λ k. x ∷ k) (links_kept test xs h.1)

-- where two tests mean the same links, the same lose their options
off_same : (q r : Link → Bool) (xs : List Link) → AllByRecursion (λ l. q l ≡ r l) xs → map (link_off q) xs ≡ map (link_off r) xs
off_same q r [] h = refl
off_same q r (x ∷ xs) h = ap (λ b. record x { option = x.option && not b } ∷ map (link_off q) xs) h.0 ∙ ap (λ k. link_off r x ∷ k) (off_same q r xs h.1)

-- what holds of all links, whatever their options, holds of them after
all_off : (P : Link → Type 0) (test : Link → Bool) (xs : List Link) → ((l : Link) → P l → P (link_off test l)) → AllByRecursion P xs → AllByRecursion P (map (link_off test) xs)
all_off P test [] f h = tt
all_off P test (x ∷ xs) f h = (f x h.0, all_off P test xs f h.1)

pub rises_off : (test : Link → Bool) (xs : List Link) → Rises xs → Rises (map (link_off test) xs)
rises_off test [] h = tt
rises_off test (x ∷ xs) h = (all_off (λ m. x.number < m.number) test xs (λ l less. less) h.0, rises_off test xs h.1)

-- a link of another number than the end's
unlisted : (by : ℕ) (e : End) (l : Link) → (l.number == e.number) ≡ false → is_listed_by by (e ∷ []) l ≡ false
unlisted by e l h = ap (λ b. l.grantor == by && (b || false)) h ∙ and_false (l.grantor == by)

listed : (by : ℕ) (e : End) (l : Link) → (l.number == e.number) ≡ true → is_listed_by by (e ∷ []) l ≡ (l.grantor == by)
listed by e l h = ap (λ b. l.grantor == by && (b || false)) h ∙ and_all (l.grantor == by)

-- the links behind the end's
later_kept : (by : ℕ) (e : End) (x : Link) (xs : List Link) → (x.number == e.number) ≡ true → AllByRecursion (λ m. x.number < m.number) xs → map (link_off (is_listed_by by (e ∷ []))) xs ≡ xs
later_kept by e x xs same h =
    let is : x.number ≡ e.number = eqb-true x.number e.number same in
    links_kept (is_listed_by by (e ∷ [])) xs
    (all_implied (λ m. x.number < m.number) (λ m. is_listed_by by (e ∷ []) m ≡ false) xs
    (λ m k. let less : x.number < m.number = k in unlisted by e m (ne_eqb m.number e.number (λ q. let other : m.number ≡ e.number = q in omega (arith, is, less, other)))) h)

-- **the link of an end, made by the user, without its option**
taken_one : (by : ℕ) (e : End) (l : Link) (xs : List Link) → Rises xs → value_at e.number (numbered_as xs) ≡ Some l → (l.grantor == by) ≡ true → with_item e.number (record l { option = false }) (numbered_as xs) ≡ numbered_as (map (link_off (is_listed_by by (e ∷ []))) xs)
taken_one by e l [] h found made = absurd (none-some l found)
taken_one by e l (x ∷ xs) h found made = step (x.number == e.number) refl (taken_one by e l xs h.1)
  where
    test : Link → Bool
    test = is_listed_by by (e ∷ [])

    off : Link
    off = record l { option = false }

    step : (t : Bool) → (x.number == e.number) ≡ t → (value_at e.number (numbered_as xs) ≡ Some l → (l.grantor == by) ≡ true → with_item e.number off (numbered_as xs) ≡ numbered_as (map (link_off test) xs)) → with_item e.number off (numbered_as (x ∷ xs)) ≡ numbered_as (map (link_off test) (x ∷ xs))
    step true same rest =
        let is : x ≡ l = ap (λ o. unwrap_or o l) (sym (cond-true (x.number == e.number) _ _ same) ∙ found) in
        let passes : test x ≡ true = listed by e x same ∙ ap (λ (k : Link). k.grantor == by) is ∙ made in
        let gone : link_off test x ≡ off = ap (λ b. record x { option = x.option && not b }) passes ∙ ap (λ b. record x { option = b }) (and_false x.option) ∙ ap (λ (k : Link). record k { option = false }) is in
        cond-true (x.number == e.number) _ _ same
        ∙ ap (λ n. (n, off) ∷ numbered_as xs) (sym (eqb-true x.number e.number same))
        ∙ ap (λ k. (x.number, k) ∷ numbered_as xs) (sym gone)
        ∙ ap (λ k. (x.number, link_off test x) ∷ numbered_as k) (sym (later_kept by e x xs same h.0))
    step false other rest =
        cond-false (x.number == e.number) _ _ other
        ∙ ap (λ k. (x.number, x) ∷ k) (rest (sym (cond-false (x.number == e.number) _ _ other) ∙ found) made)
        ∙ ap (λ k. (x.number, k) ∷ numbered_as (map (link_off test) xs)) (sym (link_kept test x (unlisted by e x other)))

-- **where the end stands for no link with the option by the user, all links stay**
taken_none : (by : ℕ) (e : End) (xs : List Link) → Rises xs → passes_at (λ l. l.option && (l.grantor == by)) (numbered_as xs) e.number ≡ false → map (link_off (is_listed_by by (e ∷ []))) xs ≡ xs
taken_none by e [] h none = refl
taken_none by e (x ∷ xs) h none = step (x.number == e.number) refl (taken_none by e xs h.1)
  where
    test : Link → Bool
    test = is_listed_by by (e ∷ [])

    asked : Link → Bool
    asked l = l.option && (l.grantor == by)

    step : (t : Bool) → (x.number == e.number) ≡ t → (passes_at asked (numbered_as xs) e.number ≡ false → map (link_off test) xs ≡ xs) → map (link_off test) (x ∷ xs) ≡ x ∷ xs
    step true same rest =
        let idle : (x.option && test x) ≡ false = ap (λ b. x.option && b) (listed by e x same) ∙ ap (passes asked) (sym (cond-true (x.number == e.number) _ _ same)) ∙ none in
        ap (λ k. k ∷ map (link_off test) xs) (link_idle test x idle) ∙ ap (λ k. x ∷ k) (later_kept by e x xs same h.0)
    step false other rest =
        ap (λ k. k ∷ map (link_off test) xs) (link_kept test x (unlisted by e x other))
        ∙ ap (λ k. x ∷ k) (rest (ap (passes asked) (sym (cond-false (x.number == e.number) _ _ other)) ∙ none))

-- the same of contents, where each link stands under its own number
pub one_is : (by : ℕ) (e : End) (l : Link) (contents : List (ℕ × Link)) → contents ≡ numbered_as (links_in contents) → Rises (links_in contents) → value_at e.number contents ≡ Some l → (l.grantor == by) ≡ true → with_item e.number (record l { option = false }) contents ≡ numbered_as (map (link_off (is_listed_by by (e ∷ []))) (links_in contents))
one_is by e l contents own rising found made =
    ap (with_item e.number (record l { option = false })) own ∙ taken_one by e l (links_in contents) rising (ap (value_at e.number) (sym own) ∙ found) made

pub none_is : (by : ℕ) (e : End) (contents : List (ℕ × Link)) → contents ≡ numbered_as (links_in contents) → Rises (links_in contents) → passes_at (λ l. l.option && (l.grantor == by)) contents e.number ≡ false → contents ≡ numbered_as (map (link_off (is_listed_by by (e ∷ []))) (links_in contents))
none_is by e contents own rising none =
    own ∙ ap numbered_as (sym (taken_none by e (links_in contents) rising (ap (λ k. passes_at (λ l. l.option && (l.grantor == by)) k e.number) (sym own) ∙ none)))

-- no ends take no option
pub off_nothing : (by : ℕ) (xs : List Link) → map (link_off (is_listed_by by [])) xs ≡ xs
off_nothing by [] = refl
off_nothing by (x ∷ xs) = ap (λ k. k ∷ map (link_off (is_listed_by by [])) xs) (link_kept (is_listed_by by []) x (and_false (x.grantor == by))) ∙ ap (λ k. x ∷ k) (off_nothing by xs)

both_off : (o g a b : Bool) → ((o && not (g && (a || false))) && not (g && b)) ≡ (o && not (g && (a || b)))
both_off false g a b = refl
both_off true false a b = refl
both_off true true true b = refl
both_off true true false b = refl

-- **what the first end takes, and then the others, is what all take**
pub off_first : (by : ℕ) (e : End) (es : List End) (xs : List Link) → map (link_off (is_listed_by by es)) (map (link_off (is_listed_by by (e ∷ []))) xs) ≡ map (link_off (is_listed_by by (e ∷ es))) xs
off_first by e es [] = refl
off_first by e es (x ∷ xs) =
    ap (λ b. record x { option = b } ∷ map (link_off (is_listed_by by es)) (map (link_off (is_listed_by by (e ∷ []))) xs)) (both_off x.option (x.grantor == by) (x.number == e.number) (list_any (λ f. x.number == f.number) es))
    ∙ ap (λ k. link_off (is_listed_by by (e ∷ es)) x ∷ k) (off_first by e es xs)

-- a number below all is none of them
number_missing : (p : Link → Bool) (n : ℕ) (xs : List Link) → AllByRecursion (λ m. n < m.number) xs → list_any (λ m. n == m) (numbers_of p xs) ≡ false
number_missing p n [] h = refl
number_missing p n (x ∷ xs) h =
    let less : n < x.number = h.0 in
    let rest = number_missing p n xs h.1 in
    elim (p x) as (λ b. list_any (λ m. n == m) (map (λ (g : Link). g.number) (cond b (x ∷ filter p xs) (filter p xs))) ≡ false) [
      | true ↦ ap (λ b. b || list_any (λ m. n == m) (numbers_of p xs)) (ne_eqb n x.number (λ q. let same : n ≡ x.number = q in omega (arith, less, same))) ∙ rest
      | false ↦ rest
    ]

-- a link's number is among them where the link passes
numbers_are : (p : Link → Bool) (xs : List Link) → Rises xs → AllByRecursion (λ l. list_any (λ m. l.number == m) (numbers_of p xs) ≡ p l) xs
numbers_are p [] h = tt
numbers_are p (x ∷ xs) h = (
  here (p x),
  all_two (λ l. x.number < l.number) (λ l. list_any (λ m. l.number == m) (numbers_of p xs) ≡ p l) (λ l. list_any (λ m. l.number == m) (numbers_of p (x ∷ xs)) ≡ p l) xs
      (λ l k is. let less : x.number < l.number = k in later l (p x) (ne_eqb l.number x.number (λ q. let same : l.number ≡ x.number = q in omega (arith, less, same))) ∙ is)
      h.0 (numbers_are p xs h.1),
)
  where
    here : (b : Bool) → list_any (λ m. x.number == m) (map (λ (g : Link). g.number) (cond b (x ∷ filter p xs) (filter p xs))) ≡ b
    here true = ap (λ b. b || list_any (λ m. x.number == m) (numbers_of p xs)) (eq-eqb x.number x.number refl)
    here false = number_missing p x.number xs h.0

    later : (l : Link) (b : Bool) → (l.number == x.number) ≡ false → list_any (λ m. l.number == m) (map (λ (g : Link). g.number) (cond b (x ∷ filter p xs) (filter p xs))) ≡ list_any (λ m. l.number == m) (numbers_of p xs)
    later l true other = ap (λ b. b || list_any (λ m. l.number == m) (numbers_of p xs)) other
    later l false other = refl

-- an index lists the same numbers
numbers_off : (test p : Link → Bool) (xs : List Link) → ((l : Link) → p (link_off test l) ≡ p l) → numbers_of p (map (link_off test) xs) ≡ numbers_of p xs
numbers_off test p [] same = refl
numbers_off test p (x ∷ xs) same =
    let rest = numbers_off test p xs same in
    ap (λ b. map (λ (g : Link). g.number) (cond b (link_off test x ∷ filter p (map (link_off test) xs)) (filter p (map (link_off test) xs)))) (same x)
    ∙ elim (p x) as (λ b. map (λ (g : Link). g.number) (cond b (link_off test x ∷ filter p (map (link_off test) xs)) (filter p (map (link_off test) xs))) ≡ map (λ (g : Link). g.number) (cond b (x ∷ filter p xs) (filter p xs))) [
      | true ↦ ap (λ k. x.number ∷ k) rest
      | false ↦ rest
    ]

count_off : (test : Link → Bool) (xs : List Link) (b : ℕ) → count_at b (map (link_off test) xs) ≡ count_at b xs
count_off test [] b = refl
count_off test (x ∷ xs) b =
    count-cons (link_off test x) (map (link_off test) xs) b ∙ ap (λ n. cond (x.atom == b) 1 0 + n) (count_off test xs b) ∙ sym (count-cons x xs b)

agrees_off : (index : List EndsState) (end : Link → ℕ) (test : Link → Bool) (xs : List Link) → ((l : Link) → end (link_off test l) ≡ end l) → Agrees index end xs → Agrees index end (map (link_off test) xs)
agrees_off index end test xs same agrees = record {
  at = λ b u. agrees.at b u ∙ sym (numbers_off test (ends_at end b u) xs (λ l. ap (λ n. l.atom == b && (n == u)) (same l)));
  counted = λ b. agrees.counted b ∙ sym (count_off test xs b);
}

-- what the loss of options leaves
pub record AreOff (contents left : List (ℕ × Link)) (made : ℕ) (received given : List EndsState) (test : Link → Bool) : Type 0 where
  pub kept : IsLinked left made received given
  pub links : links_in left ≡ map (link_off test) (links_in contents)

linked_off : (contents : List (ℕ × Link)) (made : ℕ) (received given : List EndsState) (test : Link → Bool) → IsLinked contents made received given → AreOff contents (numbered_as (map (link_off test) (links_in contents))) made received given test
linked_off contents made received given test kept =
    let old : List Link = links_in contents in
    let new : List Link = map (link_off test) old in
    let is : links_in (numbered_as new) ≡ new = links_in-numbered_as new in
    record {
      kept = record {
        own = ap numbered_as (sym is);
        rising = subst (λ k. Rises k) (sym is) (rises_off test old kept.rising);
        below = subst (λ k. AreBelow made k) (sym is) (all_off (λ l. l.number < made) test old (λ l less. less) kept.below);
        received_at = subst (λ k. Agrees received grantee_of k) (sym is) (agrees_off received grantee_of test old (λ l. refl) kept.received_at);
        given_at = subst (λ k. Agrees given grantor_of k) (sym is) (agrees_off given grantor_of test old (λ l. refl) kept.given_at);
      };
      links = is;
    }

-- **the ends at a user, of a privilege, are those of the links that give it to him**
listed_there : (by user atom : ℕ) (links : List Link) (ends : List End) → Rises links → map (λ e. e.number) ends ≡ numbers_of (ends_at grantee_of atom user) links → AllByRecursion (λ l. is_listed_by by ends l ≡ (l.grantor == by && goes_to user atom l)) links
listed_there by user atom links ends rising same =
    let p : Link → Bool = ends_at grantee_of atom user in
    all_implied (λ l. list_any (λ m. l.number == m) (numbers_of p links) ≡ p l) (λ l. is_listed_by by ends l ≡ (l.grantor == by && goes_to user atom l)) links
    (λ l is. ap (λ b. l.grantor == by && b) (any_map (λ m. l.number == m) (λ (e : End). e.number) ends ∙ ap (list_any (λ m. l.number == m)) same ∙ is ∙ goes_to_is user atom l))
    (numbers_are p links rising)

-- **the links by the one user to the other without their options**
pub options_off_is : (contents left : List (ℕ × Link)) (made : ℕ) (received given : List EndsState) (by user atom : ℕ) (ends : List End) → IsLinked contents made received given → map (λ e. e.number) ends ≡ numbers_of (ends_at grantee_of atom user) (links_in contents) → left ≡ numbered_as (map (link_off (is_listed_by by ends)) (links_in contents)) → AreOff contents left made received given (λ l. (l.grantor == by) && goes_to user atom l)
options_off_is contents left made received given by user atom ends kept same is =
    let test : Link → Bool = λ l. (l.grantor == by) && goes_to user atom l in
    let links = links_in contents in
    let all : map (link_off (is_listed_by by ends)) links ≡ map (link_off test) links = off_same (is_listed_by by ends) test links (listed_there by user atom links ends kept.rising same) in
    subst (λ k. AreOff contents k made received given test) (sym (is ∙ ap numbered_as all)) (linked_off contents made received given test kept)
