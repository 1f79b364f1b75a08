-- Marks, and what they leave of lists.
use Rattle.std.proofs.Common.{◌≡◌, ℕ, zero, suc, ◌+◌, ◌<◌, Bool, true, false, ◌&&◌, if◌then◌else◌, get_or, replicate, List, [], ◌∷◌, ◌++◌, take, length, map, refl, sym, ap, ◌∙◌, arith, append-nil}
use Rattle.std.specs.List.{list_all}
use Rattle.std.proofs.lemmas.List.{take_more}
use Rattle.export_core.specs.Export.{cut, is_any}
use Rattle.export_core.specs.Marks.{both}

-- so many marks, all set
pub all-each : (n : ℕ) → list_all (λ mark. mark) (replicate n true) ≡ true
all-each zero = refl
all-each (suc n) = all-each n

pub all-map : {X : Type 0} (f : X → Bool) (xs : List X) → ((x : X) → f x ≡ true) → replicate (length xs) true ≡ map f xs
all-map f [] each = refl
all-map f (x ∷ xs) each = ap (λ m. m ∷ replicate (length xs) true) (sym (each x)) ∙ ap (λ ms. f x ∷ ms) (all-map f xs each)

pub each-all : (marks : List Bool) → list_all (λ mark. mark) marks ≡ true → replicate (length marks) true ≡ marks
each-all [] each = refl
each-all (true ∷ marks) each = ap (λ ms. true ∷ ms) (each-all marks each)
each-all (false ∷ marks) each = cc

pub each-any : (marks : List Bool) → 0 < length marks → list_all (λ mark. mark) marks ≡ true → is_any marks ≡ true
each-any [] some each = absurd (omega arith)
each-any (true ∷ marks) some each = refl
each-any (false ∷ marks) some each = cc

-- of two lists of marks
and-true : (m : Bool) → (m && true) ≡ m
and-true true = refl
and-true false = refl

pub both-each : (marks others : List Bool) → list_all (λ mark. mark) others ≡ true → both marks others ≡ marks
both-each [] others each = refl
both-each (m ∷ marks) [] each = refl
both-each (m ∷ marks) (true ∷ others) each = ap (λ n. n ∷ both marks others) (and-true m) ∙ ap (λ ms. m ∷ ms) (both-each marks others each)
both-each (m ∷ marks) (false ∷ others) each = cc

pub both-map : {X : Type 0} (f g : X → Bool) (xs : List X) → both (map f xs) (map g xs) ≡ map (λ x. f x && g x) xs
both-map f g [] = refl
both-map f g (x ∷ xs) = ap (λ ms. (f x && g x) ∷ ms) (both-map f g xs)

both-none : (marks : List Bool) → both marks [] ≡ marks
both-none [] = refl
both-none (m ∷ marks) = refl

both-suc : (marks others : List Bool) (i : ℕ) → i < length marks
    → both (take (suc i) marks) others ≡ both (take i marks) others ++ (get_or marks i true && get_or others i true) ∷ []
both-suc [] others i within = absurd (omega arith)
both-suc (m ∷ marks) [] i within =
    let on : i + 1 ≡ suc i = omega arith in
    both-none (take (suc i) (m ∷ marks))
    ∙ ap (λ n. take n (m ∷ marks)) (sym on)
    ∙ take_more (m ∷ marks) i true within
    ∙ ap (λ n. take i (m ∷ marks) ++ n ∷ []) (sym (and-true (get_or (m ∷ marks) i true)))
    ∙ ap (λ ms. ms ++ (get_or (m ∷ marks) i true && true) ∷ []) (sym (both-none (take i (m ∷ marks))))
both-suc (m ∷ marks) (o ∷ others) zero within = refl
both-suc (m ∷ marks) (o ∷ others) (suc i) within = ap (λ ms. (m && o) ∷ ms) (both-suc marks others i (omega arith))

pub both-more : (marks others : List Bool) (i : ℕ) → i < length marks
    → both (take (i + 1) marks) others ≡ both (take i marks) others ++ (get_or marks i true && get_or others i true) ∷ []
both-more marks others i within =
    let on : i + 1 ≡ suc i = omega arith in
    ap (λ n. both (take n marks) others) on ∙ both-suc marks others i within

-- what is cut by marks that are all set stays
pub cut-each : {X : Type 0} (marks : List Bool) (items : List X) → list_all (λ mark. mark) marks ≡ true → cut marks items ≡ items
cut-each [] items each = refl
cut-each (m ∷ marks) [] each = refl
cut-each (true ∷ marks) (x ∷ items) each = ap (λ xs. x ∷ xs) (cut-each marks items each)
cut-each (false ∷ marks) (x ∷ items) each = cc

pub cut-map : {X Y : Type 0} (f : X → Y) (marks : List Bool) (items : List X) → map f (cut marks items) ≡ cut marks (map f items)
cut-map f [] items = refl
cut-map f (m ∷ marks) [] = refl
cut-map f (true ∷ marks) (x ∷ items) = ap (λ xs. f x ∷ xs) (cut-map f marks items)
cut-map f (false ∷ marks) (x ∷ items) = cut-map f marks items

pub cut-none : {X : Type 0} (marks : List Bool) → cut {A = X} marks [] ≡ []
cut-none [] = refl
cut-none (m ∷ marks) = refl

-- one item more: it stays or not
cut-suc : {X : Type 0} (marks : List Bool) (items : List X) (i : ℕ) (d : X) → i < length items
    → cut marks (take (suc i) items) ≡ cut marks (take i items) ++ (if get_or marks i true then get_or items i d ∷ [] else [])
cut-suc [] items i d within = let on : i + 1 ≡ suc i = omega arith in ap (λ n. take n items) (sym on) ∙ take_more items i d within
cut-suc (m ∷ marks) [] i d within = absurd (omega arith)
cut-suc (true ∷ marks) (x ∷ items) zero d within = ap (λ xs. x ∷ xs) (cut-none marks)
cut-suc (false ∷ marks) (x ∷ items) zero d within = cut-none marks
cut-suc (true ∷ marks) (x ∷ items) (suc i) d within = ap (λ xs. x ∷ xs) (cut-suc marks items i d (omega arith))
cut-suc (false ∷ marks) (x ∷ items) (suc i) d within = cut-suc marks items i d (omega arith)

pub cut-more : {X : Type 0} (marks : List Bool) (items : List X) (i : ℕ) (d : X) → i < length items
    → cut marks (take (i + 1) items) ≡ cut marks (take i items) ++ (if get_or marks i true then get_or items i d ∷ [] else [])
cut-more marks items i d within =
    let on : i + 1 ≡ suc i = omega arith in
    ap (λ n. cut marks (take n items)) on ∙ cut-suc marks items i d within

pub cut-more_set : {X : Type 0} (marks : List Bool) (items : List X) (i : ℕ) (d : X) → i < length items → get_or marks i true ≡ true
    → cut marks (take (i + 1) items) ≡ cut marks (take i items) ++ get_or items i d ∷ []
cut-more_set marks items i d within set = cut-more marks items i d within ∙ ap (λ b. cut marks (take i items) ++ (if b then get_or items i d ∷ [] else [])) set

pub cut-more_unset : {X : Type 0} (marks : List Bool) (items : List X) (i : ℕ) (d : X) → i < length items → get_or marks i true ≡ false
    → cut marks (take (i + 1) items) ≡ cut marks (take i items)
cut-more_unset marks items i d within unset =
    cut-more marks items i d within ∙ ap (λ b. cut marks (take i items) ++ (if b then get_or items i d ∷ [] else [])) unset ∙ append-nil (cut marks (take i items))
