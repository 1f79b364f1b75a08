-- Lines at the front of a text.
use Rattle.std.proofs.Common.{◌≡◌, ◌≤◌, ◌+◌, ℕ, zero, suc, List, [], ◌∷◌, ◌++◌, length, take, refl, sym, ap, ◌∙◌, arith, append_assoc, append-nil, length-append}
use Rattle.std.proofs.lemmas.List.{take_all}
use Rattle.std.specs.List.{AllByRecursion}
use Rattle.folder_core.specs.Texts.{lines_text, IsInOneLine}

-- texts that begin with a line begin with one line
same_line : (l m x y : List ℕ) → IsInOneLine l → IsInOneLine m → l ++ 10 ∷ x ≡ m ++ 10 ∷ y → (l ≡ m) × (x ≡ y)
same_line [] [] x y one other e = (refl, cc)
same_line [] (b ∷ m) x y one other e = absurd (let byte : b ≡ 10 = cc in other.0 byte)
same_line (a ∷ l) [] x y one other e = absurd (let byte : a ≡ 10 = cc in one.0 byte)
same_line (a ∷ l) (b ∷ m) x y one other e =
    let byte : a ≡ b = cc in
    let rest : l ++ 10 ∷ x ≡ m ++ 10 ∷ y = cc in
    let more = same_line l m x y one.1 other.1 rest in
    ((λ i. byte i ∷ more.0 i), more.1)

line_and : (l : List ℕ) (rest : List ℕ) → (l ++ 10 ∷ []) ++ rest ≡ l ++ 10 ∷ rest
line_and l rest = append_assoc l (10 ∷ []) rest

-- lines that a text of lines begins with are its first
pub front_lines : (ls ms : List (List ℕ)) (z : List ℕ) → AllByRecursion IsInOneLine ls → AllByRecursion IsInOneLine ms → lines_text ls ++ z ≡ lines_text ms → take (length ls) ms ≡ ls
front_lines [] ms z one other e = refl
front_lines (l ∷ ls) [] z one other e =
    absurd (let n = ap length e in let a = length-append (lines_text (l ∷ ls)) z in let b = length-append (l ++ 10 ∷ []) (lines_text ls) in let c = length-append l (10 ∷ []) in omega arith)
front_lines (l ∷ ls) (m ∷ ms) z one other e =
    let whole : l ++ 10 ∷ (lines_text ls ++ z) ≡ m ++ 10 ∷ lines_text ms =
    sym (append_assoc (l ++ 10 ∷ []) (lines_text ls) z ∙ line_and l (lines_text ls ++ z)) ∙ (e ∙ line_and m (lines_text ms)) in
    let both = same_line l m (lines_text ls ++ z) (lines_text ms) one.0 other.0 whole in
    let more = front_lines ls ms z one.1 other.1 both.1 in
    (λ i. sym both.0 i ∷ more i)

-- so many items from the front of a list on
pub take_behind : {A : Type 0} (xs ys : List A) (n k : ℕ) → length xs ≡ n → take (n + k) (xs ++ ys) ≡ xs ++ take k ys
take_behind [] ys n k e = (let same : n + k ≡ k = omega arith in ap (λ m. take m ys) same)
take_behind (x ∷ xs) ys zero k e = absurd (omega arith)
take_behind (x ∷ xs) ys (suc n) k e =
    let one : suc n + k ≡ suc (n + k) = omega arith in
    ap (λ m. take m (x ∷ (xs ++ ys))) one ∙ ap (λ zs. x ∷ zs) (take_behind xs ys n k (omega arith))

-- the first so many are no more than there are
no_longer : {A : Type 0} (n : ℕ) (xs : List A) → length (take n xs) ≤ length xs
no_longer zero xs = omega arith
no_longer (suc n) [] = omega arith
no_longer (suc n) (x ∷ xs) = (let more = no_longer n xs in omega arith)

-- one text is one list of lines
pub one_text : (ls ms : List (List ℕ)) → AllByRecursion IsInOneLine ls → AllByRecursion IsInOneLine ms → lines_text ls ≡ lines_text ms → ls ≡ ms
one_text ls ms one other e =
    let a = front_lines ls ms [] one other (append-nil (lines_text ls) ∙ e) in
    let b = front_lines ms ls [] other one (append-nil (lines_text ms) ∙ sym e) in
    let size : length ls ≡ length ms = sizes ls ms a b in
    sym a ∙ take_all (length ls) ms (omega arith)
  where
    sizes : (xs ys : List (List ℕ)) → take (length xs) ys ≡ xs → take (length ys) xs ≡ ys → length xs ≡ length ys
    sizes xs ys p q =
        let n = ap length p in
        let m = ap length q in
        let k = no_longer (length xs) ys in
        let l = no_longer (length ys) xs in
        omega arith
