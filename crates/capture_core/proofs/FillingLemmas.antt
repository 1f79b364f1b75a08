-- What comes of the tables of an image, row by row and table by table.
use Rattle.std.proofs.Common.{◌≡◌, ℕ, zero, suc, ◌+◌, ◌<◌, ◌≤◌, length, List, [], ◌∷◌, ◌++◌, take, drop, set, get_or, Some, None, refl, sym, ap, ◌∙◌, arith, append_assoc, take-append-drop}
use Rattle.std.specs.List.{slice_get}
use Rattle.std.proofs.lemmas.List.{append-nil, length-append}
use Rattle.base_core.specs.declared.name.Name.{Name}
use Rattle.base_core.specs.declared.value.Row.{Row}
use Rattle.tables_core.specs.Contents.{Table}
use Rattle.tables_core.specs.declared.tables.TableView.{TableView}
use Rattle.capture_core.specs.Filling.{Head, heads, image_under, images_under, Filled, completed}

-- ---- places of a list
drop-at : {X : Type 0} (xs : List X) (n : ℕ) (x : X) → slice_get xs n ≡ Some x → drop n xs ≡ x ∷ drop (n + 1) xs
drop-at [] n x found = cc
drop-at (y ∷ ys) zero x found =
    let same : y ≡ x = cc in
    ap (λ v. v ∷ ys) same
drop-at (y ∷ ys) (suc n) x found =
    let next : suc n + 1 ≡ suc (n + 1) = omega arith in
    drop-at ys n x found ∙ ap (λ k. x ∷ drop k (y ∷ ys)) (sym next)

drop-past : {X : Type 0} (xs : List X) (n : ℕ) → slice_get xs n ≡ None → drop n xs ≡ []
drop-past [] zero none = refl
drop-past [] (suc n) none = refl
drop-past (x ∷ xs) zero none = cc
drop-past (x ∷ xs) (suc n) none = drop-past xs n none

-- the lists from a place on
drop-there : (rest : List (List Row)) (n : ℕ) → n < length rest → drop n rest ≡ get_or rest n [] ∷ drop (n + 1) rest
drop-there [] n lt = absurd (omega arith)
drop-there (r ∷ rs) zero lt = refl
drop-there (r ∷ rs) (suc n) lt =
    let next : suc n + 1 ≡ suc (n + 1) = omega arith in
    drop-there rs n (omega arith) ∙ ap (λ k. get_or rs n [] ∷ drop k (r ∷ rs)) (sym next)

-- and where another was written at the place
drop-set : (rest : List (List Row)) (n : ℕ) (x : List Row) → n < length rest → drop n (set rest n x) ≡ x ∷ drop (n + 1) rest
drop-set [] n x lt = absurd (omega arith)
drop-set (r ∷ rs) zero x lt = refl
drop-set (r ∷ rs) (suc n) x lt =
    let next : suc n + 1 ≡ suc (n + 1) = omega arith in
    drop-set rs n x (omega arith) ∙ ap (λ k. x ∷ drop k (r ∷ rs)) (sym next)

-- ---- the head that comes next
pub heads-some : (tables : List (Name × Table)) (count n : ℕ) (h : Head) → slice_get (heads count tables) n ≡ Some h → n < count
heads-some [] zero n h found = cc
heads-some [] (suc count) n h found = cc
heads-some (t ∷ ts) zero n h found = cc
heads-some (t ∷ ts) (suc count) zero h found = omega arith
heads-some (t ∷ ts) (suc count) (suc n) h found = omega (arith, heads-some ts count n h found)

pub heads-there : (tables : List (Name × Table)) (count n : ℕ) → n < count → count ≤ length tables → slice_get (heads count tables) n ≡ None → ⊥
heads-there [] count n lt le none = absurd (omega arith)
heads-there (t ∷ ts) zero n lt le none = absurd (omega arith)
heads-there (t ∷ ts) (suc count) zero lt le none = cc
heads-there (t ∷ ts) (suc count) (suc n) lt le none = heads-there ts count n (omega arith) (omega arith) none

-- the head of a table that is looked at
abbrev pub head_seen : TableView → Head
head_seen v = record { name = v.name; owner = v.owner; columns = v.columns.now }

-- ---- a table that has given all is whole
pub completed-closed : (hs : List Head) (f : Filled) (h : Head) (rest : List (List Row)) → slice_get hs (length f.whole) ≡ Some h → length f.whole < length rest → get_or rest (length f.whole) [] ≡ []
    → completed hs (record { whole = f.whole ++ image_under h f.rows ∷ []; rows = [] }) rest ≡ completed hs f rest
completed-closed hs f h rest found lt none =
    let n : ℕ = length f.whole in
    let long : length (f.whole ++ image_under h f.rows ∷ []) ≡ n + 1 = length-append f.whole (image_under h f.rows ∷ []) in
    let later : List Head = drop (n + 1) hs in
    let others : List (List Row) = drop (n + 1) rest in
    let rows : f.rows ≡ f.rows ++ get_or rest n [] = sym (append-nil f.rows) ∙ ap (λ l. f.rows ++ l) (sym none) in
    ap (λ m. (f.whole ++ image_under h f.rows ∷ []) ++ images_under (drop m hs) [] (drop m rest)) long
    ∙ (append_assoc f.whole (image_under h f.rows ∷ []) (images_under later [] others)
    ∙ (ap (λ l. f.whole ++ image_under h l ∷ images_under later [] others) rows
    ∙ (ap (λ l. f.whole ++ images_under (h ∷ later) f.rows l) (sym (drop-there rest n lt))
    ∙ ap (λ l. f.whole ++ images_under l f.rows (drop n rest)) (sym (drop-at hs n h found)))))

-- ---- the next table gives its first rows
images_under-taken : (hs : List Head) (rows more : List Row) (rest : List (List Row)) (k : ℕ) → images_under hs (rows ++ take k more) (drop k more ∷ rest) ≡ images_under hs rows (more ∷ rest)
images_under-taken [] rows more rest k = refl
images_under-taken (h ∷ hs) rows more rest k =
    ap (λ l. image_under h l ∷ images_under hs [] rest) (append_assoc rows (take k more) (drop k more) ∙ ap (λ l. rows ++ l) (take-append-drop k more))

pub completed-taken : (hs : List Head) (f : Filled) (rest : List (List Row)) (k : ℕ) → length f.whole < length rest
    → completed hs (record f { rows = f.rows ++ take k (get_or rest (length f.whole) []) }) (set rest (length f.whole) (drop k (get_or rest (length f.whole) []))) ≡ completed hs f rest
completed-taken hs f rest k lt =
    let n : ℕ = length f.whole in
    let more : List Row = get_or rest n [] in
    let next : List Head = drop n hs in
    ap (λ l. f.whole ++ images_under next (f.rows ++ take k more) l) (drop-set rest n (drop k more) lt)
    ∙ (ap (λ l. f.whole ++ l) (images_under-taken next f.rows more (drop (n + 1) rest) k)
    ∙ ap (λ l. f.whole ++ images_under next f.rows l) (sym (drop-there rest n lt)))

-- ---- all tables are whole
pub completed-whole : (hs : List Head) (f : Filled) (rest : List (List Row)) → slice_get hs (length f.whole) ≡ None → completed hs f rest ≡ f.whole
completed-whole hs f rest none =
    ap (λ l. f.whole ++ images_under l f.rows (drop (length f.whole) rest)) (drop-past hs (length f.whole) none) ∙ append-nil f.whole
