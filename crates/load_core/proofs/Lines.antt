-- Lines of a file, as a loader reads them.
use Rattle.std.proofs.Common.{◌≡◌, ℕ, List, [], ◌∷◌, ◌++◌, length, refl, ap}
use Rattle.system_core.specs.declared.machine.event.Entry.{Entry}
use Rattle.load_core.specs.Loading.{lines_unmarked}
use Rattle.load_core.specs.Loader.{line_at, lines_at}

abbrev tail : List (List ℕ) → List (List ℕ)
tail [] = []
tail (line ∷ ls) = ls

-- ---- the first line without its mark
pub lines_at-nil : (journal : List Entry) → lines_at journal [] ≡ []
lines_at-nil [] = refl
lines_at-nil (e ∷ es) = refl

pub lines_at-cons : (journal : List Entry) (line : List ℕ) (ls : List (List ℕ)) → lines_at journal (line ∷ ls) ≡ line_at journal line ∷ ls
lines_at-cons [] line ls = refl
lines_at-cons (e ∷ es) line ls = refl

pub lines_at-more : (journal : List Entry) (e : Entry) (ls : List (List ℕ)) → lines_at (journal ++ e ∷ []) ls ≡ ls
lines_at-more [] e ls = refl
lines_at-more (x ∷ xs) e ls = refl

pub lines_unmarked-length : (ls : List (List ℕ)) → length (lines_unmarked ls) ≡ length ls
lines_unmarked-length [] = refl
lines_unmarked-length (line ∷ ls) = refl

-- what stands behind the same lines is the same
pub same_behind : (front xs ys : List (List ℕ)) → front ++ xs ≡ front ++ ys → xs ≡ ys
same_behind [] xs ys e = e
same_behind (line ∷ front) xs ys e = same_behind front xs ys (ap tail e)
