-- Texts that are written piece by piece.
use Rattle.std.proofs.Common.{◌≡◌, ℕ, ◌+◌, ◌<◌, zero, suc, List, [], ◌∷◌, ◌++◌, length, get_or, take, drop, flat_map, Option, refl, sym, ap, ◌∙◌, append_assoc, append-nil, subst, arith}
use Rattle.std.specs.Io.KnownBytes.{Appends}
use Rattle.std.proofs.KnownBytes.{Appends-trans}
use Rattle.std.proofs.lemmas.List.{take_more}
use Rattle.std.proofs.lemmas.List.Concat.{flat_map-append}
use Rattle.base_core.specs.Streams.{WritesFront}
use Rattle.base_core.proofs.Fronts.{front-first, front-second}

-- the pieces up to one, that one, and those behind it
pub flat_map_at : {X : Type 0} (f : X → List ℕ) (xs : List X) (i : ℕ) (d : X) → i < length xs
    → flat_map f xs ≡ flat_map f (take i xs) ++ (f (get_or xs i d) ++ flat_map f (drop (suc i) xs))
flat_map_at f [] i d h = absurd (omega arith)
flat_map_at f (y ∷ ys) zero d h = refl
flat_map_at f (y ∷ ys) (suc i) d h =
    let k : i < length ys = omega arith in
    ap (λ t. f y ++ t) (flat_map_at f ys i d k) ∙ sym (append_assoc (f y) (flat_map f (take i ys)) (f (get_or ys i d) ++ flat_map f (drop (suc i) ys)))

module _ {X : Type 0} (f : X → List ℕ) (xs : List X) (i : ℕ) (d x : X) (before between after : Option (List ℕ)) where
  -- one more piece was written
  pub one_more : i < length xs → x ≡ get_or xs i d → Appends before between (flat_map f (take i xs)) → Appends between after (f x)
      → Appends before after (flat_map f (take (i + 1) xs))
  one_more lt is done this =
      let done_text = flat_map f (take i xs) in
      let whole : flat_map f (take (i + 1) xs) ≡ done_text ++ f x =
      ap (flat_map f) (take_more xs i d lt) ∙ flat_map-append f (take i xs) (get_or xs i d ∷ []) ∙ ap (λ t. done_text ++ t) (append-nil (f (get_or xs i d)) ∙ ap f (sym is)) in
      subst (λ t. Appends before after t) (sym whole) (Appends-trans before between after done_text (f x) done this)

  -- the writer failed at a piece
  pub broken_at : i < length xs → x ≡ get_or xs i d → Appends before between (flat_map f (take i xs)) → WritesFront between after (f x)
      → WritesFront before after (flat_map f xs)
  broken_at lt is done this =
      let done_text = flat_map f (take i xs) in
      let behind = flat_map f (drop (suc i) xs) in
      let whole : flat_map f xs ≡ done_text ++ (f x ++ behind) = flat_map_at f xs i d lt ∙ ap (λ y. done_text ++ (f y ++ behind)) (sym is) in
      subst (λ t. WritesFront before after t) (sym whole) (front-second before between after done_text (f x ++ behind) done (front-first between after (f x) behind this))
