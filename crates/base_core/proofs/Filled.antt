-- A name's bytes, put in place.
use Rattle.std.proofs.Common.{◌≡◌, ℕ, ◌-◌, ◌+◌, ◌<◌, ◌≤◌, List, [], ◌∷◌, ◌++◌, length, get_or, map, set, take, drop, replicate, sym, ◌∙◌, ap, arith}
use Rattle.std.proofs.lemmas.List.{replicate-append-replicate, length-replicate, drop_at, take_at, length-append, length-map, length-set, map-append, take_all, take_more, take_more_set, take-append-drop, drop_more, drop-set}
use Rattle.std.specs.Char.{to_ascii_lowercase}
use Rattle.base_core.specs.Named.{IsPadded}

len_zeros : (n : ℕ) → length (replicate n (let z : ℕ = 0 in z)) ≡ n
len_zeros n = length-replicate n (let z : ℕ = 0 in z)

abbrev pub zeros : ℕ → List ℕ
zeros n = replicate n 0

some_zeros : (n : ℕ) → n ≤ 30 → drop n (zeros 30) ≡ zeros (30 - n)
some_zeros n h =
    let e : n + (30 - n) ≡ 30 = omega arith in
    ap (λ (k : ℕ). drop n (zeros k)) (sym e)
    ∙ (ap (drop n) (sym (replicate-append-replicate n (30 - n) (let z : ℕ = 0 in z))) ∙ drop_at (zeros n) (zeros (30 - n)) n (length-replicate n (let z : ℕ = 0 in z)))

-- one letter more is put in place
module _ (word bytes : List ℕ) (at letter : ℕ) (size : length bytes ≡ 30) (within : at < length word) (few : length word ≤ 30) (small : letter ≡ to_ascii_lowercase (get_or word at 0)) where
  room : at < length bytes
  room = omega (arith, size, within, few)

  pub more_front : take at bytes ≡ map to_ascii_lowercase (take at word) → take (at + 1) (set bytes at letter) ≡ map to_ascii_lowercase (take (at + 1) word)
  more_front front =
      take_more_set bytes at letter room
      ∙ (ap (λ (u : List ℕ). u ++ letter ∷ []) front
      ∙ (ap (λ (l : ℕ). map to_ascii_lowercase (take at word) ++ l ∷ []) small
      ∙ (sym (map-append to_ascii_lowercase (take at word) (get_or word at 0 ∷ [])) ∙ ap (map to_ascii_lowercase) (sym (take_more word at 0 within)))))

  pub less_rest : drop at bytes ≡ drop at (zeros 30) → drop (at + 1) (set bytes at letter) ≡ drop (at + 1) (zeros 30)
  less_rest rest =
      sym (ap (drop 1) (drop_more (set bytes at letter) at 0 (omega (arith, length-set bytes at letter, room))))
      ∙ (ap (drop 1) (drop-set bytes at letter room)
      ∙ (sym (ap (drop 1) (drop_more bytes at 0 room))
      ∙ (ap (drop 1) rest ∙ ap (drop 1) (drop_more (zeros 30) at 0 (omega (arith, len_zeros 30, within, few))))))

  pub same_size : length (set bytes at letter) ≡ 30
  same_size = length-set bytes at letter ∙ size

-- all letters are
module _ (word bytes : List ℕ) (at : ℕ) (end : length word ≤ at) (there : at ≤ length word) (front : take at bytes ≡ map to_ascii_lowercase (take at word)) (rest : drop at bytes ≡ drop at (zeros 30)) where
  pub all_laid : bytes ≡ map to_ascii_lowercase word ++ drop (length word) (zeros 30)
  all_laid =
      let same : at ≡ length word = omega (arith, end, there) in
      sym (take-append-drop at bytes)
      ∙ (ap (λ (u : List ℕ). u ++ drop at bytes) (front ∙ ap (map to_ascii_lowercase) (take_all at word end))
      ∙ ap (λ (u : List ℕ). map to_ascii_lowercase word ++ u) (rest ∙ ap (λ n. drop n (zeros 30)) same))

module _ (word bytes : List ℕ) (e : bytes ≡ map to_ascii_lowercase word ++ drop (length word) (zeros 30)) (h : length word ≤ 30) where
  laid : bytes ≡ map to_ascii_lowercase word ++ zeros (30 - length word)
  laid = e ∙ ap (λ (z : List ℕ). map to_ascii_lowercase word ++ z) (some_zeros (length word) h)

  pub filled : IsPadded record { len = length word; bytes = bytes }
  filled = record {
    fits = h;
    size = ap length laid ∙ omega (arith, length-append (map to_ascii_lowercase word) (zeros (30 - length word)), length-map word to_ascii_lowercase, len_zeros (30 - length word));
    rest = ap (drop (length word)) laid ∙ drop_at (map to_ascii_lowercase word) (zeros (30 - length word)) (length word) (length-map word to_ascii_lowercase);
  }

  pub read_back : take (length word) bytes ≡ map to_ascii_lowercase word
  read_back = ap (take (length word)) laid ∙ take_at (map to_ascii_lowercase word) (zeros (30 - length word)) (length word) (length-map word to_ascii_lowercase)
