-- The words of a part of the tokens are that part of the words.
use Rattle.std.proofs.Common.{◌≡◌, ℕ, List, take, drop, sym, ap, ◌∙◌}
use Rattle.std.proofs.lemmas.List.{take-map, drop-map}
use Rattle.lexer_core.specs.declared.token.Token.{Token}
use Rattle.utility_core.specs.Words.{token_text, words_of}

module _ (line : List ℕ) (n : ℕ) (tokens part : List Token) where
  pub words_before : part ≡ take n tokens → words_of line part ≡ take n (words_of line tokens)
  words_before e = ap (λ (ts : List Token). words_of line ts) e ∙ sym (take-map (token_text line) n tokens)

  pub words_behind : part ≡ drop n tokens → words_of line part ≡ drop n (words_of line tokens)
  words_behind e = ap (λ (ts : List Token). words_of line ts) e ∙ sym (drop-map (token_text line) n tokens)
