-- What is written of one text after another, and what becomes of calls that write.
use Rattle.std.proofs.Common.{◌≡◌, ℕ, true, false, List, [], ◌++◌, Option, Result, Ok, Err, refl, sym, ap, ◌∙◌, subst, append_assoc, append-nil}
use Rattle.std.specs.Prelude.{Bool}
use Rattle.std.specs.Result.{IsErr, OnOk, OnErr}
use Rattle.std.specs.Io.KnownBytes.{Appends}
use Rattle.std.proofs.KnownBytes.{Appends-nil, Appends-trans}
use Rattle.base_core.specs.Streams.{WritesFront, Writes, WritesFrontOf, MayWriteText, MayWrite}

-- ---- fronts
-- all of a text is a front of it
pub front-whole : (before after : Option (List ℕ)) (text : List ℕ) → Appends before after text → WritesFront before after text
front-whole before after text w = record { part = text; unwritten = []; front = sym (append-nil text); wrote = w }

-- a front of the first of two texts
pub front-first : (before after : Option (List ℕ)) (text more : List ℕ) → WritesFront before after text → WritesFront before after (text ++ more)
front-first before after text more w = record {
  part = w.part;
  unwritten = w.unwritten ++ more;
  front = ap (λ t. t ++ more) w.front ∙ append_assoc w.part w.unwritten more;
  wrote = w.wrote;
}

-- a text, and a front of the second behind it
pub front-second : (before between after : Option (List ℕ)) (text more : List ℕ)
    → Appends before between text → WritesFront between after more → WritesFront before after (text ++ more)
front-second before between after text more p w = record {
  part = text ++ w.part;
  unwritten = w.unwritten;
  front = ap (λ t. text ++ t) w.front ∙ sym (append_assoc text w.part w.unwritten);
  wrote = Appends-trans before between after text w.part p w.wrote;
}

-- ---- texts of a kind
module _ (P Q : List ℕ → Type 0) (before after : Option (List ℕ)) where
  pub Writes-map : ((text : List ℕ) → P text → Q text) → Writes P before after → Writes Q before after
  Writes-map f w = record { text = w.text; is = f w.text w.is; wrote = w.wrote }

  pub WritesFrontOf-map : ((text : List ℕ) → P text → Q text) → WritesFrontOf P before after → WritesFrontOf Q before after
  WritesFrontOf-map f w = record { text = w.text; is = f w.text w.is; wrote = w.wrote }

-- nothing is written
pub Writes-nothing : (P : List ℕ → Type 0) (taken : Option (List ℕ)) → P [] → Writes P taken taken
Writes-nothing P taken p = record { text = []; is = p; wrote = Appends-nil taken }

-- one text after another
abbrev pub Both : (List ℕ → Type 0) → (List ℕ → Type 0) → List ℕ → Type 0
Both P Q text = (first : List ℕ) × (second : List ℕ) × P first × Q second × (text ≡ first ++ second)

module _ (P Q : List ℕ → Type 0) (before mid after : Option (List ℕ)) where
  both-written : Writes P before mid → Writes Q mid after → Writes (Both P Q) before after
  both-written w v = record {
    text = w.text ++ v.text;
    is = (w.text, v.text, w.is, v.is, refl);
    wrote = Appends-trans before mid after w.text v.text w.wrote v.wrote;
  }

  both-broken : Writes P before mid → WritesFrontOf Q mid after → WritesFrontOf (Both P Q) before after
  both-broken w v = record {
    text = w.text ++ v.text;
    is = (w.text, v.text, w.is, v.is, refl);
    wrote = front-second before mid after w.text v.text w.wrote v.wrote;
  }

-- a front of the first of two, of which the second is one that could be
pub first-broken : (P Q : List ℕ → Type 0) (before after : Option (List ℕ)) (second : List ℕ) → Q second
    → WritesFrontOf P before after → WritesFrontOf (Both P Q) before after
first-broken P Q before after second q w = record {
  text = w.text ++ second;
  is = (w.text, second, w.is, q, refl);
  wrote = front-first before after w.text second w.wrote;
}

-- ---- calls that write
-- what holds whatever the error
pub on_err : {T E P : Type 0} (r : Result T E) → P → OnErr r P
on_err (Ok x) p = tt
on_err (Err e) p = p

module _ {W T E : Type 0} (failed : W → Bool) (taken : W → Option (List ℕ)) (old new : W) where
  -- the error of a call within, handed on
  pub text-broken : (text : List ℕ) (r : Result T E) → IsErr r
      → (failed new ≡ true) × WritesFront (taken old) (taken new) text
      → MayWriteText failed taken text r old new
  text-broken text (Ok _) e w = cc
  text-broken text (Err _) e w = w

  pub write-broken : (P : List ℕ → Type 0) (r : Result T E) → IsErr r
      → (failed new ≡ true) × WritesFrontOf P (taken old) (taken new)
      → MayWrite failed taken P r old new
  write-broken P (Ok _) e w = cc
  write-broken P (Err _) e w = w

  -- another text that is the same
  pub text-same : (text other : List ℕ) (r : Result T E) → text ≡ other
      → MayWriteText failed taken text r old new → MayWriteText failed taken other r old new
  text-same text other r same w = subst (λ t. MayWriteText failed taken t r old new) same w

  -- a text of a kind
  pub write-text : (P : List ℕ → Type 0) (text : List ℕ) (r : Result T E) → P text
      → MayWriteText failed taken text r old new → MayWrite failed taken P r old new
  write-text P text (Ok _) p w = (w.0, record { text = text; is = p; wrote = w.1 })
  write-text P text (Err _) p w = (w.0, record { text = text; is = p; wrote = w.1 })

  -- a text of another kind
  pub write-map : (P Q : List ℕ → Type 0) (r : Result T E) → ((text : List ℕ) → P text → Q text)
      → MayWrite failed taken P r old new → MayWrite failed taken Q r old new
  write-map P Q (Ok _) f w = (w.0, Writes-map P Q (taken old) (taken new) f w.1)
  write-map P Q (Err _) f w = (w.0, WritesFrontOf-map P Q (taken old) (taken new) f w.1)

  -- one end of it alone
  pub write-ok : (P : List ℕ → Type 0) (r : Result T E) → MayWrite failed taken P r old new
      → OnOk r (Writes P (taken old) (taken new))
  write-ok P (Ok _) w = w.1
  write-ok P (Err _) w = tt

  pub write-err : (P : List ℕ → Type 0) (r : Result T E) → MayWrite failed taken P r old new
      → OnErr r (WritesFrontOf P (taken old) (taken new))
  write-err P (Ok _) w = tt
  write-err P (Err _) w = w.1

-- the second of two, behind the first
module _ {W T E : Type 0} (failed : W → Bool) (taken : W → Option (List ℕ)) (old mid new : W) where
  pub text-then : (text more : List ℕ) (r : Result T E) → Appends (taken old) (taken mid) text
      → MayWriteText failed taken more r mid new → MayWriteText failed taken (text ++ more) r old new
  text-then text more (Ok _) p w = (w.0, Appends-trans (taken old) (taken mid) (taken new) text more p w.1)
  text-then text more (Err _) p w = (w.0, front-second (taken old) (taken mid) (taken new) text more p w.1)

  pub write-then : (P Q : List ℕ → Type 0) (r : Result T E) → Writes P (taken old) (taken mid)
      → MayWrite failed taken Q r mid new → MayWrite failed taken (Both P Q) r old new
  write-then P Q (Ok _) p w = (w.0, both-written P Q (taken old) (taken mid) (taken new) p w.1)
  write-then P Q (Err _) p w = (w.0, both-broken P Q (taken old) (taken mid) (taken new) p w.1)
