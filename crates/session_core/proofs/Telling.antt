-- A line that was answered, as the answer of a write.
use Rattle.std.proofs.Common.{◌≡◌, ℕ, Bool, true, false, List, ◌++◌, Option, None, sym, ap, ◌∙◌, subst, append-nil, Ok, Err}
use Rattle.std.proofs.KnownBytes.{Appends-trans}
use Rattle.base_core.specs.Streams.{Writes, WritesFrontOf}
use Rattle.base_core.proofs.Fronts.{Writes-map, front-second}
use Rattle.reply_core.specs.Pending.{TellsPending}
use Rattle.reply_core.specs.declared.pending.Pending.{Pending}
use Rattle.std.specs.Prelude.{Result, IfOk, OnOk, OnErr, MatchResult}

module _ {T U B : Type 0} where
  pub told_ok : (P : T → Type 0) (w : Result T B) (r : Result (Result T U) B) → MatchResult w (λ x. r ≡ Ok (Ok x)) (λ e. r ≡ Err e) → IfOk w P → IfOk r (λ told. IfOk told P)
  told_ok P (Ok x) r is h = subst (λ (z : Result (Result T U) B). IfOk z (λ told. IfOk told P)) (sym is) h
  told_ok P (Err e) r is h = subst (λ (z : Result (Result T U) B). IfOk z (λ told. IfOk told P)) (sym is) tt

  pub told_kept : (P : Type 0) (w : Result T B) (r : Result (Result T U) B) → MatchResult w (λ x. r ≡ Ok (Ok x)) (λ e. r ≡ Err e) → IfOk r (λ told. OnErr told P)
  told_kept P (Ok x) r is = subst (λ (z : Result (Result T U) B). IfOk z (λ told. OnErr told P)) (sym is) tt
  told_kept P (Err e) r is = subst (λ (z : Result (Result T U) B). IfOk z (λ told. OnErr told P)) (sym is) tt

  pub told_err : (P : Type 0) (w : Result T B) (r : Result (Result T U) B) → MatchResult w (λ x. r ≡ Ok (Ok x)) (λ e. r ≡ Err e) → OnErr w P → OnErr r P
  told_err P (Ok x) r is h = subst (λ (z : Result (Result T U) B). OnErr z P) (sym is) tt
  told_err P (Err e) r is h = subst (λ (z : Result (Result T U) B). OnErr z P) (sym is) h

-- a whole answer is one that was begun, and of which nothing is pending
abbrev pub Begun : (List ℕ → Type 0) → Option Pending → List ℕ → Type 0
Begun P pending text = (rest : List ℕ) → TellsPending pending rest → P (text ++ rest)

pub whole_begun : (P : List ℕ → Type 0) (text : List ℕ) → P text → Begun P None text
whole_begun P text p = λ rest none. subst P (sym (ap (λ t. text ++ t) none ∙ append-nil text)) p

pub whole_ok : {B : Type 0} (P : List ℕ → Type 0) (before after : Option (List ℕ)) (w : Result (Unit {0}) B) (r : Result (Option Pending) B) → MatchResult w (λ _. r ≡ Ok None) (λ e. r ≡ Err e)
    → OnOk w (Writes P before after) → IfOk r (λ pending. Writes (Begun P pending) before after)
whole_ok {B} P before after (Ok u) r is h = subst (λ (z : Result (Option Pending) B). IfOk z (λ pending. Writes (Begun P pending) before after)) (sym is) (Writes-map P (Begun P None) before after (whole_begun P) h)
whole_ok {B} P before after (Err e) r is h = subst (λ (z : Result (Option Pending) B). IfOk z (λ pending. Writes (Begun P pending) before after)) (sym is) tt

pub whole_err : {B : Type 0} (P : Type 0) (w : Result (Unit {0}) B) (r : Result (Option Pending) B) → MatchResult w (λ _. r ≡ Ok None) (λ e. r ≡ Err e) → OnErr w P → OnErr r P
whole_err {B} P (Ok u) r is h = subst (λ (z : Result (Option Pending) B). OnErr z P) (sym is) tt
whole_err {B} P (Err e) r is h = subst (λ (z : Result (Option Pending) B). OnErr z P) (sym is) h

-- what a result tells of its value
pub ok_holds : {X Y : Type 0} (P : Type 0) (r : Result X Y) (x : X) → r ≡ Ok x → OnOk r P → P
ok_holds P r x is h = subst (λ z. OnOk z P) is h

pub err_holds : {X Y : Type 0} (P : Type 0) (r : Result X Y) (y : Y) → r ≡ Err y → OnErr r P → P
err_holds P r y is h = subst (λ z. OnErr z P) is h

pub ok_value : {X Y : Type 0} (P : X → Type 0) (r : Result X Y) (x : X) → r ≡ Ok x → IfOk r P → P x
ok_value P r x is h = subst (λ z. IfOk z P) is h

-- what was begun, and all that was pending of it
module _ (P : List ℕ → Type 0) (pending : Option Pending) (before mid after : Option (List ℕ)) (begun : Writes (Begun P pending) before mid) where
  pub begun_then : Writes (TellsPending pending) mid after → Writes P before after
  begun_then rest = record {
    text = begun.text ++ rest.text;
    is = begun.is rest.text rest.is;
    wrote = Appends-trans before mid after begun.text rest.text begun.wrote rest.wrote;
  }

  pub begun_broken : WritesFrontOf (TellsPending pending) mid after → WritesFrontOf P before after
  begun_broken rest = record {
    text = begun.text ++ rest.text;
    is = begun.is rest.text rest.is;
    wrote = front-second before mid after begun.text rest.text begun.wrote rest.wrote;
  }

  pub begun_may : {W T E : Type 0} (failed : W → Bool) (writer : W) (r : Result T E)
      → MatchResult r (λ _. (failed writer ≡ false) × Writes (TellsPending pending) mid after) (λ _. (failed writer ≡ true) × WritesFrontOf (TellsPending pending) mid after)
      → MatchResult r (λ _. (failed writer ≡ false) × Writes P before after) (λ _. (failed writer ≡ true) × WritesFrontOf P before after)
  begun_may failed writer (Ok x) rest = (rest.0, begun_then rest.1)
  begun_may failed writer (Err e) rest = (rest.0, begun_broken rest.1)
