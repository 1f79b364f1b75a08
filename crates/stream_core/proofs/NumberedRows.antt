-- The rows of one number, and what the effects on a row make of them.
use Rattle.std.proofs.Common.{◌≡◌, ◌≢◌, ℕ, Bool, true, false, eqb, List, [], ◌∷◌, refl, sym, ap, ◌∙◌, ◌⊎◌, inl, inr}
use Rattle.std.specs.List.{filter}
use Rattle.std.proofs.lemmas.Bool.{eqb-true, eq-eqb, ne_eqb}
use Rattle.copyup_core.specs.Holding.{with_item, without_item}

own : (n : ℕ) → eqb n n ≡ true
own n = eq-eqb n n refl

module _ {V : Type 0} (n : ℕ) where
  -- the items of this number
  abbrev pub numbered : List (ℕ × V) → List (ℕ × V)
  numbered items = filter (λ e. eqb e.0 n) items

  -- there is none
  pub record IsMissing (items : List (ℕ × V)) : Type 0 where
    pub put : (v : V) → with_item n v items ≡ items
    pub out : without_item n items ≡ items

  -- there is one, maybe others, and an edit is of the one
  pub record IsThere (items : List (ℕ × V)) : Type 0 where
    pub value : V
    pub others : List (ℕ × V)
    pub is : numbered items ≡ (n, value) ∷ others
    pub put : (v : V) → numbered (with_item n v items) ≡ (n, v) ∷ others
    pub same : with_item n value items ≡ items
    pub out : numbered (without_item n items) ≡ others

  pub is-there : (items : List (ℕ × V)) → IsMissing items ⊎ IsThere items
  is-there [] = inl (record { put = λ v. refl; out = refl })
  is-there (e ∷ es) = by (eqb e.0 n) refl (is-there es)
    where
      by : (b : Bool) → eqb e.0 n ≡ b → IsMissing es ⊎ IsThere es → IsMissing (e ∷ es) ⊎ IsThere (e ∷ es)
      by true here rest =
          let first : e ≡ (n, e.1) = ap (λ (k : ℕ). (k, e.1)) (eqb-true e.0 n here) in
          inr (record {
            value = e.1;
            others = numbered es;
            is = rw here (ap (λ k. k ∷ numbered es) first);
            put = λ v. rw (here, own n) refl;
            same = rw here (ap (λ k. k ∷ es) (sym first));
            out = rw here refl;
          })
      by false here (inl m) = inl (record { put = λ v. rw here (ap (λ k. e ∷ k) (m.put v)); out = rw here (ap (λ k. e ∷ k) m.out) })
      by false here (inr t) = inr (record {
        value = t.value;
        others = t.others;
        is = rw here t.is;
        put = λ v. rw (here, here) (t.put v);
        same = rw here (ap (λ k. e ∷ k) t.same);
        out = rw (here, here) t.out;
      })

  -- ---- edits of another number
  module _ (m : ℕ) (differs : m ≢ n) where
    apart : (e : ℕ × V) → eqb e.0 m ≡ true → eqb e.0 n ≡ false
    apart e here = ne_eqb e.0 n (λ q. differs (sym (eqb-true e.0 m here) ∙ q))

    pub other-put : (v : V) (items : List (ℕ × V)) → numbered (with_item m v items) ≡ numbered items
    other-put v [] = refl
    other-put v (e ∷ es) = by (eqb e.0 m) refl (other-put v es)
      where
        by : (b : Bool) → eqb e.0 m ≡ b → numbered (with_item m v es) ≡ numbered es → numbered (with_item m v (e ∷ es)) ≡ numbered (e ∷ es)
        by true here later = rw (here, ne_eqb m n differs, apart e here) refl
        by false here later = rw (here, later) refl

    pub other-out : (items : List (ℕ × V)) → numbered (without_item m items) ≡ numbered items
    other-out [] = refl
    other-out (e ∷ es) = by (eqb e.0 m) refl (other-out es)
      where
        by : (b : Bool) → eqb e.0 m ≡ b → numbered (without_item m es) ≡ numbered es → numbered (without_item m (e ∷ es)) ≡ numbered (e ∷ es)
        by true here later = rw (here, apart e here) refl
        by false here later = rw (here, later) refl
