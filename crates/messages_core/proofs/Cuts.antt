-- What a length cuts off, exactly.
use Rattle.std.proofs.Common.{◌≡◌, ℕ, ◌+◌, ◌-◌, ◌^◌, ◌<◌, ◌≤◌, ◌⊎◌, List, ◌++◌, length, take, drop, replicate, Option, Some, None, refl, sym, ap, subst, ◌∙◌, append_assoc, arith, inl, inr}
use Rattle.std.specs.Int.{w32, from_be_bytes}
use Rattle.std.proofs.lemmas.Bool.{cases_lt, lt-ltb, le-ltb}
use Rattle.std.proofs.lemmas.List.{take-append-drop, length-append, length-take-le, take-append-le, drop-append-le, length-replicate, take_at, drop_at}
use Rattle.messages_core.specs.Fields.{int32}
use Rattle.messages_core.specs.Frames.{HasBody, HasPartOfBody, WantsMore, HasWrongLength}
use Rattle.messages_core.specs.Reading.{number_at, bytes_at}
use Rattle.messages_core.specs.Cutting.{body_at, behind_length, cut_of}
use Rattle.messages_core.specs.declared.frames.Cut.{Cut}
use Rattle.messages_core.specs.declared.frames.Cut.TheVariants as cuts
use Rattle.messages_core.proofs.Codecs.{IsBytes}
use Rattle.messages_core.proofs.Skips.{number_short, number_long}
use Rattle.messages_core.proofs.TextFields.{number32, bytes_again}

-- what a cut says of the bytes
abbrev pub IsCut : ℕ → ℕ → List ℕ → Cut → Type 0
IsCut least most bytes (cuts.Whole body rest) = HasBody least most bytes body rest
IsCut least most bytes cuts.Part = WantsMore least most bytes
IsCut least most bytes cuts.Faulty = HasWrongLength least most bytes

bytes_short : (n : ℕ) (bytes : List ℕ) → length bytes < n → bytes_at n bytes ≡ None
bytes_short n bytes lt = rw (lt-ltb (length bytes) n lt) refl

bytes_long : (n : ℕ) (bytes : List ℕ) → n ≤ length bytes → bytes_at n bytes ≡ Some (take n bytes, drop n bytes)
bytes_long n bytes le = rw (le-ltb (length bytes) n le) refl

-- the length is out of range
cut_faulty : (least most told : ℕ) (behind : List ℕ) → (told < 4 + least) ⊎ (4 + most < told)
    → behind_length least most (Some (told, behind)) ≡ cuts.Faulty
cut_faulty least most told behind (inl low) = rw (lt-ltb told (4 + least) low) refl
cut_faulty least most told behind (inr high) =
    elim (cases_lt told (4 + least)) [
      | inl low ↦ rw (lt-ltb told (4 + least) low) refl
      | inr le ↦ rw (le-ltb told (4 + least) le, lt-ltb (4 + most) told high) refl
    ]

-- or in range
cut_body : (least most told : ℕ) (behind : List ℕ) → 4 + least ≤ told → told ≤ 4 + most
    → behind_length least most (Some (told, behind)) ≡ body_at (bytes_at (told - 4) behind)
cut_body least most told behind low high = rw (le-ltb told (4 + least) low, le-ltb (4 + most) told high) refl

module _ (least most : ℕ) where
  in_range : (bytes behind : List ℕ) (told : ℕ) → bytes ≡ int32 told ++ behind → 4 + least ≤ told → told ≤ 4 + most
      → IsCut least most bytes (body_at (bytes_at (told - 4) behind))
  in_range bytes behind told said low high =
      let size = told - 4 in
      elim (cases_lt (length behind) size) [
        | inl short ↦
            let more : List ℕ = replicate (size - length behind) 0 in
            let more_length : length more ≡ size - length behind = length-replicate (size - length behind) 0 in
            let body_length : 4 + length (behind ++ more) ≡ told = omega (arith, length-append behind more, more_length) in
            subst (λ (read : Option (List ℕ × List ℕ)). IsCut least most bytes (body_at read)) (sym (bytes_short size behind short))
            (inr (record {
              body = behind ++ more;
              more = more;
              said = ap (λ (b : List ℕ). b ++ more) said ∙ append_assoc (int32 told) behind more
                  ∙ ap (λ (k : ℕ). int32 k ++ (behind ++ more)) (sym body_length);
              within = (omega (arith, body_length), omega (arith, body_length));
              some = omega (arith, more_length);
            }))
        | inr long ↦
            let body_length : 4 + length (take size behind) ≡ told = omega (arith, length-take-le size behind long) in
            subst (λ (read : Option (List ℕ × List ℕ)). IsCut least most bytes (body_at read)) (sym (bytes_long size behind long))
            (record {
              said = said ∙ ap (λ (b : List ℕ). int32 told ++ b) (sym (take-append-drop size behind))
                  ∙ sym (append_assoc (int32 told) (take size behind) (drop size behind))
                  ∙ ap (λ (k : ℕ). int32 k ++ take size behind ++ drop size behind) (sym body_length);
              within = (omega (arith, body_length), omega (arith, body_length));
            })
      ]

  pub cut_is : (bytes : List ℕ) → IsBytes bytes → IsCut least most bytes (cut_of least most bytes)
  cut_is bytes fits =
      elim (cases_lt (length bytes) 4) [
        | inl short ↦
            subst (λ (read : Option (ℕ × List ℕ)). IsCut least most bytes (behind_length least most read)) (sym (number_short w32 bytes short))
            (inl short)
        | inr long ↦
            let told = from_be_bytes w32 (take 4 bytes) in
            let behind : List ℕ = drop 4 bytes in
            let t = number32.takes bytes told behind fits (number_long w32 bytes long) in
            subst (λ (read : Option (ℕ × List ℕ)). IsCut least most bytes (behind_length least most read)) (sym (number_long w32 bytes long))
            (elim (cases_lt told (4 + least)) [
              | inl low ↦ subst (IsCut least most bytes) (sym (cut_faulty least most told behind (inl low)))
                  (record { told = told; rest = behind; said = t.parts; number = t.fits; wrong = inl low })
              | inr low ↦ elim (cases_lt (4 + most) told) [
                | inl high ↦ subst (IsCut least most bytes) (sym (cut_faulty least most told behind (inr high)))
                    (record { told = told; rest = behind; said = t.parts; number = t.fits; wrong = inr high })
                | inr high ↦ subst (IsCut least most bytes) (sym (cut_body least most told behind low high))
                    (in_range bytes behind told t.parts low high)
              ]
            ])
      ]

  module _ (small : most + 4 < 2 ^ 31) where
    whole_only : (bytes body rest : List ℕ) → HasBody least most bytes body rest → cuts.Whole body rest ≡ cut_of least most bytes
    whole_only bytes body rest h =
        let told = 4 + length body in
        let read : number_at w32 bytes ≡ Some (told, body ++ rest) =
        ap (number_at w32) (h.said ∙ append_assoc (int32 told) body rest)
        ∙ number32.again told (body ++ rest) (omega (arith, h.within.1, small)) in
        let size : told - 4 ≡ length body = omega arith in
        sym (ap (behind_length least most) read
        ∙ cut_body least most told (body ++ rest) (omega (arith, h.within.0)) (omega (arith, h.within.1))
        ∙ ap (λ (n : ℕ). body_at (bytes_at n (body ++ rest))) size
        ∙ ap body_at (bytes_again (length body) body rest refl))

    front_only : (bytes : List ℕ) → HasPartOfBody least most bytes → 4 ≤ length bytes → cuts.Part ≡ cut_of least most bytes
    front_only bytes h long =
        let told = 4 + length h.body in
        let behind : List ℕ = drop 4 bytes in
        let front : take 4 bytes ≡ int32 told =
        sym (take-append-le 4 bytes h.more long) ∙ ap (take 4) h.said ∙ take_at (int32 told) h.body 4 refl in
        let back : behind ++ h.more ≡ h.body =
        sym (drop-append-le 4 bytes h.more long) ∙ ap (drop 4) h.said ∙ drop_at (int32 told) h.body 4 refl in
        let parts : bytes ≡ int32 told ++ behind = sym (take-append-drop 4 bytes) ∙ ap (λ (b : List ℕ). b ++ behind) front in
        let read : number_at w32 bytes ≡ Some (told, behind) =
        ap (number_at w32) parts ∙ number32.again told behind (omega (arith, h.within.1, small)) in
        let short : length behind < told - 4 = omega (arith, ap length back, length-append behind h.more, h.some) in
        sym (ap (behind_length least most) read
        ∙ cut_body least most told behind (omega (arith, h.within.0)) (omega (arith, h.within.1))
        ∙ ap body_at (bytes_short (told - 4) behind short))

    pub cut_only : (bytes : List ℕ) (cut : Cut) → IsCut least most bytes cut → cut ≡ cut_of least most bytes
    cut_only bytes (cuts.Whole body rest) h = whole_only bytes body rest h
    cut_only bytes cuts.Part (inl short) = sym (ap (behind_length least most) (number_short w32 bytes short))
    cut_only bytes cuts.Part (inr h) =
        elim (cases_lt (length bytes) 4) [
          | inl short ↦ sym (ap (behind_length least most) (number_short w32 bytes short))
          | inr long ↦ front_only bytes h long
        ]
    cut_only bytes cuts.Faulty h =
        let read : number_at w32 bytes ≡ Some (h.told, h.rest) = ap (number_at w32) h.said ∙ number32.again h.told h.rest h.number in
        sym (ap (behind_length least most) read ∙ cut_faulty least most h.told h.rest h.wrong)
