-- Codes of formats.
use Rattle.std.proofs.Common.{◌≡◌, ℕ, ◌+◌, ◌<◌, List, [], ◌∷◌, Option, Some, None, length, take, set, get_or, refl, sym, ◌∙◌, ap, subst, arith}
use Rattle.std.specs.Prelude.{option_map, slice_get, unwrap_or}
use Rattle.std.proofs.lemmas.List.{length-take-le, take_more_set}
use Rattle.std.proofs.lemmas.Option.{unwrap_or-slice_get}
use Rattle.messages_core.specs.declared.rows.Format.{Format}
use Rattle.messages_core.specs.declared.rows.Format.TheVariants as formats
use Rattle.messages_core.specs.Rows.{format_code}
use Rattle.binding_core.specs.Formats.{AreFormats, IsUnknown, IsUnknownFormat, code_for}
use Rattle.binding_core.proofs.Pushes.{push_each}

pub unknown : (code : ℕ) → (code ≡ 0 → ⊥) → (code ≡ 1 → ⊥) → IsUnknown code
unknown code h g formats.Text e = h e
unknown code h g formats.Binary e = g e

-- ---- the code for one
pub code_none : (codes : List ℕ) (index : ℕ) → codes ≡ [] → 0 ≡ code_for codes index
code_none codes index e = sym (ap (λ (cs : List ℕ). code_for cs index) e)

pub code_one : (codes rest : List ℕ) (first index : ℕ) → codes ≡ first ∷ rest → rest ≡ [] → first ≡ code_for codes index
code_one codes rest first index e f = sym (ap (λ (cs : List ℕ). code_for cs index) (e ∙ ap (λ (r : List ℕ). first ∷ r) f))

same_option : (r : Option ℕ) → option_map (λ x. x) r ≡ r
same_option None = refl
same_option (Some x) = refl

pub code_each : (codes rest more : List ℕ) (first next index : ℕ) (r : Option ℕ) → codes ≡ first ∷ rest → rest ≡ next ∷ more → option_map (λ x. x) r ≡ slice_get codes index → unwrap_or r 0 ≡ code_for codes index
code_each codes rest more first next index r e f g =
    let whole : codes ≡ first ∷ (next ∷ more) = e ∙ ap (λ (x : List ℕ). first ∷ x) f in
    let read : unwrap_or r 0 ≡ get_or codes index 0 = ap (λ (o : Option ℕ). unwrap_or o 0) (sym (same_option r) ∙ g) ∙ unwrap_or-slice_get codes index 0 in
    read ∙ (ap (λ (cs : List ℕ). get_or cs index 0) whole ∙ sym (ap (λ (cs : List ℕ). code_for cs index) whole))

-- ---- formats of columns
pub no_formats : (codes : List ℕ) → AreFormats codes []
no_formats codes k h = absurd (omega (arith, h))

module _ (codes : List ℕ) (fs : List Format) (k code : ℕ) (so_far : AreFormats codes (take k fs)) (within : k < length fs) (here : code ≡ code_for codes k) where
  size : length (take k fs) ≡ k
  size = length-take-le k fs (omega (arith, within))

  pub format_more : (f : Format) → code ≡ format_code f → AreFormats codes (take (k + 1) (set fs k f))
  format_more f e = subst (AreFormats codes) (sym (take_more_set fs k f within))
      (push_each (λ (n : ℕ) (g : Format). code_for codes n ≡ format_code g) formats.Text (take k fs) f so_far (ap (code_for codes) size ∙ (sym here ∙ e)))

  pub unknown_format : k < 32 → IsUnknown code → IsUnknownFormat codes code
  unknown_format less h = record {
    before = take k fs;
    each = so_far;
    within = omega (arith, size, less);
    here = here ∙ ap (code_for codes) (sym size);
    unknown = h;
  }
