-- Bytes are one value, or there is a fault.
use Rattle.std.proofs.Common.{◌≡◌, ℕ, ℤ, Bool, true, false, List, length, refl, sym, ◌∙◌, ap, arith, inl, inr}
use Rattle.base_core.specs.Texts.{IsText}
use Rattle.base_core.specs.declared.value.ColType.{ColType}
use Rattle.base_core.specs.declared.value.ColType.TheVariants as types
use Rattle.base_core.specs.declared.value.Value.{Value}
use Rattle.base_core.specs.declared.value.Value.TheVariants as values
use Rattle.parameters_core.specs.declared.fault.ValueFault.{ValueFault}
use Rattle.parameters_core.specs.declared.fault.ValueFault.TheVariants as faults
use Rattle.parameters_core.specs.Values.{AreValue, IsBinaryNumber, IsPlainText, IsValueFault}

one_binary : (y z : ℤ) (bytes : List ℕ) → IsBinaryNumber y bytes → IsBinaryNumber z bytes → y ≡ z
one_binary y z bytes (inl a) (inl b) = a.1 ∙ sym b.1
one_binary y z bytes (inl a) (inr (inl b)) = absurd (omega (arith, a.0, b.0))
one_binary y z bytes (inl a) (inr (inr b)) = absurd (omega (arith, a.0, b.0))
one_binary y z bytes (inr (inl a)) (inl b) = absurd (omega (arith, a.0, b.0))
one_binary y z bytes (inr (inl a)) (inr (inl b)) = a.1 ∙ sym b.1
one_binary y z bytes (inr (inl a)) (inr (inr b)) = absurd (omega (arith, a.0, b.0))
one_binary y z bytes (inr (inr a)) (inl b) = absurd (omega (arith, a.0, b.0))
one_binary y z bytes (inr (inr a)) (inr (inl b)) = absurd (omega (arith, a.0, b.0))
one_binary y z bytes (inr (inr a)) (inr (inr b)) = a.1 ∙ sym b.1

pub value_once : (ty : ColType) (is_binary : Bool) (bytes : List ℕ) (v w : Value) → AreValue ty is_binary bytes v → AreValue ty is_binary bytes w → v ≡ w
value_once types.Integer false bytes (values.Int y) (values.Int z) a b = ap (λ (x : ℤ). values.Int x) (a.value ∙ sym b.value)
value_once types.Integer false bytes (values.Int y) (values.Text u) a b = absurd b
value_once types.Integer false bytes (values.Text t) w a b = absurd a
value_once types.Integer true bytes (values.Int y) (values.Int z) a b = ap (λ (x : ℤ). values.Int x) (one_binary y z bytes a b)
value_once types.Integer true bytes (values.Int y) (values.Text u) a b = absurd b
value_once types.Integer true bytes (values.Text t) w a b = absurd a
value_once types.Text is_binary bytes (values.Text t) (values.Text u) a b = ap (λ (x : List ℕ). values.Text x) (a.0 ∙ sym b.0)
value_once types.Text is_binary bytes (values.Text t) (values.Int z) a b = absurd b
value_once types.Text is_binary bytes (values.Int y) w a b = absurd a

binary_len : (z : ℤ) (bytes : List ℕ) → IsBinaryNumber z bytes → (length bytes ≡ 2 → ⊥) → (length bytes ≡ 4 → ⊥) → (length bytes ≡ 8 → ⊥) → ⊥
binary_len z bytes (inl a) two four eight = two a.0
binary_len z bytes (inr (inl a)) two four eight = four a.0
binary_len z bytes (inr (inr a)) two four eight = eight a.0

is_plain : (bytes : List ℕ) → IsText bytes → IsPlainText bytes
is_plain bytes t = (t.chars, t.plain, t.encoded)

pub no_fault : (ty : ColType) (is_binary : Bool) (bytes : List ℕ) (v : Value) (e : ValueFault) → AreValue ty is_binary bytes v → IsValueFault ty is_binary bytes e → e ≡ faults.NoMemory
no_fault ty is_binary bytes v faults.NoMemory a f = refl
no_fault types.Integer false bytes (values.Int z) faults.BadNumber a f = absurd (f z a)
no_fault types.Integer false bytes (values.Int z) _ a f = absurd f
no_fault types.Integer false bytes (values.Text t) _ a f = absurd a
no_fault types.Integer true bytes (values.Int z) faults.BadLength a f = absurd (binary_len z bytes a f.0 f.1 f.2)
no_fault types.Integer true bytes (values.Int z) _ a f = absurd f
no_fault types.Integer true bytes (values.Text t) _ a f = absurd a
no_fault types.Text is_binary bytes (values.Text t) faults.BadText a f = absurd (f (is_plain bytes a.1))
no_fault types.Text is_binary bytes (values.Text t) faults.TooLong a f = let short = a.1.short in absurd (omega (arith, short, f.1))
no_fault types.Text is_binary bytes (values.Text t) _ a f = absurd f
no_fault types.Text is_binary bytes (values.Int z) _ a f = absurd a
