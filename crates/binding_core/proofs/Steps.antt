-- Parameters read one after another.
use Rattle.std.proofs.Common.{◌≡◌, ℕ, ◌+◌, ◌<◌, ◌≤◌, List, [], ◌∷◌, ◌++◌, Option, Some, None, length, drop, get_or, refl, sym, ◌∙◌, ap, subst, arith, append_assoc}
use denote.Ref.{Bor}
use Rattle.std.specs.Prelude.{MatchOption, option_map, unwrap_or}
use Rattle.std.specs.Option.{option_copied}
use Rattle.std.specs.List.{AllZip}
use Rattle.std.proofs.lemmas.List.{append-nil, drop_more, drop_all, length_push}
use Rattle.std.proofs.lemmas.Slice.Zip.{all_zipped_more}
use Rattle.base_core.specs.declared.value.ColType.{ColType}
use Rattle.base_core.specs.declared.value.ColType.TheVariants as types_of
use Rattle.base_core.specs.declared.value.Value.{Value}
use Rattle.parameters_core.specs.declared.fault.ValueFault.{ValueFault}
use Rattle.parameters_core.specs.declared.fault.ValueFault.TheVariants as value_faults
use Rattle.binding_core.specs.declared.fault.BindFault.{BindFault}
use Rattle.binding_core.specs.declared.fault.BindFault.TheVariants as faults
use Rattle.binding_core.specs.Formats.{code_for}
use Rattle.binding_core.specs.Parameters.{Parameter, sent_parameter, parameters_from, parameters, IsBound, IsParameterFault, IsFirstFault, value_fault}

-- what the next one of a list is
first_of : {A B : Type 0} (view : A → B) (d : A) (r : Option A) (s t : List B) → MatchOption r ((s ≡ []) × (t ≡ [])) (λ x. s ≡ view x ∷ t) → 0 < length s → s ≡ view (unwrap_or r d) ∷ t
first_of view d None s t h some = absurd (omega (arith, some, ap length h.0))
first_of view d (Some x) s t h some = h

copied : (o : Option (Bor (List ℕ))) → option_map (λ v. v.now) o ≡ option_copied o
copied None = refl
copied (Some x) = refl

pub next_sent : (r : Option (Option (Bor (List ℕ)))) (bytes : Option (Bor (List ℕ))) (s t : List (Option (List ℕ))) → MatchOption r ((s ≡ []) × (t ≡ [])) (λ x. s ≡ option_map (λ v. v.now) x ∷ t) → bytes ≡ unwrap_or r None → 0 < length s → s ≡ option_copied bytes ∷ t
next_sent r bytes s t h e some =
    first_of (option_map (λ (v : Bor (List ℕ)). v.now)) None r s t h some
    ∙ ap (λ (o : Option (List ℕ)). o ∷ t) (ap (option_map (λ (v : Bor (List ℕ)). v.now)) (sym e) ∙ copied bytes)

-- the values of so many places are read, and these are left
pub record SoFar (types : List ColType) (codes : List ℕ) (sent left : List (Option (List ℕ))) (k : ℕ) (values : List Value) : Type 0 where
  pub before : List Parameter
  pub many : length before ≡ k
  pub split : parameters types codes sent ≡ before ++ parameters_from k (drop k types) codes left
  pub bound : AllZip IsBound before values
  pub left_many : length left + k ≡ length sent

pub none_yet : (types : List ColType) (codes : List ℕ) (sent : List (Option (List ℕ))) → SoFar types codes sent sent 0 []
none_yet types codes sent = record { before = []; many = refl; split = refl; bound = tt; left_many = omega arith }

module _ (types : List ColType) (codes : List ℕ) (sent left rest : List (Option (List ℕ))) (k : ℕ) (values : List Value) (code : ℕ) (bytes : Option (List ℕ)) (s : SoFar types codes sent left k values) (inside : k < length types) (is_code : code ≡ code_for codes k) (first : left ≡ bytes ∷ rest) where
  abbrev ty : ColType
  ty = get_or types k types_of.Integer

  abbrev this : Parameter
  this = sent_parameter ty code bytes

  abbrev behind : List Parameter
  behind = parameters_from (k + 1) (drop (k + 1) types) codes rest

  split_here : parameters types codes sent ≡ s.before ++ this ∷ behind
  split_here =
      let next : drop k types ≡ ty ∷ drop (k + 1) types = drop_more types k types_of.Integer inside in
      let at_types : parameters_from k (drop k types) codes left ≡ parameters_from k (ty ∷ drop (k + 1) types) codes left = ap (λ (ts : List ColType). parameters_from k ts codes left) next in
      let at_left : parameters_from k (ty ∷ drop (k + 1) types) codes left ≡ this ∷ behind =
      ap (λ (ss : List (Option (List ℕ))). parameters_from k (ty ∷ drop (k + 1) types) codes ss) first
      ∙ ap (λ (c : ℕ). sent_parameter ty c bytes ∷ behind) (sym is_code) in
      s.split ∙ ap (λ (ps : List Parameter). s.before ++ ps) (at_types ∙ at_left)

  pub one_more : (v : Value) → IsBound this v → SoFar types codes sent rest (k + 1) (values ++ v ∷ [])
  one_more v b = record {
    before = s.before ++ this ∷ [];
    many = length_push s.before this ∙ ap (λ (n : ℕ). n + 1) s.many;
    split = split_here ∙ sym (append_assoc s.before (this ∷ []) behind);
    bound = all_zipped_more IsBound s.before values this v s.bound b;
    left_many = omega (arith, s.left_many, ap length first);
  }

  pub fault_here : (e : BindFault) → IsParameterFault (k + 1) this e → IsFirstFault (parameters types codes sent) e
  fault_here e f = record {
    before = s.before;
    values = values;
    here = this;
    behind = behind;
    split = split_here;
    bound = s.bound;
    faulty = subst (λ (n : ℕ). IsParameterFault (n + 1) this e) (sym s.many) f;
  }

pub all_read : (types : List ColType) (codes : List ℕ) (sent left : List (Option (List ℕ))) (k : ℕ) (values : List Value) → SoFar types codes sent left k values → length types ≤ k → AllZip IsBound (parameters types codes sent) values
all_read types codes sent left k values s h =
    let nothing : parameters_from k (drop k types) codes left ≡ [] = ap (λ (ts : List ColType). parameters_from k ts codes left) (drop_all k types h) in
    let all : parameters types codes sent ≡ s.before = s.split ∙ (ap (λ (ps : List Parameter). s.before ++ ps) nothing ∙ append-nil s.before) in
    subst (λ (ps : List Parameter). AllZip IsBound ps values) (sym all) s.bound

-- ---- a fault of the bytes
pub other_fault : (number : ℕ) (fault : ValueFault) → (fault ≡ value_faults.NoMemory → ⊥) → faults.BadValue number fault ≡ value_fault number fault
other_fault number value_faults.NoMemory h = absurd (h refl)
other_fault number value_faults.BadNumber h = refl
other_fault number value_faults.BadLength h = refl
other_fault number value_faults.BadText h = refl
other_fault number value_faults.TooLong h = refl
