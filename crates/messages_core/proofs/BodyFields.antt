-- Bodies of messages: what is read is what was spelled, and what was spelled is read.
use Rattle.std.proofs.Common.{◌≡◌, ◌≢◌, ℕ, ◌^◌, Bool, true, false, cond, eqb, List, [], ◌∷◌, ◌++◌, Option, Some, None, option_map, refl, sym, ap, subst, ◌∙◌}
use Rattle.std.specs.Int.{w16, w32}
use Rattle.std.specs.Prelude.{IfSome, IfNone}
use Rattle.std.proofs.lemmas.Bool.{eqb-true}
use Rattle.messages_core.specs.Fields.{int16, int32, string, value, counted_items, IsNumber16, IsNumber32, HasNoZero, IsValue, IsCounted}
use Rattle.messages_core.specs.Reading.{FieldReader, number_at, text_at, value_or_null_at, both_at, whole}
use Rattle.messages_core.specs.Client.{target_byte, bind_body, parse_body, IsBind, IsParse}
use Rattle.messages_core.specs.Sasl.{initial_response, IsInitialResponse}
use Rattle.messages_core.specs.Bodies.{target_at, int16s_at, int32s_at, values_at, bind_in, parse_in, named_in, execute_in, query_in, cancel_in, initial_response_in}
use Rattle.messages_core.specs.declared.client.Target.{Target}
use Rattle.messages_core.specs.declared.client.Target.TheVariants as targets
use Rattle.messages_core.proofs.Codecs.{IsBytes, some_is, Takes, IsField, IsBody, number_field, wide16, wide32, both_field, counted_field, whole_body}
use Rattle.messages_core.proofs.TextFields.{tail_fits, text_field, value_field}

int16_field : IsField (number_at w16) int16 IsNumber16
int16_field = number_field w16 (2 ^ 16) wide16

int32_field : IsField (number_at w32) int32 IsNumber32
int32_field = number_field w32 (2 ^ 32) wide32

int16s_field : IsField int16s_at (counted_items int16) (IsCounted IsNumber16)
int16s_field = counted_field (number_at w16) int16 IsNumber16 int16_field

int32s_field : IsField int32s_at (counted_items int32) (IsCounted IsNumber32)
int32s_field = counted_field (number_at w32) int32 IsNumber32 int32_field

values_field : IsField values_at (counted_items value) (IsCounted IsValue)
values_field = counted_field value_or_null_at value IsValue value_field

-- ---- what a Describe or a Close names

abbrev target_bytes : Target → List ℕ
target_bytes target = target_byte target ∷ []

abbrev AnyTarget : Target → Type 0
AnyTarget target = Unit {0}

target_is : (byte : ℕ) (rest : List ℕ) (target : Target) (behind : List ℕ) → IsBytes (byte ∷ rest) → (s p : Bool)
    → eqb byte 83 ≡ s → eqb byte 80 ≡ p
    → cond {A = Option (Target × List ℕ)} s (Some (targets.Statement, rest)) (cond p (Some (targets.Portal, rest)) None) ≡ Some (target, behind)
    → Takes target_bytes AnyTarget (byte ∷ rest) target behind
target_is byte rest target behind fits true p is_s is_p e =
    let made : Target × List ℕ = (targets.Statement, rest) in
    subst (λ (y : Target × List ℕ). Takes target_bytes AnyTarget (byte ∷ rest) y.0 y.1) (some_is made (target, behind) e)
    (record { parts = ap (λ (b : ℕ). b ∷ rest) (eqb-true byte 83 is_s); fits = tt; rest_fits = tail_fits byte rest fits })
target_is byte rest target behind fits false true is_s is_p e =
    let made : Target × List ℕ = (targets.Portal, rest) in
    subst (λ (y : Target × List ℕ). Takes target_bytes AnyTarget (byte ∷ rest) y.0 y.1) (some_is made (target, behind) e)
    (record { parts = ap (λ (b : ℕ). b ∷ rest) (eqb-true byte 80 is_p); fits = tt; rest_fits = tail_fits byte rest fits })
target_is byte rest target behind fits false false is_s is_p e = absurd cc

target_takes : (bytes : List ℕ) (target : Target) (rest : List ℕ) → IsBytes bytes → target_at bytes ≡ Some (target, rest)
    → Takes target_bytes AnyTarget bytes target rest
target_takes [] target rest fits e = absurd cc
target_takes (byte ∷ bytes) target rest fits e = target_is byte bytes target rest fits (eqb byte 83) (eqb byte 80) refl refl e

target_again : (target : Target) (rest : List ℕ) → AnyTarget target → target_at (target_bytes target ++ rest) ≡ Some (target, rest)
target_again targets.Statement rest h = refl
target_again targets.Portal rest h = refl

target_field : IsField target_at target_bytes AnyTarget
target_field = record { takes = target_takes; again = target_again }

-- ---- whole bodies

-- a body by another name for what it has
module _ {A B : Type 0} (read : List ℕ → Option A) (spell : A → List ℕ) (P : A → Type 0) (body : IsBody read spell P)
    (make : A → B) (parts_of : B → A) (again : (y : B) → make (parts_of y) ≡ y) (Q : B → Type 0)
    (to : (x : A) → P x → Q (make x)) (from : (y : B) → Q y → P (parts_of y)) (back : (x : A) → parts_of (make x) ≡ x) where
  abbrev pub made_spelling : B → List ℕ
  made_spelling y = spell (parts_of y)

  some_made : (r : Option A) (y : B) → option_map make r ≡ Some y → (x : A) × (r ≡ Some x) × (make x ≡ y)
  some_made (Some x) y e = (x, refl, some_is (make x) y e)
  some_made None y e = absurd cc

  made_takes : (bytes : List ℕ) (y : B) → IsBytes bytes → option_map make (read bytes) ≡ Some y → (bytes ≡ made_spelling y) × Q y
  made_takes bytes y fits e =
      let a = some_made (read bytes) y e in
      let t = body.takes bytes a.0 fits a.1 in
      subst (λ (z : B). (bytes ≡ made_spelling z) × Q z) a.2 (t.0 ∙ ap spell (sym (back a.0)), to a.0 t.1)

  made_again : (y : B) → Q y → option_map make (read (made_spelling y)) ≡ Some y
  made_again y h = ap (option_map make) (body.again (parts_of y) (from y h)) ∙ ap (λ (z : B). Some z) (again y)

  pub made_body : IsBody (λ bytes. option_map make (read bytes)) made_spelling Q
  made_body = record { takes = made_takes; again = made_again }

-- ---- Parse

abbrev ParseFields : Type 0
ParseFields = List ℕ × (List ℕ × List ℕ)

abbrev parse_fields_at : FieldReader ParseFields
parse_fields_at = both_at text_at (both_at text_at int32s_at)

abbrev parse_fields_spelled : ParseFields → List ℕ
parse_fields_spelled x = string x.0 ++ (string x.1.0 ++ counted_items int32 x.1.1)

abbrev AreParseFields : ParseFields → Type 0
AreParseFields x = HasNoZero x.0 × (HasNoZero x.1.0 × IsCounted IsNumber32 x.1.1)

parse_fields : IsField parse_fields_at parse_fields_spelled AreParseFields
parse_fields = both_field text_at string HasNoZero _ _ _ text_field
    (both_field text_at string HasNoZero int32s_at (counted_items int32) (IsCounted IsNumber32) text_field int32s_field)

pub parse_in_body : IsBody parse_in parse_body IsParse
unfolding parse_in
parse_in_body = made_body (λ body. whole (parse_fields_at body)) parse_fields_spelled AreParseFields
    (whole_body parse_fields_at parse_fields_spelled AreParseFields parse_fields)
    (λ x. record { name = x.0; text = x.1.0; types = x.1.1 }) (λ p. (p.name, (p.text, p.types))) (λ p. refl) IsParse
    (λ x h. record { name = h.0; text = h.1.0; types = h.1.1 }) (λ p h. (h.name, (h.text, h.types))) (λ x. refl)

-- ---- Bind

abbrev BindFields : Type 0
BindFields = List ℕ × (List ℕ × (List ℕ × (List (Option (List ℕ)) × List ℕ)))

abbrev bind_fields_at : FieldReader BindFields
bind_fields_at = both_at text_at (both_at text_at (both_at int16s_at (both_at values_at int16s_at)))

abbrev bind_fields_spelled : BindFields → List ℕ
bind_fields_spelled x = string x.0 ++ (string x.1.0 ++ (counted_items int16 x.1.1.0 ++ (counted_items value x.1.1.1.0 ++ counted_items int16 x.1.1.1.1)))

abbrev AreBindFields : BindFields → Type 0
AreBindFields x = HasNoZero x.0 × (HasNoZero x.1.0 × (IsCounted IsNumber16 x.1.1.0 × (IsCounted IsValue x.1.1.1.0 × IsCounted IsNumber16 x.1.1.1.1)))

bind_fields : IsField bind_fields_at bind_fields_spelled AreBindFields
bind_fields = both_field text_at string HasNoZero _ _ _ text_field
    (both_field text_at string HasNoZero _ _ _ text_field
    (both_field int16s_at (counted_items int16) (IsCounted IsNumber16) _ _ _ int16s_field
    (both_field values_at (counted_items value) (IsCounted IsValue) int16s_at (counted_items int16) (IsCounted IsNumber16) values_field int16s_field)))

pub bind_in_body : IsBody bind_in bind_body IsBind
unfolding bind_in
bind_in_body = made_body (λ body. whole (bind_fields_at body)) bind_fields_spelled AreBindFields
    (whole_body bind_fields_at bind_fields_spelled AreBindFields bind_fields)
    (λ x. record { portal = x.0; statement = x.1.0; formats = x.1.1.0; values = x.1.1.1.0; result_formats = x.1.1.1.1 })
    (λ b. (b.portal, (b.statement, (b.formats, (b.values, b.result_formats))))) (λ b. refl) IsBind
    (λ x h. record { portal = h.0; statement = h.1.0; formats = h.1.1.0; values = h.1.1.1.0; result_formats = h.1.1.1.1 })
    (λ b h. (h.portal, (h.statement, (h.formats, (h.values, h.result_formats))))) (λ x. refl)

-- ---- the others

pub named_in_body : IsBody named_in (λ x. target_byte x.0 ∷ string x.1) (λ x. Unit {0} × HasNoZero x.1)
unfolding named_in
named_in_body = whole_body _ _ _ (both_field target_at target_bytes AnyTarget text_at string HasNoZero target_field text_field)

pub execute_in_body : IsBody execute_in (λ x. string x.0 ++ int32 x.1) (λ x. HasNoZero x.0 × IsNumber32 x.1)
unfolding execute_in
execute_in_body = whole_body _ _ _ (both_field text_at string HasNoZero (number_at w32) int32 IsNumber32 text_field int32_field)

pub query_in_body : IsBody query_in string HasNoZero
unfolding query_in
query_in_body = whole_body text_at string HasNoZero text_field

pub cancel_in_body : IsBody cancel_in (λ x. int32 x.0 ++ int32 x.1) (λ x. IsNumber32 x.0 × IsNumber32 x.1)
unfolding cancel_in
cancel_in_body = whole_body _ _ _ (both_field (number_at w32) int32 IsNumber32 (number_at w32) int32 IsNumber32 int32_field int32_field)

pub initial_response_in_body : IsBody initial_response_in initial_response IsInitialResponse
unfolding initial_response_in
initial_response_in_body = made_body (λ body. whole (both_at text_at value_or_null_at body)) _ _
    (whole_body (both_at text_at value_or_null_at) (λ x. string x.0 ++ value x.1) (λ x. HasNoZero x.0 × IsValue x.1)
    (both_field text_at string HasNoZero value_or_null_at value IsValue text_field value_field))
    (λ x. record { mechanism = x.0; response = x.1 }) (λ i. (i.mechanism, i.response)) (λ i. refl) IsInitialResponse
    (λ x h. h) (λ i h. h) (λ x. refl)

-- no such body, where none was read
pub none_read : {A : Type 0} (read : List ℕ → Option A) (spell : A → List ℕ) (P : A → Type 0) → IsBody read spell P
    → (body : List ℕ) → read body ≡ None → (x : A) → P x → body ≢ spell x
none_read read spell P is body e x h said =
    let some_ = is.again x h in
    let none : read (spell x) ≡ None = ap read (sym said) ∙ e in
    absurd cc

-- what a reader of bodies gave
pub read_some : {A : Type 0} (read : List ℕ → Option A) (spell : A → List ℕ) (P : A → Type 0) → IsBody read spell P
    → (body : List ℕ) (given : Option A) → IsBytes body → given ≡ read body → IfSome given (λ x. P x × (body ≡ spell x))
read_some read spell P is body (Some x) fits e = let t = is.takes body x fits (sym e) in (t.1, t.0)
read_some read spell P is body None fits e = tt

pub read_none : {A : Type 0} (read : List ℕ → Option A) (spell : A → List ℕ) (P : A → Type 0) → IsBody read spell P
    → (body : List ℕ) (given : Option A) → given ≡ read body → IfNone given ((x : A) → P x → body ≢ spell x)
read_none read spell P is body (Some x) e = tt
read_none read spell P is body None e = none_read read spell P is body (sym e)
