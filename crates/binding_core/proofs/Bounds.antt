-- Values that are bound are one list, proper, and without a fault.
use Rattle.std.proofs.Common.{◌≡◌, ℕ, ℤ, pos, negsuc, suc, ◌+◌, ◌-◌, ◌<◌, ◌≤◌, ◌^◌, Bool, true, false, ltb, List, [], ◌∷◌, ◌++◌, Option, length, refl, sym, ◌∙◌, ap, subst, arith, inl, inr}
use Rattle.std.specs.List.{AllZip}
use Rattle.std.specs.Int.{w16, w32, w64, from_be_bytes}
use Rattle.std.proofs.lemmas.Bool.{ltb-true, ltb-false}
use Rattle.std.proofs.lemmas.List.Elements.{All-nil, All-cons}
use Rattle.std.proofs.lemmas.Option.{none-some, same_Some}
use Rattle.std.proofs.lemmas.Slice.Zip.{AllZip-long}
use mir.Val.{SFits as FitsSigned, sel}
use Rattle.base_core.specs.Texts.{IsText}
use Rattle.base_core.specs.declared.value.ColType.{ColType}
use Rattle.base_core.specs.declared.value.ColType.TheVariants as types
use Rattle.base_core.specs.declared.value.Value.{Value}
use Rattle.base_core.specs.declared.value.Value.TheVariants as values_of
use Rattle.lexer_core.specs.Lexing.{Lexeme, IsProper, Says}
use Rattle.reader_core.specs.Saying.{value_lexeme}
use Rattle.messages_core.specs.declared.rows.Format.{Format}
use Rattle.messages_core.specs.declared.rows.Format.TheVariants as formats
use Rattle.messages_core.specs.Rows.{format_code}
use Rattle.parameters_core.specs.declared.fault.FillFault.{FillFault}
use Rattle.parameters_core.specs.declared.fault.FillFault.TheVariants as fill_faults
use Rattle.parameters_core.specs.Places.{Part, AreParts, IsGreatestNumber}
use Rattle.parameters_core.specs.Filling.{AreProper, IsFilled, IsFillFault, filled, value_of_place}
use Rattle.parameters_core.specs.Meaning.{SayInTurn, IsAlike}
use Rattle.parameters_core.specs.Values.{AreValue, IsBinaryNumber, IsValueFault}
use Rattle.parameters_core.proofs.Parts.{parts_once}
use Rattle.parameters_core.proofs.FilledLines.{greatest_once, line_once, says_split}
use Rattle.parameters_core.proofs.Alike.{other_values}
use Rattle.parameters_core.proofs.OneValue.{value_once, no_fault}
use Rattle.binding_core.specs.declared.fault.BindFault.{BindFault}
use Rattle.binding_core.specs.declared.fault.BindFault.TheVariants as faults
use Rattle.binding_core.specs.Formats.{is_binary}
use Rattle.binding_core.specs.Parameters.{Parameter, parameters, parameters_from, IsBound, IsParameterFault, IsFirstFault}
use Rattle.binding_core.specs.Binding.{AreCounted, Binds, IsBindFault, Suit, fill_fault}

-- ---- one value
format_once : (f g : Format) → format_code f ≡ format_code g → f ≡ g
format_once formats.Text formats.Text e = refl
format_once formats.Text formats.Binary e = absurd (omega (arith, e))
format_once formats.Binary formats.Text e = absurd (omega (arith, e))
format_once formats.Binary formats.Binary e = refl

same_format : (p : Parameter) (f g : Format) → p.code ≡ format_code f → p.code ≡ format_code g → is_binary f ≡ is_binary g
same_format p f g a b = ap is_binary (format_once f g (sym a ∙ b))

bound_once : (p : Parameter) (v w : Value) → IsBound p v → IsBound p w → v ≡ w
bound_once p v w a b =
    let bytes = same_Some b.bytes a.bytes (sym b.sent ∙ a.sent) in
    let format = same_format p b.format a.format b.known a.known in
    value_once p.ty (is_binary a.format) a.bytes v w a.read
    (subst (λ (x : Bool). AreValue p.ty x a.bytes w) format (subst (λ (x : List ℕ). AreValue p.ty (is_binary b.format) x w) bytes b.read))

all_once : (ps : List Parameter) (vs ws : List Value) → AllZip IsBound ps vs → AllZip IsBound ps ws → vs ≡ ws
all_once [] [] [] a b = refl
all_once [] [] (w ∷ ws) a b = absurd b
all_once [] (v ∷ vs) ws a b = absurd a
all_once (p ∷ ps) [] ws a b = absurd a
all_once (p ∷ ps) (v ∷ vs) [] a b = absurd b
all_once (p ∷ ps) (v ∷ vs) (w ∷ ws) a b =
    ap (λ (x : Value). x ∷ vs) (bound_once p v w a.0 b.0) ∙ ap (λ (xs : List Value). w ∷ xs) (all_once ps vs ws a.1 b.1)

pub binding_once : (text : List ℕ) (types : List ColType) (codes : List ℕ) (sent : List (Option (List ℕ))) (line other : List ℕ) → Binds text types codes sent line → Binds text types codes sent other → line ≡ other
binding_once text types codes sent line other a b =
    let same = all_once (parameters types codes sent) b.values a.values b.bound a.bound in
    line_once text a.values line other a.is_filled (subst (λ (vs : List Value). IsFilled text vs other) same b.is_filled)

-- ---- no fault
one_among : (before behind : List Parameter) (p : Parameter) (vs : List Value) → AllZip IsBound (before ++ p ∷ behind) vs → (v : Value) × IsBound p v
one_among [] behind p [] a = absurd a
one_among [] behind p (v ∷ vs) a = (v, a.0)
one_among (q ∷ before) behind p [] a = absurd a
one_among (q ∷ before) behind p (v ∷ vs) a = one_among before behind p vs a.1

no_fault_here : (n : ℕ) (p : Parameter) (v : Value) (e : BindFault) → IsBound p v → IsParameterFault n p e → e ≡ faults.NoMemory
no_fault_here n p v faults.NoMemory b f = refl
no_fault_here n p v faults.WrongCount b f = absurd f
no_fault_here n p v (faults.NullValue k) b f = absurd (none-some b.bytes (sym f.1 ∙ b.sent))
no_fault_here n p v (faults.UnknownFormat code) b f = absurd (f.1.unknown b.format b.known)
no_fault_here n p v (faults.BadValue k fault) b f =
    let x = f.1 in
    let bytes = same_Some x.bytes b.bytes (sym x.sent ∙ b.sent) in
    let format = same_format p x.format b.format x.known b.known in
    absurd (x.other (no_fault p.ty (is_binary b.format) b.bytes v fault b.read
    (subst (λ (z : Bool). IsValueFault p.ty z b.bytes fault) format (subst (λ (z : List ℕ). IsValueFault p.ty (is_binary x.format) z fault) bytes x.faulty))))
no_fault_here n p v faults.TooLong b f = absurd f

no_first_fault : (ps : List Parameter) (vs : List Value) (e : BindFault) → AllZip IsBound ps vs → IsFirstFault ps e → e ≡ faults.NoMemory
no_first_fault ps vs e a f =
    let one = one_among f.before f.behind f.here vs (subst (λ (x : List Parameter). AllZip IsBound x vs) f.split a) in
    no_fault_here (length f.before + 1) f.here one.0 e one.1 f.faulty

pub no_binding_fault : (text : List ℕ) (types : List ColType) (codes : List ℕ) (sent : List (Option (List ℕ))) (line : List ℕ) (e : BindFault) → Binds text types codes sent line → length line ≤ 4096 → IsBindFault text types codes sent e → e ≡ faults.NoMemory
no_binding_fault text types codes sent line faults.NoMemory b h f = refl
no_binding_fault text types codes sent line faults.WrongCount b h f =
    let g = b.suits.greatest in
    let same : b.suits.number ≡ f.number = g.greatest ∙ sym (greatest_once text f.number g.parts g.last f.greatest g.cut) in
    absurd (f.not_counted (subst (λ (n : ℕ). AreCounted n types codes sent) same b.suits.counted))
no_binding_fault text types codes sent line (faults.NullValue k) b h f = no_first_fault (parameters types codes sent) b.values (faults.NullValue k) b.bound f.1
no_binding_fault text types codes sent line (faults.UnknownFormat c) b h f = no_first_fault (parameters types codes sent) b.values (faults.UnknownFormat c) b.bound f.1
no_binding_fault text types codes sent line (faults.BadValue k x) b h f = no_first_fault (parameters types codes sent) b.values (faults.BadValue k x) b.bound f.1
no_binding_fault text types codes sent line faults.TooLong b h f =
    let same = ap length (binding_once text types codes sent f.0 line f.1 b) in
    absurd (omega (arith, h, same, f.2))

-- ---- proper values
fits_16 : (n : ℕ) (below : Bool) → ltb n (2 ^ 15) ≡ below → FitsSigned w64 (sel below (pos n) (negsuc (2 ^ 16 - suc n)))
fits_16 n true e = let h = ltb-true n (2 ^ 15) e in record { sfits = omega (arith, h) }
fits_16 n false e = let h = ltb-false n (2 ^ 15) e in record { sfits = omega (arith, h) }

fits_32 : (n : ℕ) (below : Bool) → ltb n (2 ^ 31) ≡ below → FitsSigned w64 (sel below (pos n) (negsuc (2 ^ 32 - suc n)))
fits_32 n true e = let h = ltb-true n (2 ^ 31) e in record { sfits = omega (arith, h) }
fits_32 n false e = let h = ltb-false n (2 ^ 31) e in record { sfits = omega (arith, h) }

fits_64 : (n : ℕ) (below : Bool) → ltb n (2 ^ 63) ≡ below → FitsSigned w64 (sel below (pos n) (negsuc (2 ^ 64 - suc n)))
fits_64 n true e = let h = ltb-true n (2 ^ 63) e in record { sfits = omega (arith, h) }
fits_64 n false e = let h = ltb-false n (2 ^ 63) e in record { sfits = omega (arith, h) }

binary_fits : (z : ℤ) (bytes : List ℕ) → IsBinaryNumber z bytes → FitsSigned w64 z
binary_fits z bytes (inl a) = let n = from_be_bytes w16 bytes in subst (FitsSigned w64) (sym a.1) (fits_16 n (ltb n (2 ^ 15)) refl)
binary_fits z bytes (inr (inl a)) = let n = from_be_bytes w32 bytes in subst (FitsSigned w64) (sym a.1) (fits_32 n (ltb n (2 ^ 31)) refl)
binary_fits z bytes (inr (inr a)) = let n = from_be_bytes w64 bytes in subst (FitsSigned w64) (sym a.1) (fits_64 n (ltb n (2 ^ 63)) refl)

proper_value : (ty : ColType) (binary : Bool) (bytes : List ℕ) (v : Value) → AreValue ty binary bytes v → IsProper (value_lexeme v)
proper_value types.Integer false bytes (values_of.Int z) a = a.fits
proper_value types.Integer false bytes (values_of.Text t) a = absurd a
proper_value types.Integer true bytes (values_of.Int z) a = binary_fits z bytes a
proper_value types.Integer true bytes (values_of.Text t) a = absurd a
proper_value types.Text binary bytes (values_of.Text t) a = subst IsText (sym a.0) a.1
proper_value types.Text binary bytes (values_of.Int z) a = absurd a

all_proper : (ps : List Parameter) (vs : List Value) → AllZip IsBound ps vs → AreProper vs
all_proper [] [] a = All-nil (λ (v : Value). IsProper (value_lexeme v))
all_proper [] (v ∷ vs) a = absurd a
all_proper (p ∷ ps) [] a = absurd a
all_proper (p ∷ ps) (v ∷ vs) a =
    let b = a.0 in
    All-cons (λ (x : Value). IsProper (value_lexeme x)) v vs (proper_value p.ty (is_binary b.format) b.bytes v b.read) (all_proper ps vs a.1)

-- ---- what the line says
pub line_is : (text : List ℕ) (vs : List Value) (line : List ℕ) (parts : List Part) (last : List ℕ) → IsFilled text vs line → AreParts text parts last → line ≡ filled (value_of_place vs) parts last
line_is text vs line parts last f a =
    let same = parts_once text f.parts parts f.last last f.cut a in
    f.whole
    ∙ (ap (λ (ps : List Part). filled (value_of_place vs) ps f.last) same.0
    ∙ ap (λ (end : List ℕ). filled (value_of_place vs) parts end) same.1)

pub says_literals : (text last : List ℕ) (types : List ColType) (codes : List ℕ) (sent : List (Option (List ℕ))) (line : List ℕ) (parts : List Part) (said : List Lexeme) → Binds text types codes sent line → AreParts text parts last → Says line said → (vs : List Value) × AllZip IsBound (parameters types codes sent) vs × SayInTurn (value_of_place vs) parts last said
says_literals text last types codes sent line parts said b a s =
    let proper = all_proper (parameters types codes sent) b.values b.bound in
    let is = line_is text b.values line parts last b.is_filled a in
    (b.values, b.bound, says_split text last b.values parts said a proper (subst (λ (x : List ℕ). Says x said) is s))

pub alike : (text : List ℕ) (types others : List ColType) (codes more : List ℕ) (sent instead : List (Option (List ℕ))) (line other : List ℕ) (said : List Lexeme) → Binds text types codes sent line → Binds text others more instead other → length other ≤ 4096 → Says line said → (changed : List Lexeme) × Says other changed × AllZip IsAlike said changed
alike text types others codes more sent instead line other said b c h s =
    let f = b.is_filled in
    let proper = all_proper (parameters types codes sent) b.values b.bound in
    let proper_too = all_proper (parameters others more instead) c.values c.bound in
    let is = line_is text c.values other f.parts f.last c.is_filled f.cut in
    let r = other_values text f.last b.values c.values f.parts said f.cut proper proper_too (subst (λ (x : List ℕ). Says x said) f.whole s) (subst (λ (x : List ℕ). length x ≤ 4096) is h) in
    (r.0, subst (λ (x : List ℕ). Says x r.0) (sym is) r.1, r.2)

-- ---- faults of binding
pub values_fault : (text : List ℕ) (types : List ColType) (codes : List ℕ) (sent : List (Option (List ℕ))) (e : BindFault) → Suit text types codes sent → IsFirstFault (parameters types codes sent) e → IsBindFault text types codes sent e
values_fault text types codes sent faults.NoMemory s f = tt
values_fault text types codes sent faults.WrongCount s f = absurd f.faulty
values_fault text types codes sent (faults.NullValue k) s f = (s, f)
values_fault text types codes sent (faults.UnknownFormat c) s f = (s, f)
values_fault text types codes sent (faults.BadValue k x) s f = (s, f)
values_fault text types codes sent faults.TooLong s f = absurd f.faulty

not_few : (text : List ℕ) (types : List ColType) (codes : List ℕ) (sent : List (Option (List ℕ))) (vs : List Value) (n : ℕ) → Suit text types codes sent → length vs ≡ length sent → IsGreatestNumber text n → length vs < n → ⊥
not_few text types codes sent vs n s e g h =
    let a = s.greatest in
    let same : n ≡ s.number = greatest_once text n a.parts a.last g a.cut ∙ sym a.greatest in
    omega (arith, h, e, same, s.counted.values_are)

bound_len : (ps : List Parameter) (vs : List Value) → AllZip IsBound ps vs → length vs ≡ length ps
bound_len ps vs a = AllZip-long IsBound ps vs a

len_from : (k : ℕ) (types : List ColType) (codes : List ℕ) (sent : List (Option (List ℕ))) → length types ≡ length sent → length (parameters_from k types codes sent) ≡ length sent
len_from k [] codes [] e = refl
len_from k [] codes (x ∷ sent) e = absurd (omega (arith, e))
len_from k (t ∷ types) codes [] e = absurd (omega (arith, e))
len_from k (t ∷ types) codes (x ∷ sent) e = ap suc (len_from (k + 1) types codes sent (omega (arith, e)))

pub filling_fault : (text : List ℕ) (types : List ColType) (codes : List ℕ) (sent : List (Option (List ℕ))) (vs : List Value) (e : FillFault) → Suit text types codes sent → AllZip IsBound (parameters types codes sent) vs → IsFillFault text vs e → IsBindFault text types codes sent (fill_fault e)
filling_fault text types codes sent vs fill_faults.NoMemory s a f = tt
filling_fault text types codes sent vs fill_faults.TooLong s a f = (f.0, record { suits = s; values = vs; bound = a; is_filled = f.1 }, f.2)
filling_fault text types codes sent vs (fill_faults.NoValue n) s a f =
    let sizes = bound_len (parameters types codes sent) vs a ∙ len_from 0 types codes sent (s.counted.types_are ∙ sym s.counted.values_are) in
    absurd (not_few text types codes sent vs n s sizes f.0 f.1)
