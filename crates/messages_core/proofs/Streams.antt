-- A stream of messages of servers is cut in one way, and the values of a row are told in one way.
use Rattle.std.proofs.Common.{◌≡◌, ℕ, List, [], ◌∷◌, ◌++◌, Option, refl, sym, ap, ◌∙◌, arith}
use Rattle.std.specs.List.{flat_map, AllByRecursion}
use Rattle.std.proofs.lemmas.List.Concat.{flat_map-cons}
use Rattle.messages_core.specs.Fields.{sized, value, counted_items, IsValue, IsCounted}
use Rattle.messages_core.specs.Server.{framed, FitsLength}
use Rattle.messages_core.specs.Reading.{value_or_null_at, counted_at}
use Rattle.messages_core.specs.Cutting.{cut_of}
use Rattle.messages_core.specs.declared.frames.Cut.{Cut}
use Rattle.messages_core.specs.declared.frames.Cut.TheVariants as cuts
use Rattle.messages_core.proofs.Codecs.{some_is, counted_field}
use Rattle.messages_core.proofs.TextFields.{value_field}
use Rattle.messages_core.proofs.Cuts.{cut_only}
use Rattle.messages_core.proofs.Messages.{tail_is}

abbrev most_bytes : ℕ
most_bytes = 2147483643

whole_cut : (body rest : List ℕ) → FitsLength body → cuts.Whole body rest ≡ cut_of 0 most_bytes (sized body ++ rest)
whole_cut body rest short =
    cut_only 0 most_bytes (omega arith) (sized body ++ rest) (cuts.Whole body rest)
    (record { said = refl; within = (omega arith, omega (arith, short)) })

abbrev whole_of : List ℕ → List ℕ → Cut
whole_of body rest = cuts.Whole body rest

same_whole : (one other rest behind : List ℕ) → whole_of one rest ≡ whole_of other behind → (one ≡ other) × (rest ≡ behind)
same_whole one other rest behind e = (cc, cc)

pub first_frame : (one other : ℕ × List ℕ) (rest behind : List ℕ) → FitsLength one.1 → FitsLength other.1
    → framed one ++ rest ≡ framed other ++ behind → (one ≡ other) × (rest ≡ behind)
first_frame (byte, body) (byte', body') rest behind h k e =
    let parts = tail_is byte byte' (sized body ++ rest) (sized body' ++ behind) e in
    let same = same_whole body body' rest behind (whole_cut body rest h ∙ ap (cut_of 0 most_bytes) parts.1 ∙ sym (whole_cut body' behind k)) in
    (ap (λ (b : ℕ). (b, body)) parts.0 ∙ ap (λ (b : List ℕ). (byte', b)) same.0, same.1)

-- no two lists of types and bodies are spelled alike
pub one_list_of_frames : (ones others : List (ℕ × List ℕ)) → AllByRecursion (λ f. FitsLength f.1) ones
    → AllByRecursion (λ f. FitsLength f.1) others → flat_map framed ones ≡ flat_map framed others → ones ≡ others
one_list_of_frames [] [] h k e = refl
one_list_of_frames [] (other ∷ others) h k e =
    let f : [] ≡ framed other ++ flat_map framed others = e ∙ flat_map-cons framed other others in
    absurd cc
one_list_of_frames (one ∷ ones) [] h k e =
    let f : framed one ++ flat_map framed ones ≡ [] = sym (flat_map-cons framed one ones) ∙ e in
    absurd cc
one_list_of_frames (one ∷ ones) (other ∷ others) h k e =
    let f : framed one ++ flat_map framed ones ≡ framed other ++ flat_map framed others =
    sym (flat_map-cons framed one ones) ∙ e ∙ flat_map-cons framed other others in
    let same = first_frame one other (flat_map framed ones) (flat_map framed others) h.0 k.0 f in
    ap (λ (m : ℕ × List ℕ). m ∷ ones) same.0
    ∙ ap (λ (ms : List (ℕ × List ℕ)). other ∷ ms) (one_list_of_frames ones others h.1 k.1 same.1)

-- no two lists of values are spelled alike
pub one_list_of_values : (ones others : List (Option (List ℕ))) → IsCounted IsValue ones → IsCounted IsValue others
    → counted_items value ones ≡ counted_items value others → ones ≡ others
one_list_of_values ones others h k e =
    let field = counted_field value_or_null_at value IsValue value_field in
    let read = field.again ones [] h in
    let read' = field.again others [] k in
    let same : counted_items value ones ++ [] ≡ counted_items value others ++ [] = ap (λ (b : List ℕ). b ++ []) e in
    ap (λ (x : List (Option (List ℕ)) × List ℕ). x.0) (some_is (ones, []) (others, []) (sym read ∙ ap (counted_at value_or_null_at) same ∙ read'))
