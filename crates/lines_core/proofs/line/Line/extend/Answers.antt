use Rattle.std.proofs.Common.{◌≡◌, ◌≤◌, ◌+◌, ◌-◌, ℕ, List, length, ◌++◌, take, min, true, arith, ap, sym, ◌∙◌}
use Rattle.std.specs.Result.{is_ok}
use Rattle.std.proofs.lemmas.List.{take_min, length-take}
use Rattle.std.proofs.Math.Nat.{min_comm}
use Rattle.std.proofs.Math.Seq.{take-append-add}
use Rattle.lines_core.specs.declared.line.TheConstants.{KEPT_BYTES}
use Rattle.lines_core.proofs.line.Line.extend.Goals as goal

-- the room that is left is filled from the front of b
filled : (limit : ℕ) (a b : List ℕ) (n : ℕ) → length a ≤ limit → n ≡ min (length b) (limit - length a) → a ++ take n b ≡ take limit (a ++ b)
filled limit a b n h e =
    let sum : length a + (limit - length a) ≡ limit = omega arith in
    ap (λ k. a ++ take k b) (e ∙ min_comm (length b) (limit - length a))
    ∙ ap (λ x. a ++ x) (take_min (limit - length a) b)
    ∙ sym (take-append-add a b (limit - length a))
    ∙ ap (λ k. take k (a ++ b)) sum

pub returns : goal.returns
returns c =
    let is : c.min.result ≡ min (length c.args.part.now) (KEPT_BYTES - length c.self.inside.bytes.items) = c.min.ensures ∙ ap (λ k. min (length c.args.part.now) (KEPT_BYTES - k)) (c.len-room.ensures ∙ c.self.inside.bytes.ok.0) in
    let ok : is_ok c.extend_from_slice.result ≡ true = c.extend_from_slice.ensures.succeeds (omega (arith, length-take c.min.result c.args.part.now)) in
    rw ok at c.extend_from_slice.ensures.items
    ∙ filled KEPT_BYTES c.self.inside.bytes.items c.args.part.now c.min.result (omega (arith, c.self.inside.bytes.ok.0)) is
    ∙ ap (λ x. take KEPT_BYTES (x ++ c.args.part.now)) c.self.view_is
