use Rattle.std.proofs.Common.{ℕ, ◌-◌, List, length, get_or, take, drop, arith, sym}
use Rattle.messages_core.specs.declared.frames.Cut.TheVariants as cuts
use Rattle.messages_core.proofs.Codecs.{IsBytes}
use Rattle.messages_core.proofs.Starting.{cut_said}
use Rattle.messages_core.proofs.Messages.{first_byte, behind_fits, nothing_came, body_fits, part_of, wrong_length, has_message, wrong_body}
use Rattle.messages_core.proofs.message_reading.read_message.Goals as goal

abbrev behind : List ℕ → List ℕ
behind bytes = take (length bytes - 1) (drop 1 bytes)

pub returns-in_default : goal.returns-in_default
returns-in_default c = nothing_came c.args.most c.args.bytes.now c.in_default.len_below

pub returns-in-Part : goal.returns-in-Part
returns-in-Part c =
    let bytes = c.args.bytes.now in
    let fits : IsBytes bytes = λ i. omega (arith, c.type_inv.bytes i) in
    part_of c.args.most bytes (get_or bytes 0 0) (behind bytes) (first_byte bytes c.in-len1-up.len_at_least)
    c.in-Some.kind (sym c.in-Some.ensures)
    (cut_said 0 c.args.most (behind bytes) cuts.Part (behind_fits bytes fits) c.in-Part.ensures)

pub returns-in-Faulty : goal.returns-in-Faulty
returns-in-Faulty c =
    let bytes = c.args.bytes.now in
    let fits : IsBytes bytes = λ i. omega (arith, c.type_inv.bytes i) in
    wrong_length c.args.most bytes (get_or bytes 0 0) (behind bytes) (first_byte bytes c.in-len1-up.len_at_least)
    c.in-Some.kind (sym c.in-Some.ensures)
    (cut_said 0 c.args.most (behind bytes) cuts.Faulty (behind_fits bytes fits) c.in-Faulty.ensures)

pub returns-in-Some-message_in : goal.returns-in-Some-message_in
returns-in-Some-message_in c =
    let bytes = c.args.bytes.now in
    let fits : IsBytes bytes = λ i. omega (arith, c.type_inv.bytes i) in
    let whole = cut_said 0 c.args.most (behind bytes) (cuts.Whole c.in-Whole.body c.in-Whole.rest)
    (behind_fits bytes fits) c.in-Whole.ensures in
    has_message c.args.most bytes (get_or bytes 0 0) (behind bytes) (first_byte bytes c.in-len1-up.len_at_least)
    c.in-Some.kind (sym c.in-Some.ensures) c.in-Whole.body c.in-Whole.rest whole c.in-Some-message_in.message
    (body_fits 0 c.args.most (behind bytes) c.in-Whole.body c.in-Whole.rest whole (behind_fits bytes fits))
    (sym (rw c.as_slice.ensures at c.in-Some-message_in.ensures))

pub returns-in-None : goal.returns-in-None
returns-in-None c =
    let bytes = c.args.bytes.now in
    let fits : IsBytes bytes = λ i. omega (arith, c.type_inv.bytes i) in
    let whole = cut_said 0 c.args.most (behind bytes) (cuts.Whole c.in-Whole.body c.in-Whole.rest)
    (behind_fits bytes fits) c.in-Whole.ensures in
    wrong_body c.args.most bytes (get_or bytes 0 0) (behind bytes) (first_byte bytes c.in-len1-up.len_at_least)
    c.in-Some.kind (sym c.in-Some.ensures) c.in-Whole.body c.in-Whole.rest whole
    (sym (rw c.as_slice.ensures at c.in-None.ensures))
