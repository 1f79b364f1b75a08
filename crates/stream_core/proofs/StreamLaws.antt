-- What is told of entries leads from what there was before them to what there is behind them.
use Rattle.std.proofs.Common.{◌≡◌, ◌<◌, ◌≤◌, ◌+◌, ◌-◌, ℕ, suc, true, false, cond, ltb, List, [], ◌∷◌, ◌++◌, length, take, sym, ap, ◌∙◌, arith, append_assoc, append-nil, length-append, ◌⊎◌, ⊎_elim, rules}
use Rattle.std.proofs.lemmas.Bool.{cases_order}
use Rattle.std.proofs.lemmas.Bool.Decides.{nat_tests}
use Rattle.system_core.specs.declared.machine.event.Entry.{Entry}
use Rattle.stream_core.specs.Streams.{AreChangesTold, StreamBegins, StreamLeads, ChangeTold, after_told, behind, contents_at}

goes-on : (before es : List Entry) (told : List ChangeTold) → AreChangesTold before es told → after_told (contents_at before) told ≡ contents_at (before ++ es)
goes-on before [] told is = ap (after_told (contents_at before)) is ∙ ap contents_at (sym (append-nil before))
goes-on before (e ∷ es) told (all, later, are, rest, is) =
    ap (after_told (contents_at before)) is ∙ ap (λ c. after_told c later) are.leads
    ∙ goes-on (before ++ e ∷ []) es later rest ∙ ap contents_at (append_assoc before (e ∷ []) es)

-- moments behind this one are all kept
all-behind : (before es : List Entry) (told : List ChangeTold) (m : ℕ) → AreChangesTold before es told → m ≤ length before → behind m told ≡ told
all-behind before [] told m is le = ap (behind m) is ∙ sym is
all-behind before (e ∷ es) told m (all, later, are, rest, is) le =
    let first : ChangeTold = record { moment = length before + 1; all = all } in
    let later_le : m ≤ length (before ++ e ∷ []) = omega (arith, le, length-append before (e ∷ [])) in
    let kept : ltb m (length before + 1) ≡ true = grind (arith, nat_tests, le) in
    ap (behind m) is ∙ ap (λ b. cond b (first ∷ behind m later) (behind m later)) kept
    ∙ ap (λ k. first ∷ k) (all-behind (before ++ e ∷ []) es later m rest later_le) ∙ sym is

leads-from : (before es : List Entry) (told : List ChangeTold) (m : ℕ) → AreChangesTold before es told → length before ≤ m
    → after_told (contents_at (before ++ take (m - length before) es)) (behind m told) ≡ contents_at (before ++ es)
leads-from before [] told m is le =
    ap (λ k. after_told (contents_at (before ++ take (m - length before) [])) (behind m k)) is ∙ ap (λ k. contents_at (before ++ k)) (none (m - length before))
  where
    none : (k : ℕ) → take {A = Entry} k [] ≡ []
    none k = search rules
leads-from before (e ∷ es) told m (all, later, are, rest, is) le =
    ⊎_elim
    (λ (same : m ≡ length before).
    let zero_left : m - length before ≡ 0 = omega (arith, same) in
    let kept = all-behind before (e ∷ es) told m (all, later, are, rest, is) (omega (arith, same)) in
    ap (λ k. after_told (contents_at (before ++ take k (e ∷ es))) (behind m told)) zero_left
    ∙ ap (λ k. after_told (contents_at k) (behind m told)) (append-nil before)
    ∙ ap (after_told (contents_at before)) kept
    ∙ goes-on before (e ∷ es) told (all, later, are, rest, is))
    (λ (other : (m < length before) ⊎ (length before < m)).
    ⊎_elim
    (λ (less : m < length before). absurd (omega (arith, less, le)))
    (λ (more : length before < m).
    let next = before ++ e ∷ [] in
    let first : ChangeTold = record { moment = length before + 1; all = all } in
    let long : length next ≡ length before + 1 = length-append before (e ∷ []) in
    let one_less : m - length before ≡ suc (m - length next) = omega (arith, long, more) in
    let dropped : ltb m (length before + 1) ≡ false = grind (arith, nat_tests, more) in
    ap (λ k. after_told (contents_at (before ++ take k (e ∷ es))) (behind m told)) one_less
    ∙ ap (λ k. after_told (contents_at k) (behind m told)) (sym (append_assoc before (e ∷ []) (take (m - length next) es)))
    ∙ ap (λ k. after_told (contents_at (next ++ take (m - length next) es)) (behind m k)) is
    ∙ ap (λ b. after_told (contents_at (next ++ take (m - length next) es)) (cond b (first ∷ behind m later) (behind m later))) dropped
    ∙ leads-from next es later m rest (omega (arith, long, more))
    ∙ ap contents_at (append_assoc before (e ∷ []) es))
    other)
    (cases_order m (length before))

pub stream-begins : StreamBegins
stream-begins journal told are = goes-on [] journal told are

pub stream-leads : StreamLeads
stream-leads journal told moment are =
    let whole : moment - 0 ≡ moment = omega arith in
    ap (λ k. after_told (contents_at (take k journal)) (behind moment told)) (sym whole) ∙ leads-from [] journal told moment are (omega arith)
