-- Answers that are written in pieces.
use Rattle.std.proofs.Common.{◌≡◌, ℕ, ◌+◌, ◌-◌, ◌<◌, ◌≤◌, List, [], ◌++◌, length, take, drop, Option, Some, None, refl, sym, ap, subst, ◌∙◌, inl, inr, append_assoc, append-nil, arith}
use Rattle.std.specs.Prelude.{IfSome}
use Rattle.std.specs.List.{concat}
use Rattle.std.proofs.lemmas.Bool.{cases_lt}
use Rattle.std.proofs.lemmas.List.{take-append-drop, drop-drop, drop-map, length-drop, length-map}
use Rattle.std.proofs.lemmas.List.Folds.{concat-append}
use Rattle.std.proofs.Math.Seq.{take-add}
use Rattle.std.proofs.KnownBytes.{Appends-nil, Appends-trans}
use Rattle.base_core.specs.Streams.{Writes, WritesFront, WritesFrontOf}
use Rattle.base_core.proofs.Fronts.{front-first, front-second}
use Rattle.answer_core.specs.Answers.{AnswersUnsent, Continues, IsUnsentText, IsCutShort, Passes, SendsAll, SendsMore, Suspends}
use Rattle.answer_core.specs.Messages.{closing, cut_error, portal_suspended}
use Rattle.answer_core.specs.Remaining.{item_rows, portal_closing, records_left, remaining_rows, rows_left}
use Rattle.answer_core.specs.RowTexts.{record_row}
use Rattle.answer_core.specs.Steps.{asked_behind}
use Rattle.answer_core.specs.declared.unsent.Frame.{Frame}
use Rattle.answer_core.specs.declared.unsent.Portal.{Portal}
use Rattle.answer_core.specs.declared.unsent.Progress.{Progress}
use Rattle.answer_core.specs.declared.unsent.Progress.TheVariants as progresses
use Rattle.answer_core.specs.declared.unsent.Remainder.{Remainder}
use Rattle.answer_core.specs.declared.unsent.Remainder.TheVariants as remainders
use Rattle.answer_core.specs.declared.unsent.Unsent.{Unsent}

-- ---- rows that are sent one part after another

rows_then_rest : (n : ℕ) (rows : List (List ℕ)) → concat (take n rows) ++ concat (drop n rows) ≡ concat rows
rows_then_rest n rows = sym (concat-append (take n rows) (drop n rows)) ∙ ap concat (take-append-drop n rows)

rows_then_more : (n m : ℕ) (rows : List (List ℕ)) → concat (take n rows) ++ concat (take m (drop n rows)) ≡ concat (take (n + m) rows)
rows_then_more n m rows = sym (concat-append (take n rows) (take m (drop n rows))) ∙ ap concat (sym (take-add n m rows))

-- ---- how many are asked for

asked_all : (most : Option ℕ) (n all : ℕ) → IfSome most (λ m. n ≤ m) → n ≤ all → IfSome (asked_behind most n) (λ m. all - n ≤ m) → IfSome most (λ m. all ≤ m)
asked_all None n all within fits h = tt
asked_all (Some m) n all within fits h = omega arith

asked_more : (most : Option ℕ) (n m : ℕ) → IfSome most (λ x. n ≤ x) → asked_behind most n ≡ Some m → most ≡ Some (n + m)
asked_more None n m within e = absurd cc
asked_more (Some x) n m within e =
    let left : x - n ≡ m = cc in
    let whole : x ≡ n + m = omega arith in
    ap (λ (y : ℕ). Some y) whole

asked_within : (most : Option ℕ) (n k : ℕ) → IfSome most (λ m. n ≤ m) → IfSome (asked_behind most n) (λ m. k ≤ m) → IfSome most (λ m. n + k ≤ m)
asked_within None n k within h = tt
asked_within (Some m) n k within h = omega arith

-- ---- portals of which some rows were sent

passes_more : (n m : ℕ) (a b c : Portal) → Passes n a b → Passes m b c → Passes (n + m) a c
passes_more n m a b c h k = record {
  rows = k.rows ∙ ap (drop m) h.rows ∙ drop-drop m n (rows_left a);
  closing = k.closing ∙ h.closing;
  kind = k.kind ∙ h.kind;
}

passed_remainder : ℕ → Remainder → Remainder
passed_remainder n (remainders.Listed list next) = remainders.Listed list (next + n)
passed_remainder n (remainders.Export records sent) =
    remainders.Export (record { ticket = record (records.ticket) { to_come = drop n (records_left records) }; ahead = None }) (sent + n)

passes_remainder : (n : ℕ) (r : Remainder) (f : Frame) → n ≤ length (remaining_rows r f.formats)
    → Passes n (record { remainder = r; frame = f }) (record { remainder = passed_remainder n r; frame = f })
unfolding passed_remainder
passes_remainder n (remainders.Listed list next) f fits = record {
  rows = sym (drop-drop n next (item_rows list f.formats));
  closing = refl;
  kind = refl;
}
passes_remainder n (remainders.Export records sent) f fits =
    let left = records_left records in
    let few : n ≤ length left = omega (arith, length-map left record_row) in
    let same : (sent + n) + length (drop n left) ≡ sent + length left = omega (arith, length-drop n left) in
    record {
      rows = sym (drop-map record_row n left);
      closing = ap (λ (count : ℕ). closing f.tag count f.at.0) same;
      kind = refl;
    }

-- each portal can pass some of its rows
pub passes_any : (n : ℕ) (p : Portal) → n ≤ length (rows_left p) → (after : Portal) × Passes n p after
passes_any n p fits = (record { remainder = passed_remainder n p.remainder; frame = p.frame }, passes_remainder n p.remainder p.frame fits)

-- ---- what may still be written

-- some rows were sent, of those that were asked for
pub record SendsSome (n : ℕ) (before after : Unsent) : Type 0 where
  pub passes : Passes n before.portal after.portal
  pub fits : n ≤ length (rows_left before.portal)
  pub within : IfSome before.most (λ m. n ≤ m)
  pub behind : after.most ≡ asked_behind before.most n

module _ (n : ℕ) (u v : Unsent) (s : SendsSome n u v) where
  fewer : length (rows_left v.portal) ≡ length (rows_left u.portal) - n
  fewer = ap length s.passes.rows ∙ length-drop n (rows_left u.portal)

  all_behind : (rest : List ℕ) (left : Option Portal) → SendsAll v rest left → SendsAll u (concat (take n (rows_left u.portal)) ++ rest) left
  all_behind rest left all =
      let rows = rows_left u.portal in
      let first : List ℕ = concat (take n rows) in
      let none_more : IfSome (asked_behind u.most n) (λ m. length (rows_left v.portal) ≤ m) =
      subst (λ (o : Option ℕ). IfSome o (λ m. length (rows_left v.portal) ≤ m)) s.behind all.asked in
      let none_behind : IfSome (asked_behind u.most n) (λ m. length rows - n ≤ m) =
      subst (λ (k : ℕ). IfSome (asked_behind u.most n) (λ m. k ≤ m)) fewer none_more in
      let behind : rest ≡ concat (drop n rows) ++ portal_closing u.portal =
      all.said ∙ ap (λ (l : List (List ℕ)). concat l ++ portal_closing v.portal) s.passes.rows
      ∙ ap (λ (t : List ℕ). concat (drop n rows) ++ t) s.passes.closing in
      record {
        asked = asked_all u.most n (length rows) s.within s.fits none_behind;
        said = ap (λ (t : List ℕ). first ++ t) behind
            ∙ sym (append_assoc first (concat (drop n rows)) (portal_closing u.portal))
            ∙ ap (λ (t : List ℕ). t ++ portal_closing u.portal) (rows_then_rest n rows);
        none = all.none;
      }

  suspended_behind : (rest : List ℕ) (left : Option Portal) → Suspends v rest left → Suspends u (concat (take n (rows_left u.portal)) ++ rest) left
  suspended_behind rest left sus =
      let rows = rows_left u.portal in
      let first : List ℕ = concat (take n rows) in
      let next : List ℕ = concat (take sus.most (drop n rows)) in
      let behind : rest ≡ next ++ portal_suspended =
      sus.said ∙ ap (λ (l : List (List ℕ)). concat (take sus.most l) ++ portal_suspended) s.passes.rows in
      record {
        most = n + sus.most;
        asked = asked_more u.most n sus.most s.within (sym s.behind ∙ sus.asked);
        more = omega (arith, s.fits, sus.more, fewer);
        said = ap (λ (t : List ℕ). first ++ t) behind
            ∙ sym (append_assoc first next portal_suspended)
            ∙ ap (λ (t : List ℕ). t ++ portal_suspended) (rows_then_more n sus.most rows);
        portal = sus.portal;
        passes = passes_more n sus.most u.portal v.portal sus.portal s.passes sus.passes;
        kept = sus.kept;
      }

  cut_behind : (rest : List ℕ) (left : Option Portal) → IsCutShort v rest left → IsCutShort u (concat (take n (rows_left u.portal)) ++ rest) left
  cut_behind rest left cut =
      let rows = rows_left u.portal in
      let first : List ℕ = concat (take n rows) in
      let next : List ℕ = concat (take cut.sent (drop n rows)) in
      let behind : rest ≡ next ++ cut_error =
      cut.said ∙ ap (λ (l : List (List ℕ)). concat (take cut.sent l) ++ cut_error) s.passes.rows in
      let asked : IfSome (asked_behind u.most n) (λ m. cut.sent ≤ m) =
      subst (λ (o : Option ℕ). IfSome o (λ m. cut.sent ≤ m)) s.behind cut.asked in
      record {
        export = sym s.passes.kind ∙ cut.export;
        sent = n + cut.sent;
        fewer = omega (arith, s.fits, cut.fewer, fewer);
        asked = asked_within u.most n cut.sent s.within asked;
        said = ap (λ (t : List ℕ). first ++ t) behind
            ∙ sym (append_assoc first next cut_error)
            ∙ ap (λ (t : List ℕ). t ++ cut_error) (rows_then_more n cut.sent rows);
        none = cut.none;
      }

  -- some rows, and what may be written behind them
  pub more_answers : (rest : List ℕ) (left : Option Portal) → AnswersUnsent v rest left → AnswersUnsent u (concat (take n (rows_left u.portal)) ++ rest) left
  more_answers rest left (inl all) = inl (all_behind rest left all)
  more_answers rest left (inr (inl sus)) = inr (inl (suspended_behind rest left sus))
  more_answers rest left (inr (inr cut)) = inr (inr (cut_behind rest left cut))

-- what may be written where no fewer are asked for than are left, and where fewer are
all_sent : (u : Unsent) → IfSome u.most (λ m. length (rows_left u.portal) ≤ m) → (text : List ℕ) × IsUnsentText u text
all_sent u asked =
    let all : SendsAll u (concat (rows_left u.portal) ++ portal_closing u.portal) None = record { asked = asked; said = refl; none = refl } in
    (concat (rows_left u.portal) ++ portal_closing u.portal, (None, inl all))

some_sent : (u : Unsent) (m : ℕ) → u.most ≡ Some m → m < length (rows_left u.portal) → (text : List ℕ) × IsUnsentText u text
some_sent u m is lt =
    let passed = passes_any m u.portal (omega arith) in
    let text : List ℕ = concat (take m (rows_left u.portal)) ++ portal_suspended in
    let sus : Suspends u text (Some passed.0) =
    record { most = m; asked = is; more = lt; said = refl; portal = passed.0; passes = passed.1; kept = refl } in
    (text, (Some passed.0, inr (inl sus)))

by_most : (u : Unsent) (most : Option ℕ) → u.most ≡ most → (text : List ℕ) × IsUnsentText u text
by_most u None is = all_sent u (subst (λ (o : Option ℕ). IfSome o (λ m. length (rows_left u.portal) ≤ m)) (sym is) tt)
by_most u (Some m) is =
    elim (cases_lt m (length (rows_left u.portal))) as (λ _. (text : List ℕ) × IsUnsentText u text) [
      | inl lt ↦ some_sent u m is lt
      | inr le ↦ all_sent u (subst (λ (o : Option ℕ). IfSome o (λ k. length (rows_left u.portal) ≤ k)) (sym is) le)
    ]

-- something may always be written
pub some_answer : (u : Unsent) → (text : List ℕ) × IsUnsentText u text
some_answer u = by_most u u.most refl

-- what was written begins one that may be
pub continues_begins : (Gives : List ℕ → Option Portal → Type 0) (progress : Progress) (text : List ℕ) → Continues Gives progress text
    → (more : List ℕ) × ((left : Option Portal) × Gives (text ++ more) left)
continues_begins Gives progresses.Whole text h = ([], (None, subst (λ (t : List ℕ). Gives t None) (sym (append-nil text)) h))
continues_begins Gives (progresses.Suspended portal) text h = ([], (Some portal, subst (λ (t : List ℕ). Gives t (Some portal)) (sym (append-nil text)) h))
continues_begins Gives (progresses.Part unsent) text h =
    let more = some_answer unsent in
    (more.0, (more.1.0, h more.0 more.1.0 more.1.1))

-- the writer failed in it
pub breaks_more : (u : Unsent) (progress : Progress) (text : List ℕ) (before after : Option (List ℕ)) → SendsMore u progress text
    → WritesFront before after text → WritesFrontOf (IsUnsentText u) before after
breaks_more u progress text before after h w =
    let more = continues_begins (AnswersUnsent u) progress text h in
    record { text = text ++ more.0; is = more.1; wrote = front-first before after text more.0 w }

-- ---- pieces one after another

sends_then : (u v : Unsent) (progress : Progress) (text more : List ℕ) → SendsMore u (progresses.Part v) text → SendsMore v progress more
    → SendsMore u progress (text ++ more)
sends_then u v progresses.Whole text more h k = h more None k
sends_then u v (progresses.Suspended portal) text more h k = h more (Some portal) k
sends_then u v (progresses.Part w) text more h k = λ rest left told.
    subst (λ (t : List ℕ). AnswersUnsent u t left) (sym (append_assoc text more rest)) (h (more ++ rest) left (k rest left told))

module _ (u v : Unsent) (before mid after : Option (List ℕ)) where
  pub writes_then : (progress : Progress) → Writes (SendsMore u (progresses.Part v)) before mid → Writes (SendsMore v progress) mid after
      → Writes (SendsMore u progress) before after
  writes_then progress w k = record {
    text = w.text ++ k.text;
    is = sends_then u v progress w.text k.text w.is k.is;
    wrote = Appends-trans before mid after w.text k.text w.wrote k.wrote;
  }

  pub breaks_then : Writes (SendsMore u (progresses.Part v)) before mid → WritesFrontOf (IsUnsentText v) mid after
      → WritesFrontOf (IsUnsentText u) before after
  breaks_then w k = record {
    text = w.text ++ k.text;
    is = (k.is.0, w.is k.text k.is.0 k.is.1);
    wrote = front-second before mid after w.text k.text w.wrote k.wrote;
  }

-- nothing was written yet
pub nothing_yet : (u : Unsent) (taken : Option (List ℕ)) → Writes (SendsMore u (progresses.Part u)) taken taken
nothing_yet u taken = record { text = []; is = λ rest left told. told; wrote = Appends-nil taken }
