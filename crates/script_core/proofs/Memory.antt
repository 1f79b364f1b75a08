-- An answer is in full, or it tells of memory.
use Rattle.std.proofs.Common.{◌≡◌, ◌⊎◌, ℕ, true, false, List, [], ◌++◌, take, Option, Some, None, refl, sym, ap, ◌∙◌, subst, inl, inr, append_assoc, append-nil}
use Rattle.std.specs.List.{concat}
use Rattle.base_core.specs.declared.value.Moment.{Moment}
use Rattle.base_core.specs.declared.lack.Lack.{Lack}
use Rattle.base_core.specs.declared.lack.Lack.TheVariants as lacks
use Rattle.system_core.specs.declared.machine.event.Reply.{Reply}
use Rattle.system_core.specs.declared.machine.event.Reply.TheVariants as replies
use Rattle.system_core.specs.World.{World, ActiveCheckpoint}
use Rattle.system_core.specs.Step.{Advances, GivesUp}
use Rattle.reply_core.specs.Texts.{reply_text, unread_text, cut_text}
use Rattle.reply_core.specs.Telling.{TellsReply}
use Rattle.lines_core.specs.Lines.{IsWhole}
use Rattle.script_core.proofs.Ended.{AllWhole, both_whole, concat_whole, take_whole, reply_whole, to_come, stepped_whole, full_whole}
use Rattle.script_core.specs.Script.{AnswersLine, Follows, Answers}
use Rattle.system_core.specs.Replies.{is_refused}
use Rattle.script_core.specs.Script as script
use Rattle.script_core.specs.InFull.{tells_want, records_of, AnswersLineInFull, faulty, said, AnswersInFull, IsMemoryLine, refused, unread, cut, given_up, TellsOfMemory}

-- the text is such a line alone
alone : (text line : List ℕ) → IsMemoryLine line → text ≡ line → TellsOfMemory text
alone text line is e = record { front = []; line = line; behind = []; text_is = e ∙ sym (append-nil line); begins = inl refl; tells = is }

-- more stands behind the text
pub followed_by : (first second : List ℕ) → TellsOfMemory first → TellsOfMemory (first ++ second)
followed_by first second t = record {
  front = t.front;
  line = t.line;
  behind = t.behind ++ second;
  text_is = ap (λ z. z ++ second) t.text_is ∙ (append_assoc t.front (t.line ++ t.behind) second ∙ ap (λ z. t.front ++ z) (append_assoc t.line t.behind second));
  begins = t.begins;
  tells = t.tells;
}

-- whole lines stand before the text
pub behind_it : (first second : List ℕ) → IsWhole first → TellsOfMemory second → TellsOfMemory (first ++ second)
behind_it first second whole t = record {
  front = first ++ t.front;
  line = t.line;
  behind = t.behind;
  text_is = ap (λ z. first ++ z) t.text_is ∙ sym (append_assoc first t.front (t.line ++ t.behind));
  begins = both_whole first t.front whole t.begins;
  tells = t.tells;
}

-- what is told of a reply is all of it, or tells of memory
abbrev Told : Reply → List ℕ → Type 0
Told reply text = ((tells_want reply ≡ false) × (text ≡ reply_text reply ++ records_of reply)) ⊎ TellsOfMemory text

refused_told : (at : Moment) (text records : List ℕ) → records ≡ [] → text ≡ reply_text (replies.Refused at lacks.NoMemory) ++ records → TellsOfMemory text
refused_told at text records none e =
    let line = reply_text (replies.Refused at lacks.NoMemory) in
    alone text line (refused at) (e ∙ (ap (λ z. line ++ z) none ∙ append-nil line))

cut_told : (reply : Reply) (text records given : List ℕ) → IsWhole given → records ≡ given ++ cut_text → text ≡ reply_text reply ++ records → TellsOfMemory text
cut_told reply text records given whole c e =
    let tail : TellsOfMemory (given ++ cut_text) = behind_it given cut_text whole (alone cut_text cut_text cut refl) in
    subst (λ z. TellsOfMemory z) (sym (e ∙ ap (λ z. reply_text reply ++ z) c)) (behind_it (reply_text reply) (given ++ cut_text) (reply_whole reply) tail)

-- what is told of a refusal
refusal_told : (at : Moment) (lack : Lack) (text records : List ℕ) → records ≡ [] → text ≡ reply_text (replies.Refused at lack) ++ records → Told (replies.Refused at lack) text
refusal_told at lacks.NoMemory text records none e = inr (refused_told at text records none e)
refusal_told at lack text records none e = inl (refl, e ∙ ap (λ z. reply_text (replies.Refused at lack) ++ z) none)

reply_told : (reply : Reply) (text : List ℕ) → AllWhole (to_come reply) → TellsReply reply text → Told reply text
reply_told (replies.Export ticket) text ended (records, inl all, e) = inl (refl, e ∙ ap (λ z. reply_text (replies.Export ticket) ++ z) all)
reply_told (replies.Export ticket) text ended (records, inr (n, below, c), e) = inr (cut_told (replies.Export ticket) text records (concat (take n ticket.to_come)) (concat_whole (take n ticket.to_come) (take_whole n ticket.to_come ended)) c e)
reply_told (replies.Refused at lack) text ended (records, none, e) = refusal_told at lack text records none e
reply_told (replies.Done at) text ended (records, none, e) = inl (refl, e ∙ ap (λ z. reply_text (replies.Done at) ++ z) none)
reply_told (replies.Rows at rows) text ended (records, none, e) = inl (refl, e ∙ ap (λ z. reply_text (replies.Rows at rows) ++ z) none)
reply_told (replies.Listed at entries) text ended (records, none, e) = inl (refl, e ∙ ap (λ z. reply_text (replies.Listed at entries) ++ z) none)
reply_told (replies.Begun number at) text ended (records, none, e) = inl (refl, e ∙ ap (λ z. reply_text (replies.Begun number at) ++ z) none)
reply_told (replies.Denied at lack) text ended (records, none, e) = inl (refl, e ∙ ap (λ z. reply_text (replies.Denied at lack) ++ z) none)
reply_told (replies.Described at columns) text ended (records, none, e) = inl (refl, e ∙ ap (λ z. reply_text (replies.Described at columns) ++ z) none)
reply_told replies.Idle text ended (records, none, e) = inl (refl, e ∙ ap (λ z. reply_text replies.Idle ++ z) none)
reply_told (replies.Stepped number left) text ended (records, none, e) = inl (refl, e ∙ ap (λ z. reply_text (replies.Stepped number left) ++ z) none)
reply_told (replies.Finished number) text ended (records, none, e) = inl (refl, e ∙ ap (λ z. reply_text (replies.Finished number) ++ z) none)
reply_told (replies.Abandoned number) text ended (records, none, e) = inl (refl, e ∙ ap (λ z. reply_text (replies.Abandoned number) ++ z) none)

line_told : (old new : World) (line text : List ℕ) → AnswersLine old line text new → AnswersLineInFull old line text new ⊎ TellsOfMemory text
line_told old _ line _ (script.faulty {code} {offset} f) = inl (faulty code offset f refl refl)
line_told old new line text (script.said user asked reply a step tells) =
    elim (reply_told reply text (stepped_whole old new user asked reply step) tells) [ inl h ↦ inl (said user asked reply a step h.0 h.1) | inr t ↦ inr t ]
line_told old _ line _ (script.unread a) = inr (alone unread_text unread_text unread refl)

-- what is told where the checkpoint is given up
idle_refuses : (reply : Reply) → reply ≡ replies.Idle → is_refused reply ≡ true → {A : Type 0} → A
idle_refuses reply e r {A} = let i = ap is_refused e in absurd (let no : false ≡ true = sym i ∙ r in cc)

abandoned_told : (reply : Reply) (number : ℕ) (text : List ℕ) → reply ≡ replies.Abandoned number → TellsReply reply text → TellsOfMemory text
abandoned_told reply number text e tells =
    let line = reply_text (replies.Abandoned number) in
    let h = subst (λ r. TellsReply r text) e tells in
    alone text line (given_up number) (h.2 ∙ (ap (λ z. line ++ z) h.1 ∙ append-nil line))

gave_up_told : (old mid new : World) (active : Option ActiveCheckpoint) (refusal reply : Reply) (text : List ℕ)
    → Advances old active refusal mid → is_refused refusal ≡ true → GivesUp mid active reply new → TellsReply reply text → TellsOfMemory text
gave_up_told old mid new None refusal reply text a r g tells = idle_refuses refusal a.0 r
gave_up_told old mid new (Some active) refusal reply text a r g tells = abandoned_told reply active.number text g.0 tells

-- a refused step leaves the world
refused_stays : (old mid : World) (active : Option ActiveCheckpoint) (refusal : Reply) → Advances old active refusal mid → is_refused refusal ≡ true → mid ≡ old
refused_stays old mid None refusal a r = a.1
refused_stays old mid (Some active) (replies.Refused at lack) a r = a.2
refused_stays old mid (Some active) (replies.Stepped number left) a r = cc
refused_stays old mid (Some active) (replies.Finished number) a r = cc
refused_stays old mid (Some active) (replies.Done at) a r = absurd a
refused_stays old mid (Some active) (replies.Rows at rows) a r = absurd a
refused_stays old mid (Some active) (replies.Listed at entries) a r = absurd a
refused_stays old mid (Some active) (replies.Begun number at) a r = absurd a
refused_stays old mid (Some active) (replies.Export ticket) a r = absurd a
refused_stays old mid (Some active) (replies.Denied at lack) a r = absurd a
refused_stays old mid (Some active) (replies.Described at columns) a r = absurd a
refused_stays old mid (Some active) replies.Idle a r = absurd a
refused_stays old mid (Some active) (replies.Abandoned number) a r = absurd a

with_step : (old mid new : World) (line text first second : List ℕ) → AnswersLineInFull old line first mid → Follows mid second new → text ≡ first ++ second
    → AnswersInFull old line text new ⊎ TellsOfMemory text
with_step old mid new line text first _ full (script.stepped reply step silent) e =
    inl (record {
      mid = mid;
      reply = reply;
      answered = subst (λ z. AnswersLineInFull old line z mid) (sym (e ∙ append-nil first)) full;
      stepped = step;
      silent = silent;
    })
with_step old mid new line text first second full (script.gave_up between refusal reply step r abandon tells) e =
    let same = refused_stays mid between mid.active refusal step r in
    let given = subst (λ w. GivesUp between w.active reply new) same abandon in
    inr (subst (λ z. TellsOfMemory z) (sym e) (behind_it first second (full_whole old mid line first full) (gave_up_told mid between new mid.active refusal reply second step r given tells)))

-- **an answer is in full, or it tells of memory**
pub full_or_memory : (old new : World) (line text : List ℕ) → Answers old line text new → AnswersInFull old line text new ⊎ TellsOfMemory text
full_or_memory old new line text a = elim (line_told old a.mid line a.first a.answered) [
  | inl full ↦ with_step old a.mid new line text a.first a.second full a.followed a.text_is
  | inr t ↦ inr (subst (λ z. TellsOfMemory z) (sym a.text_is) (followed_by a.first a.second t))
]
