-- What a script enters was read from its lines.
use Rattle.std.proofs.Common.{◌≡◌, ℕ, ◌+◌, Bool, true, false, List, [], ◌∷◌, Some, None, Result, Ok, Err, take, length, map, refl, sym, ap, subst, ◌∙◌}
use Rattle.std.specs.Prelude.{if◌then◌else◌, not, nat_lt, ◌==◌, slice_index}
use Rattle.std.specs.List.{AllByRecursion, list_all, prefix_len}
use Rattle.std.specs.Char.{is_ascii_alphabetic}
use Rattle.base_core.specs.Words.{is_name, is_word_byte, name_of, folded, IsName}
use Rattle.base_core.specs.declared.limits.Limits.{Limits}
use Rattle.base_core.specs.declared.name.User.{User}
use Rattle.base_core.specs.declared.word.TheConstants.{MAX_NAME}
use Rattle.base_core.proofs.Folded.{IsName-folded}
use Rattle.lexer_core.specs.Lexing.{is_blank}
use Rattle.lexer_core.specs.declared.lexer.TheConstants.{MAX_LINE}
use Rattle.lexer_core.specs.declared.fault.Code.TheVariants as codes
use Rattle.reader_core.specs.declared.statement.Statement.{Statement}
use Rattle.grants_core.proofs.OwnersLemmas.{AllByRecursion-append}
use Rattle.lines_core.specs.Serving.{Ends, Traffic}
use Rattle.lines_core.specs.declared.serving.SessionFault.{SessionFault}
use Rattle.lines_core.proofs.Seen.{ends-seen}
use Rattle.system_core.specs.Entering.{entered}
use Rattle.system_core.specs.World.{World, IsLawfulWorld}
use Rattle.system_core.specs.declared.machine.event.Entry.{Entry}
use Rattle.system_core.specs.declared.machine.event.Event.TheVariants as events
use Rattle.system_core.specs.declared.machine.event.Reply.{Reply}
use Rattle.system_core.specs.declared.machine.event.Reply.TheVariants as replies
use Rattle.system_core.proofs.Entered.{step_enters}
use Rattle.system_core.proofs.Lawful.{step-lawful}
use Rattle.script_core.specs.Addressed.{colon, spoken_by, addressed_by, addressed_up_to, Asks}
use Rattle.script_core.specs.Script.{AnswersLine, faulty, said, unread, Follows, stepped, gave_up}
use Rattle.journal_core.specs.Recorder.{WithKeeper}
use Rattle.journal_core.specs.declared.keeper.Keeper.{Ghosts}
use Rattle.script_core.specs.Keeping.{AnswersKept, over, answered, withheld, is_owing}
use Rattle.journal_core.specs.Text.{WasRead}
use Rattle.load_core.specs.Loading.{without_pass}

-- ---- who speaks in a line has a name
chosen : {A : Type 0} (b : Bool) (x y z : A) → (if b then x else y) ≡ z → (x ≡ z → ⊥) → y ≡ z
chosen true x y z e other = absurd (other e)
chosen false x y z e other = e

taken : {A : Type 0} (b : Bool) (x y z : A) → (if b then x else y) ≡ z → (y ≡ z → ⊥) → x ≡ z
taken true x y z e other = e
taken false x y z e other = absurd (other e)

named_by : (word : List ℕ) (n : ℕ) (user : User) (start : ℕ) → spoken_by (name_of word) n ≡ Ok (user, start) → IsName user.0
named_by word n user start e = go (is_name word) refl e
  where
    go : (b : Bool) → is_name word ≡ b → spoken_by (if b then Some (folded word) else None) n ≡ Ok (user, start) → IsName user.0
    go true h e =
        let who : User = record { 0 = folded word } in
        let same : (who, n + 1) ≡ (user, start) = cc in
        subst IsName (ap (λ (p : User × ℕ). p.0.0) same) (IsName-folded word h)
    go false h e = cc

pub speaker_named : (most : ℕ) (line : List ℕ) (user : User) (start : ℕ) → addressed_up_to most line ≡ Ok (user, start) → IsName user.0
speaker_named most line user start e =
    let n = prefix_len is_word_byte line in
    let short : (if list_all is_blank line then Err (codes.Empty, 0) else addressed_by n line) ≡ Ok (user, start) = chosen (nat_lt most (length line)) (Err (codes.TooLong, most)) _ _ e (λ h. cc) in
    let by : addressed_by n line ≡ Ok (user, start) = chosen (list_all is_blank line) (Err (codes.Empty, 0)) _ _ short (λ h. cc) in
    let letter = chosen (not (is_ascii_alphabetic (slice_index line 0))) (Err (codes.Expected, 0)) _ _ by (λ h. cc) in
    let few = chosen (nat_lt MAX_NAME n) (Err (codes.LongName, 0)) _ _ letter (λ h. cc) in
    named_by (take n line) n user start (taken (slice_index line n == colon) (spoken_by (name_of (take n line)) n) (Err (codes.Expected, 0)) _ few (λ h. cc))

-- ---- entries that lines said
-- the entry was read from a line, through pass 0
abbrev pub WasSaid : Entry → Type 0
WasSaid e = WasRead e × (e.pass ≡ 0)

-- the world is lawful, each of its entries was said, and its limits are these
abbrev pub Said : Limits → World → Type 0
Said limits w = IsLawfulWorld w × AllByRecursion WasSaid w.journal × (w.limits ≡ limits)

module _ (line : List ℕ) (user : User) (asked : Statement) (a : Asks MAX_LINE line user asked) where
  enters_said : (reply : Reply) → AllByRecursion WasSaid (entered (events.Say 0 user asked) reply)
  enters_said (replies.Done at) = ((record { line = _; spelled = a.spelled; name = speaker_named MAX_LINE line user a.start a.speaker }, refl), tt)
  enters_said (replies.Rows at rows) = tt
  enters_said (replies.Listed at entries) = tt
  enters_said (replies.Begun number at) = tt
  enters_said (replies.Export ticket) = tt
  enters_said (replies.Refused at lack) = tt
  enters_said (replies.Denied at lack) = tt
  enters_said (replies.Described at columns) = tt
  enters_said replies.Idle = tt
  enters_said (replies.Stepped number left) = tt
  enters_said (replies.Finished number) = tt
  enters_said (replies.Abandoned number) = tt

line-said : (limits : Limits) (old new : World) (line text : List ℕ) → Said limits old → AnswersLine old line text new → Said limits new
line-said limits old _ line _ s (faulty h) = s
line-said limits old new line text s (said user asked reply a step tells) =
    let m = step_enters old new (events.Say 0 user asked) reply step in (
      step-lawful old new (events.Say 0 user asked) reply s.0 step,
      subst (AllByRecursion WasSaid) (sym m.journal) (AllByRecursion-append WasSaid old.journal (entered (events.Say 0 user asked) reply) s.1 (enters_said line user asked a reply)),
      m.limits ∙ s.2,
    )
line-said limits old _ line _ s (unread a) = s

follows-said : (limits : Limits) (old new : World) (text : List ℕ) → Said limits old → Follows old text new → Said limits new
follows-said limits old new _ s (stepped reply step h) =
    let m = step_enters old new events.Step reply step in
    (step-lawful old new events.Step reply s.0 step, subst (AllByRecursion WasSaid) (sym m.journal) (AllByRecursion-append WasSaid old.journal [] s.1 tt), m.limits ∙ s.2)
follows-said limits old new text s (gave_up mid refusal reply step r abandon tells) =
    let m = step_enters old mid events.Step refusal step in
    let n = step_enters mid new events.Abandon reply abandon in
    let between : AllByRecursion WasSaid mid.journal = subst (AllByRecursion WasSaid) (sym m.journal) (AllByRecursion-append WasSaid old.journal [] s.1 tt) in (
      step-lawful mid new events.Abandon reply (step-lawful old mid events.Step refusal s.0 step) abandon,
      subst (AllByRecursion WasSaid) (sym n.journal) (AllByRecursion-append WasSaid mid.journal [] between tt),
      n.limits ∙ m.limits ∙ s.2,
    )

module _ {K : Type 0} (rules : Ghosts K) where
  kept-said : (limits : Limits) (old new : WithKeeper K) (line text : List ℕ) → Said limits old.world → AnswersKept rules old line text new → Said limits new.world
  kept-said limits old _ line _ s (over o) = s
  kept-said limits old new line text s (answered o n a kept) = follows-said limits a.mid new.world a.second (line-said limits old.world a.mid line a.first s a.answered) a.followed
  kept-said limits old new line _ s (withheld {text} o n a lost) = line-said limits old.world new.world line text s a

  -- **what is entered by lines that are answered was read from them**
  pub ends-said : (limits : Limits) (ending : Result (Unit {0}) SessionFault) (old new : WithKeeper K) (traffic : Traffic)
      → Said limits old.world → Ends (AnswersKept rules) (is_owing rules) ending old new traffic → Said limits new.world
  ends-said limits ending old new traffic s e =
      (ends-seen (AnswersKept rules) (AnswersKept rules) (λ x. x) (λ (x : WithKeeper K). Said limits x.world)
      (λ x y line text i r. (r, kept-said limits x y line text i r)) (is_owing rules) (is_owing rules) (λ x. refl) ending old new traffic s e).1

-- an entry through pass 0 is what a line says of it
pub no_pass : (journal : List Entry) → AllByRecursion WasSaid journal → map without_pass journal ≡ journal
no_pass [] h = refl
no_pass (e ∷ es) h =
    let bare : without_pass e ≡ e = ap (λ (p : ℕ). record e { pass = p }) (sym h.0.1) in
    ap (λ (x : Entry). x ∷ map without_pass es) bare ∙ ap (λ (xs : List Entry). e ∷ xs) (no_pass es h.1)

pub were_read : (journal : List Entry) → AllByRecursion WasSaid journal → AllByRecursion WasRead journal
were_read [] h = tt
were_read (e ∷ es) h = (h.0.0, were_read es h.1)
