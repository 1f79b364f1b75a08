-- What the lines of a session say, what may be written for them, and how a session ends.
use Rattle.std.specs.Prelude.{◌≡◌, ℕ, ◌+◌, ◌-◌, ◌^◌, ◌≤◌, ◌⊎◌, min, Bool, true, false, List, [], ◌++◌, length, Option, Some, None, Result, Ok, Err}
use Rattle.base_core.specs.declared.name.User.{User}
use Rattle.lexer_core.specs.declared.fault.Code.{Code}
use Rattle.lexer_core.specs.declared.lexer.TheConstants.{MAX_LINE}
use Rattle.reader_core.specs.Language.{Spells, IsReadFault}
use Rattle.reader_core.specs.declared.statement.Statement.{Statement}
use Rattle.monitor_core.specs.Verdict.{is_change}
use Rattle.lines_core.specs.Serving.{Ends, Traffic}
use Rattle.lines_core.specs.declared.serving.SessionFault.{SessionFault}
use Rattle.system_core.specs.Replies.{told_moment}
use Rattle.turnstile.specs.Passes.{IsSamePass}
use Rattle.system_core.specs.declared.machine.event.Reply.{Reply}
use Rattle.reply_core.specs.Texts.{fault_text, unread_text}
use Rattle.reply_core.specs.Pending.{TellsPending}
use Rattle.reply_core.specs.Telling.{TellsReply}
use Rattle.reply_core.specs.declared.pending.Pending.{Pending}
use Rattle.base_core.specs.declared.value.Moment.{Moment}
use Rattle.desk_core.specs.declared.object.Ask.TheVariants as asks
use Rattle.desk_core.specs.Guarded.{DeskLock, DeskPass}
use Rattle.desk_core.specs.Turns.{Answered, Took}
use Rattle.session_core.specs.declared.session_end.SessionEnd.{SessionEnd}
use Rattle.session_core.specs.declared.summary.Summary.{Summary}
use Rattle.session_core.specs.declared.session_end.SessionEnd.TheVariants as session_ends
use Rattle.lines_core.specs.declared.serving.SessionFault.TheVariants as session_faults
use Rattle.session_core.specs.declared.admission.Admission.{Admission}
use Rattle.session_core.specs.declared.reception.Reception.{Reception}
use Rattle.session_core.specs.declared.reception.Reception.TheVariants as receptions
use Rattle.session_core.specs.declared.answering.Session.{Session}
use Rattle.login_core.specs.Login.{Beginning}
use Rattle.session_core.specs.Admission.{Receives, reception_text}
use Rattle.session_core.specs.Gains.{Gains}

-- A line of a user at a desk: this text, which bears this moment, may be written for it, and the pass
-- knows this afterwards. The last is out of memory, where the line is not too long, so that it had to
-- be read.
pub data AnswersUser {K : Type 0} (desk : DeskLock K) (user : User) (line : List ℕ)
    (old : DeskPass K) : List ℕ → Option Moment → DeskPass K → Type 0 where
  faulty : {code : Code} {offset : ℕ}
      → IsReadFault line code offset
      → AnswersUser desk user line old (fault_text code offset) None old
  said : {text : List ℕ} {new : DeskPass K} (asked : Statement) (reply : Reply)
      → Spells line asked
      → IsSamePass old new
      → Answered desk (asks.Say (record { user = user; statement = asked })) reply old new
      → TellsReply reply text
      → AnswersUser desk user line old text (told_moment reply) new
  unread : length line ≤ MAX_LINE → AnswersUser desk user line old unread_text None old

-- the last moment that was told, behind a reply that bears this one, if it bears one
abbrev pub last_moment : Option Moment → Option Moment → Option Moment
last_moment (Some at) before = Some at
last_moment None before = before

-- the same, where this was the last moment that was told before, and this is the last one then
abbrev pub AnswersNoted : {K : Type 0} → DeskLock K → User → List ℕ → DeskPass K → Option Moment
    → DeskPass K → Option Moment → List ℕ → Type 0
AnswersNoted desk user line old before new after text =
    (at : Option Moment) × AnswersUser desk user line old text at new × (after ≡ last_moment at before)

-- The same of an answer that was begun, with whatever may still be written of what is pending of it.
abbrev pub BeginsNoted : {K : Type 0} → DeskLock K → User → List ℕ → DeskPass K → Option Moment
    → DeskPass K → Option Moment → Option Pending → List ℕ → Type 0
BeginsNoted desk user line old before new after pending text =
    (rest : List ℕ) → TellsPending pending rest
    → AnswersNoted desk user line old before new after (text ++ rest)

-- A line of a user at a desk whose reply is withheld: the change that it says was asked in a turn.
-- Nothing is written for it.
pub record Withholds {K : Type 0} (desk : DeskLock K) (user : User) (line : List ℕ)
    (old new : DeskPass K)
    : Type 0 where
  pub asked : Statement
  pub reply : Reply
  pub spelled : Spells line asked
  pub change : is_change asked ≡ true
  pub same : IsSamePass old new
  pub took : Took desk (asks.Say (record { user = user; statement = asked })) reply old new

-- How far a session has come: how it comes by its user; the login that was begun, if one was; the user,
-- once he is welcome; whether it is over; whether a reply was withheld; how many lines came behind his
-- welcome; the moment of the last of their replies that bore one; and what its pass knows.
pub record SessionState (K : Type 0) : Type 0 where
  pub admission : Admission
  pub begun : Option Beginning
  pub user : Option User
  pub over : Bool
  pub unkept : Bool
  pub answered : ℕ
  pub moment : Option Moment
  pub pass : DeskPass K

-- a session of which no line was answered yet
abbrev pub opened : {K : Type 0} → Admission → DeskPass K → SessionState K
opened admission pass =
    record {
      admission = admission;
      begun = None;
      user = None;
      over = false;
      unkept = false;
      answered = 0;
      moment = None;
      pass = pass;
    }

-- how far the session of this server of lines has come
abbrev pub progress_of : {K R G : Type 0} → Session K R G → SessionState K
progress_of server =
    record {
      admission = server.admission.now;
      begun = server.begun.now;
      user = server.user;
      over = server.over;
      unkept = server.unkept;
      answered = server.answered;
      moment = server.moment;
      pass = server.pass.now;
    }

-- the server of lines has what it was lent, the same desk, and holds replies as before
pub record KeepsLent {K R G : Type 0} (old new : Session K R G) : Type 0 where
  pub pass : new.pass.ghost_name ≡ old.pass.ghost_name
  pub begun : new.begun.ghost_name ≡ old.begun.ghost_name
  pub tokens : new.tokens.ghost_name ≡ old.tokens.ghost_name
  pub buffer : new.buffer.ghost_name ≡ old.buffer.ghost_name
  pub owed : new.owed.ghost_name ≡ old.owed.ghost_name
  pub desk : new.desk ≡ old.desk
  pub holds : new.holds ≡ old.holds

-- how far a session has come behind a line that nobody was welcome before
abbrev pub behind_reception : {K : Type 0} → Reception → SessionState K → SessionState K
behind_reception (receptions.Welcomed user answer) old = record old { user = Some user }
behind_reception (receptions.Challenged begun) old = record old { begun = Some begun }
behind_reception _ old = record old { over = true }

-- one more, as far as 64 bits count
abbrev pub one_more : ℕ → ℕ
one_more n = min (n + 1) (2 ^ 64 - 1)

-- A line of a session: until a user is welcome it is received, and may end the session; each later one
-- is his, and ends the session if its reply is withheld. Once it is over nothing is written.
pub data AnswersSession {K : Type 0} (desk : DeskLock K) (old : SessionState K) (line : List ℕ)
    : List ℕ → SessionState K → Type 0 where
  ended : old.over ≡ true → AnswersSession desk old line [] old
  received : (reception : Reception) → old.over ≡ false → old.user ≡ None
      → Receives old.admission old.begun line reception
      → AnswersSession desk old line (reception_text reception) (behind_reception reception old)
  served : {text : List ℕ} {at : Option Moment} {pass : DeskPass K} (user : User)
      → old.over ≡ false
      → old.user ≡ Some user
      → AnswersUser desk user line old.pass text at pass
      → AnswersSession desk old line text
      (record old {
        pass = pass;
        answered = one_more old.answered;
        moment = last_moment at old.moment;
      })
  withheld : {pass : DeskPass K} (user : User) → old.over ≡ false
      → old.user ≡ Some user
      → Withholds desk user line old.pass pass
      → AnswersSession desk old line []
      (record old { pass = pass; answered = one_more old.answered; over = true; unkept = true })

-- The answer to a line was begun: with whatever may still be written of what is owed of it, it is one.
abbrev pub BeginsSession : {K : Type 0} → DeskLock K → SessionState K → List ℕ → List ℕ
    → Option Pending → SessionState K → Type 0
BeginsSession desk old line text owed new =
    (rest : List ℕ) → TellsPending owed rest → AnswersSession desk old line (text ++ rest) new

-- What a server of lines writes for a line, where nothing is owed of the one before. One that holds no
-- replies owes nothing afterwards.
pub record SessionAnswers {K R G : Type 0} (old : Session K R G) (line text : List ℕ) (new : Session K R G)
    : Type 0 where
  pub begins : old.owed.now ≡ None
      → BeginsSession old.desk.now (progress_of old) line text new.owed.now (progress_of new)
  pub lent : KeepsLent old new
  pub whole : old.holds ≡ false → new.owed.now ≡ old.owed.now

abbrev pub is_over : {K : Type 0} → SessionState K → Bool
is_over progress = progress.over

-- what the session's pass gained: entries of its user, and nothing before he was welcome
abbrev pub GainsOf : {K : Type 0} → Option User → DeskPass K → DeskPass K → Type 0
GainsOf (Some user) old new = Gains user old new
GainsOf None old new = new ≡ old

-- how a session ends: its lines were answered one after another up to here
pub record EndsAt {K : Type 0} (desk : DeskLock K) (admission : Admission)
    (ending : Result (Unit {0}) SessionFault) (last : SessionState K)
    (old new : DeskPass K) (traffic : Traffic) : Type 0 where
  pub ends : Ends (AnswersSession desk) is_over ending (opened admission old) last traffic
  pub pass_is : last.pass ≡ new
  pub gained : GainsOf last.user old new

-- how a session ended of which a reply was withheld or not, and whose lines were answered so
abbrev pub end_of : Bool → Result (Unit {0}) SessionFault → Result (Unit {0}) SessionEnd
end_of true ending = Err session_ends.Journal
end_of false (Ok x) = Ok tt
end_of false (Err fault) = Err (session_ends.Session fault)

-- The end is that of the journal exactly where a reply was withheld; then the session was over, or the
-- writer failed besides.
abbrev pub EndsBy : {K : Type 0} → DeskLock K → Admission → Result (Unit {0}) SessionEnd
    → SessionState K → DeskPass K → DeskPass K → Traffic → Type 0
EndsBy desk admission (Ok x) last old new traffic =
    (last.unkept ≡ false) × EndsAt desk admission (Ok tt) last old new traffic
EndsBy desk admission (Err (session_ends.Session fault)) last old new traffic =
    (last.unkept ≡ false) × EndsAt desk admission (Err fault) last old new traffic
EndsBy desk admission (Err session_ends.Journal) last old new traffic =
    (last.unkept ≡ true)
    × (EndsAt desk admission (Ok tt) last old new traffic
    ⊎ EndsAt desk admission (Err session_faults.Write) last old new traffic)

-- How a session ends, and what is told of it: its user, how many lines came after the first, and the
-- moment of the last reply that bore one, as they are where its lines were answered up to.
pub record EndsSession {K : Type 0} (desk : DeskLock K) (admission : Admission) (summary : Summary)
    (old new : DeskPass K) (traffic : Traffic) : Type 0 where
  pub last : SessionState K
  pub user_is : summary.user ≡ last.user
  pub lines_are : summary.lines ≡ last.answered
  pub moment_is : summary.moment ≡ last.moment
  pub ends : EndsBy desk admission summary.ended last old new traffic
