-- Whose session of messages it is has come by right.
use Rattle.std.specs.Arc.{arc_value}
use Rattle.std.proofs.Common.{◌≡◌, ℕ, Bool, true, false, List, [], ◌++◌, Option, Some, None, refl, sym, ap, ◌∙◌, subst}
use Rattle.std.specs.Prelude.{IfSome, Result}
use Rattle.std.specs.Io.KnownBytes.{Consumes}
use Rattle.std.proofs.lemmas.Bool.{false≢true}
use Rattle.std.proofs.lemmas.Option.{none-some}
use Rattle.base_core.specs.declared.name.Name.{Name}
use Rattle.base_core.specs.declared.name.User.{User}
use Rattle.login_core.specs.Users.{Users}
use Rattle.login_core.specs.Login.{Beginning}
use Rattle.lines_core.specs.Serving.{Traffic, traffic_of}
use Rattle.messages_core.specs.Client.{spelling}
use Rattle.messages_core.specs.Start.{start_spelling}
use Rattle.messages_core.specs.declared.client.ClientMessage.{ClientMessage}
use Rattle.messages_core.specs.declared.client.ClientMessage.TheVariants as clients
use Rattle.messages_core.specs.declared.start.StartMessage.{StartMessage}
use Rattle.messages_core.specs.declared.start.StartMessage.TheVariants as starts
use Rattle.desk_core.specs.Guarded.{DeskLock, DeskNote, DeskPass}
use Rattle.session_core.specs.declared.admission.Admission.{Admission}
use Rattle.session_core.specs.declared.admission.Admission.TheVariants as admissions
use Rattle.entry_core.specs.Naming.{user_named}
use Rattle.entry_core.specs.Entries.{entry_of}
use Rattle.entry_core.specs.Proved.{HasAsked, HasClaimed, ProvesUser, login_message, startup_message}
use Rattle.entry_core.specs.Right.{HasEnteredAs}
use Rattle.entry_core.specs.declared.entry.Entry.{Entry}
use Rattle.entry_core.specs.declared.entry.Entry.TheVariants as entries
use Rattle.entry_core.proofs.Coming.{login_named, welcome}
use Rattle.entry_core.proofs.Sending.{asked_by, claimed_by, proved_by, proved_on, proved_session}
use Rattle.sending_core.specs.declared.item.Item.{Item}
use Rattle.conversation_core.specs.State.{ConversationState}
use Rattle.wire_core.specs.State.{ClientState, gone, with_lefts}
use Rattle.wire_core.specs.Entering as e
use Rattle.wire_core.specs.Entering.{EntersBy, LogsInBy, WelcomesBy, WhereLogin, behind_entry, behind_start}
use Rattle.wire_core.specs.Running as r
use Rattle.wire_core.specs.Running.{Enters, HasRun, Takes}
use Rattle.wire_core.specs.Coming.{HasStopped, SpeaksMessages}

-- by what right a client that was admitted so, and has sent this, is the user's
abbrev pub HasEntered : Admission → List ℕ → User → Type 0
HasEntered admissions.Anyone sent user = Unit {0}
HasEntered (admissions.Known known) sent user = user ≡ known
HasEntered (admissions.Login file secret own) sent user =
    ProvesUser (arc_value file).users secret own sent user.0

-- the last that was sent begins this login
abbrev pub HasBegun : Admission → List ℕ → Beginning → Type 0
HasBegun admissions.Anyone sent begun = ⊥
HasBegun (admissions.Known known) sent begun = ⊥
HasBegun (admissions.Login file secret own) sent begun =
    HasAsked (arc_value file).users secret own sent begun

-- how far a login is, while nobody is welcome and the session is not over
abbrev pub IsUnderWay : Admission → List ℕ → Bool → Option User → Option Name → Option Beginning → Type 0
IsUnderWay admission sent true user claimed begun = Unit {0}
IsUnderWay admission sent false (Some user) claimed begun = Unit {0}
IsUnderWay admission sent false None None begun = begun ≡ None
IsUnderWay admission sent false None (Some name) None = HasClaimed sent name
IsUnderWay admission sent false None (Some name) (Some begun) = HasBegun admission sent begun

-- what a client has sent fits how far it has come
pub record Fits (admission : Admission) (sent : List ℕ) (client : ClientState) : Type 0 where
  pub user : IfSome client.user (HasEntered admission sent)
  pub login : IsUnderWay admission sent client.talk.over client.user client.claimed client.begun

entered_on : (admission : Admission) (sent more : List ℕ) (user : User) → HasEntered admission sent user
    → HasEntered admission (sent ++ more) user
entered_on admissions.Anyone sent more user h = tt
entered_on (admissions.Known known) sent more user h = h
entered_on (admissions.Login file secret own) sent more user h =
    proved_on (arc_value file).users secret own sent more user.0 h

user_on : (admission : Admission) (sent more : List ℕ) (user : Option User)
    → IfSome user (HasEntered admission sent) → IfSome user (HasEntered admission (sent ++ more))
user_on admission sent more (Some user) h = entered_on admission sent more user h
user_on admission sent more None h = tt

welcome_login : (admission : Admission) (sent : List ℕ) (over : Bool) (user : User) (claimed : Option Name)
    (begun : Option Beginning) → IsUnderWay admission sent over (Some user) claimed begun
welcome_login admission sent true user claimed begun = tt
welcome_login admission sent false user claimed begun = tt

-- whoever is welcome at once has entered
entered_at_once : (admission : Admission) (sent : List ℕ) (name : Option Name) (user : User)
    → entry_of admission name ≡ entries.Welcome user → HasEntered admission sent user
entered_at_once admissions.Anyone sent name user is = tt
entered_at_once (admissions.Known known) sent name user is =
    welcome (admissions.Known known) name (traffic_of None None None None) user is
entered_at_once (admissions.Login file secret own) sent (Some name) user is = absurd cc
entered_at_once (admissions.Login file secret own) sent None user is = absurd cc

-- ---- message by message
module _ (admission : Admission) (sent came : List ℕ) (old : ClientState) (fits : Fits admission sent old) where
  user_stays : IfSome old.user (HasEntered admission (sent ++ came))
  user_stays = user_on admission sent came old.user fits.user

  -- its session is over
  gone_fits : Fits admission (sent ++ came) (gone old)
  gone_fits = record { user = user_stays; login = tt }

  over_fits : old.talk.over ≡ true → Fits admission (sent ++ came) old
  over_fits over = record {
    user = user_stays;
    login = subst (λ b. IsUnderWay admission (sent ++ came) b old.user old.claimed old.begun) (sym over) tt;
  }

  -- where it is not, and nobody is welcome
  module _ (opened : old.talk.over ≡ false) (nobody : old.user ≡ None) where
    under_way : (claimed : Option Name) (begun : Option Beginning) → old.claimed ≡ claimed → old.begun ≡ begun
        → IsUnderWay admission sent false None claimed begun
    under_way claimed begun c b =
        subst (λ (z : Bool × Option User × Option Name × Option Beginning). IsUnderWay admission sent z.0 z.1 z.2 z.3)
        (λ i. (opened i, nobody i, c i, b i)) fits.login

    -- a start
    module _ (unclaimed : old.claimed ≡ None) where
      none_begun : old.begun ≡ None
      none_begun = under_way None old.begun unclaimed refl

      waiting_fits : Fits admission (sent ++ came) old
      waiting_fits = record {
        user = user_stays;
        login = subst (λ (z : Bool × Option User × Option Name). IsUnderWay admission (sent ++ came) z.0 z.1 z.2 old.begun)
            (λ i. (sym opened i, sym nobody i, sym unclaimed i)) none_begun;
      }

      claimed_fits : (name : Name) → HasClaimed (sent ++ came) name
          → Fits admission (sent ++ came) (record old { claimed = Some name })
      claimed_fits name claimed = record {
        user = user_stays;
        login = subst (λ (z : Bool × Option User × Option Beginning). IsUnderWay admission (sent ++ came) z.0 z.1 (Some name) z.2)
            (λ i. (sym opened i, sym nobody i, sym none_begun i)) claimed;
      }

      welcome_fits : (user : User) → HasEntered admission (sent ++ came) user
          → Fits admission (sent ++ came) (record old { user = Some user })
      welcome_fits user entered = record {
        user = entered;
        login = welcome_login admission (sent ++ came) old.talk.over user old.claimed old.begun;
      }

      entry_fits : (parameters : List (List ℕ × List ℕ)) (entry : Entry) → came ≡ startup_message parameters
          → entry_of admission (user_named parameters) ≡ entry
          → Fits admission (sent ++ came) (behind_entry entry old)
      entry_fits parameters (entries.Welcome user) said is =
          welcome_fits user (entered_at_once admission (sent ++ came) (user_named parameters) user is)
      entry_fits parameters (entries.Login name) said is =
          claimed_fits name (subst (λ c. HasClaimed (sent ++ c) name) (sym said)
          (claimed_by sent parameters name (login_named admission (user_named parameters) name is)))
      entry_fits parameters entries.Refused said is = gone_fits

      start_fits : (start : StartMessage) → came ≡ start_spelling start
          → Fits admission (sent ++ came) (behind_start admission start old)
      start_fits starts.SslRequest said = waiting_fits
      start_fits starts.GssEncRequest said = waiting_fits
      start_fits (starts.CancelRequest process secret) said = gone_fits
      start_fits (starts.Startup parameters) said =
          entry_fits parameters (entry_of admission (user_named parameters)) said refl

    -- a message of a login
    module _ (name : Name) (claims : old.claimed ≡ Some name) (file secret own : _)
        (is : admission ≡ admissions.Login file secret own) (body : List ℕ) (said : came ≡ login_message body) where
      has_asked : (begun : Beginning) → HasBegun admission sent begun → HasAsked (arc_value file).users secret own sent begun
      has_asked begun asked = subst (λ a. HasBegun a sent begun) is asked

      challenge_fits : (begun : Beginning) → HasAsked (arc_value file).users secret own (sent ++ login_message body) begun
          → Fits admission (sent ++ came) (record old { begun = Some begun })
      challenge_fits begun asked = record {
        user = user_stays;
        login = subst (λ (z : Bool × Option User × Option Name). IsUnderWay admission (sent ++ came) z.0 z.1 z.2 (Some begun))
            (λ i. (sym opened i, sym nobody i, sym claims i))
            (subst (λ (z : Admission × List ℕ). HasBegun z.0 (sent ++ z.1) begun) (λ i. (sym is i, sym said i)) asked);
      }

      proof_fits : (user : User) → ProvesUser (arc_value file).users secret own (sent ++ login_message body) user.0
          → Fits admission (sent ++ came) (record old { user = Some user })
      proof_fits user proves = record {
        user = subst (λ (z : Admission × List ℕ). HasEntered z.0 (sent ++ z.1) user) (λ i. (sym is i, sym said i)) proves;
        login = welcome_login admission (sent ++ came) old.talk.over user old.claimed old.begun;
      }

      last_fits : (user : User) (answer : List ℕ) (told : List Item) (new : ClientState)
          → ProvesUser (arc_value file).users secret own (sent ++ login_message body) user.0
          → WelcomesBy user answer old told new → Fits admission (sent ++ came) new
      last_fits user answer _ _ proves e.welcomed = proof_fits user proves
      last_fits user answer _ _ proves e.exhausted = gone_fits

      login_fits : (told : List Item) (new : ClientState)
          → LogsInBy (arc_value file).users secret own name body old told new → Fits admission (sent ++ came) new
      login_fits _ _ (e.challenged {begun} none step) =
          challenge_fits begun (asked_by (arc_value file).users secret own sent body name begun
          (under_way (Some name) None claims none) step.0 step.1)
      login_fits _ _ (e.not_begun none step) = gone_fits
      login_fits told new (e.logged_in begun user answer begins step welcomes) =
          last_fits user answer.items told new
          (proved_by (arc_value file).users secret own sent body answer.items begun user.0
          (has_asked begun (under_way (Some name) (Some begun) claims begins)) step.0 step.1) welcomes
      login_fits _ _ (e.refused begun begins step) = gone_fits
      login_fits _ _ e.exhausted = gone_fits

    where_login_fits : (name : Name) (body : List ℕ) (told : List Item) (new : ClientState) (found : Admission)
        → admission ≡ found → old.claimed ≡ Some name → came ≡ login_message body
        → WhereLogin found (λ users secret own. LogsInBy users secret own name body old told new)
        → Fits admission (sent ++ came) new
    where_login_fits name body told new admissions.Anyone is claims said by = absurd by
    where_login_fits name body told new (admissions.Known user) is claims said by = absurd by
    where_login_fits name body told new (admissions.Login file secret own) is claims said by =
        login_fits name claims file secret own is body said told new by

    enters_fits : (name : Name) (message : ClientMessage) (told : List Item) (new : ClientState)
        → old.claimed ≡ Some name → came ≡ spelling message → EntersBy admission name old message told new
        → Fits admission (sent ++ came) new
    enters_fits name _ told new claims said (e.login {body} by) =
        where_login_fits name body told new admission refl claims said by
    enters_fits name _ _ _ claims said e.left = gone_fits
    enters_fits name _ _ _ claims said (e.not_expected never) = gone_fits
    enters_fits name _ _ _ claims said (e.no_login none) = gone_fits

  -- what comes before a welcome, or is no message
  entry_taken_fits : old.talk.over ≡ false → (answer : List Item) (new : ClientState)
      → Enters admission old came answer new → Fits admission (sent ++ came) new
  entry_taken_fits opened _ _ (r.started start nobody unclaimed is short said) = start_fits opened nobody unclaimed start said
  entry_taken_fits opened answer new (r.messaged name message nobody claims within said by) =
      enters_fits opened nobody name message answer new claims said by
  entry_taken_fits opened _ _ (r.faulty none) = gone_fits

  -- any message
  takes_fits : {K : Type 0} (desk : DeskLock K) (before after : DeskPass K) (answer : List Item) (new : ClientState)
      → Takes desk admission old before came answer new after → Fits admission (sent ++ came) new
  takes_fits desk before _ _ _ (r.over over) = over_fits over
  takes_fits desk before _ answer new (r.entered opened enters) = entry_taken_fits opened answer new enters
  takes_fits desk before after _ _ (r.said user message {answer} {talk} opened is within said comes) = record {
    user = user_stays;
    login = subst (λ u. IsUnderWay admission (sent ++ came) talk.over u old.claimed old.begun) (sym is)
        (welcome_login admission (sent ++ came) talk.over user old.claimed old.begun);
  }
  takes_fits desk before _ _ _ (r.exhausted opened) = gone_fits

-- all that was sent
run_fits : {K : Type 0} (desk : DeskLock K) (admission : Admission) (sent text : List ℕ) (client : ClientState) (pass : DeskPass K)
    → HasRun desk admission sent text client pass → Fits admission sent client
run_fits desk admission _ _ _ _ r.nothing = record { user = tt; login = refl }
run_fits desk admission _ _ _ pass (r.more {sent} {text} {came} said {old} {new} {last} {before} {after} {answer} {lefts} run sees takes owes) =
    let fits = takes_fits admission sent came old (run_fits desk admission sent text old last run) desk before pass answer new takes in
    record { user = fits.user; login = fits.login }

-- over this traffic
entered_as : (admission : Admission) (sent : List ℕ) (traffic : Traffic) (user : User)
    → Consumes traffic.left traffic.left' sent → HasEntered admission sent user → HasEnteredAs admission traffic user
entered_as admissions.Anyone sent traffic user read entered = tt
entered_as (admissions.Known known) sent traffic user read entered = entered
entered_as (admissions.Login file secret own) sent traffic user read entered =
    proved_session (arc_value file).users secret own sent traffic user entered read

pub SpeaksMessages-rightful : {K : Type 0} (desk : DeskLock K) (admission : Admission) (user : User)
    (note : Option (DeskNote K)) (traffic : Traffic)
    → SpeaksMessages desk admission (Some user) note traffic
    → HasEnteredAs admission traffic user
SpeaksMessages-rightful desk admission user noted traffic s =
    let ended = s.ended in
    let fits = run_fits desk admission ended.sent ended.text (with_lefts ended.lefts s.wire.client) ended.last ended.run in
    let entered = subst (λ u. IfSome u (HasEntered admission ended.sent)) s.user_is fits.user in
    entered_as admission (ended.sent ++ s.wire.kept) traffic user ended.read
    (entered_on admission ended.sent s.wire.kept user entered)
