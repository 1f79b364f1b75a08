-- A line is asked while its portal stands aside.
use Rattle.std.proofs.Common.{◌≡◌, ℕ, Bool, true, false, List, Option, Some, None, refl, sym, ap, subst, ◌∙◌}
use Rattle.base_core.specs.declared.name.User.{User}
use Rattle.messages_core.specs.declared.rows.Format.{Format}
use Rattle.utility_core.specs.declared.command.Command.{Command}
use Rattle.utility_core.specs.declared.command.Command.TheVariants as commands
use Rattle.parameters_core.specs.Statements.{is_empty_statement}
use Rattle.desk_core.specs.Guarded.{DeskLock, DeskPass}
use Rattle.sending_core.specs.declared.item.Item.{Item}
use Rattle.sending_core.specs.declared.plain.Plain.TheVariants as plains
use Rattle.asking_core.specs.Asking.{AsksLine}
use Rattle.asking_core.specs.declared.manner.Manner.{Manner}
use Rattle.asking_core.specs.declared.asking.Asked.{Asked}
use Rattle.conversation_core.specs.Extending.{AsksPortal, behind_execute, execute_manner, execute_telling, executed, most_rows}
use Rattle.conversation_core.specs.Extending.AsksPortal.{silent as says_nothing, asked as is_asked}
use Rattle.conversation_core.specs.Portals.{with_portal}
use Rattle.conversation_core.specs.State.{ConversationState}
use Rattle.conversation_core.specs.Telling.{AnswersAsked, Drops, Obeys, behind_command, command_items, plain}
use Rattle.conversation_core.specs.Telling.Drops.{dropped, not_prepared}
use Rattle.conversation_core.specs.Telling.Obeys.{done, rolled_back, unknown, unserved, deallocated, underscored, unnamed, unread}
use Rattle.conversation_core.specs.Telling.AnswersAsked.{commanded, faulty, unread as not_read, barred, told, withheld}
use Rattle.conversation_core.specs.declared.portals.Bound.{Bound}
use Rattle.conversation_core.specs.declared.telling.Telling.{Telling}
use Rattle.conversation_core.proofs.SetPlaces.{set_again}

module _ (place : ℕ) (portal : Option Bound) where
  -- no command looks at portals
  behind_aside : (command : Command) (old : ConversationState) → behind_command command (with_portal place portal old) ≡ with_portal place portal (behind_command command old)
  behind_aside commands.Begin old = refl
  behind_aside commands.Commit old = refl
  behind_aside commands.Rollback old = refl
  behind_aside commands.Set old = refl
  behind_aside commands.UnknownSetting old = refl
  behind_aside (commands.Show setting) old = refl
  behind_aside (commands.Deallocate token) old = refl
  behind_aside commands.DeallocateUnderscored old = refl
  behind_aside commands.DeallocateAll old = refl
  behind_aside commands.DiscardAll old = refl
  behind_aside commands.ResetAll old = refl
  behind_aside commands.CloseAll old = refl
  behind_aside commands.UnlistenAll old = refl
  behind_aside commands.UnlockAll old = refl
  behind_aside commands.Version old = refl
  behind_aside commands.CurrentSchema old = refl
  behind_aside commands.One old = refl
  behind_aside commands.Unserved old = refl

  module _ (telling : Telling) (line : List ℕ) where
    drops_aside : {command : Command} {name : List ℕ} {answer : List Item} (old : ConversationState) {new : ConversationState} {well : Bool}
        → Drops telling command old name answer new well
        → Drops telling command (with_portal place portal old) name answer (with_portal place portal new) well
    drops_aside old (dropped some) = dropped some
    drops_aside old (not_prepared none) = not_prepared none

    obeys_aside : {command : Command} {answer : List Item} (old : ConversationState) {new : ConversationState} {well : Bool} → Obeys telling line old command answer new well
        → Obeys telling line (with_portal place portal old) command answer (with_portal place portal new) well
    obeys_aside old (done {command} is) =
        subst (λ (s : ConversationState). Obeys telling line (with_portal place portal old) command (command_items telling command) s true) (behind_aside command old) (done is)
    obeys_aside old (rolled_back is) = rolled_back is
    obeys_aside old unknown = unknown
    obeys_aside old unserved = unserved
    obeys_aside old (deallocated word drops) = deallocated word (drops_aside old drops)
    obeys_aside old (underscored is drops) = underscored is (drops_aside old drops)
    obeys_aside old (unnamed none) = unnamed none
    obeys_aside old unread = unread

    -- nor does an answer
    answers_aside : {asked : Asked} {answer : List Item} (old : ConversationState) {new : ConversationState} {well : Bool} → AnswersAsked telling line None old asked answer new well
        → AnswersAsked telling line None (with_portal place portal old) asked answer (with_portal place portal new) well
    answers_aside old (commanded obeys) = commanded (obeys_aside _ obeys)
    answers_aside old faulty = faulty
    answers_aside old not_read = not_read
    answers_aside old barred = barred
    answers_aside old told = told
    answers_aside old withheld = withheld

-- how a portal is told
abbrev told_by : List Format → Option ℕ → ℕ → Telling
told_by all rows place = record { formats = all; is_described = false; most = rows; portal = Some place }

pub telling_is : (all : List Format) (rows : Option ℕ) (portal : Bound) (most place : ℕ) → all ≡ portal.formats → rows ≡ most_rows most
    → told_by all rows place ≡ execute_telling portal most place
telling_is all rows portal most place all_is rows_are =
    ap (λ (fs : List Format). told_by fs rows place) all_is ∙ ap (λ (m : Option ℕ). told_by portal.formats m place) rows_are

module _ {K : Type 0} (desk : DeskLock K) (user : User) (most place : ℕ) (portal : Bound) (before : DeskPass K) where
  -- what comes of asking the line is what comes of asking the portal
  pub asks_aside : (after : DeskPass K) (old mid : ConversationState) (manner : Manner) (line : List ℕ) (telling : Telling) (asked : Asked) (answer : List Item) (well : Bool)
      → manner ≡ execute_manner old.block → line ≡ portal.line → telling ≡ execute_telling portal most place → is_empty_statement line ≡ false
      → AsksLine desk user manner line before asked after → AnswersAsked telling line None old asked answer mid well
      → AsksPortal desk user most place portal old before answer (behind_execute well (with_portal place (Some (executed portal)) mid)) after
  asks_aside after old mid manner line telling asked answer well manner_is line_is telling_is says asks answers =
      let says' = subst (λ (l : List ℕ). is_empty_statement l ≡ false) line_is says in
      let asks' = subst (λ (m : Manner). AsksLine desk user m portal.line before asked after) manner_is
      (subst (λ (l : List ℕ). AsksLine desk user manner l before asked after) line_is asks) in
      let answers' = subst (λ (t : Telling). AnswersAsked t portal.line None old asked answer mid well) telling_is
      (subst (λ (l : List ℕ). AnswersAsked telling l None old asked answer mid well) line_is answers) in
      is_asked says' asks' (answers_aside place (Some (executed portal)) (execute_telling portal most place) portal.line old answers')

  stands_again : (old : ConversationState) → with_portal place (Some (executed portal)) (with_portal place None old) ≡ with_portal place (Some (executed portal)) old
  stands_again old = ap (λ (ps : List (Option Bound)). record old { portals = ps }) (set_again old.portals place None (Some (executed portal)))

  -- and it is the same whether the portal stood there
  pub asks_there : {after : DeskPass K} (old : ConversationState) {answer : List Item} {new : ConversationState}
      → AsksPortal desk user most place portal (with_portal place None old) before answer new after
      → AsksPortal desk user most place portal old before answer new after
  asks_there old (says_nothing none) =
      subst (λ (s : ConversationState). AsksPortal desk user most place portal old before (plain plains.EmptyQuery) s before) (sym (stands_again old)) (says_nothing none)
  asks_there old (is_asked {asked = of} {answer = told_so} {new = behind} {well = well} says asks answers) =
      is_asked says asks
      (subst (λ (s : ConversationState). AnswersAsked (execute_telling portal most place) portal.line None s of told_so behind well) (stands_again old) answers)
