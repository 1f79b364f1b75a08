-- What an entry comes to at a streamer.
use Rattle.std.proofs.Common.{◌≡◌, ◌+◌, ◌<◌, ℕ, Bool, true, Option, Some, None, IfSome, IfNone, Ok, List, [], ◌∷◌, ◌++◌, length, refl, sym, ap, subst, ◌∙◌, length-append, Vec, Global}
use Rattle.std.specs.List.{AllPairs}
use Rattle.base_core.specs.declared.lack.Lack.TheVariants as lacks
use Rattle.base_core.specs.declared.name.Name.{Name}
use Rattle.base_core.specs.declared.name.User.{User}
use Rattle.base_core.specs.declared.value.Moment.{Moment}
use Rattle.reader_core.specs.declared.statement.Statement.{Statement}
use Rattle.reader_core.specs.declared.statement.Statement.TheVariants as statements
use Rattle.lines_core.specs.declared.line.TheConstants.{LONGEST_LINE}
use Rattle.tables_core.specs.Contents.{Table}
use Rattle.links_core.specs.declared.standing.Standing.{Standing}
use Rattle.grants_core.proofs.NumberLemmas.{IsNumbered-in_force}
use Rattle.monitor_core.specs.Verdict.{is_change}
use Rattle.system_core.specs.Journal.{changes, rights_at, tables_after, tables_at, verdict_at}
use Rattle.system_core.specs.World.{World, entry, moment_of, with_entry}
use Rattle.system_core.specs.Step.{CarriesOut}
use Rattle.system_core.specs.declared.machine.event.Entry.{Entry}
use Rattle.system_core.specs.declared.machine.event.Reply.{Reply}
use Rattle.system_core.specs.declared.machine.event.Reply.TheVariants as replies
use Rattle.system_core.proofs.Judged.{change-responds}
use Rattle.system_core.proofs.Keeping.{contents-more}
use Rattle.load_core.specs.declared.fault.Undone.{Undone}
use Rattle.load_core.specs.declared.fault.Undone.TheVariants as reasons
use Rattle.load_core.specs.Loader.{line_at}
use Rattle.load_core.specs.Loading.{IsUndone, IsUndoneEntry, SaysEntry}
use Rattle.stream_core.specs.declared.effect.Effect.{Effect}
use Rattle.stream_core.specs.Effects.{AreEffectsOf}
use Rattle.stream_core.specs.Losses.{is_revoking}
use Rattle.stream_core.specs.Streamer.{EntersTelling, IsCurrent, IsUntold, StreamerState, TellsEntry, TellsLine, TellsLosses, told_world}
use Rattle.stream_core.specs.Streams.{contents_at, stream_text}
use Rattle.stream_core.proofs.Rights.{in_force-left}

-- an allowed change that was refused memory is not done
pub refused_memory : (w new : World) (e : Entry) (at : Moment) (reply : Reply) → is_change e.statement ≡ true → verdict_at w.limits w.journal e.user e.statement ≡ Ok tt
    → at ≡ moment_of w → reply ≡ replies.Refused at lacks.NoMemory → CarriesOut w e (replies.Refused (moment_of w) lacks.NoMemory) new → IsUndoneEntry w e (reasons.Answer reply)
refused_memory w new e at reply change allowed now is carried =
    let said : Reply = replies.Refused (moment_of w) lacks.NoMemory in
    let same : reply ≡ said = is ∙ ap (λ m. replies.Refused m lacks.NoMemory) now in
    let here : CarriesOut w (entry 0 e.user e.statement) said w = (carried.0, refl, refl, refl) in
    subst (λ r. IsUndoneEntry w e (reasons.Answer r)) (sym same)
    (change, change-responds w w (entry 0 e.user e.statement) said allowed change here, refl)

-- a revocation leaves the tables as they are
kept-after : (tables : List (Name × Table)) (user : User) (s : Statement) → is_revoking s ≡ true → tables_after tables user s ≡ tables
kept-after tables user (statements.Revoke privileges table users) takes = refl
kept-after tables user (statements.RevokeOption privileges table users) takes = refl
kept-after tables user (statements.CreateTable table columns) takes = cc
kept-after tables user (statements.Insert table values) takes = cc
kept-after tables user (statements.Delete table filter) takes = cc
kept-after tables user (statements.Update table sets filter) takes = cc
kept-after tables user (statements.Grant privileges table users option) takes = cc
kept-after tables user (statements.Select list table filter) takes = cc
kept-after tables user statements.Checkpoint takes = cc
kept-after tables user statements.Checkpoints takes = cc
kept-after tables user (statements.Export number only) takes = cc

tables-kept : (journal : List Entry) (e : Entry) → is_revoking e.statement ≡ true → tables_at (journal ++ e ∷ []) ≡ tables_at journal
tables-kept journal e takes = contents-more journal e ∙ kept-after (tables_at journal) e.user e.statement takes

-- the records of the effects of one moment
abbrev told_of : ℕ → List Effect → ℕ → List ℕ
told_of from all moment = stream_text from (record { moment = moment; all = all } ∷ [])

-- the numbers of the grants in force rise
pub in_force-rises : (journal : List Entry) → AllPairs (λ earlier later. earlier.number < later.number) (rights_at journal).in_force
in_force-rises journal = (IsNumbered-in_force (changes journal)).rising

-- ---- a streamer that has not stopped, by its fields
module _ (untold : Bool) (standings : List Standing) (w : World) (stop : Option Undone) (from : ℕ) (old : StreamerState) where
  -- what is seen of these fields, once the rest has become this
  abbrev pub seen : Bool → World → Option Undone → StreamerState
  seen u k o = record { world = told_world u k; stop = o; from = from }

  abbrev standing : World → Option Undone → StreamerState
  standing k o = record { world = k; stop = o; from = from }

  module _ (view_is : seen untold w stop ≡ old) (going : old.stop ≡ None) (invariant : stop ≡ None → IsCurrent untold standings w) where
    no_stop : stop ≡ None
    no_stop = ap (λ (s : StreamerState). s.stop) view_is ∙ going

    pub current : IsCurrent untold standings w
    current = invariant no_stop

    shown : (k : World) (o : Option Undone) → seen untold k o ≡ standing k o
    shown k o = ap (λ b. seen b k o) current.told

    here_is : standing w None ≡ old
    here_is = ap (λ o. standing w o) (sym no_stop) ∙ sym (shown w stop) ∙ view_is

    pub allowed-here : (e : Entry) → verdict_at old.world.limits old.world.journal e.user e.statement ≡ Ok tt → verdict_at w.limits w.journal e.user e.statement ≡ Ok tt
    allowed-here e = subst (λ (s : StreamerState). verdict_at s.world.limits s.world.journal e.user e.statement ≡ Ok tt) (sym here_is)

    -- it was entered, and the text tells it
    pub entered : (e : Entry) (text : Vec ℕ Global) (new : World) → is_change e.statement ≡ true → verdict_at w.limits w.journal e.user e.statement ≡ Ok tt
        → new ≡ with_entry w e → TellsEntry from w.journal e text.items → EntersTelling old e (Some text) (seen untold new stop)
    entered e text new change allowed is tells =
        let same : seen untold new stop ≡ standing (with_entry w e) None = shown new stop ∙ ap (λ o. standing new o) no_stop ∙ ap (λ k. standing k None) is in
        subst (λ (s : StreamerState). EntersTelling s e (Some text) (seen untold new stop)) here_is (change, allowed, same, tells)

    -- it was not, or is not told: the world that counts is as it was
    pub stopped : (e : Entry) (why : Undone) (u : Bool) (new : World) (o : Option Undone) → IsUntold w e why → told_world u new ≡ w → o ≡ Some why → EntersTelling old e None (seen u new o)
    stopped e why u new o untold_so is stops =
        let same : seen u new o ≡ standing w (Some why) = ap (λ k. standing k o) is ∙ ap (λ p. standing w p) stops in
        subst (λ (s : StreamerState). EntersTelling s e None (seen u new o)) here_is (why, untold_so, same)

    -- nothing became of the world
    pub stopped-here : (e : Entry) (why : Undone) (new : World) (o : Option Undone) → IsUntold w e why → new ≡ w → o ≡ Some why → EntersTelling old e None (seen untold new o)
    stopped-here e why new o untold_so is stops = stopped e why untold new o untold_so (ap (λ (s : StreamerState). s.world) (shown new None) ∙ is) stops

    -- it was allowed, and refused memory
    pub refused-here : (e : Entry) (new : World) (at : Moment) (reply : Reply) (o : Option Undone) → is_change e.statement ≡ true → verdict_at w.limits w.journal e.user e.statement ≡ Ok tt
        → at ≡ moment_of w → reply ≡ replies.Refused at lacks.NoMemory → CarriesOut w e (replies.Refused (moment_of w) lacks.NoMemory) new → o ≡ Some (reasons.Answer reply)
        → EntersTelling old e None (seen untold new o)
    refused-here e new at reply o change allowed now is carried stops =
        stopped-here e (reasons.Answer reply) new o (refused_memory w new e at reply change allowed now is carried) carried.3 stops

    -- what a revocation took is what it did
    pub tells-losses : (e : Entry) (new : World) (before : List Standing) (text : List ℕ) → before ≡ standings → is_revoking e.statement ≡ true → new ≡ with_entry w e → TellsLosses from new.journal before text → TellsEntry from w.journal e text
    tells-losses e new before text same takes is told =
        let later : List Entry = w.journal ++ e ∷ [] in
        let here : TellsLosses from later before text = subst (λ (k : World). TellsLosses from k.journal before text) is told in
        let long : length later ≡ length w.journal + 1 = length-append w.journal (e ∷ []) in
        let took = here.are (tables_at w.journal) (rights_at w.journal).in_force (rights_at later).in_force (same ∙ current.in_force) refl (in_force-left w.journal e takes) (in_force-rises w.journal) in
        record {
          all = here.all;
          are = subst (λ ts. AreEffectsOf (contents_at w.journal) (record { tables = ts; grants = (rights_at later).in_force }) here.all) (sym (tables-kept w.journal e takes)) took;
          text_is = here.text_is ∙ ap (told_of from here.all) long;
        }

    -- the line as it was read is so at what is seen
    pub line-here : (line read : List ℕ) → read ≡ line_at w.journal line → read ≡ line_at old.world.journal line
    line-here line read is = is ∙ ap (λ (s : StreamerState). line_at s.world.journal line) here_is

-- ---- a line that says an entry
module _ (old new : StreamerState) (e : Entry) (line : List ℕ) (says : SaysEntry LONGEST_LINE line e) where
  pub line-told : (result : Option (Vec ℕ Global)) → old.stop ≡ None → EntersTelling old e result new → IfSome result (λ text. TellsLine old line text.items new.stop new)
  line-told (Some text) going p =
      let open_then : new.stop ≡ None = ap (λ (s : StreamerState). s.stop) p.2 ∙ going in
      let told : TellsLine old line text.items None new = (e, record { says = says; change = p.0; allowed = p.1 }, p.2, p.3) in
      subst (λ (o : Option Undone). TellsLine old line text.items o new) (sym open_then) told
  line-told None going p = tt

  undone : (why : Undone) → IsUntold old.world e why → IsUndone LONGEST_LINE old.world line why
  undone reasons.NoChange p = (e, says, p)
  undone (reasons.Answer reply) p = (e, says, p)
  undone reasons.Unread p = (e.user, says.asks.start, says.asks.speaker)
  undone (reasons.Fault code offset) p = absurd p

  pub line-stopped : (result : Option (Vec ℕ Global)) → EntersTelling old e result new → IfNone result (TellsLine old line [] new.stop new)
  line-stopped (Some text) p = tt
  line-stopped None p =
      let stops : new.stop ≡ Some p.0 = ap (λ (s : StreamerState). s.stop) p.2 in
      let told : TellsLine old line [] (Some p.0) new = (undone p.0 p.1, p.2, refl) in
      subst (λ (o : Option Undone). TellsLine old line [] o new) (sym stops) told
