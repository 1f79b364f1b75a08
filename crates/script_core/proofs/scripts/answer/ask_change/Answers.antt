use Rattle.std.proofs.Common.{[], false, true, refl, sym, subst, ◌∙◌}
use Rattle.std.specs.Prelude.{Result}
use Rattle.std.proofs.KnownBytes.{Appends-nil}
use Rattle.base_core.proofs.Fronts.{write-map}
use Rattle.base_core.specs.declared.memory.NoMemory.{NoMemory}
use Rattle.base_core.specs.declared.value.Moment.{Moment}
use Rattle.reply_core.specs.Telling.{TellsReply}
use Rattle.system_core.specs.Step.{change_reply}
use Rattle.system_core.specs.World.{moment_of, next_moment}
use Rattle.system_core.specs.declared.machine.event.Reply.TheVariants as replies
use Rattle.journal_core.specs.Recorder.{with_keeper, event_of_entry, StepsKept}
use Rattle.script_core.specs.Replying.{TellsKept, TellsThen}
use Rattle.script_core.specs.declared.scripts.answer.Said.TheVariants as says
use Rattle.script_core.proofs.Answering.{said-idle}
use Rattle.script_core.proofs.KeptAnswers.{change-told}
use Rattle.script_core.proofs.scripts.answer.ask_change.Goals as goal

pub returns-in_default : goal.returns-in_default
returns-in_default g c = (
  c.requires.writes,
  record {
    text = [];
    is = record {
      reply = replies.Done (next_moment c.args.system.now);
      told = false;
      mid = with_keeper c.enter.new.system c.enter.new.keeper;
      acted = c.in_default.ensures.unkept;
      tells = (refl, refl);
    };
    wrote = Appends-nil _;
  },
)

pub returns-in-Ok-made : goal.returns-in-Ok-made
returns-in-Ok-made g c =
    let K = g.K.Keeper in
    let old = c.args.system.now in
    let mid = c.enter.new.system in
    let k = c.args.keeper.now in
    let k' = c.enter.new.keeper in
    let e = c.args.entry in
    let reply = replies.Done c.in-Ok-made.made in
    let Acted = λ (r : Result Moment NoMemory). StepsKept K (with_keeper old k) (event_of_entry e) (change_reply (moment_of old) r) true (with_keeper mid k') in
    let acted = subst Acted c.in-Ok-made.is c.in-Ok.ensures.told in
    write-map g.W.Sink.failed g.W.Sink.taken _ _ (TellsReply reply) (TellsKept K e (with_keeper old k) (with_keeper mid k')) c.write_done.result
    (λ text tells. change-told K old mid mid k k' e reply acted text (said-idle mid (says.Answer reply) (sym c.is_idle.ensures ∙ c.if-not-is_idle.false) text tells))
    c.write_done.ensures

pub returns-then-not-is_idle : goal.returns-then-not-is_idle
returns-then-not-is_idle g c =
    let K = g.K.Keeper in
    let old = c.args.system.now in
    let mid = c.enter.new.system in
    let new = c.tell_change.new.system in
    let k = c.args.keeper.now in
    let k' = c.enter.new.keeper in
    let e = c.args.entry in
    let Tells = λ (m : Moment). TellsThen (says.Answer (change_reply m c.in-Ok.made)) mid new in
    write-map g.W.Sink.failed g.W.Sink.taken _ _ (Tells c.moment-at.result) (TellsKept K e (with_keeper old k) (with_keeper new k')) c.tell_change.result
    (λ text h. change-told K old mid new k k' e (change_reply (moment_of old) c.in-Ok.made) c.in-Ok.ensures.told text (subst (λ m. Tells m text) c.moment-at.ensures h))
    c.tell_change.ensures

pub returns-in-Err : goal.returns-in-Err
returns-in-Err g c =
    let K = g.K.Keeper in
    let old = c.args.system.now in
    let mid = c.enter.new.system in
    let new = c.tell_change-in-Err.new.system in
    let k = c.args.keeper.now in
    let k' = c.enter.new.keeper in
    let e = c.args.entry in
    let Tells = λ (m : Moment). TellsThen (says.Answer (change_reply m c.in-Ok.made)) mid new in
    write-map g.W.Sink.failed g.W.Sink.taken _ _ (Tells c.moment-at.result) (TellsKept K e (with_keeper old k) (with_keeper new k')) c.tell_change-in-Err.result
    (λ text h. change-told K old mid new k k' e (change_reply (moment_of old) c.in-Ok.made) c.in-Ok.ensures.told text (subst (λ m. Tells m text) c.moment-at.ensures h))
    c.tell_change-in-Err.ensures
