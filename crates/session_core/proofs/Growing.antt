-- What a turn adds to what a pass has seen and made.
use Rattle.std.proofs.Common.{◌≡◌, ◌^◌, ℕ, List, [], ◌++◌, All, sym, refl, ap, ◌∙◌, subst, append_assoc, append-nil}
use Rattle.std.proofs.lemmas.List.Elements.{All-nil, All-cons, All-append}
use Rattle.base_core.specs.declared.name.User.{User}
use Rattle.reader_core.specs.declared.statement.Statement.{Statement}
use Rattle.turnstile.specs.Logs.{StartsWith}
use Rattle.turnstile.specs.Passes.{IsSamePass, mine}
use Rattle.desk_core.specs.Guarded.{DeskLock, DeskPass}
use Rattle.system_core.specs.declared.machine.event.Entry.{Entry}
use Rattle.system_core.specs.declared.machine.event.Event.TheVariants as events
use Rattle.system_core.specs.declared.machine.event.Reply.{Reply}
use Rattle.system_core.specs.declared.machine.event.Reply.TheVariants as replies
use Rattle.system_core.specs.Entering.{entered}
use Rattle.system_core.proofs.Entered.{step_enters}
use Rattle.desk_core.specs.declared.object.Ask.{Ask}
use Rattle.desk_core.specs.declared.object.Ask.TheVariants as asks
use Rattle.desk_core.specs.Acting.{event_of}
use Rattle.desk_core.specs.Turns.{asked_by, Answered, took, spent, Took}
use Rattle.session_core.specs.Gains.{Gains, Watches}

starts : (old a b es : List Entry) → StartsWith a old → b ≡ a ++ es → StartsWith b old
starts old a b es s e = (s.0 ++ es, e ∙ (ap (λ z. z ++ es) s.1 ∙ append_assoc old s.0 es))

pub Gains-refl : {K : Type 0} (user : User) (pass : DeskPass K) → Gains user pass pass
Gains-refl user pass = record {
  same = (refl, refl);
  seen = ([], sym (append-nil pass.seen));
  entries = [];
  mine_is = sym (append-nil (mine asked_by pass));
  bear = All-nil (λ (e : Entry). e.user ≡ user);
}

pub Watches-refl : {K : Type 0} (pass : DeskPass K) → Watches pass pass
Watches-refl pass = record { same = (refl, refl); seen = ([], sym (append-nil pass.seen)); mine_is = refl }

seen_grows : {K : Type 0} (desk : DeskLock K) (ask : Ask) (reply : Reply) (old new : DeskPass K) → (t : Took desk ask reply old new) → StartsWith new.seen old.seen
seen_grows desk ask reply old new t =
    let m = step_enters t.before t.after (event_of old.number ask) reply t.step in
    subst (λ z. StartsWith z old.seen) (sym t.seen_after) (starts old.seen t.before.journal t.after.journal (entered (event_of old.number ask) reply) t.seen_before m.journal)

-- what is entered bears the user who asked
entered_bears : (pass : ℕ) (user : User) (asked : Statement) (reply : Reply) → All (λ (e : Entry). e.user ≡ user) (entered (events.Say pass user asked) reply)
entered_bears pass user asked (replies.Done at) = All-cons (λ (e : Entry). e.user ≡ user) (record { pass = pass; user = user; statement = asked }) [] refl (All-nil (λ (e : Entry). e.user ≡ user))
entered_bears pass user asked (replies.Rows at rows) = All-nil (λ (e : Entry). e.user ≡ user)
entered_bears pass user asked (replies.Listed at entries) = All-nil (λ (e : Entry). e.user ≡ user)
entered_bears pass user asked (replies.Begun number at) = All-nil (λ (e : Entry). e.user ≡ user)
entered_bears pass user asked (replies.Export ticket) = All-nil (λ (e : Entry). e.user ≡ user)
entered_bears pass user asked (replies.Refused at lack) = All-nil (λ (e : Entry). e.user ≡ user)
entered_bears pass user asked (replies.Denied at lack) = All-nil (λ (e : Entry). e.user ≡ user)
entered_bears pass user asked (replies.Described at columns) = All-nil (λ (e : Entry). e.user ≡ user)
entered_bears pass user asked replies.Idle = All-nil (λ (e : Entry). e.user ≡ user)
entered_bears pass user asked (replies.Stepped number left) = All-nil (λ (e : Entry). e.user ≡ user)
entered_bears pass user asked (replies.Finished number) = All-nil (λ (e : Entry). e.user ≡ user)
entered_bears pass user asked (replies.Abandoned number) = All-nil (λ (e : Entry). e.user ≡ user)

pub said_gains : {K : Type 0} (desk : DeskLock K) (user : User) (asked : Statement) (reply : Reply) (old new : DeskPass K) → IsSamePass old new → Answered desk (asks.Say (record { user = user; statement = asked })) reply old new → Gains user old new
said_gains desk user asked reply old new same (took t) = record {
  same = same;
  seen = seen_grows desk (asks.Say (record { user = user; statement = asked })) reply old new t;
  entries = entered (events.Say old.number user asked) reply;
  mine_is = t.mine_after;
  bear = entered_bears old.number user asked reply;
}
said_gains desk user asked reply old new same (spent r e) = subst (λ z. Gains user old z) (sym e) (record {
  same = (refl, refl);
  seen = ([], sym (append-nil old.seen));
  entries = [];
  mine_is = sym (append-nil (mine asked_by old));
  bear = All-nil (λ (e : Entry). e.user ≡ user);
})

pub took_watches : {K : Type 0} (desk : DeskLock K) (ask : Ask) (reply : Reply) (old new : DeskPass K) → entered (event_of old.number ask) reply ≡ [] → IsSamePass old new → Took desk ask reply old new → Watches old new
took_watches desk ask reply old new none same t = record {
  same = same;
  seen = seen_grows desk ask reply old new t;
  mine_is = t.mine_after ∙ (ap (λ es. mine asked_by old ++ es) none ∙ append-nil (mine asked_by old));
}

pub spent_watches : {K : Type 0} (old new : DeskPass K) → new ≡ record old { drawn = 2 ^ 62 } → Watches old new
spent_watches old new e =
    subst (λ z. Watches old z) (sym e) (record { same = (refl, refl); seen = ([], sym (append-nil old.seen)); mine_is = refl })

watched : {K : Type 0} (desk : DeskLock K) (ask : Ask) (reply : Reply) (old new : DeskPass K) → entered (event_of old.number ask) reply ≡ [] → IsSamePass old new → Answered desk ask reply old new → Watches old new
watched desk ask reply old new none same (took t) = took_watches desk ask reply old new none same t
watched desk ask reply old new none same (spent r e) = spent_watches old new e

pub step_watches : {K : Type 0} (desk : DeskLock K) (reply : Reply) (old new : DeskPass K) → IsSamePass old new → Answered desk asks.Step reply old new → Watches old new
step_watches desk reply old new = watched desk asks.Step reply old new refl

pub abandon_watches : {K : Type 0} (desk : DeskLock K) (reply : Reply) (old new : DeskPass K) → IsSamePass old new → Answered desk asks.Abandon reply old new → Watches old new
abandon_watches desk reply old new = watched desk asks.Abandon reply old new refl

pub starts_through : (a b c : List Entry) → StartsWith b a → StartsWith c b → StartsWith c a
starts_through a b c p q = starts a b c q.0 p q.1

pub Watches-trans : {K : Type 0} (a b c : DeskPass K) → Watches a b → Watches b c → Watches a c
Watches-trans a b c p q = record {
  same = (q.same.0 ∙ p.same.0, q.same.1 ∙ p.same.1);
  seen = starts_through a.seen b.seen c.seen p.seen q.seen;
  mine_is = q.mine_is ∙ p.mine_is;
}

pub Gains-trans : {K : Type 0} (user : User) (a b c : DeskPass K) → Gains user a b → Gains user b c → Gains user a c
Gains-trans user a b c p q = record {
  same = (q.same.0 ∙ p.same.0, q.same.1 ∙ p.same.1);
  seen = starts_through a.seen b.seen c.seen p.seen q.seen;
  entries = p.entries ++ q.entries;
  mine_is = q.mine_is ∙ (ap (λ z. z ++ q.entries) p.mine_is ∙ append_assoc (mine asked_by a) p.entries q.entries);
  bear = All-append (λ (e : Entry). e.user ≡ user) p.entries q.entries p.bear q.bear;
}

-- what was only watched is no entry of anybody's
pub Watches-gains : {K : Type 0} (user : User) (a b : DeskPass K) → Watches a b → Gains user a b
Watches-gains user a b w = record {
  same = w.same;
  seen = w.seen;
  entries = [];
  mine_is = w.mine_is ∙ sym (append-nil (mine asked_by a));
  bear = All-nil (λ (e : Entry). e.user ≡ user);
}
