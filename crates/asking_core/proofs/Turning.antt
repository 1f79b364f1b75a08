-- What the turns of a line add to what a pass has seen and made.
use Rattle.std.proofs.Common.{◌≡◌, Bool, true, false, Option, Some, None, [], ◌&&◌, refl, sym, ◌∙◌, subst, append-nil}
use Rattle.std.proofs.lemmas.Bool.{false≢true}
use Rattle.reader_core.specs.declared.statement.Statement.{Statement}
use Rattle.reader_core.specs.declared.statement.Statement.TheVariants as statements
use Rattle.answer_core.specs.Tags.{tag_of}
use Rattle.answer_core.specs.declared.tag.Tag.TheVariants as tags
use Rattle.base_core.specs.declared.name.User.{User}
use Rattle.turnstile.specs.Passes.{IsSamePass, mine}
use Rattle.system_core.specs.declared.machine.event.Reply.{Reply}
use Rattle.system_core.proofs.Entered.{step_enters}
use Rattle.desk_core.specs.declared.object.Ask.TheVariants as asks
use Rattle.desk_core.specs.Acting.{event_of}
use Rattle.desk_core.specs.Guarded.{DeskLock, DeskPass}
use Rattle.desk_core.specs.Turns.{asked_by, Answered, took, spent}
use Rattle.session_core.specs.Gains.{Watches}
use Rattle.asking_core.specs.Manners.{is_select}

-- a description enters nothing
pub described_watches : {K : Type 0} (desk : DeskLock K) (user : User) (asked : Statement) (reply : Reply) (old new : DeskPass K) → IsSamePass old new
    → Answered desk (asks.Describe (record { user = user; statement = asked })) reply old new → Watches old new
described_watches desk user asked reply old new same (took t) =
    let ask = asks.Describe (record { user = user; statement = asked }) in
    let m = step_enters t.before t.after (event_of old.number ask) reply t.step in record {
      same = same;
      seen = (t.seen_before.0, t.seen_after ∙ (m.journal ∙ (append-nil t.before.journal ∙ t.seen_before.1)));
      mine_is = t.mine_after ∙ append-nil (mine asked_by old);
    }
described_watches desk user asked reply old new same (spent r e) =
    subst (λ z. Watches old z) (sym e) (record { same = (refl, refl); seen = ([], sym (append-nil old.seen)); mine_is = refl })

none_and : (b : Bool) → (b && false) ≡ true → ⊥
none_and true e = false≢true e
none_and false e = false≢true e

-- the kind of a statement that rows of a table answer
pub select_tag : (wants : Bool) (asked : Statement) → (wants && is_select asked) ≡ true → tag_of asked ≡ tags.Select
select_tag wants (statements.Select list table filter) e = refl
select_tag wants (statements.CreateTable table columns) e = absurd (none_and wants e)
select_tag wants (statements.Insert table values) e = absurd (none_and wants e)
select_tag wants (statements.Delete table filter) e = absurd (none_and wants e)
select_tag wants (statements.Update table sets filter) e = absurd (none_and wants e)
select_tag wants (statements.Grant privileges table users option) e = absurd (none_and wants e)
select_tag wants (statements.Revoke privileges table users) e = absurd (none_and wants e)
select_tag wants (statements.RevokeOption privileges table users) e = absurd (none_and wants e)
select_tag wants statements.Checkpoint e = absurd (none_and wants e)
select_tag wants statements.Checkpoints e = refl
select_tag wants (statements.Export number only) e = refl

-- what is none is none
pub unbarred : {A : Type 0} (found told : Option A) → found ≡ told → ((x : A) → found ≡ Some x → ⊥) → told ≡ None
unbarred found None same none = refl
unbarred found (Some x) same none = absurd (none x same)
