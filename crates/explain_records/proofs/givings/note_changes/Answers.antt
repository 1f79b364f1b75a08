use Rattle.std.proofs.Common.{◌∙◌, ap, sym, take}
use Rattle.std.specs.List.{flat_map}
use Rattle.explain_records.specs.Givings.{users_in, with_users}
use Rattle.explain_records.proofs.Named.{named-more}
use Rattle.explain_records.proofs.givings.note_changes.Goals as goal

pub loop-change-preserved : goal.loop-change-preserved
loop-change-preserved c =
    let changes = c.args.changes.now in
    let i = c.loop-change.change-index in
    let known = c.args.known.now.listed.items in
    record {
      seen = c.in_ok-note_change.ensures.seen;
      listed = c.in_ok-note_change.ensures.listed ∙ ap (with_users (users_in c.change-item.result)) c.loop-change.invariant.listed
          ∙ ap (λ change. with_users (users_in change) (with_users (flat_map users_in (take i changes)) known)) c.change-item.is
          ∙ sym (named-more changes i c.change-item.result known c.loop-change-test.true);
    }
