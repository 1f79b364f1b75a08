use Rattle.std.proofs.Common.{◌∙◌, ap, sym, take}
use Rattle.explain_core.specs.Listed.{with_user}
use Rattle.explain_records.specs.Givings.{with_users}
use Rattle.explain_records.proofs.Named.{users-more}
use Rattle.explain_records.proofs.givings.note_users.Goals as goal

pub loop-user-preserved : goal.loop-user-preserved
loop-user-preserved c =
    let users = c.args.users.now in
    let i = c.loop-user.user-index in
    let known = c.args.known.now.listed.items in
    record {
      seen = c.in_ok-add.ensures.seen;
      listed = c.in_ok-add.ensures.listed ∙ ap (with_user c.user-item.result) c.loop-user.invariant.listed
          ∙ ap (λ u. with_user u (with_users (take i users) known)) c.user-item.is
          ∙ sym (users-more users i c.user-item.result known c.loop-user-test.true);
    }
