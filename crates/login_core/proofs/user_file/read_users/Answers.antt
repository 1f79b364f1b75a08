use Rattle.std.proofs.Common.{◌++◌, ◌∷◌, [], refl, sym, subst, ◌∙◌}
use Rattle.login_core.specs.Users.{Users, SayUsers, IsRefused, WholeLines, no_line, line_more, unended}
use Rattle.login_core.proofs.Files.{one_line, less, last_line, all_whole, empty, some, exit_err}
use Rattle.login_core.proofs.user_file.read_users.Goals as goal

pub loop-line-init : goal.loop-line-init
loop-line-init g = ([], refl, subst (λ (us : Users). WholeLines [] us) (sym g.new-users.ensures) no_line)

pub loop-line-smaller : goal.loop-line-smaller
loop-line-smaller c = less c.loop-line.rest.now c.in-Some.line.now c.in-Some.behind.now c.in-Some.ensures

pub loop-line-preserved : goal.loop-line-preserved
loop-line-preserved c =
    let read = c.loop-line.invariant in
    let added = c.in_ok-add.ensures.ok in (
      read.0 ++ (c.in-Some.line.now ++ 10 ∷ []),
      one_line c.args.text.now read.0 c.loop-line.rest.now c.in-Some.line.now c.in-Some.behind.now read.1 c.in-Some.ensures,
      subst (λ (us : Users). WholeLines (read.0 ++ (c.in-Some.line.now ++ 10 ∷ [])) us) (sym added.2) (line_more read.2 c.in-Some.ensures.free added.1),
    )

pub returns-then-is_empty-clause-users : goal.returns-then-is_empty-clause-users
returns-then-is_empty-clause-users c =
    let read = c.loop-line.invariant in
    all_whole c.args.text.now read.0 c.loop-line.rest.now c.loop-line.users read.1 (empty c.loop-line.rest.now (sym c.is_empty.ensures ∙ c.if-is_empty.true)) read.2

pub returns-clause-users : goal.returns-clause-users
returns-clause-users c =
    let read = c.loop-line.invariant in
    let added = c.in_ok-add-2.ensures.ok in
    subst (λ (us : Users). SayUsers c.args.text.now us) (sym added.2)
    (rw read.1 (unended read.2 c.in_default.ensures added.1))

pub returns-in_err-add-2-clause-refused : goal.returns-in_err-add-2-clause-refused
returns-in_err-add-2-clause-refused c =
    let read = c.loop-line.invariant in
    exit_err (IsRefused c.args.text.now) _ _ c.from_residual-in_err-add-2.ensures.1 (record {
      front = read.0;
      line = c.loop-line.rest.now;
      behind = [];
      users = c.loop-line.users;
      said = last_line c.args.text.now read.0 c.loop-line.rest.now read.1;
      before = read.2;
      free = c.in_default.ensures;
      ends = some c.loop-line.rest.now (sym c.is_empty.ensures ∙ c.if-is_empty.false);
      refused = c.in_err-add-2.ensures.err;
    })

pub invariant_of-result : goal.invariant_of-result
invariant_of-result c =
    let read = c.loop-line.invariant in
    record { said = ∣ (c.args.text.now, all_whole c.args.text.now read.0 c.loop-line.rest.now c.loop-line.users read.1 (empty c.loop-line.rest.now (sym c.is_empty.ensures ∙ c.if-is_empty.true)) read.2) ∣₁ }

pub invariant_of-result-2 : goal.invariant_of-result-2
invariant_of-result-2 c =
    let read = c.loop-line.invariant in
    let added = c.in_ok-add-2.ensures.ok in
    record {
      said = ∣ (
        c.args.text.now,
        subst (λ (us : Users). SayUsers c.args.text.now us) (sym added.2)
            (rw read.1 (unended read.2 c.in_default.ensures added.1)),
      ) ∣₁;
    }
