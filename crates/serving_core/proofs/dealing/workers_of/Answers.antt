use Rattle.std.proofs.Common.{◌≡◌, Some, sym, ap, subst, arith}
use Rattle.std.specs.Prelude.{All}
use Rattle.std.proofs.lemmas.List.Elements.{All-pop, All-push}
use Rattle.desk_core.specs.Guarded.{DeskPass}
use Rattle.server_core.specs.Sessions.{Working, IsNew, IsNewWorker}
use Rattle.serving_core.proofs.dealing.workers_of.Goals as goal

pub loop-pass-preserved : goal.loop-pass-preserved
loop-pass-preserved g c =
    let journal = c.args.begun.now.value.journal in
    let desk = c.args.desk.now in
    let was = c.loop-pass.invariant in
    let pass = c.in-Some.pass in
    let worker = c.new-in-Some.result in
    let popped = All-pop (IsNew journal desk) c.loop-pass.passes.items c.pop.new.self.items (Some pass) c.in-Some.ensures.items was.new in
    let is : worker ≡ record { pass = pass; sessions = 0 } = c.new-in-Some.ensures in
    let idle : IsNewWorker journal desk worker
    = subst (λ (w : Working g.row.K.Denot). IsNewWorker journal desk w) (sym is) (ap (λ (p : DeskPass g.row.K.Denot). record { pass = p; sessions = 0 }) popped.1) in
    record {
      new = popped.0;
      idle = subst (λ xs. All (IsNewWorker journal desk) xs) (sym c.in_ok-push.ensures.items) (All-push (IsNewWorker journal desk) c.loop-pass.workers.items worker was.idle idle);
      parts = omega (arith, was.parts, c.in-Some.ensures.len, c.split_off-token.ensures.parts_left);
      enough = omega (arith, was.enough, c.in-Some.ensures.len, c.split_off-token.ensures.parts_left);
      nothing = omega (arith, was.nothing, c.split_off-token.ensures.amount_left);
    }
