use Rattle.std.proofs.Common.{◌≡◌, ◌+◌, [], ◌∷◌, ◌++◌, Some, arith, ap, ◌∙◌, append_assoc}
use Rattle.std.proofs.lemmas.List.Elements.{All-pop}
use Rattle.server_core.specs.Sessions.{IsWorkers}
use Rattle.serving_core.proofs.Back.{back_more, back_all}
use Rattle.serving_core.proofs.dealing.gathered.Goals as goal

pub loop-worker-preserved : goal.loop-worker-preserved
loop-worker-preserved g c =
    let protocol = g.M.SessionMachine.protocol in
    let by = c.args.entrance.now in
    let journal = c.args.begun.now.value.journal in
    let desk = c.args.desk.now in
    let was = c.loop-worker.invariant in
    let worker = c.in-Some.worker in
    let h = All-pop (IsWorkers protocol by journal desk) c.loop-worker.workers.items c.pop.new.self.items (Some worker) c.in-Some.ensures.items was.served in
    let passes : c.push.new.self.items ≡ c.loop-worker.passes.items ++ worker.pass ∷ [] = cc (c.in_ok-push.ensures.items, c.into_parts-pass.ensures.pass) in
    let amount : c.merge.new.self.amount ≡ c.loop-worker.all.amount + worker.sessions = cc (c.merge.ensures.amount, c.into_parts-pass.ensures.amount) in
    record {
      served = h.0;
      back = rw (passes, amount) (back_more protocol by journal desk c.loop-worker.passes.items c.loop-worker.all.amount worker was.back h.1);
      parts = omega (arith, c.in-Some.ensures.len, c.merge.ensures.parts, c.into_parts-pass.ensures.parts);
    }

pub returns-clause-servers : goal.returns-clause-servers
returns-clause-servers g c =
    let protocol = g.M.SessionMachine.protocol in
    let by = c.args.entrance.now in
    let journal = c.args.begun.now.value.journal in
    let desk = c.args.desk.now in
    let own = c.args.own in
    let passes : c.push-3.new.self.items ≡ c.loop-worker.passes.items ++ own.tender ∷ own.checkpointer ∷ [] = c.in_ok-push-3.ensures.items ∙ (ap (λ ps. ps ++ own.checkpointer ∷ []) c.in_ok-push-2.ensures.items ∙ append_assoc c.loop-worker.passes.items (own.tender ∷ []) (own.checkpointer ∷ [])) in
    rw passes (back_all protocol by journal desk c.loop-worker.passes.items c.loop-worker.all.amount c.args.own c.loop-worker.invariant.back c.requires.own)
