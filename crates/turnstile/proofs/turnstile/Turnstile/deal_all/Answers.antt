use Rattle.std.proofs.Common.{ap, ◌≡◌, ◌∙◌, ◌-◌, ◌+◌, ◌<◌, ℕ, arith}
use Rattle.turnstile.proofs.Ends.{next_first, dealt_all}
use Rattle.turnstile.proofs.turnstile.Turnstile.deal_all.Goals as goal

pub deal-requires-clause-first : goal.deal-requires-clause-first
deal-requires-clause-first g c = let seen = c.requires.all.0 in let at = c.loop-number.invariant.1 seen c.requires.all.1 in let lock = c.args.self.now in let i : ℕ = c.loop-number.number in let less : i < lock.count = (let is : c.self.inside.table.shared.key.terms.count ≡ lock.count = ap (λ l. l.count) c.self.view_is in omega arith) in
    (seen, lock.count - (i + 1), next_first seen lock i c.loop-number.seat.me less at.0)

pub loop-number-preserved : goal.loop-number-preserved
loop-number-preserved g c = let lock = c.args.self.now in let i : ℕ = c.loop-number.number in let less : i < lock.count = (let is : c.self.inside.table.shared.key.terms.count ≡ lock.count = ap (λ l. l.count) c.self.view_is in omega arith) in (
  c.deal.ensures.own ∙ c.loop-number.invariant.0,
  λ seen first. let at = c.loop-number.invariant.1 seen first in let one = c.deal.ensures.dealt seen (lock.count - (i + 1)) (next_first seen lock i c.loop-number.seat.me less at.0) in
      (one.0, dealt_all seen lock i lock.count c.loop-number.passes.items c.push.new.self.items _ c.deal.result less at.1 one.1 c.in_ok-push.ensures.items),
)
