use Rattle.std.proofs.Common.{is_ok, get_or}
use Rattle.tables_core.proofs.IndexLemmas.{all-set, all-pushed}
use Rattle.tables_core.proofs.indexes.Indexes.ask.Goals as goal

pub returns-in-Some : goal.returns-in-Some
returns-in-Some c =
    let items = c.args.self.now.kept.items in
    let rows = c.args.rows.now.contents in
    all-set items rows c.in-Some.at c.index_mut.result.now c.ask.new.self c.in-Some.ensures c.index_mut.ensures.value c.ask.ensures

pub returns-then-len-lt-MOST : goal.returns-then-len-lt-MOST
returns-then-len-lt-MOST c = λ h.
    rw c.push.ensures.items (all-pushed c.args.self.now.kept.items c.args.rows.now.contents (is_ok c.push.result) c.asked_once.result c.asked_once.ensures h)

pub returns-in-Some-idle : goal.returns-in-Some-idle
returns-in-Some-idle c =
    let items = c.args.self.now.kept.items in
    let rows = c.args.rows.now.contents in
    all-set items rows c.in-Some-idle.at c.index_mut-in-Some-idle.result.now c.turn_to.new.self c.in-Some-idle.ensures c.index_mut-in-Some-idle.ensures.value (λ h i e less. c.turn_to.ensures (get_or rows i e))
