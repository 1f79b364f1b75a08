use Rattle.std.proofs.Common.{Bool, ◌≡◌, sym, ap, ◌∙◌}
use Rattle.reader_core.specs.Grammar.{Class}
use Rattle.reader_core.specs.Cursor.{Cursor, next_is}
use Rattle.reader_core.specs.Saying.{separator_class}
use Rattle.reader_core.specs.declared.separator.Separator.{Separator}
use Rattle.reader_core.proofs.Lists.{list_on, list_done, faultless_on, lawful_on, shorter, nothing_yet}
use Rattle.reader_core.proofs.parsing.list.list.Goals as goal

-- whether a separator of the rule is next, by the one that was looked for
next_so : (class : Class) (looked separator : Separator) (reader : Cursor) (is : Bool) → class ≡ separator_class separator → looked ≡ separator
    → is ≡ next_is (separator_class looked) reader → next_is class reader ≡ is
next_so class looked separator reader is rule same e = ap (λ x. next_is x reader) (rule ∙ sym (ap separator_class same)) ∙ sym e

pub loop-list-init : goal.loop-list-init
loop-list-init g c = nothing_yet _ _ _ _ _ _ _ _ c.in_ok-list.ensures

pub returns-then-not-at_separator-clause-reads : goal.returns-then-not-at_separator-clause-reads
returns-then-not-at_separator-clause-reads g c =
    rw c.in_ok-add.ensures (list_done c.in_ok-item.item c.loop-list.invariant (rw c.items.ensures at c.in_ok-item.ensures.leads) (rw c.items.ensures at c.in_ok-item.ensures.faultless) c.in_ok-item.ensures.well_formed (next_so _ c.SEPARATOR.result _ c.read.new.reader _ g.met.T.Item.separates c.SEPARATOR.ensures c.if-not-at_separator.ensures.next))

pub returns-then-not-at_separator-clause-faultless : goal.returns-then-not-at_separator-clause-faultless
returns-then-not-at_separator-clause-faultless g c =
    rw c.in_ok-add.ensures (faultless_on c.in_ok-item.item c.loop-list.invariant (rw c.items.ensures at c.in_ok-item.ensures.leads) (rw c.items.ensures at c.in_ok-item.ensures.faultless) c.in_ok-item.ensures.well_formed)

pub returns-then-not-at_separator-clause-well_formed : goal.returns-then-not-at_separator-clause-well_formed
returns-then-not-at_separator-clause-well_formed g c =
    rw c.in_ok-add.ensures (lawful_on c.in_ok-item.item c.loop-list.invariant (rw c.items.ensures at c.in_ok-item.ensures.leads) (rw c.items.ensures at c.in_ok-item.ensures.faultless) c.in_ok-item.ensures.well_formed)

pub loop-list-smaller : goal.loop-list-smaller
loop-list-smaller g c = shorter c.loop-list.reader c.read.new.reader c.advance.new.self g.T.Item.rule.separator _ c.in_ok-item.ensures.leads.says (next_so _ c.SEPARATOR.result _ c.read.new.reader _ g.met.T.Item.separates c.SEPARATOR.ensures c.if-not-at_separator.ensures.next) c.advance.ensures.rest

pub loop-list-preserved : goal.loop-list-preserved
loop-list-preserved g c =
    rw c.in_ok-add.ensures (list_on c.in_ok-item.item c.loop-list.invariant (rw c.items.ensures at c.in_ok-item.ensures.leads) (rw c.items.ensures at c.in_ok-item.ensures.faultless) c.in_ok-item.ensures.well_formed
    c.advance.new.self (next_so _ c.SEPARATOR.result _ c.read.new.reader _ g.met.T.Item.separates c.SEPARATOR.ensures c.if-not-at_separator.ensures.next) (rw c.SEPARATOR.ensures at c.at_separator.ensures.lexeme c.if-not-at_separator.false) c.advance.ensures.rest c.advance.ensures.line)
