use Rattle.std.proofs.Common.{◌≡◌, ◌∙◌, List, [], ap, sym, take, length, None}
use Rattle.std.specs.List.{slice_get}
use Rattle.capture_core.specs.declared.image.TableImage.{TableImage}
use Rattle.capture_core.specs.Filling.{Head, Filled, heads, completed_from, AreGiven}
use Rattle.capture_core.specs.Capturing.{ActiveCapture, coming}
use Rattle.capture_core.specs.contracts.active.Active.{the_view}
use Rattle.capture_core.proofs.FillingLemmas.{completed-whole}
use Rattle.capture_core.proofs.GivenLemmas.{given-first, given-from_none_left}
use Rattle.capture_core.proofs.TakingLemmas.{with_tables, if_err, on_ok}
use Rattle.capture_core.proofs.active.Active.into_image.Goals as goal

pub finish-requires : goal.finish-requires
finish-requires c = given-from_none_left c.args.tables.now.rest c.requires

pub returns-clause-coming : goal.returns-clause-coming
returns-clause-coming c =
    let a : ActiveCapture = the_view c.self.inside in
    let d = c.args.tables.now in
    let hs : List Head = heads (length d.rest) d.tables in
    let whole : List TableImage = c.finish.new.self.whole in
    let made : Filled = record { whole = whole; rows = [] } in
    let fine = sym c.is_err.ensures.value ∙ c.if-is_err.false in
    let all = on_ok c.finish.result (slice_get hs (length whole) ≡ None) fine c.finish.ensures.all in
    let is = on_ok c.finish.result (whole ≡ completed_from d a.filled) fine c.finish.ensures.whole in
    if_err c.share.result (record a { filled = made }) (λ e. coming e d [] ≡ coming c.args.self d []) c.share.ensures.err
    (ap (with_tables a []) (completed-whole hs made d.rest all ∙ is)
    ∙ ap (λ e. coming e d []) c.self.view_is)

pub returns-clause-given : goal.returns-clause-given
returns-clause-given c =
    let a : ActiveCapture = the_view c.self.inside in
    let rest = c.args.tables.now.rest in
    let whole : List TableImage = c.finish.new.self.whole in
    if_err c.share.result (record a { filled = record { whole = whole; rows = [] } }) (λ e. AreGiven (take (length e.filled.whole) rest)) c.share.ensures.err
    (given-first rest (length whole) (given-from_none_left rest c.requires))

pub returns-then-is_err-clause-given : goal.returns-then-is_err-clause-given
returns-then-is_err-clause-given c =
    let rest = c.args.tables.now.rest in
    given-first rest _ (given-from_none_left rest c.requires)
