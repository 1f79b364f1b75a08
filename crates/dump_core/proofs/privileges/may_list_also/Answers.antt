use Rattle.std.proofs.Common.{List, sym, ap, ◌∙◌, arith}
use Rattle.std.specs.Prelude.{not}
use Rattle.base_core.specs.declared.privilege.Kind.{Kind}
use Rattle.dump_core.proofs.Cuts.{last-split}
use Rattle.dump_core.proofs.Lengthened.{may-column, may-word}
use Rattle.dump_core.proofs.privileges.may_list_also.Goals as goal

pub returns-in-Some : goal.returns-in-Some
returns-in-Some c =
    let ks : List Kind = c.args.kinds.now in
    let split = last-split ks _ c.index-kinds-last.result (omega arith) c.index-kinds-last.is in
    let may = may-column ks _ c.index-kinds-last.result c.args.kind.now c.in-Some.next.0 c.in-Some.next.1 split c.requires.listed (sym c.meeting.ensures ∙ c.in-Some.is) in
    c.takes_column.ensures ∙ may

pub returns-in-None : goal.returns-in-None
returns-in-None c =
    let ks : List Kind = c.args.kinds.now in
    let split = last-split ks _ c.index-kinds-last.result (omega arith) c.index-kinds-last.is in
    let may = may-word ks _ c.index-kinds-last.result c.args.kind.now split c.requires.listed (sym c.meeting.ensures ∙ c.in-None.is) in
    ap not c.has_word.ensures ∙ may
