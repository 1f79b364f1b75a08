use Rattle.std.proofs.Common.{◌∙◌, ℕ, ◌+◌, List, drop, sym, ap, arith}
use Rattle.std.proofs.lemmas.List.{drop_all}
use Rattle.base_core.specs.declared.privilege.Kind.{Kind}
use Rattle.dump_core.proofs.Cuts.{drop-next}
use Rattle.dump_core.proofs.Fitting.{fits, fits-same, fits-other, fits-other_word, fits-none, fits-all}
use Rattle.dump_core.proofs.privileges.takes_column.Goals as goal
use Rattle.dump_core.proofs.privileges.takes_column.Goals.{in-Some+else-eq, in_default}

pub returns-then-eq : goal.returns-then-eq
returns-then-eq c =
    let ks : List Kind = c.args.kinds.now in
    let next = drop-next ks c.loop-kind.kind-index c.kind-item.result c.loop-kind-test.true c.kind-item.is in
    sym (fits-same c.args.by c.args.column c.loop-kind.count c.kind-item.result c.in-Some.own (drop (c.loop-kind.kind-index + 1) ks) (sym c.own_column.ensures ∙ c.in-Some.is) (sym c.eq.ensures ∙ c.if-eq.true))
    ∙ ap (fits c.args.by c.args.column c.loop-kind.count) (sym next)
    ∙ c.loop-kind.invariant.0
    ∙ fits-all c.args.by c.args.column ks

pub loop-kind-preserved : goal.loop-kind-preserved
loop-kind-preserved c =
    let ks : List Kind = c.args.kinds.now in
    let rest : List Kind = drop (c.loop-kind.kind-index + 1) ks in
    let next = drop-next ks c.loop-kind.kind-index c.kind-item.result c.loop-kind-test.true c.kind-item.is in
    let was = ap (fits c.args.by c.args.column c.loop-kind.count) (sym next) ∙ c.loop-kind.invariant.0 in
    elim c.match-own_column.branch [
      | in-Some+else-eq w ↦ (
        ap (λ (n : ℕ). fits c.args.by c.args.column n rest) w.count-is
            ∙ sym (fits-other c.args.by c.args.column c.loop-kind.count c.kind-item.result w.in-Some.own rest (sym c.own_column.ensures ∙ w.in-Some.is) (sym w.eq.ensures ∙ w.if-eq.false))
            ∙ was,
        omega arith,
      )
      | in_default w ↦ (
        ap (λ (n : ℕ). fits c.args.by c.args.column n rest) w.count-is
            ∙ sym (fits-other_word c.args.by c.args.column c.loop-kind.count c.kind-item.result rest (sym c.own_column.ensures ∙ w.in_default.is))
            ∙ was,
        omega arith,
      )
    ]

pub returns : goal.returns
returns c =
    let ks : List Kind = c.args.kinds.now in
    let none = drop_all c.loop-kind.kind-index ks c.loop-kind-test.false in
    sym (fits-none c.args.by c.args.column c.loop-kind.count)
    ∙ ap (fits c.args.by c.args.column c.loop-kind.count) (sym none)
    ∙ c.loop-kind.invariant.0
    ∙ fits-all c.args.by c.args.column ks
