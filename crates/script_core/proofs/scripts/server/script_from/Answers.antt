use Rattle.std.proofs.Common.{◌≡◌, true, false, Ok, Err, refl, sym, ap, ◌∙◌}
use Rattle.std.proofs.KnownBytes.{Keeps-refl}
use Rattle.lines_core.specs.declared.serving.SessionFault.TheVariants as faults
use Rattle.script_core.specs.declared.scripts.fault.ScriptFault.TheVariants as script_faults
use Rattle.script_core.specs.declared.scripts.server.ScriptServer.{ScriptServer}
use Rattle.lines_core.proofs.Over.{over-or-broken}
use Rattle.journal_core.proofs.Entering.{never-both}
use Rattle.script_core.proofs.KeptLemmas.{server_ends, script_ends, journal_ends, session-once, fault-once, no-journal, no-fault}
use Rattle.script_core.proofs.scripts.server.script_from.Goals as goal

pub returns-in_default-clause-ends : goal.returns-in_default-clause-ends
returns-in_default-clause-ends g c = (c.requires.settled, c.args.system, (refl, Keeps-refl _, Keeps-refl _))

pub returns-then-owing-clause-ends : goal.returns-then-owing-clause-ends
returns-then-owing-clause-ends g c =
    let K = g.K.Keeper in
    let X = ScriptServer g.row.K.Denot in
    let y = c.serve-served.new.server in
    let ending = c.serve-served.result in
    let e = server_ends {X = X} (λ s. s.system.now) (λ s. s.keeper.now) (λ s. s.system.ghost_name) (λ s. s.keeper.ghost_name) K ending _ y _ c.serve-served.ensures.ends in
    let kept = c.keeper-1.given.1 (sym e.1.1) in
    let last = c.system-2-1.given.1 (sym e.1.0) in
    let ends = script_ends K ending _ y.system.now c.system-2-1.given.0 c.args.keeper.now y.keeper.now c.keeper-1.given.0 _ last kept e.0 in
    let owing : K.owing c.keeper-1.given.0 ≡ true = ap K.owing kept ∙ sym c.is_owing-owing.ensures ∙ c.if-owing.true in
    let how = over-or-broken ending (g.W.Sink.failed c.serve-served.new.writer) (K.owing c.args.keeper.now) (K.owing y.keeper.now) c.serve-served.ensures.write.1 c.serve-served.ensures.not_over c.requires.settled (sym c.is_owing-owing.ensures ∙ c.if-owing.true) in
    journal_ends K c.args.system ending c.system-2-1.given.0 c.args.keeper.now c.keeper-1.given.0 _ owing how ends

pub returns-then-owing-clause-write : goal.returns-then-owing-clause-write
returns-then-owing-clause-write g c =
    let K = g.K.Keeper in
    let X = ScriptServer g.row.K.Denot in
    let e = server_ends {X = X} (λ s. s.system.now) (λ s. s.keeper.now) (λ s. s.system.ghost_name) (λ s. s.keeper.ghost_name) K c.serve-served.result _ c.serve-served.new.server _ c.serve-served.ensures.ends in
    let owing : K.owing c.keeper-1.given.0 ≡ true = ap K.owing (c.keeper-1.given.1 (sym e.1.1)) ∙ sym c.is_owing-owing.ensures ∙ c.if-owing.true in
    (λ e. absurd (no-journal faults.Write _ e refl), λ h. never-both (K.owing c.keeper-1.given.0) owing h.1)

pub returns-then-owing-clause-journal : goal.returns-then-owing-clause-journal
returns-then-owing-clause-journal g c =
    let K = g.K.Keeper in
    let X = ScriptServer g.row.K.Denot in
    let e = server_ends {X = X} (λ s. s.system.now) (λ s. s.keeper.now) (λ s. s.system.ghost_name) (λ s. s.keeper.ghost_name) K c.serve-served.result _ c.serve-served.new.server _ c.serve-served.ensures.ends in
    let owing : K.owing c.keeper-1.given.0 ≡ true = ap K.owing (c.keeper-1.given.1 (sym e.1.1)) ∙ sym c.is_owing-owing.ensures ∙ c.if-owing.true in
    (λ e. owing, λ h. refl)

pub returns-in-Ok-served-clause-ends : goal.returns-in-Ok-served-clause-ends
returns-in-Ok-served-clause-ends g c =
    let K = g.K.Keeper in
    let X = ScriptServer g.row.K.Denot in
    let y = c.serve-served.new.server in
    let ending = Ok tt in
    let e = server_ends {X = X} (λ s. s.system.now) (λ s. s.keeper.now) (λ s. s.system.ghost_name) (λ s. s.keeper.ghost_name) K ending _ y _ c.in-Ok-served.ensures.ends in
    let kept = c.keeper-1.given.1 (sym e.1.1) in
    let last = c.system-2-1.given.1 (sym e.1.0) in
    let ends = script_ends K ending _ y.system.now c.system-2-1.given.0 c.args.keeper.now y.keeper.now c.keeper-1.given.0 _ last kept e.0 in
    let owing : K.owing c.keeper-1.given.0 ≡ false = ap K.owing kept ∙ sym c.is_owing-owing.ensures ∙ c.if-owing.false in
    (owing, ends)

pub returns-in-Ok-served-clause-journal : goal.returns-in-Ok-served-clause-journal
returns-in-Ok-served-clause-journal g c =
    let K = g.K.Keeper in
    let X = ScriptServer g.row.K.Denot in
    let e = server_ends {X = X} (λ s. s.system.now) (λ s. s.keeper.now) (λ s. s.system.ghost_name) (λ s. s.keeper.ghost_name) K (Ok tt) _ c.serve-served.new.server _ c.in-Ok-served.ensures.ends in
    let owing : K.owing c.keeper-1.given.0 ≡ false = ap K.owing (c.keeper-1.given.1 (sym e.1.1)) ∙ sym c.is_owing-owing.ensures ∙ c.if-owing.false in
    (λ e. absurd (no-fault _ script_faults.Journal _ refl e), λ h. never-both (K.owing c.keeper-1.given.0) h owing)

pub returns-clause-ends : goal.returns-clause-ends
returns-clause-ends g c =
    let K = g.K.Keeper in
    let X = ScriptServer g.row.K.Denot in
    let y = c.serve-served.new.server in
    let ending = Err c.in-Err.fault in
    let e = server_ends {X = X} (λ s. s.system.now) (λ s. s.keeper.now) (λ s. s.system.ghost_name) (λ s. s.keeper.ghost_name) K ending _ y _ c.in-Err.ensures.ends in
    let kept = c.keeper-1.given.1 (sym e.1.1) in
    let last = c.system-2-1.given.1 (sym e.1.0) in
    let ends = script_ends K ending _ y.system.now c.system-2-1.given.0 c.args.keeper.now y.keeper.now c.keeper-1.given.0 _ last kept e.0 in
    let owing : K.owing c.keeper-1.given.0 ≡ false = ap K.owing kept ∙ sym c.is_owing-owing.ensures ∙ c.if-owing.false in
    (owing, c.system-2-1.given.0, ends)

pub returns-clause-write : goal.returns-clause-write
returns-clause-write g c =
    let K = g.K.Keeper in
    let X = ScriptServer g.row.K.Denot in
    let e = server_ends {X = X} (λ s. s.system.now) (λ s. s.keeper.now) (λ s. s.system.ghost_name) (λ s. s.keeper.ghost_name) K (Err c.in-Err.fault) _ c.serve-served.new.server _ c.in-Err.ensures.ends in
    let owing : K.owing c.keeper-1.given.0 ≡ false = ap K.owing (c.keeper-1.given.1 (sym e.1.1)) ∙ sym c.is_owing-owing.ensures ∙ c.if-owing.false in (
      λ e. (c.in-Err.ensures.write.0 (ap Err (session-once c.in-Err.fault faults.Write _ refl e)), owing),
      λ h. ap (λ f. Err (script_faults.Session f)) (fault-once c.in-Err.fault faults.Write _ refl (c.in-Err.ensures.write.1 h.0)),
    )

pub returns-clause-journal : goal.returns-clause-journal
returns-clause-journal g c =
    let K = g.K.Keeper in
    let X = ScriptServer g.row.K.Denot in
    let e = server_ends {X = X} (λ s. s.system.now) (λ s. s.keeper.now) (λ s. s.system.ghost_name) (λ s. s.keeper.ghost_name) K (Err c.in-Err.fault) _ c.serve-served.new.server _ c.in-Err.ensures.ends in
    let owing : K.owing c.keeper-1.given.0 ≡ false = ap K.owing (c.keeper-1.given.1 (sym e.1.1)) ∙ sym c.is_owing-owing.ensures ∙ c.if-owing.false in
    (λ e. absurd (no-journal c.in-Err.fault _ refl e), λ h. never-both (K.owing c.keeper-1.given.0) h owing)
