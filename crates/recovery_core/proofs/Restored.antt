-- What was read whole is restored.
use Rattle.std.proofs.Common.{◌≡◌, ℕ, ◌+◌, ◌-◌, ◌≤◌, None, Some, Option, IfSome, List, [], ◌∷◌, ◌++◌, length, take, drop, refl, subst, sym, ◌∙◌, ap, arith, take-append-drop, length-drop}
use Rattle.std.proofs.lemmas.List.{length-take-le}
use Rattle.base_core.specs.declared.limits.Limits.{Limits}
use Rattle.system_core.specs.World.{World}
use Rattle.system_core.specs.declared.machine.event.Entry.{Entry}
use Rattle.load_core.specs.Loading.{world_with}
use Rattle.folder_core.specs.FileNames.{piece}
use Rattle.folder_core.specs.Restoring.{Restores, Joins, behind_dump, from_first}
use Rattle.folder_core.specs.Calls.{TextState, AreNamed}
use Rattle.recovery_core.specs.declared.recovering.Read.{Read}
use Rattle.recovery_core.specs.Reading.{LoadsLines, ReadsBase, no_dump, a_dump, IsSound, IsFurther, IsReadUpTo, IsReadWhole}
use Rattle.recovery_core.specs.Recovered.{MakesCore}

-- what the base is: its lines, and that they are restored with those behind them
record Base (chunk : ℕ) (limits : Limits) (read : Read) (s : TextState) : Type 0 where
  lines : List (List ℕ)
  before : read.recovered.resumes ≤ read.recovered.point
  loads : LoadsLines limits [] lines read.recovered.system.journal
  world_is : read.recovered.system ≡ world_with chunk limits read.recovered.system.journal
  at_is : read.recovered.at ≡ read.recovered.resumes
  skips_is : read.skips ≡ read.recovered.point - read.recovered.resumes
  entered_is : read.entered ≡ 0
  restores : (skipped behind : List (List ℕ)) → Joins s.disk read.recovered.resumes (skipped ++ behind) → read.recovered.resumes + length skipped ≡ read.recovered.point
      → Restores s.disk read.recovered.point read.recovered.resumes lines behind

no_lines : (lines : List (List ℕ)) → 0 + length lines ≡ 0 → lines ≡ []
no_lines [] e = refl
no_lines (l ∷ ls) e = absurd (omega arith)

module _ (chunk : ℕ) (limits : Limits) where
  base_of : (read : Read) (s : TextState) → ReadsBase chunk limits read s → Base chunk limits read s
  base_of read s (no_dump none newest is) = subst (λ (r : Read). Base chunk limits r s) (sym is) (record {
    lines = [];
    before = (omega arith);
    loads = refl;
    world_is = refl;
    at_is = refl;
    skips_is = (omega arith);
    entered_is = refl;
    restores = λ skipped behind joins size. from_first behind none newest (subst (λ zs. Joins s.disk 0 (zs ++ behind)) (no_lines skipped size) joins);
  })
  base_of read s (a_dump point newest d) =
      let before = d.before in
      let p = d.point_is in
      let r = d.resumes_is in
      let a = d.at_is in
      let k = d.skips_is in
      record {
        lines = d.file.lines;
        before = (omega arith);
        loads = d.loads;
        world_is = d.world_is;
        at_is = (omega arith);
        skips_is = (omega arith);
        entered_is = d.entered_is;
        restores = λ skipped behind joins size.
            subst (λ q. Restores s.disk q read.recovered.resumes d.file.lines behind) (sym p)
            (subst (λ q. Restores s.disk point q d.file.lines behind) (sym r)
            (behind_dump point d.file skipped behind d.has newest (subst (λ q. Joins s.disk q (skipped ++ behind)) r joins) (omega arith)));
      }

  begun : (read : Read) (s : TextState) → Base chunk limits read s → IsReadUpTo read.recovered.system.journal read s
  begun read s b =
      let a = b.at_is in
      let k = b.skips_is in
      let e = b.entered_is in
      let none = length-drop {A = List ℕ} (read.recovered.point - read.recovered.resumes) [] in
      record {
        passed = [];
        joins = λ behind joins. subst (λ q. Joins s.disk q behind) a joins;
        at_is = (omega arith);
        before = b.before;
        skips_is = (omega arith);
        entered_is = (omega arith);
        loads = subst (λ zs. LoadsLines read.recovered.system.limits read.recovered.system.journal zs read.recovered.system.journal) (sym (no_lines (drop (read.recovered.point - read.recovered.resumes) []) (omega arith))) (loads_none read.recovered.system.journal);
      }
    where
      loads_none : (journal : List Entry) → LoadsLines read.recovered.system.limits journal [] journal
      loads_none [] = refl
      loads_none (x ∷ xs) = refl

  restored : (base new : Read) (s : TextState) → Base chunk limits base s → IsFurther base new → IsSound new → new.skips ≡ 0 → IsReadWhole base.recovered.system.journal new s → MakesCore chunk limits new.recovered s
  restored base new s b f sound none whole =
      let up = whole.up_to in
      let passed : List (List ℕ) = up.passed in
      let k : ℕ = new.recovered.point - new.recovered.resumes in
      let before = up.before in
      let skips = up.skips_is in
      let entered = up.entered_is in
      let at = sound.at_is in
      let p = f.point_is in
      let r = f.resumes_is in
      let size = length-drop k passed in
      let front : length (take k passed) ≡ k = length-take-le k passed (omega arith) in
      let parts : passed ≡ take k passed ++ drop k passed = sym (take-append-drop k passed) in
      let joins : Joins s.disk new.recovered.resumes (take k passed ++ drop k passed) = subst (Joins s.disk new.recovered.resumes) parts whole.joins in
      let limits_are : new.recovered.system.limits ≡ limits = ap (λ w. w.limits) f.world_is ∙ ap (λ w. w.limits) b.world_is in
      let then : World → World = λ (w : World). record w { journal = new.recovered.system.journal } in
      record {
        base = b.lines;
        behind = drop k passed;
        restores = subst (λ q. Restores s.disk q new.recovered.resumes b.lines (drop k passed)) (sym p)
            (subst (λ q. Restores s.disk base.recovered.point q b.lines (drop k passed)) (sym r)
            (b.restores (take k passed) (drop k passed) (subst (λ q. Joins s.disk q (take k passed ++ drop k passed)) r joins) (omega arith)));
        at_is = (omega arith);
        load = record {
          start = base.recovered.system.journal;
          loads_base = b.loads;
          loads_behind = subst (λ l. LoadsLines l base.recovered.system.journal (drop k passed) new.recovered.system.journal) limits_are up.loads;
        };
        world_is = f.world_is ∙ ap then b.world_is;
      }

  pub known_restored : (o : Option TextState) (points : List ℕ) (base new : Read) → IfSome o (ReadsBase chunk limits base) → IsFurther base new → IsSound new → new.skips ≡ 0
      → IfSome o (λ s. AreNamed piece s points → (start : List Entry) → IsReadUpTo start base s → IsReadWhole start new s)
      → IfSome o (λ s. AreNamed piece s points → MakesCore chunk limits new.recovered s)
  known_restored None points base new reads f sound none goes = tt
  known_restored (Some s) points base new reads f sound none goes = λ named.
      let b = base_of base s reads in
      restored base new s b f sound none (goes named base.recovered.system.journal (begun base s b))
