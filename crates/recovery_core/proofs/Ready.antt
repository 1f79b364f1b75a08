-- A folder that is made ready.
use Rattle.std.proofs.Common.{◌≡◌, ℕ, ◌+◌, ◌-◌, ◌≤◌, None, Some, Option, IfSome, List, [], length, take, refl, subst, sym, ◌∙◌, ap, arith, length-append}
use Rattle.std.proofs.lemmas.List.{length-take-le}
use Rattle.std.proofs.lemmas.List.Elements.{All-contains}
use Rattle.folder_core.specs.FileNames.{piece}
use Rattle.folder_core.specs.Disk.{folder_synced}
use Rattle.folder_core.specs.Restoring.{HasNone}
use Rattle.folder_core.specs.Serving.{starting, serving, on, begun, NamesNone, Reaches}
use Rattle.folder_core.specs.Calls.{TextState, Moves, AreNamed, IsFoundAt, found, MayBegin, first_piece}
use Rattle.folder_core.proofs.Outlives.{told_outlives}
use Rattle.folder_core.proofs.Found.{restores_one}
use Rattle.recovery_core.specs.Recovered.{Clears, GoesOnFrom}
use Rattle.folder_core.proofs.EndOfJournal.{begun_end}
use Rattle.folder_core.proofs.Moving.{moves_then, moved_has, moved_more}

-- what is known of the state that a start finds
pub record Known (IsDumpOf : List (List ℕ) → List (List ℕ) → Type 0) (points : List ℕ) (point resumes at : ℕ) (s : TextState) : Type 0 where
  pub reached : Reaches IsDumpOf s
  pub found : IsFoundAt point resumes (at - point) s
  pub named : AreNamed piece s points

-- it starts with this journal, and no piece stands at its end or behind it
record IsReady (point resumes at : ℕ) (s t : TextState) : Type 0 where
  starts : t.phase ≡ starting
  base_is : t.base ≡ point
  resumes_is : t.resumes ≡ resumes
  journal_is : t.journal ≡ take at s.journal
  same_told : t.told ≡ s.told
  clear : (p : ℕ) → at ≤ p → NamesNone t.disk (piece p)

module _ (IsDumpOf : List (List ℕ) → List (List ℕ) → Type 0) (none : IsDumpOf [] []) (points : List ℕ) (point resumes at : ℕ) (under : point ≤ at) where
  -- the journal has what was found, and that has all that was told
  counts : (s : TextState) → Known IsDumpOf points point resumes at s → (at ≤ length s.journal) × (s.told ≤ at)
  counts s k =
      let f = k.found in
      let r = told_outlives IsDumpOf none s k.reached f.over in
      let one = restores_one s.disk r.point point r.resumes resumes r.base f.base r.behind f.behind r.restores f.restores in
      let p = one.0 in
      let lines = ap length one.3 in
      let count = f.count_is in
      let within = r.within in
      let told = r.all_told in
      let size = ap length r.journal_is ∙ length-append (take r.point s.journal) _ in
      let more = length-append r.behind r.rest in
      let front = length-take-le r.point s.journal within in
      (omega arith, omega arith)

  ready : (s t u v : TextState) → Known IsDumpOf points point resumes at s → t ≡ found point resumes (at - point) s → Clears at points t u → v ≡ on (folder_synced u.disk) u → IsReady point resumes at s v
  ready s t u v k is c synced =
      let to_at : point + (at - point) ≡ at = omega arith in
      subst (IsReady point resumes at s) (sym synced) (record {
        starts = c.starts;
        base_is = c.same_base.0 ∙ ap (λ x. x.base) is;
        resumes_is = c.same_base.1 ∙ ap (λ x. x.resumes) is;
        journal_is = c.journal_is ∙ (ap (λ x. x.journal) is ∙ ap (λ n. take n s.journal) to_at);
        same_told = c.same_told ∙ ap (λ x. x.told) is;
        clear = λ p le. (gone p le (s.disk.now (piece p)) refl, refl);
      })
    where
      gone : (p : ℕ) → at ≤ p → (o : Option ℕ) → s.disk.now (piece p) ≡ o → HasNone u.disk (piece p)
      gone p le None e = c.no_more p (subst (λ (x : TextState). HasNone x.disk (piece p)) (sym is) e)
      gone p le (Some n) e = All-contains (λ (q : ℕ). at ≤ q → HasNone u.disk (piece q)) points p c.gone ((k.named p).0 (n, e)) le

  begins : (s v : TextState) → Known IsDumpOf points point resumes at s → IsReady point resumes at s v → MayBegin v
  begins s v k r =
      let (long, told) = counts s k in
      let size = ap length r.journal_is ∙ length-take-le at s.journal long in
      first_piece r.starts (λ p le. r.clear p (omega arith))

  goes_on : (s v w : TextState) → Known IsDumpOf points point resumes at s → IsReady point resumes at s v → w ≡ begun v → GoesOnFrom point resumes at s w
  goes_on s v w k r is =
      let (long, told) = counts s k in
      let size : length v.journal ≡ at = ap length r.journal_is ∙ length-take-le at s.journal long in
      subst (GoesOnFrom point resumes at s) (sym is) (record {
        goes_on = ap (λ n. serving n None) size;
        no_part = begun_end v (begun v) refl;
        base_is = r.base_is;
        resumes_is = r.resumes_is;
        journal_is = r.journal_is;
        count_is = size;
        same_told = r.same_told;
        all_told = told;
      })

  -- ---- where the state is known
  module _ (o p q r : Option TextState) (known : IfSome o (Known IsDumpOf points point resumes at)) (kept : Moves (λ s t. t ≡ found point resumes (at - point) s) o p) (cleared : Moves (Clears at points) p q) (synced : Moves (λ s t. t ≡ on (folder_synced s.disk) s) q r) where
    moved_ready : Moves (IsReady point resumes at) o r
    moved_ready = by o known kept
      where
        by : (x : Option TextState) → IfSome x (Known IsDumpOf points point resumes at) → Moves (λ s t. t ≡ found point resumes (at - point) s) x p → Moves (IsReady point resumes at) x r
        by None k a =
            let none_q : q ≡ None = subst (λ (x : Option TextState). Moves (Clears at points) x q) a cleared in
            subst (λ (x : Option TextState). Moves (λ s t. t ≡ on (folder_synced s.disk) s) x r) none_q synced
        by (Some s) k (t, is, a) =
            let (u, is', c) = subst (λ (x : Option TextState). Moves (Clears at points) x q) is cleared in
            let (v, is'', d) = subst (λ (x : Option TextState). Moves (λ s t. t ≡ on (folder_synced s.disk) s) x r) is' synced in
            (v, is'', ready s t u v k a c d)

    pub may_begin : IfSome r MayBegin
    may_begin = moved_has (IsReady point resumes at) (Known IsDumpOf points point resumes at) MayBegin (λ s v k a. begins s v k a) o r known moved_ready

    pub is_begun : (z : Option TextState) → Moves (λ s t. t ≡ begun s) r z → Moves (GoesOnFrom point resumes at) o z
    is_begun z moved =
        moves_then (λ s v. Known IsDumpOf points point resumes at s × IsReady point resumes at s v) (λ s t. t ≡ begun s) (GoesOnFrom point resumes at) (λ s v w a b. goes_on s v w a.0 a.1 b) o r z
        (moved_more (IsReady point resumes at) (λ s v. Known IsDumpOf points point resumes at s × IsReady point resumes at s v) (Known IsDumpOf points point resumes at) (λ s v k a. (k, a)) o r known moved_ready) moved

-- what is known, where the state is
pub is_known : (IsDumpOf : List (List ℕ) → List (List ℕ) → Type 0) (points : List ℕ) (point resumes at : ℕ) (o : Option TextState) → IfSome o (Reaches IsDumpOf) → IfSome o (IsFoundAt point resumes (at - point)) → IfSome o (λ s. AreNamed piece s points) → IfSome o (Known IsDumpOf points point resumes at)
is_known IsDumpOf points point resumes at None reached f named = tt
is_known IsDumpOf points point resumes at (Some s) reached f named = record { reached = reached; found = f; named = named }
