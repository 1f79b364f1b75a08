-- What stands while a server starts and serves: dumps, and the pieces behind them.
use Rattle.std.proofs.Common.{◌≡◌, ℕ, ◌+◌, ◌≤◌, ◌<◌, ◌⊎◌, Option, Some, None, List, [], ◌∷◌, ◌++◌, length, take, drop, All, refl, sym, ap, ◌∙◌, subst, ⊎_elim, arith, take-append-drop, append_assoc, length-append, ◌-◌}
use Rattle.std.proofs.lemmas.List.{take_all, drop_at, drop-drop, length-take-le}
use Rattle.std.proofs.lemmas.List.Elements.{All-contains}
use Rattle.folder_core.specs.FileNames.{dump}
use Rattle.folder_core.specs.Disk.{File, Disk, Is, named, CrashLeaves}
use Rattle.folder_core.specs.Restoring.{Has, Joins, IsNewest, Restores, behind_dump, from_first}
use Rattle.folder_core.specs.Serving.{ServerState, IsRestored}
use Rattle.folder_core.proofs.Chains.{Chain, Leaves, Outlasts, chain_outlasts}
use Rattle.folder_core.proofs.Births.{AreBorn, same_there}

module _ {L : Type 0} (IsDumpOf : List L → List L → Type 0) where
  -- this file is the dump of what the first p changes leave, all of it on the disk; r is the piece with which it
  -- resumes, and the changes are told
  pub record IsDump (disk : Disk L) (journal : List L) (told p r number : ℕ) : Type 0 where
    pub file : File L
    pub is : Is disk number file
    pub lines : IsDumpOf (take p journal) file.lines
    pub synced : file.synced ≡ length file.lines
    pub resumes : file.resumes ≡ r
    pub all_told : p ≤ told

  abbrev pub Dumps : Disk L → List L → ℕ → ℕ → ℕ → Option ℕ → Type 0
  Dumps disk journal told p r file = (number : ℕ) × (file ≡ Some number) × IsDump disk journal told p r number

  -- the newest dump that is on the disk, or none
  pub data Base (disk : Disk L) (journal : List L) (told : ℕ) : ℕ → ℕ → Type 0 where
    no_dump : All (λ (file : Option ℕ). file ≡ None) (named disk (dump 0)) → Base disk journal told 0 0
    a_dump : (p r : ℕ) → All (Dumps disk journal told p r) (named disk (dump p)) → Base disk journal told p r

  -- a later one may be there, if a capture is made
  abbrev pub Later : Disk L → List L → ℕ → Option ℕ → ℕ → ℕ → Option ℕ → Type 0
  Later disk journal told capture first p file = (file ≡ None) ⊎ ((capture ≡ Some p) × Dumps disk journal told p first file)

  pub record Stands (disk : Disk L) (journal : List L) (told base resumes : ℕ) (capture : Option ℕ) (first : ℕ) (End : ℕ → List L → Type 0) : Type 0 where
    pub born : AreBorn disk
    pub within : told ≤ length journal
    pub base_within : base ≤ length journal
    pub resumes_within : resumes ≤ base
    pub base_is : Base disk journal told base resumes
    pub later : (p : ℕ) → base < p → All (Later disk journal told capture first p) (named disk (dump p))
    pub chain : Chain disk told End resumes (drop resumes journal)
    pub captured : (p : ℕ) → capture ≡ Some p → (base < p) × (p ≤ length journal) × (resumes ≤ first) × (first ≤ p) × Chain disk told End first (drop first journal)

  -- ---- what a start finds
  pub record IsFound (s : ServerState L) : Type 0 where
    pub point : ℕ
    pub resumes : ℕ
    pub base : List L
    pub skipped : List L
    pub behind : List L
    pub rest : List L
    pub restores : Restores s.disk point resumes base behind
    pub joins : Joins s.disk resumes (skipped ++ behind)
    pub base_is : IsDumpOf (take point s.journal) base
    pub point_is : resumes + length skipped ≡ point
    pub journal_is : drop resumes s.journal ≡ (skipped ++ behind) ++ rest
    pub within : point ≤ length s.journal
    pub point_told : point ≤ s.told
    pub all_told : s.told ≤ point + length behind

  -- what is found is restored
  pub found_restored : (s : ServerState L) → IsFound s → IsRestored IsDumpOf s
  found_restored s f =
      let parts : drop f.resumes s.journal ≡ f.skipped ++ (f.behind ++ f.rest) = f.journal_is ∙ append_assoc f.skipped f.behind f.rest in
      let past : drop f.point s.journal ≡ f.behind ++ f.rest =
      ap (λ n. drop n s.journal) (sym f.point_is) ∙ (sym (drop-drop (length f.skipped) f.resumes s.journal) ∙ (ap (drop (length f.skipped)) parts ∙ drop_at f.skipped (f.behind ++ f.rest) (length f.skipped) refl)) in
      record {
        point = f.point;
        resumes = f.resumes;
        base = f.base;
        behind = f.behind;
        rest = f.rest;
        restores = f.restores;
        base_is = f.base_is;
        journal_is = sym (take-append-drop f.point s.journal) ∙ ap (λ z. take f.point s.journal ++ z) past;
        within = f.within;
        all_told = f.all_told;
      }

  no_lines : (lines : List L) → 0 + length lines ≡ 0 → lines ≡ []
  no_lines [] e = refl
  no_lines (x ∷ xs) e = absurd (omega arith)

  -- ---- a crash
  module _ (disk left : Disk L) (may : CrashLeaves disk left) (journal : List L) where
    -- a dump is there whole
    dump_left : (told p r : ℕ) → Dumps disk journal told p r (left.now (dump p)) → (file : File L) × Has left (dump p) file × (IsDumpOf (take p journal) file.lines) × (file.resumes ≡ r)
    dump_left told p r d =
        let f = may.files d.0 d.2.file d.2.is in
        let c = f.2 in
        let synced = c.synced in
        let all = d.2.synced in
        (f.0, record { number = d.0; named = d.1; is = f.1 }, subst (IsDumpOf (take p journal)) (sym (c.lines ∙ take_all c.count d.2.file.lines (omega arith))) d.2.lines, c.resumes ∙ d.2.resumes)

    -- what is restored behind a point
    restored_at : (told p r : ℕ) (base : List L) → r ≤ p → p ≤ length journal → p ≤ told → IsDumpOf (take p journal) base
        → (l : Leaves disk told left r (drop r journal))
        → ((skipped behind : List L) → Joins left r (skipped ++ behind) → r + length skipped ≡ p → Restores left p r base behind)
        → (s : ServerState L) → s.disk ≡ left → s.journal ≡ journal → s.told ≡ told → IsFound s
    restored_at told p r base r_within within p_told base_is l restores s on same told_is =
        let lines : List L = l.behind in
        let all = l.all_told in
        let parts : lines ≡ take (p - r) lines ++ drop (p - r) lines = sym (take-append-drop (p - r) lines) in
        let size : length (take (p - r) lines) ≡ p - r = length-take-le (p - r) lines (omega arith) in
        let joins : Joins left r (take (p - r) lines ++ drop (p - r) lines) = subst (Joins left r) parts l.joins in
        let sizes : length (take (p - r) lines ++ drop (p - r) lines) ≡ length lines = ap length (sym parts) in
        let both = length-append (take (p - r) lines) (drop (p - r) lines) in
        record {
          point = p;
          resumes = r;
          base = base;
          skipped = take (p - r) lines;
          behind = drop (p - r) lines;
          rest = l.rest;
          restores = subst (λ d. Restores d p r base (drop (p - r) lines)) (sym on) (restores (take (p - r) lines) (drop (p - r) lines) joins (omega arith));
          joins = subst (λ d. Joins d r (take (p - r) lines ++ drop (p - r) lines)) (sym on) joins;
          base_is = subst (λ j. IsDumpOf (take p j) base) (sym same) base_is;
          point_is = omega arith;
          journal_is = ap (drop r) same ∙ (l.front ∙ ap (λ z. z ++ l.rest) parts);
          within = (let a = ap length same in omega arith);
          point_told = (let a = told_is in omega arith);
          all_told = (let a = told_is in omega arith);
        }

    -- where no later dump is there
    at_base : (told base resumes first : ℕ) (capture : Option ℕ) (End : ℕ → List L → Type 0) → Outlasts disk told left End → IsDumpOf [] [] → Stands disk journal told base resumes capture first End
        → IsNewest left base
        → (s : ServerState L) → s.disk ≡ left → s.journal ≡ journal → s.told ≡ told → IsFound s
    at_base told base resumes first capture End outlasts none_dumped st newest s on same told_is =
        go base resumes st.base_is (chain_outlasts disk told left may End outlasts resumes (drop resumes journal) st.chain) st.resumes_within st.base_within newest
      where
        go : (b r : ℕ) → Base disk journal told b r → Leaves disk told left r (drop r journal) → r ≤ b → b ≤ length journal → IsNewest left b → IsFound s
        go _ _ (no_dump none) l r_within within newest' =
            restored_at told 0 0 [] (omega arith) within (omega arith) none_dumped l
            (λ skipped behind joins size. subst (Restores left 0 0 []) (ap (λ z. z ++ behind) (no_lines skipped size))
            (from_first (skipped ++ behind) (All-contains (λ (file : Option ℕ). file ≡ None) (named disk (dump 0)) (left.now (dump 0)) none (may.names (dump 0))) newest' joins))
            s on same told_is
        go _ _ (a_dump p r all) l r_within within newest' =
            let d = dump_left told p r (All-contains (Dumps disk journal told p r) (named disk (dump p)) (left.now (dump p)) all (may.names (dump p))) in
            let is = All-contains (Dumps disk journal told p r) (named disk (dump p)) (left.now (dump p)) all (may.names (dump p)) in
            restored_at told p r d.0.lines r_within within is.2.all_told d.2 l
            (λ skipped behind joins size. subst (λ k. Restores left p k d.0.lines behind) d.3
            (behind_dump p d.0 skipped behind d.1 newest' (subst (λ k. Joins left k (skipped ++ behind)) (sym d.3) joins) (ap (λ k. k + length skipped) d.3 ∙ size)))
            s on same told_is

    pub crash_finds : (told base resumes first : ℕ) (capture : Option ℕ) (End : ℕ → List L → Type 0) → Outlasts disk told left End → IsDumpOf [] [] → Stands disk journal told base resumes capture first End
        → (s : ServerState L) → s.disk ≡ left → s.journal ≡ journal → s.told ≡ told → IsFound s
    crash_finds told base resumes first None End outlasts none_dumped st s on same told_is =
        at_base told base resumes first None End outlasts none_dumped st
        (λ p above. ⊎_elim (λ e. e) (λ (t : (None ≡ Some p) × Dumps disk journal told p first (left.now (dump p))). absurd (let c = t.0 in cc))
        (All-contains (Later disk journal told None first p) (named disk (dump p)) (left.now (dump p)) (st.later p above) (may.names (dump p))))
        s on same told_is
    crash_finds told base resumes first (Some c) End outlasts none_dumped st s on same told_is =
        let cap = st.captured c refl in
        ⊎_elim
        (λ (none : left.now (dump c) ≡ None). at_base told base resumes first (Some c) End outlasts none_dumped st
        (λ p above. ⊎_elim (λ e. e) (λ (t : (Some c ≡ Some p) × Dumps disk journal told p first (left.now (dump p))). subst (λ k. left.now (dump k) ≡ None) (same_there c p t.0) none)
        (All-contains (Later disk journal told (Some c) first p) (named disk (dump p)) (left.now (dump p)) (st.later p above) (may.names (dump p))))
        s on same told_is)
        (λ (t : (Some c ≡ Some c) × Dumps disk journal told c first (left.now (dump c))).
        let d = dump_left told c first t.1 in
        let l = chain_outlasts disk told left may End outlasts first (drop first journal) cap.4 in
        restored_at told c first d.0.lines cap.3 cap.1 t.1.2.all_told d.2 l
        (λ skipped behind joins size. subst (λ k. Restores left c k d.0.lines behind) d.3
        (behind_dump c d.0 skipped behind d.1
        (λ p above. ⊎_elim (λ e. e) (λ (u : (Some c ≡ Some p) × Dumps disk journal told p first (left.now (dump p))). absurd (let h = same_there c p u.0 in let z : ⊥ = omega arith in z))
        (All-contains (Later disk journal told (Some c) first p) (named disk (dump p)) (left.now (dump p)) (st.later p (omega arith)) (may.names (dump p))))
        (subst (λ k. Joins left k (skipped ++ behind)) (sym d.3) joins) (ap (λ k. k + length skipped) d.3 ∙ size)))
        s on same told_is)
        (All-contains (Later disk journal told (Some c) first c) (named disk (dump c)) (left.now (dump c)) (st.later c cap.0) (may.names (dump c)))
