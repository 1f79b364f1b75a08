-- How a dump comes in the place of the one before it: it has its name, and then that is on the disk.
use Rattle.std.proofs.Common.{◌≡◌, ◌≢◌, ℕ, ◌≤◌, ◌<◌, if◌then◌else◌, Option, Some, None, List, [], ◌∷◌, length, take, drop, All, refl, sym, ap, ◌∙◌, subst, inl, inr, ⊎_elim, arith, eq-eqb, ne_eqb}
use Rattle.std.proofs.lemmas.List.{drop_at, drop-drop}
use Rattle.std.proofs.lemmas.List.Elements.{All-nil, All-cons, All-head, All-weaker}
use native.Mathlib.Decide.{ℕ_discrete}
use Rattle.folder_core.specs.FileNames.{dump}
use Rattle.folder_core.specs.Disk.{File, Disk, Is, named, whole_file, put}
use Rattle.folder_core.specs.Serving.{ServerState}
use Rattle.folder_core.proofs.Chains.{IsLast, Chain}
use Rattle.folder_core.proofs.Births.{same_there, put_born, longer_has, is_new}
use Rattle.folder_core.proofs.Steps.{chain_stays, last_stays, chain_first, last_chain}
use Rattle.folder_core.proofs.Calls.{Anywhere, put_stays}
use Rattle.folder_core.proofs.Standing.{Dumps, Base, no_dump, a_dump, Later, Stands}

module _ {L : Type 0} (IsDumpOf : List L → List L → Type 0) where
  -- ---- the dump has its name
  module _ (disk : Disk L) (c resumes : ℕ) (lines : List L) where
    abbrev after : Disk L
    after = put (dump c) resumes lines disk

    put_elsewhere : (p : ℕ) → p ≢ c → (P : Option ℕ → Type 0) → All P (named disk (dump p)) → All P (named after (dump p))
    put_elsewhere p other P all =
        subst (λ b. All P ((if b then Some (length disk.files) else disk.now (dump p)) ∷ (if b then named disk (dump p) else disk.earlier (dump p)))) (sym (ne_eqb p c other)) all

    put_here : (P : Option ℕ → Type 0) → P (Some (length disk.files)) → All P (named disk (dump c)) → All P (named after (dump c))
    put_here P now all =
        subst (λ b. All P ((if b then Some (length disk.files) else disk.now (dump c)) ∷ (if b then named disk (dump c) else disk.earlier (dump c)))) (sym (eq-eqb c c refl))
        (All-cons P (Some (length disk.files)) (named disk (dump c)) now all)

  -- a dump is one where the files are there
  same_dump : (before later : Disk L) (journal : List L) (told : ℕ) → ((number : ℕ) (file : File L) → Is before number file → Is later number file) → (p r : ℕ) (file : Option ℕ) → Dumps IsDumpOf before journal told p r file → Dumps IsDumpOf later journal told p r file
  same_dump before later journal told files p r file d = (d.0, d.1, record { file = d.2.file; is = files d.0 d.2.file d.2.is; lines = d.2.lines; synced = d.2.synced; resumes = d.2.resumes; all_told = d.2.all_told })

  put_base : (disk : Disk L) (journal lines : List L) (told c resumes b r : ℕ) → b < c → Base IsDumpOf disk journal told b r → Base IsDumpOf (put (dump c) resumes lines disk) journal told b r
  put_base disk journal lines told c resumes _ _ below (no_dump none) = no_dump (put_elsewhere disk c resumes lines 0 (λ e. omega arith) (λ (file : Option ℕ). file ≡ None) none)
  put_base disk journal lines told c resumes _ _ below (a_dump p r all) =
      let after : Disk L = put (dump c) resumes lines disk in
      a_dump p r (put_elsewhere disk c resumes lines p (λ e. omega arith) (Dumps IsDumpOf after journal told p r)
      (All-weaker (Dumps IsDumpOf disk journal told p r) (Dumps IsDumpOf after journal told p r) (same_dump disk after journal told (longer_has (whole_file (dump c) resumes lines) disk) p r) (named disk (dump p)) all))

  pub has_name : (s : ServerState L) (first' c : ℕ) (lines : List L) → s.base < c → first' ≤ c → c ≤ s.told → IsDumpOf (take c s.journal) lines
      → Stands IsDumpOf s.disk s.journal s.told s.base s.resumes None first' (IsLast s.disk s.told first')
      → Stands IsDumpOf (put (dump c) first' lines s.disk) s.journal s.told s.base s.resumes (Some c) first' (IsLast (put (dump c) first' lines s.disk) s.told first')
  has_name s first' c lines newer starts told dumped st =
      let after : Disk L = put (dump c) first' lines s.disk in
      let stays = put_stays c first' lines s.disk in
      let low = chain_first s.disk s.told first' s.resumes (drop s.resumes s.journal) st.chain in
      let last = last_chain s.disk s.told first' s.resumes (drop s.resumes s.journal) st.chain in
      let rest : drop first' s.journal ≡ last.1 = ap (λ n. drop n s.journal) (sym last.3) ∙ (sym (drop-drop (length last.0) s.resumes s.journal) ∙ (ap (drop (length last.0)) last.2 ∙ drop_at last.0 last.1 (length last.0) refl)) in
      let within = st.within in
      let base_in = st.base_within in
      let resumes_in = st.resumes_within in
      let chain : Chain after s.told (IsLast after s.told first') s.resumes (drop s.resumes s.journal) =
      chain_stays s.told Anywhere s.disk after stays s.resumes (IsLast s.disk s.told first') (IsLast after s.told first') (λ m ls above e. last_stays s.told Anywhere s.disk after stays first' m ls (λ p low. tt) e)
      s.resumes (drop s.resumes s.journal) (omega arith) (λ p low high. tt) st.chain in
      let own : Chain s.disk s.told (IsLast s.disk s.told first') first' (drop first' s.journal) = subst (Chain s.disk s.told (IsLast s.disk s.told first') first') (sym rest) last.4 in
      record {
        born = put_born s.disk (dump c) first' lines st.born;
        within = st.within;
        base_within = st.base_within;
        resumes_within = st.resumes_within;
        base_is = put_base s.disk s.journal lines s.told c first' s.base s.resumes newer st.base_is;
        later = λ p above.
            let old = All-weaker (Later IsDumpOf s.disk s.journal s.told None first' p) (Later IsDumpOf after s.journal s.told (Some c) first' p) (λ file. ⊎_elim inl (λ (t : (None ≡ Some p) × Dumps IsDumpOf s.disk s.journal s.told p first' file). absurd (let h = t.0 in cc))) (named s.disk (dump p)) (st.later p above) in
            elim (ℕ_discrete p c) [
              | yes same ↦ subst (λ k. All (Later IsDumpOf after s.journal s.told (Some c) first' k) (named after (dump k))) (sym same)
                  (put_here s.disk c first' lines (Later IsDumpOf after s.journal s.told (Some c) first' c) (inr (refl, (length s.disk.files, refl, record { file = whole_file (dump c) first' lines; is = is_new (whole_file (dump c) first' lines) s.disk; lines = dumped; synced = refl; resumes = refl; all_told = told })))
                  (subst (λ k. All (Later IsDumpOf after s.journal s.told (Some c) first' k) (named s.disk (dump k))) same old))
              | no not ↦ put_elsewhere s.disk c first' lines p not (Later IsDumpOf after s.journal s.told (Some c) first' p) old
            ];
        chain = chain;
        captured = λ p same. subst (λ k. (s.base < k) × (k ≤ length s.journal) × (s.resumes ≤ first') × (first' ≤ k) × Chain after s.told (IsLast after s.told first') first' (drop first' s.journal)) (same_there c p same) (
          newer,
          omega arith,
          low,
          starts,
          chain_stays s.told Anywhere s.disk after stays s.resumes (IsLast s.disk s.told first') (IsLast after s.told first') (λ m ls above e. last_stays s.told Anywhere s.disk after stays first' m ls (λ q low. tt) e)
              first' (drop first' s.journal) low (λ q low high. tt) own,
        );
      }

  -- ---- the dump is on the disk
  pub settled : (s : ServerState L) (first' c number : ℕ) → s.disk.now (dump c) ≡ Some number → s.disk.earlier (dump c) ≡ []
      → Stands IsDumpOf s.disk s.journal s.told s.base s.resumes (Some c) first' (IsLast s.disk s.told first')
      → Stands IsDumpOf s.disk s.journal s.told c first' None first' (IsLast s.disk s.told first')
  settled s first' c number here none st =
      let cap = st.captured c refl in
      let now = All-head (Later IsDumpOf s.disk s.journal s.told (Some c) first' c) (s.disk.now (dump c)) (s.disk.earlier (dump c)) (st.later c cap.0) in
      let is_dump : Dumps IsDumpOf s.disk s.journal s.told c first' (s.disk.now (dump c)) = ⊎_elim (λ (e : s.disk.now (dump c) ≡ None). absurd (let clash : Some number ≡ None = sym here ∙ e in cc)) (λ (t : (Some c ≡ Some c) × Dumps IsDumpOf s.disk s.journal s.told c first' (s.disk.now (dump c))). t.1) now in
      let low = cap.0 in
      record {
        born = st.born;
        within = st.within;
        base_within = cap.1;
        resumes_within = cap.3;
        base_is = a_dump c first' (subst (λ (earlier : List (Option ℕ)). All (Dumps IsDumpOf s.disk s.journal s.told c first') (s.disk.now (dump c) ∷ earlier)) (sym none)
            (All-cons (Dumps IsDumpOf s.disk s.journal s.told c first') (s.disk.now (dump c)) [] is_dump (All-nil (Dumps IsDumpOf s.disk s.journal s.told c first'))));
        later = λ p above. All-weaker (Later IsDumpOf s.disk s.journal s.told (Some c) first' p) (Later IsDumpOf s.disk s.journal s.told None first' p)
            (λ file. ⊎_elim inl (λ (t : (Some c ≡ Some p) × Dumps IsDumpOf s.disk s.journal s.told p first' file). absurd (let h = same_there c p t.0 in let z : ⊥ = omega arith in z)))
            (named s.disk (dump p)) (st.later p (omega arith));
        chain = cap.4;
        captured = λ p is. absurd cc;
      }
