-- What was told outlives every crash.
use Rattle.std.proofs.Common.{◌≡◌, ◌≢◌, ℕ, ◌+◌, ◌≤◌, ◌<◌, ◌⊎◌, if◌then◌else◌, Option, Some, None, List, [], ◌∷◌, ◌++◌, length, take, drop, All, Contains, refl, sym, ap, ◌∙◌, subst, inl, inr, ⊎_elim, arith, append_assoc, length-append, length-drop, take-append-drop, eq-eqb, ne_eqb}
use Rattle.std.proofs.lemmas.List.{length-take-le, take-append-le, drop-append-le, take_at, drop_at}
use Rattle.std.proofs.lemmas.List.Elements.{All-nil, All-cons, All-contains, All-weaker, All-contains_itself}
use native.Mathlib.Decide.{ℕ_discrete}
use mathlib.Core.Option.{some-injective}
use Rattle.folder_core.specs.FileNames.{dump, piece}
use Rattle.folder_core.specs.Disk.{File, Disk, named, made, name_removed, WritesLines, CrashLeaves}
use Rattle.folder_core.specs.Restoring.{Has, no_piece, IsNewest, Restores, behind_dump, from_first}
use Rattle.folder_core.specs.Serving.{Phase, crashed, starting, serving, IsUp, ServerState, nothing_served, on, begun, HoldsUpTo, NamesNone, ServerStep, crashes, syncs, finds, clears, is_ready, enters, tells, begins, puts, settles, removes_piece, removes_dump, Reaches, at_first, next_step, ToldOutlives}
use Rattle.folder_core.proofs.Chains.{IsLast, IsEnd, IsBlank, Chain, ends, goes_on, last_outlasts, end_outlasts}
use Rattle.folder_core.proofs.Births.{AreBorn, empty_born, removed_born, made_born, synced_born, changed_born, crash_born}
use Rattle.folder_core.proofs.Steps.{Stays, HoldsTold, is_first, chain_stays, last_stays, end_stays, chain_first, told_chain, entered_chain}
use Rattle.folder_core.proofs.Calls.{Anywhere, removed_dump_stays, removed_piece_stays, synced_files, synced_names, synced_stays}
use Rattle.folder_core.proofs.Begun.{begun_chain, ready_chain}
use Rattle.folder_core.proofs.Found.{restores_one, IsSettled, joins_chain, crash_settles}
use Rattle.folder_core.proofs.Standing.{Dumps, Base, no_dump, a_dump, Later, Stands, IsFound, found_restored, crash_finds}
use Rattle.folder_core.proofs.Captures.{has_name, settled}
use Rattle.folder_core.proofs.Dumps.{DumpsStay, dumps_elsewhere, all_there, written_dumps, births_differ, none_named, made_piece_dumps}

module _ {L : Type 0} (IsDumpOf : List L → List L → Type 0) where
  module _ (n : ℕ) (before after : Disk L) (s : DumpsStay n before after) (journal : List L) (told : ℕ) where
    dump_stays : (p r : ℕ) → n ≤ p → (file : Option ℕ) → Contains (named before (dump p)) file → Dumps IsDumpOf before journal told p r file → Dumps IsDumpOf after journal told p r file
    dump_stays p r le file has d =
        let g = s.files p d.0 d.2.file le (subst (Contains (named before (dump p))) d.1 has) d.2.is in (
          d.0,
          d.1,
          record {
            file = g.0;
            is = g.1;
            lines = subst (IsDumpOf (take p journal)) (sym g.2.lines) d.2.lines;
            synced = g.2.whole d.2.synced ∙ sym (ap length g.2.lines);
            resumes = g.2.resumes ∙ d.2.resumes;
            all_told = d.2.all_told;
          },
        )

    all_stay : (p : ℕ) → n ≤ p → (P Q : Option ℕ → Type 0) → ((file : Option ℕ) → Contains (named before (dump p)) file → P file → Q file) → All P (named before (dump p)) → All Q (named after (dump p))
    all_stay p le P Q f all =
        All-weaker (Contains (named after (dump p))) Q (λ file has. let had = s.names p le file has in f file had (All-contains P (named before (dump p)) file all had)) (named after (dump p)) (All-contains_itself (named after (dump p)))

    base_stays : (b r : ℕ) → n ≤ b → Base IsDumpOf before journal told b r → Base IsDumpOf after journal told b r
    base_stays _ _ le (no_dump none) = no_dump (all_stay 0 le (λ (file : Option ℕ). file ≡ None) (λ (file : Option ℕ). file ≡ None) (λ file has e. e) none)
    base_stays _ _ le (a_dump p r all) = a_dump p r (all_stay p le (Dumps IsDumpOf before journal told p r) (Dumps IsDumpOf after journal told p r) (dump_stays p r le) all)

    later_stays : (capture : Option ℕ) (first' p : ℕ) → n ≤ p → All (Later IsDumpOf before journal told capture first' p) (named before (dump p)) → All (Later IsDumpOf after journal told capture first' p) (named after (dump p))
    later_stays capture first' p le all = all_stay p le (Later IsDumpOf before journal told capture first' p) (Later IsDumpOf after journal told capture first' p)
        (λ file has. ⊎_elim inl (λ (t : (capture ≡ Some p) × Dumps IsDumpOf before journal told p first' file). inr (t.0, dump_stays p first' le file has t.1))) all

  -- what stands goes on standing
  stands_stay : (at : ℕ → Type 0) (before after : Disk L) (journal : List L) (told base resumes : ℕ) (capture : Option ℕ) (first' : ℕ) (End End' : ℕ → List L → Type 0)
      → Stays at before after → DumpsStay base before after → AreBorn after → ((p : ℕ) → resumes ≤ p → p < length journal → at p)
      → ((m : ℕ) (lines : List L) → resumes ≤ m → End m lines → End' m lines)
      → Stands IsDumpOf before journal told base resumes capture first' End → Stands IsDumpOf after journal told base resumes capture first' End'
  stands_stay at before after journal told base resumes capture first' End End' s d born cover keeps st = record {
    born = born;
    within = st.within;
    base_within = st.base_within;
    resumes_within = st.resumes_within;
    base_is = base_stays base before after d journal told base resumes (omega arith) st.base_is;
    later = λ p above. later_stays base before after d journal told capture first' p (omega arith) (st.later p above);
    chain = (let len = length-drop resumes journal in let w = st.base_within in let v = st.resumes_within in
        chain_stays told at before after s resumes End End' keeps resumes (drop resumes journal) (omega arith) (λ p low high. cover p low (omega arith)) st.chain);
    captured = λ p is. let c = st.captured p is in let a = c.0 in let b = c.1 in let low = c.2 in let high = c.3 in let len = length-drop first' journal in
        (a, b, low, high, chain_stays told at before after s resumes End End' keeps first' (drop first' journal) (omega arith) (λ q low' high'. cover q (omega arith) (omega arith)) c.4);
  }

  -- ---- what holds in each phase
  abbrev InvOf : Phase → ServerState L → Type 0
  InvOf crashed s = AreBorn s.disk × IsSettled s.disk × IsFound IsDumpOf s
  InvOf starting s = Stands IsDumpOf s.disk s.journal s.told s.base s.resumes None 0 (IsEnd s.disk s.told)
  InvOf (serving first capture) s = Stands IsDumpOf s.disk s.journal s.told s.base s.resumes capture first (IsLast s.disk s.told first)

  -- a call that leaves pieces and dumps alone, in any phase in which it runs
  up_stays : (phase : Phase) (s : ServerState L) (after : Disk L) → IsUp phase → Stays Anywhere s.disk after → ((n : ℕ) → DumpsStay n s.disk after) → (AreBorn s.disk → AreBorn after) → InvOf phase s → InvOf phase (on after s)
  up_stays crashed s after up st d born inv = absurd up
  up_stays starting s after up st d born inv =
      stands_stay Anywhere s.disk after s.journal s.told s.base s.resumes None 0 (IsEnd s.disk s.told) (IsEnd after s.told) st (d s.base) (born inv.born) (λ p low high. tt)
      (λ m lines above e. end_stays s.told Anywhere s.disk after st m lines tt e) inv
  up_stays (serving first' capture) s after up st d born inv =
      stands_stay Anywhere s.disk after s.journal s.told s.base s.resumes capture first' (IsLast s.disk s.told first') (IsLast after s.told first') st (d s.base) (born inv.born) (λ p low high. tt)
      (λ m lines above e. last_stays s.told Anywhere s.disk after st first' m lines (λ p low. tt) e) inv

  -- ---- a journal that grows leaves its dumps what they are
  grown_dump : (disk : Disk L) (journal more : List L) (told p r : ℕ) → p ≤ length journal → (file : Option ℕ) → Dumps IsDumpOf disk journal told p r file → Dumps IsDumpOf disk (journal ++ more) told p r file
  grown_dump disk journal more told p r within file d =
      (d.0, d.1, record { file = d.2.file; is = d.2.is; lines = subst (λ front. IsDumpOf front d.2.file.lines) (sym (take-append-le p journal more within)) d.2.lines; synced = d.2.synced; resumes = d.2.resumes; all_told = d.2.all_told })

  grown_base : (disk : Disk L) (journal more : List L) (told b r : ℕ) → b ≤ length journal → Base IsDumpOf disk journal told b r → Base IsDumpOf disk (journal ++ more) told b r
  grown_base disk journal more told _ _ within (no_dump none) = no_dump none
  grown_base disk journal more told _ _ within (a_dump p r all) = a_dump p r (All-weaker (Dumps IsDumpOf disk journal told p r) (Dumps IsDumpOf disk (journal ++ more) told p r) (grown_dump disk journal more told p r within) (named disk (dump p)) all)

  entered : (s : ServerState L) (first' number : ℕ) (capture : Option ℕ) (lines : List L) (part : Option L) (after : Disk L) → s.disk.now (piece first') ≡ Some number → WritesLines number lines part s.disk after
      → Stands IsDumpOf s.disk s.journal s.told s.base s.resumes capture first' (IsLast s.disk s.told first')
      → Stands IsDumpOf after (s.journal ++ lines) s.told s.base s.resumes capture first' (IsLast after s.told first')
  entered s first' number capture lines part after here w st =
      let here_too = is_first (s.disk.now (piece first')) (s.disk.earlier (piece first')) (Some number) here in
      let d = written_dumps s.base number lines part s.disk after st.born w (λ p le had. absurd (let clash : dump p ≡ piece first' = births_differ s.disk st.born (dump p) (piece first') number had here_too in cc)) in
      let born = changed_born number w.file (record w.file { lines = w.file.lines ++ lines; part = part }) s.disk after w.wrote refl st.born in
      let len = length-append s.journal (lines) in
      let told_in = st.within in
      let base_in = st.base_within in
      let resumes_in = st.resumes_within in
      record {
        born = born;
        within = (omega arith);
        base_within = (omega arith);
        resumes_within = resumes_in;
        base_is = grown_base after s.journal (lines) s.told s.base s.resumes st.base_within (base_stays s.base s.disk after d s.journal s.told s.base s.resumes (omega arith) st.base_is);
        later = λ p above. All-weaker (Later IsDumpOf after s.journal s.told capture first' p) (Later IsDumpOf after (s.journal ++ lines) s.told capture first' p)
            (λ file. ⊎_elim inl (λ (t : (capture ≡ Some p) × Dumps IsDumpOf after s.journal s.told p first' file). inr (t.0, grown_dump after s.journal (lines) s.told p first' (st.captured p t.0).1 file t.1)))
            (named after (dump p)) (later_stays s.base s.disk after d s.journal s.told capture first' p (omega arith) (st.later p above));
        chain = subst (Chain after s.told (IsLast after s.told first') s.resumes) (sym (drop-append-le s.resumes s.journal (lines) (omega arith)))
            (entered_chain s.disk after s.told first' number lines part st.born here w s.resumes (drop s.resumes s.journal) st.chain);
        captured = λ p is. let c = st.captured p is in let a = c.0 in let b = c.1 in let low = c.2 in let high = c.3 in (
          a,
          omega arith,
          low,
          high,
          subst (Chain after s.told (IsLast after s.told first') first') (sym (drop-append-le first' s.journal (lines) (omega arith)))
              (entered_chain s.disk after s.told first' number lines part st.born here w first' (drop first' s.journal) c.4),
        );
      }

  -- ---- the journal goes on in a new piece
  new_piece : (s : ServerState L) (End : ℕ → List L → Type 0) (first' : ℕ)
      → Chain (begun s).disk s.told (IsLast (begun s).disk s.told (length s.journal)) s.resumes (drop s.resumes s.journal)
      → Stands IsDumpOf s.disk s.journal s.told s.base s.resumes None first' End
      → Stands IsDumpOf (begun s).disk s.journal s.told s.base s.resumes None (length s.journal) (IsLast (begun s).disk s.told (length s.journal))
  new_piece s End first' chain st =
      let point : ℕ = length s.journal in
      let after : Disk L = made (piece point) point s.disk in
      let d = made_piece_dumps s.base point s.disk in
      record {
        born = made_born s.disk (piece point) point st.born;
        within = st.within;
        base_within = st.base_within;
        resumes_within = st.resumes_within;
        base_is = base_stays s.base s.disk after d s.journal s.told s.base s.resumes (omega arith) st.base_is;
        later = λ p high. All-weaker (Later IsDumpOf after s.journal s.told None first' p) (Later IsDumpOf after s.journal s.told None point p)
            (λ file. ⊎_elim inl (λ (t : (None ≡ Some p) × Dumps IsDumpOf after s.journal s.told p first' file). absurd (let c = t.0 in cc)))
            (named after (dump p)) (later_stays s.base s.disk after d s.journal s.told None first' p (omega arith) (st.later p high));
        chain = chain;
        captured = λ p is. absurd cc;
      }

  began : (s : ServerState L) (first' : ℕ) → first' < length s.journal → Stands IsDumpOf s.disk s.journal s.told s.base s.resumes None first' (IsLast s.disk s.told first')
      → Stands IsDumpOf (begun s).disk s.journal s.told s.base s.resumes None (length s.journal) (IsLast (begun s).disk s.told (length s.journal))
  began s first' above st =
      let len = length-drop s.resumes s.journal in
      let base_in = st.base_within in
      let resumes_in = st.resumes_within in
      new_piece s (IsLast s.disk s.told first') first' (begun_chain s.disk (length s.journal) s.told first' s.resumes (drop s.resumes s.journal) (omega arith) above st.within st.chain) st

  ready : (s : ServerState L) → ((point : ℕ) → length s.journal ≤ point → NamesNone s.disk (piece point)) → Stands IsDumpOf s.disk s.journal s.told s.base s.resumes None 0 (IsEnd s.disk s.told)
      → Stands IsDumpOf (begun s).disk s.journal s.told s.base s.resumes None (length s.journal) (IsLast (begun s).disk s.told (length s.journal))
  ready s none st =
      let len = length-drop s.resumes s.journal in
      let base_in = st.base_within in
      let resumes_in = st.resumes_within in
      new_piece s (IsEnd s.disk s.told) 0 (ready_chain s.disk (length s.journal) s.told s.resumes (drop s.resumes s.journal) (omega arith) (λ p high. none_named s.disk (piece p) (none p high)) st.chain) st

  -- ---- what stands is told
  more_told : (disk : Disk L) (journal : List L) (told told' p r : ℕ) → told ≤ told' → (file : Option ℕ) → Dumps IsDumpOf disk journal told p r file → Dumps IsDumpOf disk journal told' p r file
  more_told disk journal told told' p r le file d =
      let all = d.2.all_told in
      (d.0, d.1, record { file = d.2.file; is = d.2.is; lines = d.2.lines; synced = d.2.synced; resumes = d.2.resumes; all_told = (omega arith) })

  more_told_base : (disk : Disk L) (journal : List L) (told told' b r : ℕ) → told ≤ told' → Base IsDumpOf disk journal told b r → Base IsDumpOf disk journal told' b r
  more_told_base disk journal told told' _ _ le (no_dump none) = no_dump none
  more_told_base disk journal told told' _ _ le (a_dump p r all) = a_dump p r (All-weaker (Dumps IsDumpOf disk journal told p r) (Dumps IsDumpOf disk journal told' p r) (more_told disk journal told told' p r le) (named disk (dump p)) all)

  told_more : (s : ServerState L) (first' count : ℕ) (capture : Option ℕ) → s.told ≤ count → count ≤ length s.journal
      → ((point number : ℕ) → s.resumes ≤ point → point < count → s.disk.now (piece point) ≡ Some number → HoldsUpTo count s.disk point number)
      → Stands IsDumpOf s.disk s.journal s.told s.base s.resumes capture first' (IsLast s.disk s.told first')
      → Stands IsDumpOf s.disk s.journal count s.base s.resumes capture first' (IsLast s.disk count first')
  told_more s first' count capture above within all st =
      let on_disk : (p number : ℕ) → s.resumes ≤ p → p < count → s.disk.now (piece p) ≡ Some number → HoldsTold s.disk count p number
      = λ p number low below here. let o = all p number low below here in (
        o.settled,
        λ file is. let one = some-injective file o.file (sym is ∙ o.is) in
            subst (λ (f : File L). (f.synced ≡ length f.lines) ⊎ (count ≤ p + f.synced)) (sym one) o.synced,
      ) in
      let len = length-drop s.resumes s.journal in
      let base_in = st.base_within in
      let resumes_in = st.resumes_within in
      record {
        born = st.born;
        within = within;
        base_within = st.base_within;
        resumes_within = st.resumes_within;
        base_is = more_told_base s.disk s.journal s.told count s.base s.resumes above st.base_is;
        later = λ p high. All-weaker (Later IsDumpOf s.disk s.journal s.told capture first' p) (Later IsDumpOf s.disk s.journal count capture first' p)
            (λ file. ⊎_elim inl (λ (t : (capture ≡ Some p) × Dumps IsDumpOf s.disk s.journal s.told p first' file). inr (t.0, more_told s.disk s.journal s.told count p first' above file t.1)))
            (named s.disk (dump p)) (st.later p high);
        chain = told_chain s.disk s.told count first' s.resumes (drop s.resumes s.journal) (omega arith) on_disk st.chain;
        captured = λ p is. let c = st.captured p is in let a = c.0 in let b = c.1 in let low = c.2 in let high = c.3 in let len' = length-drop first' s.journal in
            (a, b, low, high, told_chain s.disk s.told count first' first' (drop first' s.journal) (omega arith) (λ q number up. on_disk q number (omega arith)) c.4);
      }

  -- ---- what is old goes
  piece_gone : (s : ServerState L) (first' p : ℕ) (capture : Option ℕ) → p < s.resumes
      → Stands IsDumpOf s.disk s.journal s.told s.base s.resumes capture first' (IsLast s.disk s.told first')
      → Stands IsDumpOf (name_removed (piece p) s.disk) s.journal s.told s.base s.resumes capture first' (IsLast (name_removed (piece p) s.disk) s.told first')
  piece_gone s first' p capture below st =
      let after : Disk L = name_removed (piece p) s.disk in
      stands_stay (λ q. q ≢ p) s.disk after s.journal s.told s.base s.resumes capture first' (IsLast s.disk s.told first') (IsLast after s.told first')
      (removed_piece_stays p s.disk) (dumps_elsewhere s.base s.disk after (λ q le. refl) (λ q le. refl) (all_there s.disk after (λ number file is. is)))
      (removed_born s.disk (piece p) st.born) (λ q low high. λ e. omega arith)
      (λ m lines above e. last_stays s.told (λ q. q ≢ p) s.disk after (removed_piece_stays p s.disk) first' m lines (λ q low. λ same. omega arith) e) st

  dump_gone : (s : ServerState L) (first' p : ℕ) (capture : Option ℕ) → p < s.base
      → Stands IsDumpOf s.disk s.journal s.told s.base s.resumes capture first' (IsLast s.disk s.told first')
      → Stands IsDumpOf (name_removed (dump p) s.disk) s.journal s.told s.base s.resumes capture first' (IsLast (name_removed (dump p) s.disk) s.told first')
  dump_gone s first' p capture below st =
      let after : Disk L = name_removed (dump p) s.disk in
      stands_stay Anywhere s.disk after s.journal s.told s.base s.resumes capture first' (IsLast s.disk s.told first') (IsLast after s.told first')
      (removed_dump_stays p s.disk)
      (dumps_elsewhere s.base s.disk after (λ q le. rw (ne_eqb q p (λ e. omega arith))) (λ q le. rw (ne_eqb q p (λ e. omega arith))) (all_there s.disk after (λ number file is. is)))
      (removed_born s.disk (dump p) st.born) (λ q low high. tt)
      (λ m lines above e. last_stays s.told Anywhere s.disk after (removed_dump_stays p s.disk) first' m lines (λ q low. tt) e) st

  -- a start removes what may not join
  cleared_end : (disk : Disk L) (told p m : ℕ) (lines : List L) → IsEnd disk told m lines → IsEnd (name_removed (piece p) disk) told m lines
  cleared_end disk told p m lines e =
      elim (ℕ_discrete m p) [
        | no not ↦ end_stays told (λ q. q ≢ p) disk (name_removed (piece p) disk) (removed_piece_stays p disk) m lines not e
        | yes same ↦ record {
          none = e.none;
          told_is = e.told_is;
          blank = subst (λ b. All (IsBlank (name_removed (piece p) disk) told) ((if b then None else disk.now (piece m)) ∷ (if b then named disk (piece m) else disk.earlier (piece m)))) (sym (eq-eqb m p same))
              (All-cons (IsBlank (name_removed (piece p) disk) told) None (named disk (piece m)) (inl refl)
              (All-weaker (IsBlank disk told) (IsBlank (name_removed (piece p) disk) told) (λ file b. b) (named disk (piece m)) e.blank));
        }
      ]

  cleared : (s : ServerState L) (p : ℕ) → length s.journal ≤ p
      → Stands IsDumpOf s.disk s.journal s.told s.base s.resumes None 0 (IsEnd s.disk s.told)
      → Stands IsDumpOf (name_removed (piece p) s.disk) s.journal s.told s.base s.resumes None 0 (IsEnd (name_removed (piece p) s.disk) s.told)
  cleared s p above st =
      let after : Disk L = name_removed (piece p) s.disk in
      stands_stay (λ q. q ≢ p) s.disk after s.journal s.told s.base s.resumes None 0 (IsEnd s.disk s.told) (IsEnd after s.told)
      (removed_piece_stays p s.disk) (dumps_elsewhere s.base s.disk after (λ q le. refl) (λ q le. refl) (all_there s.disk after (λ number file is. is)))
      (removed_born s.disk (piece p) st.born) (λ q low high. λ e. omega arith)
      (λ m lines high e. cleared_end s.disk s.told p m lines e) st

  -- ---- a start finds what was restored
  none_later : (disk : Disk L) (journal : List L) (told p : ℕ) → IsSettled disk → IsNewest disk p → (q : ℕ) → p < q → All (Later IsDumpOf disk journal told None 0 q) (named disk (dump q))
  none_later disk journal told p is_settled newest q above =
      All-weaker (λ (file : Option ℕ). file ≡ None) (Later IsDumpOf disk journal told None 0 q) (λ file e. inl e) (named disk (dump q)) (none_named disk (dump q) (newest q above, is_settled.names (dump q)))

  found_base : (disk : Disk L) (told p r : ℕ) (base behind journal : List L) → IsSettled disk → Restores disk p r base behind → p ≤ told → IsDumpOf (take p journal) base
      → Base IsDumpOf disk journal told p r × ((q : ℕ) → p < q → All (Later IsDumpOf disk journal told None 0 q) (named disk (dump q)))
  found_base disk told _ _ _ _ journal is_settled (behind_dump p file skipped behind has newest joins at) p_told base_is = (
    a_dump p file.resumes (subst (λ (earlier : List (Option ℕ)). All (Dumps IsDumpOf disk journal told p file.resumes) (disk.now (dump p) ∷ earlier)) (sym (is_settled.names (dump p)))
        (All-cons (Dumps IsDumpOf disk journal told p file.resumes) (disk.now (dump p)) [] (has.number, has.named, record { file = file; is = has.is; lines = base_is; synced = is_settled.files (dump p) has.number file has.named has.is; resumes = refl; all_told = p_told }) (All-nil (Dumps IsDumpOf disk journal told p file.resumes)))),
    none_later disk journal told p is_settled newest,
  )
  found_base disk told _ _ _ _ journal is_settled (from_first behind none newest joins) p_told base_is = (
    no_dump (none_named disk (dump 0) (none, is_settled.names (dump 0))),
    none_later disk journal told 0 is_settled newest,
  )

  found_own : (s : ServerState L) → AreBorn s.disk → IsSettled s.disk → (f : IsFound IsDumpOf s)
      → Stands IsDumpOf s.disk (take (f.point + length f.behind) s.journal) s.told f.point f.resumes None 0 (IsEnd s.disk s.told)
  found_own s born is_settled f =
      let p : ℕ = f.point in
      let r : ℕ = f.resumes in
      let front : List L = take r s.journal in
      let lines : List L = f.skipped ++ f.behind in
      let journal : List L = front ++ lines in
      let size' = f.point_is in
      let within = f.within in
      let size : length front ≡ r = length-take-le r s.journal (omega arith) in
      let both = length-append f.skipped f.behind in
      let whole = length-append front lines in
      let parts : s.journal ≡ journal ++ f.rest = sym (take-append-drop r s.journal) ∙ (ap (λ z. front ++ z) f.journal_is ∙ sym (append_assoc front lines f.rest)) in
      let is : take (p + length f.behind) s.journal ≡ journal = ap (take (p + length f.behind)) parts ∙ take_at journal f.rest (p + length f.behind) (omega arith) in
      let head : List L = front ++ f.skipped in
      let head_size = length-append front f.skipped in
      let again : take p journal ≡ head = ap (take p) (sym (append_assoc front f.skipped f.behind)) ∙ take_at head f.behind p (omega arith) in
      let first_parts : s.journal ≡ head ++ (f.behind ++ f.rest) = parts ∙ (ap (λ z. z ++ f.rest) (sym (append_assoc front f.skipped f.behind)) ∙ append_assoc head f.behind f.rest) in
      let first_again : take p s.journal ≡ head = ap (take p) first_parts ∙ take_at head (f.behind ++ f.rest) p (omega arith) in
      let rest : drop r journal ≡ lines = drop_at front lines r size in
      let told = f.all_told in
      let found = found_base s.disk s.told p r f.base f.behind journal is_settled f.restores f.point_told (subst (λ front. IsDumpOf front f.base) (first_again ∙ sym again) f.base_is) in
      subst (λ j. Stands IsDumpOf s.disk j s.told p r None 0 (IsEnd s.disk s.told)) (sym is)
      (record {
        born = born;
        within = (omega arith);
        base_within = (omega arith);
        resumes_within = (omega arith);
        base_is = found.0;
        later = found.1;
        chain = subst (Chain s.disk s.told (IsEnd s.disk s.told) r) (sym rest) (joins_chain s.disk s.told is_settled r lines f.joins (omega arith));
        captured = λ q is'. absurd cc;
      })

  found : (s : ServerState L) (p r : ℕ) (base behind : List L) → AreBorn s.disk → IsSettled s.disk → IsFound IsDumpOf s → Restores s.disk p r base behind
      → Stands IsDumpOf s.disk (take (p + length behind) s.journal) s.told p r None 0 (IsEnd s.disk s.told)
  found s p r base behind born is_settled f restores =
      let one = restores_one s.disk f.point p f.resumes r f.base base f.behind behind f.restores restores in
      subst (λ (z : ℕ × ℕ × List L). Stands IsDumpOf s.disk (take (z.0 + length z.2) s.journal) s.told z.0 z.1 None 0 (IsEnd s.disk s.told)) (λ i. (one.0 i, one.1 i, one.3 i))
      (found_own s born is_settled f)

  -- ---- a step
  at_phase : (s : ServerState L) (phase : Phase) → s.phase ≡ phase → InvOf s.phase s → InvOf phase s
  at_phase s phase is inv = subst (λ z. InvOf z s) is inv

  back : (s t : ServerState L) (phase : Phase) → t.phase ≡ phase → InvOf phase t → InvOf t.phase t
  back s t phase is inv = subst (λ z. InvOf z t) (sym is) inv

  crashes_from : IsDumpOf [] [] → (phase : Phase) (s : ServerState L) (left : Disk L) → IsUp phase → CrashLeaves s.disk left → InvOf phase s → InvOf crashed (record (on left s) { phase = crashed })
  crashes_from none crashed s left up may inv = absurd up
  crashes_from none starting s left up may inv = (
    crash_born s.disk left may inv.born,
    crash_settles s.disk left inv.born may,
    crash_finds IsDumpOf s.disk left may s.journal s.told s.base s.resumes 0 None (IsEnd s.disk s.told) (end_outlasts s.disk s.told left may) none inv (record (on left s) { phase = crashed }) refl refl refl,
  )
  crashes_from none (serving first' capture) s left up may inv = (
    crash_born s.disk left may inv.born,
    crash_settles s.disk left inv.born may,
    crash_finds IsDumpOf s.disk left may s.journal s.told s.base s.resumes first' capture (IsLast s.disk s.told first') (last_outlasts s.disk s.told left may first') none inv (record (on left s) { phase = crashed }) refl refl refl,
  )

  step_keeps : IsDumpOf [] [] → (s t : ServerState L) → ServerStep IsDumpOf s t → InvOf s.phase s → InvOf t.phase t
  step_keeps none s _ (crashes left up may) inv = crashes_from none s.phase s left up may inv
  step_keeps none s _ (syncs after up call) inv =
      up_stays s.phase s after up (synced_stays s.disk after call)
      (λ n. record {
        names = λ p le file has. synced_names s.disk after call (dump p) file has;
        files = λ p number file le had is. synced_files s.disk after call number file is;
      })
      (synced_born s.disk after call) inv
  step_keeps none s _ (finds point resumes base behind is restores) inv =
      let was = at_phase s crashed is inv in
      found s point resumes base behind was.0 was.1 was.2 restores
  step_keeps none s _ (clears point is above) inv =
      subst (λ z. InvOf z (on (name_removed (piece point) s.disk) s)) (sym is) (cleared s point above (at_phase s starting is inv))
  step_keeps none s _ (is_ready is named_none) inv = ready s named_none (at_phase s starting is inv)
  step_keeps none s _ (enters first' number capture lines part after is here call) inv =
      subst (λ z. InvOf z (record (on after s) { journal = s.journal ++ lines })) (sym is)
      (entered s first' number capture lines part after here call (at_phase s (serving first' capture) is inv))
  step_keeps none s _ (tells first' count capture is above within all) inv =
      subst (λ z. InvOf z (record s { told = count })) (sym is) (told_more s first' count capture above within all (at_phase s (serving first' capture) is inv))
  step_keeps none s _ (begins first' is above) inv = began s first' above (at_phase s (serving first' None) is inv)
  step_keeps none s _ (puts first' point lines is newer starts told dumped) inv = has_name IsDumpOf s first' point lines newer starts told dumped (at_phase s (serving first' None) is inv)
  step_keeps none s _ (settles first' point number is here alone) inv = settled IsDumpOf s first' point number here alone (at_phase s (serving first' (Some point)) is inv)
  step_keeps none s _ (removes_piece first' point capture is below) inv =
      subst (λ z. InvOf z (on (name_removed (piece point) s.disk) s)) (sym is) (piece_gone s first' point capture below (at_phase s (serving first' capture) is inv))
  step_keeps none s _ (removes_dump first' point capture is below) inv =
      subst (λ z. InvOf z (on (name_removed (dump point) s.disk) s)) (sym is) (dump_gone s first' point capture below (at_phase s (serving first' capture) is inv))

  first_holds : IsDumpOf [] [] → InvOf crashed nothing_served
  first_holds none = (
    empty_born,
    record { names = λ name. refl; files = λ name number file here is. absurd cc },
    record {
      point = 0;
      resumes = 0;
      base = [];
      skipped = [];
      behind = [];
      rest = [];
      restores = from_first [] refl (λ later above. refl) (no_piece _ refl);
      joins = no_piece _ refl;
      base_is = none;
      point_is = refl;
      journal_is = refl;
      within = (omega arith);
      point_told = (omega arith);
      all_told = (omega arith);
    },
  )

  holds : IsDumpOf [] [] → (s : ServerState L) → Reaches IsDumpOf s → InvOf s.phase s
  holds none _ at_first = first_holds none
  holds none _ (next_step before after reached step) = step_keeps none before after step (holds none before reached)

  pub told_outlives : ToldOutlives IsDumpOf
  told_outlives none s reached is = found_restored IsDumpOf s (at_phase s crashed is (holds none s reached)).2

  -- ---- the piece that is written to
  the_last : (disk : Disk L) (told first' n : ℕ) (lines : List L) → Chain disk told (IsLast disk told first') n lines → (file : File L) × Has disk (piece first') file
  the_last disk told first' n _ (ends _ lines e) =
      let p = e.is_piece in
      (e.file, record { number = p.number; named = ap (λ k. disk.now (piece k)) (sym e.is_first) ∙ p.here; is = p.is })
  the_last disk told first' n _ (goes_on _ file lines p full told_is between more) = the_last disk told first' (n + length file.lines) lines more

  module _ (none : IsDumpOf [] []) (s : ServerState L) (reached : Reaches IsDumpOf s) (first' : ℕ) (capture : Option ℕ) (is : s.phase ≡ serving first' capture) where
    stands : Stands IsDumpOf s.disk s.journal s.told s.base s.resumes capture first' (IsLast s.disk s.told first')
    stands = at_phase s (serving first' capture) is (holds none s reached)

    -- it is there
    pub current_piece : (file : File L) × Has s.disk (piece first') file
    current_piece = the_last s.disk s.told first' s.resumes (drop s.resumes s.journal) stands.chain

    -- it begins behind what a dump resumes with, and no later than the journal's end
    pub resumes_before : s.resumes ≤ first'
    resumes_before = chain_first s.disk s.told first' s.resumes (drop s.resumes s.journal) stands.chain

    -- what was told is within the journal
    pub told_within : s.told ≤ length s.journal
    told_within = stands.within

    -- the newest dump is older than one that is put
    pub put_behind : (p : ℕ) → capture ≡ Some p → s.base < p
    put_behind p e = (stands.captured p e).0
