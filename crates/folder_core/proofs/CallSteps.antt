-- Each call that a folder takes is a step of its server.
use Rattle.std.proofs.Common.{◌≡◌, ℕ, Option, None, List, refl, sym, ap, subst, ◌∙◌, inl, inr, arith}
use Rattle.folder_core.specs.Disk.{Disk, SyncsSome, folder_synced}
use Rattle.folder_core.specs.Serving.{Phase, serving, IsUp, on, begun, ServerStep, syncs, finds, clears, is_ready, enters, tells, begins, puts, settles, removes_piece, removes_dump, Reaches, next_step}
use Rattle.folder_core.specs.Calls.{TextState, found, MayRemovePiece, stale, old, without_piece, without_dump, MayBegin, first_piece, next_piece, Tells, CallsAreSteps}

-- the folder is synced, and no file
pub names_synced : {L : Type 0} (disk : Disk L) → SyncsSome disk (folder_synced disk)
names_synced disk = record { files = λ number file is. (file.synced, inl refl, is); no_more = refl; now = λ name. refl; earlier = λ name. inr refl }

abbrev first_of : Phase → ℕ
first_of (serving first capture) = first
first_of _ = 0

-- it writes to one piece
one_first : (phase : Phase) (first first' : ℕ) (capture : Option ℕ) → phase ≡ serving first capture → phase ≡ serving first' capture → first ≡ first'
one_first phase first first' capture a b = ap first_of (sym a ∙ b)

module _ (IsDumpOf : List (List ℕ) → List (List ℕ) → Type 0) where
  one_step : (s t u : TextState) → Reaches IsDumpOf s → ServerStep IsDumpOf s t → u ≡ t → Reaches IsDumpOf u
  one_step s t u reached step same = subst (Reaches IsDumpOf) (sym same) (next_step s t reached step)

  piece_goes : (point : ℕ) (s : TextState) → Reaches IsDumpOf s → MayRemovePiece point s → Reaches IsDumpOf (without_piece point s)
  piece_goes point s reached (stale starts above) = next_step s (without_piece point s) reached (clears point starts above)
  piece_goes point s reached (old first capture serves below) = next_step s (without_piece point s) reached (removes_piece first point capture serves below)

  piece_begins : (s : TextState) → Reaches IsDumpOf s → MayBegin s → Reaches IsDumpOf (begun s)
  piece_begins s reached (first_piece starts clear) = next_step s (begun s) reached (is_ready starts clear)
  piece_begins s reached (next_piece first serves some) = next_step s (begun s) reached (begins first serves some)

  serving_is_up : (phase : Phase) (first : ℕ) (capture : Option ℕ) → phase ≡ serving first capture → IsUp phase
  serving_is_up phase first capture is = subst IsUp (sym is) tt

  is_told : (count : ℕ) (s t : TextState) → Reaches IsDumpOf s → Tells count s t → Reaches IsDumpOf t
  is_told count s t reached told =
      let mid : TextState = on t.disk s in
      let synced = next_step s mid reached (syncs t.disk (serving_is_up s.phase told.first told.capture told.serves) told.synced) in
      one_step mid _ t synced (tells told.first count told.capture told.serves told.no_fewer told.within told.hold) told.is

  pub calls_are_steps : CallsAreSteps IsDumpOf
  calls_are_steps = record {
    finds = λ point resumes count s reached f. one_step s _ (found point resumes count s) reached (finds point resumes f.base f.behind f.over f.restores)
        (ap (λ n. found point resumes n s) (sym f.count_is));
    removes_piece = piece_goes;
    removes_dump = λ point s reached may. next_step s (without_dump point s) reached (removes_dump may.first point may.capture may.serves may.older);
    syncs_names = λ s reached up. next_step s _ reached (syncs (folder_synced s.disk) up (names_synced s.disk));
    begins = piece_begins;
    writes = λ text s t reached w. one_step s _ t reached (enters w.first w.number w.capture w.lines w.part t.disk w.serves w.here (record { file = w.file; wrote = w.wrote })) w.is;
    tells = is_told;
    puts = λ point lines s t reached may p.
        let starts = may.starts in
        let same = one_first s.phase may.first p.first None may.serves p.serves in
        one_step s _ t reached (puts p.first point lines p.serves may.newer (omega arith) may.told may.dumped) p.is;
    settles = λ point s t reached may c. one_step s _ t reached (settles c.first point may.number c.serves may.named may.alone) c.is;
  }
