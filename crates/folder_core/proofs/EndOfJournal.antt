-- Calls that write nothing leave the end of the journal as it is.
use Rattle.std.proofs.Common.{◌≡◌, ◌≢◌, ℕ, ◌<◌, Option, Some, None, List, [], ◌∷◌, length, refl, sym, ap, subst, ◌∙◌, arith, eq-eqb, ne_eqb}
use Rattle.atomic_table.proofs.Lists.{at_longer, at_last}
use Rattle.folder_core.specs.FileNames.{dump, piece}
use Rattle.folder_core.specs.Disk.{File, Disk, Is, whole_file, new_file, name_removed, folder_synced, made}
use Rattle.folder_core.specs.Serving.{Phase, crashed, starting, serving, Reaches, on, begun}
use Rattle.folder_core.specs.Texts.{part_text}
use Rattle.folder_core.specs.Calls.{TextState, part_in, part_of, part_at, Tells, Puts, Settles, without_piece, without_dump}
use Rattle.folder_core.proofs.Outlives.{current_piece, resumes_before}

-- the part at the end of the piece that is written to
pub part_here : (phase : Phase) (first : ℕ) (capture : Option ℕ) (disk : Disk (List ℕ)) (number : ℕ) (file : File (List ℕ)) → phase ≡ serving first capture → disk.now (piece first) ≡ Some number → Is disk number file
    → part_at phase disk ≡ part_text file.part
part_here phase first capture disk number file serves named is = ap (λ p. part_at p disk) serves ∙ (ap (part_of disk) named ∙ ap part_in is)

-- two states have the same part at the end
abbrev pub HasSameEnd : TextState → TextState → Type 0
HasSameEnd s t = part_at t.phase t.disk ≡ part_at s.phase s.disk

-- where a file with the same part is where it was
same_end : (s t : TextState) (first : ℕ) (capture capture' : Option ℕ) (number : ℕ) (file file' : File (List ℕ)) → s.phase ≡ serving first capture → s.disk.now (piece first) ≡ Some number → Is s.disk number file
    → t.phase ≡ serving first capture' → t.disk.now (piece first) ≡ Some number → Is t.disk number file'
    → file'.part ≡ file.part
    → HasSameEnd s t
same_end s t first capture capture' number file file' serves named is serves' named' is' part =
    part_here t.phase first capture' t.disk number file' serves' named' is' ∙ (ap part_text part ∙ sym (part_here s.phase first capture s.disk number file serves named is))

-- names that are synced
synced_part : (phase : Phase) (disk : Disk (List ℕ)) → part_at phase (folder_synced disk) ≡ part_at phase disk
synced_part crashed disk = refl
synced_part starting disk = refl
synced_part (serving first capture) disk = refl

pub names_end : (s t : TextState) → t ≡ on (folder_synced s.disk) s → HasSameEnd s t
names_end s t is = subst (HasSameEnd s) (sym is) (synced_part s.phase s.disk)

-- a dump that is removed
dump_part : (point : ℕ) (phase : Phase) (disk : Disk (List ℕ)) → part_at phase (name_removed (dump point) disk) ≡ part_at phase disk
dump_part point crashed disk = refl
dump_part point starting disk = refl
dump_part point (serving first capture) disk = refl

pub dump_end : (point : ℕ) (s t : TextState) → t ≡ without_dump point s → HasSameEnd s t
dump_end point s t is = subst (HasSameEnd s) (sym is) (dump_part point s.phase s.disk)

-- a piece that begins
pub begun_end : (s t : TextState) → t ≡ begun s → part_at t.phase t.disk ≡ []
begun_end s t is =
    let point : ℕ = length s.journal in
    let new : Disk (List ℕ) = made (piece point) point s.disk in
    let named : new.now (piece point) ≡ Some (length s.disk.files) = rw (eq-eqb point point refl) refl in
    ap (λ (x : TextState). part_at x.phase x.disk) is ∙ part_here (serving point None) point None new (length s.disk.files) (new_file (piece point) point) refl named (at_last s.disk.files (new_file (piece point) point) (length s.disk.files) refl)

module _ (IsDumpOf : List (List ℕ) → List (List ℕ) → Type 0) (none : IsDumpOf [] []) (s t : TextState) (reached : Reaches IsDumpOf s) where
  -- something was told
  pub told_end : (count : ℕ) → Tells count s t → HasSameEnd s t
  told_end count c =
      let (file, has) = current_piece IsDumpOf none s reached c.first c.capture c.serves in
      let synced = c.synced.files has.number file has.is in
      let serves : t.phase ≡ serving c.first c.capture = ap (λ (x : TextState). x.phase) c.is ∙ c.serves in
      same_end s t c.first c.capture c.capture has.number file (record file { synced = synced.0 }) c.serves has.named has.is serves (c.synced.now (piece c.first) ∙ has.named) synced.2 refl

  -- a dump has its name
  pub put_end : (point : ℕ) (lines : List (List ℕ)) → Puts point lines s t → HasSameEnd s t
  put_end point lines c =
      let (file, has) = current_piece IsDumpOf none s reached c.first None c.serves in
      let new : File (List ℕ) = whole_file (dump point) c.first lines in
      let serves : t.phase ≡ serving c.first (Some point) = ap (λ (x : TextState). x.phase) c.is in
      let named : t.disk.now (piece c.first) ≡ Some has.number = ap (λ (x : TextState). x.disk.now (piece c.first)) c.is ∙ has.named in
      let is : Is t.disk has.number file = subst (λ (x : TextState). Is x.disk has.number file) (sym c.is) (at_longer s.disk.files (new ∷ []) has.number file has.is) in
      same_end s t c.first None (Some point) has.number file file c.serves has.named has.is serves named is refl

  -- and that is on the disk
  pub settled_end : (point : ℕ) → Settles point s t → HasSameEnd s t
  settled_end point c =
      let (file, has) = current_piece IsDumpOf none s reached c.first (Some point) c.serves in
      let serves : t.phase ≡ serving c.first None = ap (λ (x : TextState). x.phase) c.is in
      let disk : t.disk ≡ s.disk = ap (λ (x : TextState). x.disk) c.is in
      same_end s t c.first (Some point) None has.number file file c.serves has.named has.is serves (ap (λ (d : Disk (List ℕ)). d.now (piece c.first)) disk ∙ has.named) (subst (λ (d : Disk (List ℕ)). Is d has.number file) (sym disk) has.is) refl

  -- a piece behind the newest dump is removed
  pub piece_end : (point first : ℕ) (capture : Option ℕ) → s.phase ≡ serving first capture → point < s.resumes → t ≡ without_piece point s → HasSameEnd s t
  piece_end point first capture serves behind is =
      let (file, has) = current_piece IsDumpOf none s reached first capture serves in
      let before = resumes_before IsDumpOf none s reached first capture serves in
      let other : first ≢ point = λ same. (let same = same in absurd (omega arith)) in
      let stays : (name_removed (piece point) s.disk).now (piece first) ≡ s.disk.now (piece first) = rw (ne_eqb first point other) refl in
      let named : t.disk.now (piece first) ≡ Some has.number = ap (λ (x : TextState). x.disk.now (piece first)) is ∙ (stays ∙ has.named) in
      let kept : Is t.disk has.number file = subst (λ (x : TextState). Is x.disk has.number file) (sym is) has.is in
      same_end s t first capture capture has.number file file serves has.named has.is (ap (λ (x : TextState). x.phase) is ∙ serves) named kept refl
