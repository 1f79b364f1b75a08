-- Replies that are written in pieces.
use Rattle.std.proofs.Common.{◌≡◌, ℕ, ◌+◌, ◌-◌, ◌<◌, ◌≤◌, length, List, [], ◌++◌, take, drop, Option, Some, None, refl, sym, ap, subst, ◌∙◌, inl, inr, arith, append-nil, append_assoc}
use Rattle.std.specs.List.{flat_map, concat}
use Rattle.std.specs.Io.KnownBytes.{Appends}
use Rattle.std.proofs.lemmas.List.{take-append-drop, drop-drop, drop_all, length-drop}
use Rattle.std.proofs.lemmas.List.Concat.{flat_map-append}
use Rattle.std.proofs.lemmas.List.Folds.{concat-append}
use Rattle.std.proofs.KnownBytes.{Appends-trans}
use Rattle.std.proofs.Math.Seq.{take-add}
use Rattle.base_core.specs.Streams.{WritesFront, Writes, WritesFrontOf}
use Rattle.base_core.proofs.Fronts.{front-first, front-second}
use Rattle.export_core.specs.Record.{row_lines}
use Rattle.export_core.specs.Ticket.{TicketState, after_giving}
use Rattle.system_core.specs.declared.machine.event.Reply.{Reply}
use Rattle.system_core.specs.declared.machine.event.Reply.TheVariants as replies
use Rattle.reply_core.specs.Telling.{TellsReply, TellsRecords}
use Rattle.reply_core.specs.Texts.{checkpoint_line, cut_text, head_text, reply_text}
use Rattle.reply_core.specs.Pending.{TellsRest, TellsPending, Begins, TellsMore}
use Rattle.reply_core.specs.declared.pending.Pending.{Pending}
use Rattle.reply_core.specs.declared.pending.Pending.TheVariants as pendings
use Rattle.reply_core.proofs.WritingLemmas.{some_records}

-- ---- what may be written

some_rest : (p : Pending) → (text : List ℕ) × TellsRest p text
some_rest (pendings.Rows rows next) = (row_lines (drop next rows), refl)
some_rest (pendings.Listed entries next) = (flat_map checkpoint_line (drop next entries), refl)
some_rest (pendings.Export ticket) = some_records (replies.Export ticket)

-- something may always be written of what is pending
pub some_pending : (p : Option Pending) → (text : List ℕ) × TellsPending p text
some_pending None = ([], refl)
some_pending (Some p) = some_rest p

-- a reply that was begun, and of which some more was written
pub begins_more : (reply : Reply) (before : Pending) (pending : Option Pending) (begun text : List ℕ)
    → Begins reply (Some before) begun → TellsMore before pending text → Begins reply pending (begun ++ text)
begins_more reply before pending begun text begins on = λ rest told.
    subst (TellsReply reply) (sym (append_assoc begun text rest)) (begins (text ++ rest) (on rest told))

-- a reply of which nothing is pending was written whole
pub begins_whole : (reply : Reply) (text : List ℕ) → Begins reply None text → TellsReply reply text
begins_whole reply text begins = subst (TellsReply reply) (append-nil text) (begins [] refl)

module _ (reply : Reply) (p : Pending) (head : List ℕ) (begins : Begins reply (Some p) head) (before mid after : Option (List ℕ)) (wrote : Appends before mid head) where
  pub writes_begun : (pending : Option Pending) → Writes (TellsMore p pending) mid after → Writes (Begins reply pending) before after
  writes_begun pending w = record {
    text = head ++ w.text;
    is = begins_more reply p pending head w.text begins w.is;
    wrote = Appends-trans before mid after head w.text wrote w.wrote;
  }

  pub breaks_begun : WritesFrontOf (TellsRest p) mid after → WritesFrontOf (TellsReply reply) before after
  breaks_begun w = record {
    text = head ++ w.text;
    is = begins w.text w.is;
    wrote = front-second before mid after head w.text wrote w.wrote;
  }

-- ---- the first line of a reply

-- what is to come behind it
abbrev pub behind_head : Reply → Option Pending
behind_head (replies.Rows at rows) = Some (pendings.Rows rows 0)
behind_head (replies.Listed at entries) = Some (pendings.Listed entries 0)
behind_head (replies.Export ticket) = Some (pendings.Export ticket)
behind_head reply = None

-- the first line of a list, and its lines
tells_list : (reply : Reply) (head list rest : List ℕ) → TellsRecords reply [] → reply_text reply ≡ head ++ list → rest ≡ list → TellsReply reply (head ++ rest)
tells_list reply head list rest none whole same = ([], none, ap (λ t. head ++ t) same ∙ sym whole ∙ sym (append-nil (reply_text reply)))

-- the first line begins a reply
pub begins_head : (reply : Reply) → Begins reply (behind_head reply) (head_text reply)
begins_head (replies.Rows at rows) = λ rest same. tells_list (replies.Rows at rows) (head_text (replies.Rows at rows)) (row_lines rows) rest refl refl same
begins_head (replies.Listed at entries) = λ rest same. tells_list (replies.Listed at entries) (head_text (replies.Listed at entries)) (flat_map checkpoint_line entries) rest refl refl same
begins_head (replies.Export ticket) = λ rest told. (rest, told, refl)
begins_head (replies.Done at) = λ rest none. (rest, none, refl)
begins_head (replies.Begun number at) = λ rest none. (rest, none, refl)
begins_head (replies.Denied at lack) = λ rest none. (rest, none, refl)
begins_head (replies.Refused at lack) = λ rest none. (rest, none, refl)
begins_head (replies.Abandoned number) = λ rest none. (rest, none, refl)
begins_head (replies.Described at columns) = λ rest none. (rest, none, refl)
begins_head replies.Idle = λ rest none. (rest, none, refl)
begins_head (replies.Stepped number left) = λ rest none. (rest, none, refl)
begins_head (replies.Finished number) = λ rest none. (rest, none, refl)

pub begins_behind : (reply : Reply) (pending : Option Pending) → behind_head reply ≡ pending → Begins reply pending (head_text reply)
begins_behind reply pending is = subst (λ p. Begins reply p (head_text reply)) is (begins_head reply)

-- the writer failed at the first line
pub breaks_head : (reply : Reply) (before after : Option (List ℕ)) → WritesFront before after (head_text reply) → WritesFrontOf (TellsReply reply) before after
breaks_head reply before after w =
    let rest = some_pending (behind_head reply) in
    record {
      text = head_text reply ++ rest.0;
      is = begins_head reply rest.0 rest.1;
      wrote = front-first before after (head_text reply) rest.0 w;
    }

-- ---- lines of a list

module _ {X : Type 0} (f : X → List ℕ) (items part : List X) (next n : ℕ) (is : part ≡ take n (drop next items)) where
  -- the lines of a part, and those behind it
  part_then_rest : flat_map f part ++ flat_map f (drop (next + n) items) ≡ flat_map f (drop next items)
  part_then_rest =
      ap (λ l. flat_map f l ++ flat_map f (drop (next + n) items)) is
      ∙ ap (λ l. flat_map f (take n (drop next items)) ++ flat_map f l) (sym (drop-drop n next items))
      ∙ sym (flat_map-append f (take n (drop next items)) (drop n (drop next items)))
      ∙ ap (flat_map f) (take-append-drop n (drop next items))

  pub last_lines : length items ≤ next + n → (rest : List ℕ) → rest ≡ [] → flat_map f part ++ rest ≡ flat_map f (drop next items)
  last_lines short rest none =
      ap (λ t. flat_map f part ++ t) (none ∙ sym (ap (flat_map f) (drop_all (next + n) items short))) ∙ part_then_rest

  pub more_lines : (place : ℕ) → place ≡ next + n → (rest : List ℕ) → rest ≡ flat_map f (drop place items) → flat_map f part ++ rest ≡ flat_map f (drop next items)
  more_lines place at rest same =
      ap (λ t. flat_map f part ++ t) (same ∙ ap (λ i. flat_map f (drop i items)) at) ∙ part_then_rest

  -- the writer failed in the part
  pub lines_broken : (before after : Option (List ℕ)) → WritesFront before after (flat_map f part) → WritesFront before after (flat_map f (drop next items))
  lines_broken before after w = subst (λ t. WritesFront before after t) part_then_rest (front-first before after (flat_map f part) (flat_map f (drop (next + n) items)) w)

-- ---- records of an export

module _ (n : ℕ) (old new : TicketState) (gave : new ≡ after_giving n old) where
  left : new.to_come ≡ drop n old.to_come
  left = ap (λ (e : TicketState). e.to_come) gave

  -- so many records, and what may be written of those behind them
  pub more_records : (rest : List ℕ) → TellsRecords (replies.Export new) rest → TellsRecords (replies.Export old) (concat (take n old.to_come) ++ rest)
  more_records rest (inl all) =
      let first = take n old.to_come in
      let whole = ap concat (take-append-drop n old.to_come) in
      inl (ap (λ t. concat first ++ t) (all ∙ ap concat left) ∙ sym (concat-append first (drop n old.to_come)) ∙ whole)
  more_records rest (inr (m, below, cut)) =
      let fewer : length new.to_come ≡ length old.to_come - n = ap length left ∙ length-drop n old.to_come in
      let first = take n old.to_come in
      let next = take m (drop n old.to_come) in
      let both = sym (concat-append first next) ∙ ap concat (sym (take-add n m old.to_come)) in
      let text =
      ap (λ t. concat first ++ t) (cut ∙ ap (λ l. concat (take m l) ++ cut_text) left)
      ∙ sym (append_assoc (concat first) (concat next) cut_text)
      ∙ ap (λ t. t ++ cut_text) both in
      inr (n + m, omega (arith, below, fewer), text)

  pub last_records : new.to_come ≡ [] → (rest : List ℕ) → rest ≡ [] → TellsRecords (replies.Export old) (concat (take n old.to_come) ++ rest)
  last_records over rest none = more_records rest (inl (none ∙ sym (ap concat over)))

-- the rest is cut, and nothing comes behind that
module _ (ticket : TicketState) (n : ℕ) (below : n < length ticket.to_come) where
  pub cut_records : TellsRecords (replies.Export ticket) (concat (take n ticket.to_come) ++ cut_text)
  cut_records = inr (n, below, refl)

  pub cut_then_nothing : (rest : List ℕ) → rest ≡ [] → TellsRecords (replies.Export ticket) ((concat (take n ticket.to_come) ++ cut_text) ++ rest)
  cut_then_nothing rest none =
      let cut = concat (take n ticket.to_come) ++ cut_text in
      inr (n, below, ap (λ t. cut ++ t) none ∙ append-nil cut)
