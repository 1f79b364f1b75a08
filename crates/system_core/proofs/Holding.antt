-- A system's checkpoints stay as they have to be, whatever becomes of them, and the world goes on by a step.
use Rattle.std.proofs.Common.{◌≡◌, ◌≤◌, ◌<◌, ℕ, zero, suc, ◌+◌, ◌-◌, ltb, List, [], ◌∷◌, ◌++◌, length, drop, map, Option, Some, None, option_map, Result, Ok, Err, OnOk, OnErr, refl, sym, ap, ◌∙◌, subst, arith}
use Rattle.std.specs.List.{AllByRecursion}
use Rattle.std.specs.Option.{option_and_then}
use Rattle.std.proofs.lemmas.Bool.{cond-true, cond-false, lt-ltb, le-ltb}
use Rattle.std.proofs.lemmas.List.{take_all, length-append, length-drop, length-map, map-append}
use Rattle.base_core.specs.declared.value.Moment.{Moment}
use Rattle.base_core.specs.declared.limits.Limits.{Limits}
use Rattle.capture_core.specs.Image.{image, records}
use Rattle.capture_core.specs.declared.progress.Progress.TheVariants.{Left}
use Rattle.tables_core.specs.Contents.{Database}
use Rattle.grants_core.specs.declared.grant.Grant.{Grant}
use Rattle.capture_core.specs.Capturing.{ActiveCapture, InProgress, TellsProgress, in_progress, taken_off}
use Rattle.capture_core.specs.declared.image.Image.{Image}
use Rattle.catalogue_core.specs.Kept.{last_eight, number_and_point}
use Rattle.system_core.specs.declared.machine.event.Entry.{Entry}
use Rattle.system_core.specs.Journal.{tables_at, rights_at}
use Rattle.system_core.specs.Exports.{journal_at}
use Rattle.system_core.specs.World.{records_at, with_active, IsRising, IsSoundActive}
use Rattle.system_core.specs.declared.machine.event.Reply.TheVariants.{Finished}
use Rattle.system_core.specs.Step.{Advances, with_begun, with_left, with_finished}
use Rattle.system_core.specs.Standing.{LedgerState, Checkpointing, after_begin, after_step, as_active, world_of, image_at, IsImageOf, IsComing, KeepsCheckpoints}
use Rattle.system_core.proofs.Rising.{each-drop, each-front, each-weaker, each-end, rising-drop, rising-front, rising-end}
use Rattle.system_core.proofs.Imaging.{journal_at-more, image_at-more}

-- ---- nothing yet
pub holds-opening : (chunk : ℕ) (limits : Limits) → 0 < chunk → chunk ≤ 64 → KeepsCheckpoints chunk (record { journal = []; limits = limits; rows_due = []; grants_due = [] }) (record { begun = 0; active = None }) []
holds-opening chunk limits some small = record {
  some = some;
  small = small;
  images_of = tt;
  coming_of = tt;
  sound = record { within = omega arith; few = omega arith; rising = tt; begun = tt; past = tt; active = tt };
}

-- ---- one more entry
image-more : (journal : List Entry) (e : Entry) (i : Image) → IsImageOf journal i → IsImageOf (journal ++ e ∷ []) i
image-more journal e i h = record {
  past = omega (arith, h.past, length-append journal (e ∷ []));
  is = h.is ∙ sym (image_at-more journal e i.number i.point h.past);
}

coming-more : (journal : List Entry) (e : Entry) (o : Option InProgress) → IsComing journal o → IsComing (journal ++ e ∷ []) o
coming-more journal e None h = tt
coming-more journal e (Some a) h = image-more journal e a.coming h

active-more : (journal : List Entry) (e : Entry) (begun : ℕ) (o : Option InProgress) → IsComing journal o → IsSoundActive journal begun (option_map as_active o) → IsSoundActive (journal ++ e ∷ []) begun (option_map as_active o)
active-more journal e begun None h s = tt
active-more journal e begun (Some a) h s =
    let same : records_at (journal ++ e ∷ []) a.coming.point ≡ records_at journal a.coming.point = ap (λ j. records (tables_at j) (rights_at j)) (journal_at-more journal e a.coming.point h.past) in
    (s.0, s.1, omega (arith, s.2, same))

pub holds-entered : (chunk : ℕ) (accepted : LedgerState) (c : Checkpointing) (images : List Image) (e : Entry) → KeepsCheckpoints chunk accepted c images → KeepsCheckpoints chunk (record accepted { journal = accepted.journal ++ e ∷ [] }) c images
holds-entered chunk accepted c images e h =
    let long : length (accepted.journal ++ e ∷ []) ≡ length accepted.journal + 1 = length-append accepted.journal (e ∷ []) in
    record {
      some = h.some;
      small = h.small;
      images_of = each-weaker (IsImageOf accepted.journal) (IsImageOf (accepted.journal ++ e ∷ [])) images (image-more accepted.journal e) h.images_of;
      coming_of = coming-more accepted.journal e c.active h.coming_of;
      sound = record {
        within = h.sound.within;
        few = h.sound.few;
        rising = h.sound.rising;
        begun = h.sound.begun;
        past = each-weaker (λ k. k.1.0 ≤ length accepted.journal) (λ k. k.1.0 ≤ length (accepted.journal ++ e ∷ [])) (with_active (map number_and_point images) (option_map as_active c.active)) (λ k p. omega (arith, p, long)) h.sound.past;
        active = active-more accepted.journal e c.begun c.active h.coming_of h.sound.active;
      };
    }

-- ---- one more checkpoint
module _ (accepted : LedgerState) where
  abbrev pub now : Moment
  now = record { 0 = length accepted.journal }

  all_now : journal_at accepted.journal now ≡ accepted.journal
  all_now = take_all (length accepted.journal) accepted.journal (omega arith)

  records-now : records (tables_at accepted.journal) (rights_at accepted.journal) ≡ records_at accepted.journal now
  records-now = ap (λ j. records (tables_at j) (rights_at j)) (sym all_now)

  image-now : (number : ℕ) → image number now (tables_at accepted.journal) (rights_at accepted.journal) ≡ image_at accepted.journal number now
  image-now number = ap (λ j. image number now (tables_at j) (rights_at j)) (sym all_now)

  some_left : 0 < records (tables_at accepted.journal) (rights_at accepted.journal)
  some_left = omega arith

  -- the world with one more begun
  pub begun-world : (chunk : ℕ) (c : Checkpointing) (images : List Image) → world_of chunk accepted (after_begin accepted.journal c) images ≡ with_begun (world_of chunk accepted c images)
  begun-world chunk c images = ap (λ n. record (world_of chunk accepted c images) { begun = c.begun + 1; active = Some (record { number = c.begun + 1; point = now; left = n }) }) records-now

  pub holds-begun : (chunk : ℕ) (c : Checkpointing) (images : List Image) → c.active ≡ None → c.begun < accepted.limits.checkpoints → KeepsCheckpoints chunk accepted c images → KeepsCheckpoints chunk accepted (after_begin accepted.journal c) images
  holds-begun chunk c images none room h =
      let rising = subst (λ (o : Option InProgress). IsRising 0 0 (with_active (map number_and_point images) (option_map as_active o))) none h.sound.rising in
      let past = subst (λ (o : Option InProgress). AllByRecursion (λ k. k.1.0 ≤ length accepted.journal) (with_active (map number_and_point images) (option_map as_active o))) none h.sound.past in
      record {
        some = h.some;
        small = h.small;
        images_of = h.images_of;
        coming_of = record { past = omega arith; is = image-now (c.begun + 1) };
        sound = record {
          within = omega (arith, room);
          few = h.sound.few;
          rising = rising-end 0 0 (map number_and_point images) (c.begun + 1, now) (omega arith) (omega arith)
              (each-weaker (λ k. k.0 ≤ c.begun) (λ k. k.0 < c.begun + 1) (map number_and_point images) (λ k p. omega (arith, p)) h.sound.begun) past rising;
          begun = each-weaker (λ k. k.0 ≤ c.begun) (λ k. k.0 ≤ c.begun + 1) (map number_and_point images) (λ k p. omega (arith, p)) h.sound.begun;
          past = each-end (λ k. k.1.0 ≤ length accepted.journal) (map number_and_point images) (c.begun + 1, now) past (omega arith);
          active = (refl, some_left, omega (arith, records-now));
        };
      }

-- ---- what becomes of the active one
-- the number stays used up
abbrev pub after_abandon : Checkpointing → Checkpointing
after_abandon c = record c { active = None }

map-drop : {X Y : Type 0} (f : X → Y) (n : ℕ) (xs : List X) → map f (drop n xs) ≡ drop n (map f xs)
map-drop f zero xs = refl
map-drop f (suc n) [] = refl
map-drop f (suc n) (x ∷ xs) = map-drop f n xs

module _ (chunk : ℕ) (accepted : LedgerState) (c : Checkpointing) (images : List Image) (a : InProgress) (is : c.active ≡ Some a) (h : KeepsCheckpoints chunk accepted c images) where
  rising : IsRising 0 0 (map number_and_point images ++ (a.coming.number, a.coming.point) ∷ [])
  rising = subst (λ (o : Option InProgress). IsRising 0 0 (with_active (map number_and_point images) (option_map as_active o))) is h.sound.rising

  past : AllByRecursion (λ k. k.1.0 ≤ length accepted.journal) (map number_and_point images ++ (a.coming.number, a.coming.point) ∷ [])
  past = subst (λ (o : Option InProgress). AllByRecursion (λ k. k.1.0 ≤ length accepted.journal) (with_active (map number_and_point images) (option_map as_active o))) is h.sound.past

  sound : IsSoundActive accepted.journal c.begun (Some (as_active a))
  sound = subst (λ (o : Option InProgress). IsSoundActive accepted.journal c.begun (option_map as_active o)) is h.sound.active

  coming : IsImageOf accepted.journal a.coming
  coming = subst (IsComing accepted.journal) is h.coming_of

  -- k records fewer are left
  fewer : (k : ℕ) → k < a.left → (after_step k c).active ≡ Some (record a { left = a.left - k })
  fewer k lt = ap (option_and_then (taken_off k)) is ∙ cond-true (ltb k a.left) _ _ (lt-ltb k a.left lt)

  pub left-world : (k : ℕ) → k < a.left → world_of chunk accepted (after_step k c) images ≡ with_left (world_of chunk accepted c images) (as_active a) (a.left - k)
  left-world k lt = ap (λ (o : Option InProgress). record (world_of chunk accepted c images) { active = option_map as_active o }) (fewer k lt)

  pub holds-left : (k : ℕ) → k < a.left → KeepsCheckpoints chunk accepted (after_step k c) images
  holds-left k lt = subst (λ (o : Option InProgress). KeepsCheckpoints chunk accepted (record c { active = o }) images) (sym (fewer k lt)) (record {
    some = h.some;
    small = h.small;
    images_of = h.images_of;
    coming_of = coming;
    sound = record {
      within = h.sound.within;
      few = h.sound.few;
      rising = rising;
      begun = h.sound.begun;
      past = past;
      active = (sound.0, omega (arith, lt), omega (arith, sound.2));
    };
  })

  -- none is left
  ended : (k : ℕ) → a.left ≤ k → (after_step k c).active ≡ None
  ended k le = ap (option_and_then (taken_off k)) is ∙ cond-false (ltb k a.left) _ _ (le-ltb k a.left le)

  kept-entries : map number_and_point (last_eight (images ++ a.coming ∷ [])) ≡ last_eight (map number_and_point images ++ number_and_point a.coming ∷ [])
  kept-entries =
      map-drop number_and_point (length (images ++ a.coming ∷ []) - 8) (images ++ a.coming ∷ [])
      ∙ (ap (λ n. drop (n - 8) (map number_and_point (images ++ a.coming ∷ []))) (sym (length-map (images ++ a.coming ∷ []) number_and_point))
      ∙ ap last_eight (map-append number_and_point images (a.coming ∷ [])))

  pub finished-world : (k : ℕ) → a.left ≤ k → world_of chunk accepted (after_step k c) (last_eight (images ++ a.coming ∷ [])) ≡ with_finished (world_of chunk accepted c images) (as_active a)
  finished-world k le =
      ap (λ (o : Option InProgress). record (world_of chunk accepted c (last_eight (images ++ a.coming ∷ []))) { active = option_map as_active o }) (ended k le)
      ∙ ap (λ cs. record (world_of chunk accepted c images) { finished = cs; active = None }) kept-entries

  few : (cs : List (ℕ × Moment)) → length (last_eight cs) ≤ 8
  few cs = omega (arith, length-drop (length cs - 8) cs)

  pub holds-finished : (k : ℕ) → a.left ≤ k → KeepsCheckpoints chunk accepted (after_step k c) (last_eight (images ++ a.coming ∷ []))
  holds-finished k le = subst (λ (o : Option InProgress). KeepsCheckpoints chunk accepted (record c { active = o }) (last_eight (images ++ a.coming ∷ []))) (sym (ended k le)) (record {
    some = h.some;
    small = h.small;
    images_of = each-drop (IsImageOf accepted.journal) (length (images ++ a.coming ∷ []) - 8) (images ++ a.coming ∷ []) (each-end (IsImageOf accepted.journal) images a.coming h.images_of coming);
    coming_of = tt;
    sound = record {
      within = h.sound.within;
      few = subst (λ (cs : List (ℕ × Moment)). length cs ≤ 8) (sym kept-entries) (few (map number_and_point images ++ number_and_point a.coming ∷ []));
      rising = subst (IsRising 0 0) (sym kept-entries) (rising-drop (length (map number_and_point images ++ number_and_point a.coming ∷ []) - 8) (map number_and_point images ++ number_and_point a.coming ∷ []) rising);
      begun = subst (AllByRecursion (λ (k : ℕ × Moment). k.0 ≤ c.begun)) (sym kept-entries)
          (each-drop (λ k. k.0 ≤ c.begun) (length (map number_and_point images ++ number_and_point a.coming ∷ []) - 8) (map number_and_point images ++ number_and_point a.coming ∷ []) (each-end (λ k. k.0 ≤ c.begun) (map number_and_point images) (number_and_point a.coming) h.sound.begun (omega (arith, sound.0))));
      past = subst (AllByRecursion (λ (k : ℕ × Moment). k.1.0 ≤ length accepted.journal)) (sym kept-entries)
          (each-drop (λ k. k.1.0 ≤ length accepted.journal) (length (map number_and_point images ++ number_and_point a.coming ∷ []) - 8) (map number_and_point images ++ number_and_point a.coming ∷ []) past);
      active = tt;
    };
  })

  -- it is given up
  pub holds-given_up : KeepsCheckpoints chunk accepted (after_abandon c) images
  holds-given_up = record {
    some = h.some;
    small = h.small;
    images_of = h.images_of;
    coming_of = tt;
    sound = record {
      within = h.sound.within;
      few = h.sound.few;
      rising = rising-front 0 0 (map number_and_point images) ((a.coming.number, a.coming.point) ∷ []) rising;
      begun = h.sound.begun;
      past = each-front (λ k. k.1.0 ≤ length accepted.journal) (map number_and_point images) ((a.coming.number, a.coming.point) ∷ []) past;
      active = tt;
    };
  }

-- **after a step of k**
pub holds-stepped : (chunk k : ℕ) (accepted : LedgerState) (c : Checkpointing) (images : List Image) (n : ℕ) → TellsProgress k c.active (Left n) → KeepsCheckpoints chunk accepted c images → KeepsCheckpoints chunk accepted (after_step k c) images
holds-stepped chunk k accepted c images n tells h = by c.active refl tells
  where
    by : (o : Option InProgress) → c.active ≡ o → TellsProgress k o (Left n) → KeepsCheckpoints chunk accepted (after_step k c) images
    by None is t = absurd t
    by (Some a) is t = holds-left chunk accepted c images a is h k t.0

-- none is left after a step of k, and this is the image
abbrev pub IsDone : ℕ → Option InProgress → Image → Type 0
IsDone k None i = ⊥
IsDone k (Some a) i = (a.left ≤ k) × (i ≡ a.coming)

pub holds-done : (chunk k : ℕ) (accepted : LedgerState) (c : Checkpointing) (images : List Image) (i : Image) → IsDone k c.active i → KeepsCheckpoints chunk accepted c images → KeepsCheckpoints chunk accepted (after_step k c) (last_eight (images ++ i ∷ []))
holds-done chunk k accepted c images i done h = by c.active refl done
  where
    by : (o : Option InProgress) → c.active ≡ o → IsDone k o i → KeepsCheckpoints chunk accepted (after_step k c) (last_eight (images ++ i ∷ []))
    by None is t = absurd t
    by (Some a) is t = subst (λ (j : Image). KeepsCheckpoints chunk accepted (after_step k c) (last_eight (images ++ j ∷ []))) (sym t.1) (holds-finished chunk accepted c images a is h k t.0)

-- the number is that of the checkpoint in progress
abbrev pub IsNumberOf : ℕ → Option InProgress → Type 0
IsNumberOf n None = ⊥
IsNumberOf n (Some a) = n ≡ a.coming.number

abbrev number_in : ℕ → Option (ℕ × Moment × ℕ) → ℕ
number_in other None = other
number_in other (Some told) = told.0

pub number-told : (active : Option ActiveCapture) (d : Database) (grants : List Grant) (n : ℕ) (point : Moment) (left : ℕ) → option_map {U = ℕ × Moment × ℕ} (λ (a : ActiveCapture). (a.number, a.point, a.left)) active ≡ Some (n, point, left) → IsNumberOf n (in_progress active d grants)
number-told None d grants n point left e = cc
number-told (Some a) d grants n point left e = sym (ap (number_in n) e)

-- the world goes on to one where it is finished
pub advances-done : (chunk : ℕ) (accepted : LedgerState) (c : Checkpointing) (images : List Image) (i : Image) (n : ℕ) → IsDone chunk c.active i → IsNumberOf n c.active → KeepsCheckpoints chunk accepted c images
    → Advances (world_of chunk accepted c images) (option_map as_active c.active) (Finished n) (world_of chunk accepted (after_step chunk c) (last_eight (images ++ i ∷ [])))
advances-done chunk accepted c images i n done number h = by c.active refl done number
  where
    by : (o : Option InProgress) → c.active ≡ o → IsDone chunk o i → IsNumberOf n o → Advances (world_of chunk accepted c images) (option_map as_active o) (Finished n) (world_of chunk accepted (after_step chunk c) (last_eight (images ++ i ∷ [])))
    by None is t m = absurd t
    by (Some a) is t m = (t.0, m, subst (λ (j : Image). world_of chunk accepted (after_step chunk c) (last_eight (images ++ j ∷ [])) ≡ with_finished (world_of chunk accepted c images) (as_active a)) (sym t.1) (finished-world chunk accepted c images a is h chunk t.0))

-- **after it was given up, if one was active**
pub holds-abandoned : (chunk : ℕ) (accepted : LedgerState) (c : Checkpointing) (images : List Image) → KeepsCheckpoints chunk accepted c images → KeepsCheckpoints chunk accepted (after_abandon c) images
holds-abandoned chunk accepted c images h = by c.active refl
  where
    by : (o : Option InProgress) → c.active ≡ o → KeepsCheckpoints chunk accepted (after_abandon c) images
    by None is = subst (λ (o : Option InProgress). KeepsCheckpoints chunk accepted (record c { active = o }) images) is h
    by (Some a) is = holds-given_up chunk accepted c images a is h

-- what holds after either result holds
pub by_result : {T E P Q G : Type 0} (r : Result T E) → OnOk r P → OnErr r Q → (P → G) → (Q → G) → G
by_result (Ok x) p q f g = f p
by_result (Err e) p q f g = g q
