-- How a core goes on by a file's lines behind its first so many.
use Rattle.std.proofs.Common.{◌≡◌, ℕ, ◌+◌, ◌-◌, ◌<◌, ◌≤◌, ◌^◌, zero, suc, true, false, Option, Some, None, Result, Ok, Err, List, [], ◌∷◌, ◌++◌, length, drop, refl, sym, ap, subst, inl, inr, arith, Vec, Global}
use Rattle.std.specs.Option.{is_some}
use Rattle.std.specs.Io.KnownBytes.{Consumes, IsAtEnd}
use Rattle.lines_core.specs.Lines.{whole_lines}
use Rattle.lines_core.specs.Serving.{AnswersAll}
use Rattle.lines_core.specs.declared.line.TheConstants.{LONGEST_LINE}
use Rattle.system_core.specs.World.{World}
use Rattle.load_core.specs.declared.behind.Skipping.{Skipping}
use Rattle.lines_core.specs.declared.serving.SessionFault.{SessionFault}
use Rattle.lines_core.specs.declared.serving.SessionFault.TheVariants as sessions
use Rattle.load_core.specs.declared.fault.LoadFault.{LoadFault}
use Rattle.load_core.specs.declared.fault.LoadFault.TheVariants as faults
use Rattle.load_core.specs.declared.fault.Undone.{Undone}
use Rattle.load_core.specs.declared.loading.Loaded.{Loaded}
use Rattle.load_core.specs.Loading.{IsCutOf, IsUndone}
use Rattle.load_core.specs.Loader.{LoaderState, GoesOn, IsToldOf, lines_at, loaded_of}
use Rattle.load_core.specs.Skipping.{SkipsOrGoesOn, is_over, StopsBehind, EndsBehind, behind_of}
use Rattle.load_core.specs.Whole.{ReadsWhole}
use Rattle.load_core.proofs.Coming.{Comes, Stops, comes}
use Rattle.load_core.proofs.Room.{Loads-few}

-- ---- the lines behind the first ones
pub record Skipped (k : ℕ) (loader : LoaderState) (ls : List (List ℕ)) (new : Skipping) : Type 0 where
  pub text : List ℕ
  pub answered : AnswersAll GoesOn loader (drop k ls) text new.loader
  pub skips : new.skips ≡ k - length ls

skipped : (ls : List (List ℕ)) (k : ℕ) (loader : LoaderState) (text : List ℕ) (new : Skipping) → AnswersAll SkipsOrGoesOn (record { loader = loader; skips = k }) ls text new → Skipped k loader ls new
skipped [] zero loader text new (none, same) = record { text = []; answered = (refl, ap (λ (s : Skipping). s.loader) same); skips = (let t = ap (λ (s : Skipping). s.skips) same in omega arith) }
skipped [] (suc k) loader text new (none, same) = record { text = []; answered = (refl, ap (λ (s : Skipping). s.loader) same); skips = (let t = ap (λ (s : Skipping). s.skips) same in omega arith) }
skipped (line ∷ ls) zero loader text new (first, mid, more, (goes, none), rest, is) =
    let on : AnswersAll SkipsOrGoesOn (record { loader = mid.loader; skips = 0 }) ls more new = subst (λ (k : ℕ). AnswersAll SkipsOrGoesOn (record { loader = mid.loader; skips = k }) ls more new) none rest in
    let s = skipped ls 0 mid.loader more new on in
    record { text = first ++ s.text; answered = (first, mid.loader, s.text, goes, s.answered, refl); skips = (let t = s.skips in omega arith) }
skipped (line ∷ ls) (suc k) loader text new (first, mid, more, (none, same), rest, is) =
    let s = skipped ls k loader more new (subst (λ (m : Skipping). AnswersAll SkipsOrGoesOn m ls more new) same rest) in
    record { text = s.text; answered = s.answered; skips = (let t = s.skips in omega arith) }

-- ---- how it ends
module _ (old : World) (k : ℕ) (left left' : Option (List ℕ)) where
  abbrev pub begun : Skipping
  begun = record { loader = record { world = old; stop = None }; skips = k }

  stops_behind : (ls : List (List ℕ)) (why : Undone) (w : World) → Stops old ls why w → StopsBehind old ls (length w.journal + 1) why
  stops_behind ls why w s = record {
    front = s.front;
    line = s.line;
    rest = s.rest;
    journal = w.journal;
    lines_are = s.lines_are;
    number_is = refl;
    loads = s.loads;
    undone = subst (λ (x : World). IsUndone LONGEST_LINE x s.line why) s.same s.undone;
  }

  -- at the end of the reader
  at_end : (bytes : List ℕ) (stop : Option Undone) (w : World) (skips : ℕ) (cut : Option (Vec ℕ Global)) → Consumes left left' bytes → IsAtEnd left' → IsCutOf bytes cut
      → Skipped k (record { world = old; stop = None }) (whole_lines bytes) (record { loader = record { world = w; stop = stop }; skips = skips })
      → EndsBehind old k (behind_of w stop cut skips) left left'
  at_end bytes None w skips cut read end is s =
      let c = comes (drop k (whole_lines bytes)) old s.text (record { world = w; stop = None }) s.answered in
      (bytes, read, end, is, s.skips, c.0, c.1)
  at_end bytes (Some why) w skips cut read end is s =
      (bytes, read, stops_behind (lines_at old.journal (drop k (whole_lines bytes))) why w (comes (drop k (whole_lines bytes)) old s.text (record { world = w; stop = Some why }) s.answered))

  -- before it, where a line stopped it
  over_at : (bytes : List ℕ) (stop : Option Undone) (w : World) (skips : ℕ) (cut : Option (Vec ℕ Global)) → Consumes left left' bytes → is_some stop ≡ true
      → Skipped k (record { world = old; stop = None }) (whole_lines bytes) (record { loader = record { world = w; stop = stop }; skips = skips })
      → EndsBehind old k (behind_of w stop cut skips) left left'
  over_at bytes None w skips cut read over s = let never : false ≡ true = over in cc
  over_at bytes (Some why) w skips cut read over s =
      (bytes, read, stops_behind (lines_at old.journal (drop k (whole_lines bytes))) why w (comes (drop k (whole_lines bytes)) old s.text (record { world = w; stop = Some why }) s.answered))

  pub ends_behind : (cut : Option (Vec ℕ Global)) (new : Skipping) → ReadsWhole SkipsOrGoesOn is_over (Ok cut) begun new left left' → EndsBehind old k (behind_of new.loader.world new.loader.stop cut new.skips) left left'
  ends_behind None new (inl (bytes, run, end, open_then, whole, same)) = at_end bytes new.loader.stop new.loader.world new.skips None run.read end (whole, same) (skipped (whole_lines bytes) k begun.loader run.text new run.answered)
  ends_behind None new (inr (bytes, run, over)) = over_at bytes new.loader.stop new.loader.world new.skips None run.read over (skipped (whole_lines bytes) k begun.loader run.text new run.answered)
  ends_behind (Some front) new (bytes, run, end, open_then, cut, is) = at_end bytes new.loader.stop new.loader.world new.skips (Some front) run.read end (cut, is) (skipped (whole_lines bytes) k begun.loader run.text new run.answered)

  -- no journal that is loaded is longer than the limit
  few_by : (ls : List (List ℕ)) (stop : Option Undone) (w : World) → length old.journal ≤ old.limits.changes → Comes old ls stop w → length w.journal ≤ old.limits.changes
  few_by ls None w few c = Loads-few old.limits old.journal ls w.journal few c.0
  few_by ls (Some why) w few s = Loads-few old.limits old.journal s.front w.journal few s.loads

  few_of : (ls : List (List ℕ)) (new : Skipping) → length old.journal ≤ old.limits.changes → Skipped k (record { world = old; stop = None }) ls new → length new.loader.world.journal ≤ old.limits.changes
  few_of ls new few s = few_by (lines_at old.journal (drop k ls)) new.loader.stop new.loader.world few (comes (drop k ls) old s.text new.loader s.answered)

  pub few_behind : (cut : Option (Vec ℕ Global)) (new : Skipping) → length old.journal ≤ old.limits.changes → ReadsWhole SkipsOrGoesOn is_over (Ok cut) begun new left left' → length new.loader.world.journal ≤ old.limits.changes
  few_behind None new few (inl (bytes, run, end, open_then, whole, same)) = few_of (whole_lines bytes) new few (skipped (whole_lines bytes) k begun.loader run.text new run.answered)
  few_behind None new few (inr (bytes, run, over)) = few_of (whole_lines bytes) new few (skipped (whole_lines bytes) k begun.loader run.text new run.answered)
  few_behind (Some front) new few (bytes, run, end, open_then, cut, is) = few_of (whole_lines bytes) new few (skipped (whole_lines bytes) k begun.loader run.text new run.answered)

  -- where a fault of the reader ended it
  told_fault : (fault : SessionFault) (told : LoadFault) (new : Skipping) → ReadsWhole SkipsOrGoesOn is_over (Err fault) begun new left left' → IsToldOf fault told → EndsBehind old k (Err told) left left'
  told_fault sessions.Read told new (bytes, run) is = subst (λ (f : LoadFault). EndsBehind old k (Err f) left left') (sym is) (bytes, run.read)
  told_fault sessions.Bound told new (bytes, run, size) is = subst (λ (f : LoadFault). EndsBehind old k (Err f) left left') (sym is) (bytes, run.read, size)
  told_fault sessions.NoMemory told new (same, kept, wrote) is = subst (λ (f : LoadFault). EndsBehind old k (Err f) left left') (sym is) kept
  told_fault sessions.Write told new breaks is = absurd is

  -- ---- what the loader gives in the end
  abbrev the_loaded : Loaded → Result Loaded LoadFault → Loaded
  the_loaded other (Ok loaded) = loaded
  the_loaded other (Err fault) = other

  abbrev the_fault : LoadFault → Result Loaded LoadFault → LoadFault
  the_fault other (Ok loaded) = other
  the_fault other (Err fault) = fault

  given_loaded : (w : World) (stop : Option Undone) (cut : Option (Vec ℕ Global)) (skips : ℕ) (loaded : Loaded) → Ok loaded ≡ loaded_of w stop cut → EndsBehind old k (behind_of w stop cut skips) left left'
      → EndsBehind old k (Ok (record { loaded = loaded; skips = skips })) left left'
  given_loaded w None cut skips loaded is e =
      subst (λ (l : Loaded). EndsBehind old k (Ok (record { loaded = l; skips = skips })) left left') (sym (ap (the_loaded loaded) is)) e
  given_loaded w (Some why) cut skips loaded is e = absurd cc

  given_fault : (w : World) (stop : Option Undone) (cut : Option (Vec ℕ Global)) (skips : ℕ) (fault : LoadFault) → Err fault ≡ loaded_of w stop cut → EndsBehind old k (behind_of w stop cut skips) left left'
      → EndsBehind old k (Err fault) left left'
  given_fault w None cut skips fault is e = absurd cc
  given_fault w (Some why) cut skips fault is e = subst (λ (f : LoadFault). EndsBehind old k (Err f) left left') (sym (ap (the_fault fault) is)) e

  few_given : (w : World) (stop : Option Undone) (cut : Option (Vec ℕ Global)) (loaded : Loaded) → Ok loaded ≡ loaded_of w stop cut → loaded.system ≡ w
  few_given w None cut loaded is = ap (λ (l : Loaded). l.system) (ap (the_loaded loaded) is)
  few_given w (Some why) cut loaded is = absurd cc

  -- that is none of the reader
  pub never_read : {T : Type 0} (w : World) (stop : Option Undone) (cut : Option (Vec ℕ Global)) (fault : LoadFault) → Err fault ≡ loaded_of w stop cut → ◌≡◌ {A = Result T LoadFault} (Err fault) (Err faults.Read) → {A : Type 0} → A
  never_read w None cut fault is e = absurd cc
  never_read w (Some why) cut fault is e = absurd cc

  -- ---- from a loader that is at the world
  module _ (loader : LoaderState) (here : loader.world ≡ old) (going : loader.stop ≡ None) where
    from_begun : (result : Result (Option (Vec ℕ Global)) SessionFault) (new : Skipping) → ReadsWhole SkipsOrGoesOn is_over result (record { loader = loader; skips = k }) new left left' → ReadsWhole SkipsOrGoesOn is_over result begun new left left'
    from_begun result new = subst (λ (l : LoaderState). ReadsWhole SkipsOrGoesOn is_over result (record { loader = l; skips = k }) new left left') (λ i. record { world = here i; stop = going i })

    pub number_is_small : (cut : Option (Vec ℕ Global)) (new : Skipping) → length old.journal ≤ old.limits.changes → ReadsWhole SkipsOrGoesOn is_over (Ok cut) (record { loader = loader; skips = k }) new left left'
        → length new.loader.world.journal + 1 < 2 ^ 64
    number_is_small cut new few ends = omega (arith, old.limits.changes_within, few_behind cut new few (from_begun (Ok cut) new ends))

    pub loaded_so : (cut : Option (Vec ℕ Global)) (new : Skipping) (loaded : Loaded) → ReadsWhole SkipsOrGoesOn is_over (Ok cut) (record { loader = loader; skips = k }) new left left'
        → Ok loaded ≡ loaded_of new.loader.world new.loader.stop cut
        → EndsBehind old k (Ok (record { loaded = loaded; skips = new.skips })) left left'
    loaded_so cut new loaded ends is = given_loaded new.loader.world new.loader.stop cut new.skips loaded is (ends_behind cut new (from_begun (Ok cut) new ends))

    pub faulty_so : (cut : Option (Vec ℕ Global)) (new : Skipping) (fault : LoadFault) → ReadsWhole SkipsOrGoesOn is_over (Ok cut) (record { loader = loader; skips = k }) new left left'
        → Err fault ≡ loaded_of new.loader.world new.loader.stop cut
        → EndsBehind old k (Err fault) left left'
    faulty_so cut new fault ends is = given_fault new.loader.world new.loader.stop cut new.skips fault is (ends_behind cut new (from_begun (Ok cut) new ends))

    pub broken_so : (fault : SessionFault) (told : LoadFault) (new : Skipping) → ReadsWhole SkipsOrGoesOn is_over (Err fault) (record { loader = loader; skips = k }) new left left' → IsToldOf fault told → EndsBehind old k (Err told) left left'
    broken_so fault told new ends is = told_fault fault told new (from_begun (Err fault) new ends) is

    pub few_so : (cut : Option (Vec ℕ Global)) (new : Skipping) (loaded : Loaded) → length old.journal ≤ old.limits.changes → ReadsWhole SkipsOrGoesOn is_over (Ok cut) (record { loader = loader; skips = k }) new left left'
        → Ok loaded ≡ loaded_of new.loader.world new.loader.stop cut
        → length loaded.system.journal ≤ old.limits.changes
    few_so cut new loaded few ends is =
        subst (λ (w : World). length w.journal ≤ old.limits.changes) (sym (few_given new.loader.world new.loader.stop cut loaded is)) (few_behind cut new few (from_begun (Ok cut) new ends))
