-- How a loading ends.
use Rattle.std.proofs.Common.{◌≡◌, inl, inr, ℕ, ◌+◌, ◌<◌, ◌≤◌, ◌^◌, true, false, Option, Some, None, Result, Ok, Err, IfOk, List, [], length, subst, arith, Vec, Global}
use Rattle.std.specs.Option.{is_some}
use Rattle.std.specs.Io.KnownBytes.{Consumes, IsAtEnd}
use Rattle.base_core.specs.declared.limits.Limits.{Limits}
use Rattle.lines_core.specs.Lines.{whole_lines}
use Rattle.lines_core.specs.Serving.{AnswersAll}
use Rattle.lines_core.specs.declared.line.TheConstants.{LONGEST_LINE}
use Rattle.system_core.specs.World.{World, opening}
use Rattle.load_core.specs.declared.fault.LoadFault.{LoadFault}
use Rattle.load_core.specs.declared.fault.LoadFault.TheVariants as faults
use Rattle.load_core.specs.declared.fault.Undone.{Undone}
use Rattle.load_core.specs.declared.loading.Loaded.{Loaded}
use Rattle.load_core.specs.Loading.{StopsAt, EndsLoad, EndsLoadWhole, IsCutOf, IsUndone, lines_unmarked}
use Rattle.load_core.specs.Loader.{LoaderState, GoesOn, has_stopped, loaded_of}
use Rattle.load_core.specs.Whole.{ReadsWhole}
use Rattle.load_core.proofs.Lines.{lines_unmarked-length}
use Rattle.load_core.proofs.Coming.{Comes, Stops, comes}
use Rattle.load_core.proofs.Room.{Loads-few, Loads-count}

module _ (chunk : ℕ) (limits : Limits) (left left' : Option (List ℕ)) where
  abbrev pub start : LoaderState
  start = record { world = opening chunk limits; stop = None }

  abbrev Told : Result Loaded LoadFault → Type 0
  Told result = EndsLoadWhole chunk limits result left left'

  -- what its lines come to is what is said of a stop
  stops_at : (ls : List (List ℕ)) (why : Undone) (w : World) → Stops (opening chunk limits) ls why w → StopsAt chunk limits ls (length w.journal + 1) why
  stops_at ls why w s = record {
    front = s.front;
    line = s.line;
    rest = s.rest;
    journal = w.journal;
    lines_are = s.lines_are;
    number_is = omega (arith, s.count);
    loads = s.loads;
    undone = subst (λ (x : World). IsUndone LONGEST_LINE x s.line why) s.same s.undone;
  }

  -- at the end of the input
  at_end : (bytes text : List ℕ) (stop : Option Undone) (w : World) (cut : Option (Vec ℕ Global)) → Consumes left left' bytes → IsAtEnd left' → IsCutOf bytes cut → AnswersAll GoesOn start (whole_lines bytes) text (record { world = w; stop = stop }) → Told (loaded_of w stop cut)
  at_end bytes text None w cut read end is a =
      let c = comes (whole_lines bytes) (opening chunk limits) text (record { world = w; stop = None }) a in
      (bytes, read, end, is, c.0, c.1)
  at_end bytes text (Some why) w cut read end is a =
      (bytes, read, stops_at (lines_unmarked (whole_lines bytes)) why w (comes (whole_lines bytes) (opening chunk limits) text (record { world = w; stop = Some why }) a))

  -- before it, where a line stopped it
  over_at : (bytes text : List ℕ) (stop : Option Undone) (w : World) (cut : Option (Vec ℕ Global)) → Consumes left left' bytes → is_some stop ≡ true → AnswersAll GoesOn start (whole_lines bytes) text (record { world = w; stop = stop }) → Told (loaded_of w stop cut)
  over_at bytes text None w cut read over a = let never : false ≡ true = over in cc
  over_at bytes text (Some why) w cut read over a =
      (bytes, read, stops_at (lines_unmarked (whole_lines bytes)) why w (comes (whole_lines bytes) (opening chunk limits) text (record { world = w; stop = Some why }) a))

  from_start : (cut : Option (Vec ℕ Global)) (new : LoaderState) → ReadsWhole GoesOn has_stopped (Ok cut) start new left left' → Told (loaded_of new.world new.stop cut)
  from_start None new (inl (bytes, run, end, open_then, whole, same)) = at_end bytes run.text new.stop new.world None run.read end (whole, same) run.answered
  from_start None new (inr (bytes, run, over)) = over_at bytes run.text new.stop new.world None run.read over run.answered
  from_start (Some front) new (bytes, run, end, open_then, cut, is) = at_end bytes run.text new.stop new.world (Some front) run.read end (cut, is) run.answered

  -- ---- the number of a line
  few_by : (ls : List (List ℕ)) (stop : Option Undone) (w : World) → Comes (opening chunk limits) ls stop w → length w.journal ≤ limits.changes
  few_by ls None w c = Loads-few limits [] ls w.journal (omega arith) c.0
  few_by ls (Some why) w s = Loads-few limits [] s.front w.journal (omega arith) s.loads

  few_of : (ls : List (List ℕ)) (text : List ℕ) (new : LoaderState) → AnswersAll GoesOn start ls text new → length new.world.journal ≤ limits.changes
  few_of ls text new a = few_by (lines_unmarked ls) new.stop new.world (comes ls (opening chunk limits) text new a)

  few : (cut : Option (Vec ℕ Global)) (new : LoaderState) → ReadsWhole GoesOn has_stopped (Ok cut) start new left left' → length new.world.journal ≤ limits.changes
  few None new (inl (bytes, run, end, open_then, whole, same)) = few_of (whole_lines bytes) run.text new run.answered
  few None new (inr (bytes, run, over)) = few_of (whole_lines bytes) run.text new run.answered
  few (Some front) new (bytes, run, end, open_then, cut, is) = few_of (whole_lines bytes) run.text new run.answered

  -- ---- the same from a loader that is at the opening world
  module _ (cut : Option (Vec ℕ Global)) (old new : LoaderState) (here : old.world ≡ opening chunk limits) (none : old.stop ≡ None) (ends : ReadsWhole GoesOn has_stopped (Ok cut) old new left left') where
    from_opening : ReadsWhole GoesOn has_stopped (Ok cut) start new left left'
    from_opening =
        let From : World → Option Undone → Type 0 = λ (w : World) (stop : Option Undone). ReadsWhole GoesOn has_stopped (Ok cut) (record { world = w; stop = stop }) new left left' in
        subst (λ (stop : Option Undone). From (opening chunk limits) stop) none (subst (λ (w : World). From w old.stop) here ends)

    pub number_is_small : length new.world.journal + 1 < 2 ^ 64
    number_is_small = omega (arith, limits.changes_within, few cut new from_opening)

    pub few_entries : length new.world.journal ≤ 1000000000
    few_entries = omega (arith, limits.changes_within, few cut new from_opening)

    pub ends_so : EndsLoadWhole chunk limits (loaded_of new.world new.stop cut) left left'
    ends_so = from_start cut new from_opening

-- ---- where a last line that was cut off is refused
module _ (chunk : ℕ) (limits : Limits) (left left' : Option (List ℕ)) where
  pub cut_off : (loaded : Loaded) (front : Vec ℕ Global) (number : ℕ) → loaded.cut ≡ Some front → number ≡ length loaded.system.journal + 1 → EndsLoadWhole chunk limits (Ok loaded) left left' → EndsLoad chunk limits (Err (faults.CutOff number)) left left'
  cut_off loaded front number is count (bytes, read, end, cut, loads, same) =
      let kept : IsCutOf bytes (Some front) = subst (IsCutOf bytes) is cut in
      let entered = Loads-count limits [] (lines_unmarked (whole_lines bytes)) loaded.system.journal loads in (
        bytes,
        read,
        end,
        record {
          journal = loaded.system.journal;
          cut_off = kept.0;
          number_is = omega (arith, count, entered, lines_unmarked-length (whole_lines bytes));
          loads = loads;
        },
      )

-- what a loader gives has no more entries than it has come to
pub few_loaded : (w : World) (stop : Option Undone) (cut : Option (Vec ℕ Global)) → length w.journal ≤ 1000000000 → IfOk (loaded_of w stop cut) (λ (loaded : Loaded). length loaded.system.journal ≤ 1000000000)
few_loaded w None cut few = few
few_loaded w (Some why) cut few = tt
