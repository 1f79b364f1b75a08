-- What is written of a line later.
use Rattle.std.proofs.Common.{◌≡◌, ◌≤◌, ℕ, true, false, List, ◌++◌, Option, Some, None, length, take, drop, refl, sym, ap, subst, ◌∙◌}
use Rattle.std.specs.Prelude.{is_some, option_map, IfSome}
use Rattle.std.specs.Io.KnownBytes.{Appends, Keeps}
use Rattle.std.proofs.KnownBytes.{Appends-trans, Appends-kept}
use Rattle.std.proofs.lemmas.List.{append_assoc, take-append-drop}
use Rattle.system_core.specs.declared.machine.event.Entry.{Entry}
use Rattle.journal_core.specs.Text.{entry_text}
use Rattle.journal_core.specs.Keeping.{LineKeeperState, line_keeper_state, KeepsLine, OwesLine}

pub within-owed : (owed : Option (List ℕ)) (slice : List ℕ) (count : ℕ) → IfSome owed (λ rest. slice ≡ rest) → count ≤ length slice → IfSome owed (λ rest. count ≤ length rest)
within-owed None slice count h w = tt
within-owed (Some rest) slice count h w = subst (λ (t : List ℕ). count ≤ length t) h w

pub is_some-left : (owed new : Option (List ℕ)) (count : ℕ) → new ≡ option_map (drop count) owed → is_some owed ≡ true → is_some new ≡ true
is_some-left None new count e h = cc
is_some-left (Some rest) new count e h = ap is_some e

pub none-owed : (owed : Option (List ℕ)) → owed ≡ None → is_some owed ≡ false
none-owed owed e = ap is_some e

pub none_is : (owed : Option (List ℕ)) → is_some owed ≡ false → owed ≡ None
none_is None h = refl
none_is (Some rest) h = cc

slice_is : (owed : Option (List ℕ)) (slice rest : List ℕ) → owed ≡ Some rest → IfSome owed (λ r. slice ≡ r) → slice ≡ rest
slice_is owed slice rest e h = subst (λ (o : Option (List ℕ)). IfSome o (λ r. slice ≡ r)) e h

module _ (start : LineKeeperState) (e : Entry) (old old_handed_on resumed new handed_on owed owed' : Option (List ℕ)) (slice : List ℕ)
    (o : OwesLine start e (line_keeper_state old old_handed_on owed)) (s : IfSome owed (λ rest. slice ≡ rest)) (same : Keeps old resumed) where
  -- the rest of a line was written
  pub rest_kept : Appends resumed new slice → handed_on ≡ new → owed' ≡ None → KeepsLine start e (line_keeper_state new handed_on owed')
  rest_kept wrote flushed none =
      let both = Appends-trans start.taken resumed new o.part slice (Appends-kept start.taken old resumed o.part o.wrote same) wrote in
      let whole : o.part ++ slice ≡ entry_text e = ap (λ t. o.part ++ t) (slice_is owed slice o.rest o.after s) ∙ sym o.line in
      record { read = o.read; before = o.before; line = subst (λ (t : List ℕ). Appends start.taken new t) whole both; handed_on_all = flushed; after = none }

  -- a front of the rest was written
  pub rest_owed : (count : ℕ) → Appends resumed new (take count slice) → owed' ≡ option_map (drop count) owed → OwesLine start e (line_keeper_state new handed_on owed')
  rest_owed count wrote left =
      let rest : slice ≡ o.rest = slice_is owed slice o.rest o.after s in
      let both = Appends-trans start.taken resumed new o.part (take count slice) (Appends-kept start.taken old resumed o.part o.wrote same) wrote in record {
        part = o.part ++ take count slice;
        rest = drop count slice;
        read = o.read;
        before = o.before;
        line = o.line ∙ ap (λ t. o.part ++ t) (sym rest ∙ sym (take-append-drop count slice)) ∙ sym (append_assoc o.part (take count slice) (drop count slice));
        wrote = both;
        after = left ∙ ap (option_map (drop count)) o.after ∙ ap (λ (t : List ℕ). Some (drop count t)) (sym rest);
      }
