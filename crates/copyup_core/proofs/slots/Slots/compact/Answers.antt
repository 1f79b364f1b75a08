use Rattle.std.proofs.Common.{◌≡◌, [], length, drop, sym, ◌∙◌, arith}
use Rattle.copyup_core.specs.Slot.{is_live}
use Rattle.copyup_core.specs.Parallel.{slots_of}
use Rattle.copyup_core.proofs.Rising.{contents-filter, SlotsRise-filter}
use Rattle.copyup_core.proofs.Parallel.{free-alone, contents-unkept, rises-unkept}
use Rattle.copyup_core.proofs.Gathering.{compacted}
use Rattle.copyup_core.proofs.slots.Slots.compact.Goals as goal

pub returns-then-len-live-clause-rises : goal.returns-then-len-live-clause-rises
returns-then-len-live-clause-rises g c =
    let s = c.self.inside in
    let es = s.entries.items in
    let ss = s.states.items in
    let gathered = rw (c.as_mut_slice.ensures.value, c.as_mut_slice-then-len-live.ensures.value) at c.gather-len.ensures.live in
    let a : length c.gather-len.new.entries ≡ s.entries.len = omega (arith, c.gather-len.ensures.entries_long, c.as_mut_slice.ensures.len) in
    let b : length c.gather-len.new.states ≡ s.states.len = omega (arith, c.gather-len.ensures.states_long, c.as_mut_slice-then-len-live.ensures.len) in
    let all = compacted es c.gather-len.new.entries (drop (length c.gather-len.new.entries) es) ss c.gather-len.new.states (drop (length c.gather-len.new.states) ss) c.gather-len.result s.entries.len s.states.len a b gathered in
    rw (← c.self.view_is, c.truncate.ensures.items, c.truncate-then-len-live.ensures.items, c.clear.ensures.items, all) (λ low high r. SlotsRise-filter is_live low high (slots_of es ss []) (rises-unkept low high es ss s.kept.items r))

pub returns-then-len-live-clause-contents : goal.returns-then-len-live-clause-contents
returns-then-len-live-clause-contents g c =
    let s = c.self.inside in
    let es = s.entries.items in
    let ss = s.states.items in
    let gathered = rw (c.as_mut_slice.ensures.value, c.as_mut_slice-then-len-live.ensures.value) at c.gather-len.ensures.live in
    let a : length c.gather-len.new.entries ≡ s.entries.len = omega (arith, c.gather-len.ensures.entries_long, c.as_mut_slice.ensures.len) in
    let b : length c.gather-len.new.states ≡ s.states.len = omega (arith, c.gather-len.ensures.states_long, c.as_mut_slice-then-len-live.ensures.len) in
    let all = compacted es c.gather-len.new.entries (drop (length c.gather-len.new.entries) es) ss c.gather-len.new.states (drop (length c.gather-len.new.states) ss) c.gather-len.result s.entries.len s.states.len a b gathered in
    rw (← c.self.view_is, c.truncate.ensures.items, c.truncate-then-len-live.ensures.items, c.clear.ensures.items, all) (contents-filter (slots_of es ss []) ∙ sym (contents-unkept es ss s.kept.items))

pub returns-then-len-live-clause-free : goal.returns-then-len-live-clause-free
returns-then-len-live-clause-free g c =
    let s = c.self.inside in
    let es = s.entries.items in
    let ss = s.states.items in
    let gathered = rw (c.as_mut_slice.ensures.value, c.as_mut_slice-then-len-live.ensures.value) at c.gather-len.ensures.live in
    let a : length c.gather-len.new.entries ≡ s.entries.len = omega (arith, c.gather-len.ensures.entries_long, c.as_mut_slice.ensures.len) in
    let b : length c.gather-len.new.states ≡ s.states.len = omega (arith, c.gather-len.ensures.states_long, c.as_mut_slice-then-len-live.ensures.len) in
    let all = compacted es c.gather-len.new.entries (drop (length c.gather-len.new.entries) es) ss c.gather-len.new.states (drop (length c.gather-len.new.states) ss) c.gather-len.result s.entries.len s.states.len a b gathered in
    rw (← c.self.view_is, c.truncate.ensures.items, c.truncate-then-len-live.ensures.items, c.clear.ensures.items, all) (λ _ k d lt. free-alone es ss k d lt)
