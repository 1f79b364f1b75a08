use Rattle.std.proofs.Common.{◌≡◌, ◌≤◌, ◌++◌, [], ◌∷◌, List, Option, Some, None, cond, length, get_or, slice_get, sym, ap, ◌∙◌, subst}
use Rattle.std.proofs.lemmas.Bool.{cond-true, cond-false}
use Rattle.std.proofs.lemmas.Option.{get_or_from_slice_get, slice_get-get_or}
use Rattle.indexmap.specs.IndexMap.{get}
use Rattle.grants_core.specs.declared.grant.Grant.{Grant}
use Rattle.grants_core.specs.Keys.{same_holding, needed_by}
use Rattle.explain_core.specs.declared.life.Life.{Life}
use Rattle.explain_core.specs.declared.supports.Support.{Support}
use Rattle.explain_core.specs.Ends.{next_ends}
use Rattle.explain_core.specs.Supports.{AreLongest, AreEarly}
use Rattle.explain_core.specs.Reading.{AreEarlier}
use Rattle.explain_core.proofs.Supported.{longest-after, earlier-more, place_of, add-read}
use Rattle.explain_core.proofs.history.add_life.Goals as goal
use Rattle.explain_core.proofs.history.add_life.Goals.{then-is_owners, else-is_owners, in-Some, in-None}

pub returns-clause-longest : goal.returns-clause-longest
returns-clause-longest c =
    let Longest : List Life → Type 0 = λ ls. AreLongest ls c.note_before.new.self in
    subst Longest (sym {A = List Life} c.in_ok-push.ensures.items)
    (longest-after c.args.lives.now.items c.life_of.result c.note_before.new.self (subst Longest c.as_slice.ensures.value c.in_ok-note_before.ensures.longest))

pub returns-clause-earlier : goal.returns-clause-earlier
returns-clause-earlier c = λ changes read.
    let lives : List Life = c.args.lives.now.items in
    let made = c.args.made.now.grants.items in
    let h : Grant = c.index-grant.result.now in
    let count : c.len.result ≡ length lives = c.len.ensures ∙ sym c.as_slice.ensures.len ∙ ap length c.as_slice.ensures.value in
    let at : slice_get made (length lives) ≡ Some h =
    slice_get-get_or made (length lives) h c.requires.one_more ∙ ap Some (sym (c.index-grant.ensures ∙ ap (λ n. get_or made n h) count)) in
    let Within : List Life → Type 0 = λ ls. c.note_before.new.self.noted ≤ length ls in
    let Early : List Life → Type 0 = λ ls. AreEarly ls c.note_before.new.self h.moment in
    let Earlier : List Life → Type 0 = λ ls. AreEarlier c.args.made.now ls c.note_before.new.self in
    subst Earlier (sym {A = List Life} c.in_ok-push.ensures.items)
    (earlier-more changes c.args.made.now lives c.life_of.result c.note_before.new.self h read.grants at
    (subst Within c.as_slice.ensures.value c.in_ok-note_before.ensures.longest.within)
    (subst Early c.as_slice.ensures.value c.in_ok-note_before.ensures.early))

pub returns-clause-reads : goal.returns-clause-reads
returns-clause-reads c = λ changes g at ends read.
    let lives : List Life = c.args.lives.now.items in
    let made = c.args.made.now.grants.items in
    let h : Grant = c.index-grant.result.now in
    let found : Option Support = get same_holding c.note_before.new.self.longest (needed_by h) in
    let count : c.len.result ≡ length lives = c.len.ensures ∙ sym c.as_slice.ensures.len ∙ ap length c.as_slice.ensures.value in
    let same : h ≡ g =
    c.index-grant.ensures ∙ ap (λ n. get_or made n h) count ∙ get_or_from_slice_get made (length lives) g h at in
    let at_h : slice_get made (length lives) ≡ Some h = at ∙ ap Some (sym same) in
    let Longest : List Life → Type 0 = λ ls. AreLongest ls c.note_before.new.self in
    let Early : List Life → Type 0 = λ ls. AreEarly ls c.note_before.new.self h.moment in
    let Late : List Life → Type 0 = λ ls. (life : Life) → slice_get ls c.note_before.new.self.noted ≡ Some life → h.moment.0 ≤ life.grant.moment.0 in
    let chosen : c.if-is_owners.support ≡ cond c.owns-is_owners.result None found =
    elim c.if-is_owners.branch [
      | then-is_owners w ↦ w.support-is ∙ sym (cond-true c.owns-is_owners.result None found w.if-is_owners.true)
      | else-is_owners w ↦ w.support-is ∙ w.of-support.ensures ∙ sym (cond-false c.owns-is_owners.result None found w.if-is_owners.false)
    ] in
    let place : c.match-support.push ≡ place_of c.if-is_owners.support =
    elim c.match-support.branch [
      | in-Some w ↦ w.push-is ∙ sym (ap place_of w.in-Some.is)
      | in-None w ↦ w.push-is ∙ sym (ap place_of w.in-None.is)
    ] in
    add-read changes c.args.made.now lives c.args.places.now.items c.note_before.new.self read h at_h
    (subst Longest c.as_slice.ensures.value c.in_ok-note_before.ensures.longest)
    (subst Early c.as_slice.ensures.value c.in_ok-note_before.ensures.early)
    (subst Late c.as_slice.ensures.value c.in_ok-note_before.ensures.all)
    c.owns-is_owners.result c.owns-is_owners.ensures c.if-is_owners.support chosen c.args.ends
    (ends ∙ ap (next_ends changes) (sym same))
    c.push.new.self.items c.push-2.new.self.items
    (c.in_ok-push.ensures.items ∙ ap (λ l. lives ++ l ∷ []) c.life_of.ensures)
    (c.in_ok-push-2.ensures.items ∙ ap (λ p. c.args.places.now.items ++ p ∷ []) place)
