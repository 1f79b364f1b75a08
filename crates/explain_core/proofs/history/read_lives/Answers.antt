use Rattle.std.proofs.Common.{◌≡◌, ◌+◌, ◌<◌, List, length, get_or, map, sym, ap, ◌∙◌, subst, arith}
use Rattle.std.proofs.lemmas.List.{length-map}
use Rattle.grants_core.specs.declared.grant.Grant.{Grant}
use Rattle.grants_core.specs.declared.grant.Change.{Change}
use Rattle.explain_core.specs.declared.coming.Ends.{Ends}
use Rattle.explain_core.specs.declared.life.Life.{Life}
use Rattle.explain_core.specs.Ends.{next_ends}
use Rattle.explain_core.specs.Supports.{AreLongest}
use Rattle.explain_core.proofs.LongestLemmas.{longest-none}
use Rattle.explain_core.proofs.Whole.{read-none, earlier-none, found_at, ends-at, explains-read}
use Rattle.explain_core.proofs.history.read_lives.Goals as goal

pub loop-next-init : goal.loop-next-init
loop-next-init c =
    let P : List Life → Type 0 = λ ls. AreLongest ls c.new-supports.result in
    record {
      counted = ap length c.new-lives.ensures.items;
      read = read-none c.args.changes.now c.args.made.now c.new-lives.result.items c.new-places.result.items c.requires.lawful
          c.requires.owners c.requires.grants
          c.new-lives.ensures.items c.new-places.ensures.items;
      longest = subst P (sym c.new-lives.ensures.items) (longest-none c.new-supports.result c.new-supports.ensures.noted c.new-supports.ensures.longest);
      early = earlier-none c.args.made.now c.new-lives.result.items c.new-supports.result c.new-supports.ensures.noted;
    }

pub loop-next-preserved : goal.loop-next-preserved
loop-next-preserved c =
    let changes : List Change = c.args.changes.now in
    let made : List Grant = c.args.made.now.grants.items in
    let items : List Ends = c.deref-next-items.result.now in
    let are : items ≡ map (next_ends changes) made =
    c.deref-next-items.ensures.value ∙ c.in_ok-ends.ensures
    ∙ ap (map (next_ends changes)) c.deref.ensures.value in
    let count : length items ≡ length made = ap length are ∙ length-map made (next_ends changes) in
    let inside : length c.loop-next.lives.items < length made = let e = c.loop-next.invariant.counted in let t = c.loop-next-test.true in omega arith in
    let found = found_at made (length c.loop-next.lives.items) inside in
    let read = c.in-Ok.ensures.reads changes found.0 found.1
    (ap (λ k. get_or items k _) (sym c.loop-next.invariant.counted) ∙ ends-at changes made items (length c.loop-next.lives.items) found.0 _ are found.1)
    c.loop-next.invariant.read in
    record {
      counted = c.in-Ok.ensures.one ∙ ap (λ n. n + 1) c.loop-next.invariant.counted;
      read = read;
      longest = c.in-Ok.ensures.longest;
      early = c.in-Ok.ensures.earlier changes c.loop-next.invariant.read;
    }

pub returns : goal.returns
returns c =
    let changes : List Change = c.args.changes.now in
    let made : List Grant = c.args.made.now.grants.items in
    let items : List Ends = c.deref-next-items.result.now in
    let are : items ≡ map (next_ends changes) made =
    c.deref-next-items.ensures.value ∙ c.in_ok-ends.ensures
    ∙ ap (map (next_ends changes)) c.deref.ensures.value in
    let count : length items ≡ length made = ap length are ∙ length-map made (next_ends changes) in
    let e = c.loop-next.invariant.counted in
    let t = c.loop-next-test.false in
    explains-read changes c.args.made.now c.loop-next.lives.items c.loop-next.places.items c.loop-next.invariant.read (omega arith)
