use Rattle.std.proofs.Common.{◌≡◌, ◌-◌, Bool, ◌||◌, take, drop, length, ap, sym, ◌∙◌, arith}
use Rattle.std.specs.List.{list_any}
use Rattle.std.proofs.lemmas.List.{take_all, length-drop}
use Rattle.grants_core.specs.Content as rights
use Rattle.grants_core.specs.declared.grant.Grant.{Grant}
use Rattle.capture_core.proofs.FingerprintLemmas.{any_of_parts}
use Rattle.capture_core.proofs.granted.Grants.gives.Goals as goal

pub returns-then-any_fingerprinted : goal.returns-then-any_fingerprinted
returns-then-any_fingerprinted c =
    let fingerprints = c.self.inside.fingerprints.items in
    let grants = c.self.inside.grants.items in
    let p : Grant → Bool = rights.gives c.args.user.now c.args.atom.now in
    let found : c.any_fingerprinted.result ≡ list_any p (take (length fingerprints) grants) =
    c.any_fingerprinted.ensures ∙ ap (λ l. list_any p (take (length l) c.deref-2.result.now)) c.deref.ensures.value ∙ ap (λ l. list_any p (take (length fingerprints) l)) c.deref-2.ensures.value in
    c.if-any_fingerprinted.true
    ∙ ap (λ b. b || list_any p (drop (length fingerprints) grants)) (sym c.if-any_fingerprinted.true ∙ found)
    ∙ sym (any_of_parts p (length fingerprints) grants)
    ∙ ap (list_any p) c.self.view_is

pub returns-else-any_fingerprinted : goal.returns-else-any_fingerprinted
returns-else-any_fingerprinted c =
    let fingerprints = c.self.inside.fingerprints.items in
    let grants = c.self.inside.grants.items in
    let p : Grant → Bool = rights.gives c.args.user.now c.args.atom.now in
    let found : c.any_fingerprinted.result ≡ list_any p (take (length fingerprints) grants) =
    c.any_fingerprinted.ensures ∙ ap (λ l. list_any p (take (length l) c.deref-2.result.now)) c.deref.ensures.value ∙ ap (λ l. list_any p (take (length fingerprints) l)) c.deref-2.ensures.value in
    let count : c.len.result ≡ length fingerprints = c.len.ensures ∙ sym c.deref.ensures.len ∙ ap length c.deref.ensures.value in
    let others : c.any_gives.result ≡ list_any p (drop (length fingerprints) grants) =
    c.any_gives.ensures
    ∙ ap (list_any p) (take_all (length c.deref-else-any_fingerprinted.result.now - c.len.result) (drop c.len.result c.deref-else-any_fingerprinted.result.now) (omega (arith, length-drop c.len.result c.deref-else-any_fingerprinted.result.now)))
    ∙ ap (λ n. list_any p (drop n c.deref-else-any_fingerprinted.result.now)) count ∙ ap (λ l. list_any p (drop (length fingerprints) l)) c.deref-else-any_fingerprinted.ensures.value in
    others
    ∙ ap (λ b. b || list_any p (drop (length fingerprints) grants)) (sym c.if-any_fingerprinted.false ∙ found)
    ∙ sym (any_of_parts p (length fingerprints) grants)
    ∙ ap (list_any p) c.self.view_is
