use Rattle.std.proofs.Common.{◌≡◌, ◌-◌, Bool, ◌||◌, take, drop, length, ap, sym, ◌∙◌, arith}
use Rattle.std.specs.List.{list_any}
use Rattle.std.proofs.lemmas.List.{take_all, length-drop}
use Rattle.base_core.specs.Privileges.{to_select}
use Rattle.base_core.specs.declared.value.Column.{Column}
use Rattle.grants_core.specs.Content as rights
use Rattle.capture_core.specs.Image.{gives_one}
use Rattle.grants_core.specs.declared.grant.Grant.{Grant}
use Rattle.capture_core.proofs.FingerprintLemmas.{any_of_parts, any_turned}
use Rattle.capture_core.proofs.granted.Grants.give_one.Goals as goal

pub returns-then-any_fingerprinted_one : goal.returns-then-any_fingerprinted_one
returns-then-any_fingerprinted_one c =
    let fingerprints = c.self.inside.fingerprints.items in
    let grants = c.self.inside.grants.items in
    let p : Grant → Bool = gives_one c.args.user.now c.args.table c.args.columns.now in
    let found : c.any_fingerprinted_one.result ≡ list_any p (take (length fingerprints) grants) =
    c.any_fingerprinted_one.ensures ∙ ap (λ l. list_any p (take (length l) c.deref-2.result.now)) c.deref.ensures.value ∙ ap (λ l. list_any p (take (length fingerprints) l)) c.deref-2.ensures.value in
    c.if-any_fingerprinted_one.true
    ∙ ap (λ b. b || list_any p (drop (length fingerprints) grants)) (sym c.if-any_fingerprinted_one.true ∙ found)
    ∙ sym (any_of_parts p (length fingerprints) grants)
    ∙ ap (list_any p) c.self.view_is
    ∙ any_turned (λ (g : Grant) (column : Column). rights.gives c.args.user.now (to_select c.args.table column.name) g) c.args.self.now c.args.columns.now

pub returns-else-any_fingerprinted_one : goal.returns-else-any_fingerprinted_one
returns-else-any_fingerprinted_one c =
    let fingerprints = c.self.inside.fingerprints.items in
    let grants = c.self.inside.grants.items in
    let p : Grant → Bool = gives_one c.args.user.now c.args.table c.args.columns.now in
    let found : c.any_fingerprinted_one.result ≡ list_any p (take (length fingerprints) grants) =
    c.any_fingerprinted_one.ensures ∙ ap (λ l. list_any p (take (length l) c.deref-2.result.now)) c.deref.ensures.value ∙ ap (λ l. list_any p (take (length fingerprints) l)) c.deref-2.ensures.value in
    let count : c.len.result ≡ length fingerprints = c.len.ensures ∙ sym c.deref.ensures.len ∙ ap length c.deref.ensures.value in
    let others : c.any_gives_one.result ≡ list_any p (drop (length fingerprints) grants) =
    c.any_gives_one.ensures
    ∙ ap (list_any p) (take_all (length c.deref-else-any_fingerprinted_one.result.now - c.len.result) (drop c.len.result c.deref-else-any_fingerprinted_one.result.now) (omega (arith, length-drop c.len.result c.deref-else-any_fingerprinted_one.result.now)))
    ∙ ap (λ n. list_any p (drop n c.deref-else-any_fingerprinted_one.result.now)) count ∙ ap (λ l. list_any p (drop (length fingerprints) l)) c.deref-else-any_fingerprinted_one.ensures.value in
    others
    ∙ ap (λ b. b || list_any p (drop (length fingerprints) grants)) (sym c.if-any_fingerprinted_one.false ∙ found)
    ∙ sym (any_of_parts p (length fingerprints) grants)
    ∙ ap (list_any p) c.self.view_is
    ∙ any_turned (λ (g : Grant) (column : Column). rights.gives c.args.user.now (to_select c.args.table column.name) g) c.args.self.now c.args.columns.now
