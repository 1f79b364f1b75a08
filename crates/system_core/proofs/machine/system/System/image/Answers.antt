use Rattle.std.proofs.Common.{◌≡◌, Some, None, Option, option_map, sym, ap, ◌∙◌, subst, rules}
use Rattle.std.specs.Arc.{arc_value}
use Rattle.std.specs.Option.{option_copied}
use Rattle.capture_core.specs.declared.image.Image.{Image}
use Rattle.catalogue_core.specs.Kept.{newest}
use Rattle.system_core.specs.World.{World}
use Rattle.system_core.specs.Imaging.{IsKeptImage}
use Rattle.system_core.proofs.Imaging.{newest-of, newest-number, point-newest}
use Rattle.system_core.proofs.machine.system.System.image.Goals as goal

pub returns-in_ok-clone-in-Some : goal.returns-in_ok-clone-in-Some
returns-in_ok-clone-in-Some c =
    let s = c.self.inside in
    let image : Image = arc_value c.in-Some.image.now in
    let found : newest s.catalogue c.args.number ≡ Some image = sym c.find.ensures ∙ ap (λ o. option_map arc_value (option_copied o)) c.in-Some.is in
    let same : image ≡ arc_value c.in_ok-clone-in-Some.field-0 = search rules in
    subst (λ (i : Image). IsKeptImage c.args.self.now c.args.number (Some i)) same
    (subst (λ (w : World). IsKeptImage w c.args.number (Some image)) c.self.view_is
    (record {
      of = newest-of s.ledger.journal s.catalogue c.args.number image c.self.invariant.keeps.images_of found;
      number_is = newest-number s.catalogue c.args.number image found;
      kept = sym (point-newest s.catalogue c.args.number ∙ ap (λ (o : Option Image). option_map (λ i. i.point) o) found);
    }))

pub returns-in-None : goal.returns-in-None
returns-in-None c =
    let s = c.self.inside in
    let none : newest s.catalogue c.args.number ≡ None = sym c.find.ensures ∙ ap (λ o. option_map arc_value (option_copied o)) c.in-None.is in
    subst (λ (w : World). IsKeptImage w c.args.number None) c.self.view_is
    (record {
      of = tt;
      number_is = tt;
      kept = sym (point-newest s.catalogue c.args.number ∙ ap (λ (o : Option Image). option_map (λ i. i.point) o) none);
    })
