-- Commands beside the language.
use Rattle.std.proofs.Common.{◌≡◌, ℕ, Bool, true, false, ◌||◌, List, [], ◌∷◌, Option, Some, None, cond, refl, ap, sym, ◌∙◌}
use Rattle.std.specs.List.{find, list_any}
use Rattle.std.specs.Option.{is_some}
use Rattle.messages_core.specs.declared.server.Status.{Status}
use Rattle.messages_core.specs.declared.server.Status.TheVariants as statuses
use Rattle.utility_core.specs.declared.command.Command.{Command}
use Rattle.utility_core.specs.declared.command.Command.TheVariants as commands
use Rattle.conversation_core.specs.Telling.{is_plain_command}

-- any other is carried out by nothing but its answer
pub plain : (block : Status) (command : Command) → (command ≡ commands.UnknownSetting → ⊥) → (command ≡ commands.Unserved → ⊥)
    → ((token : ℕ) → command ≡ commands.Deallocate token → ⊥) → (command ≡ commands.DeallocateUnderscored → ⊥) → (command ≡ commands.Commit → ⊥) → is_plain_command block command ≡ true
plain block commands.Begin setting served named underscored commit = refl
plain block commands.Commit setting served named underscored commit = absurd (commit refl)
plain block commands.Rollback setting served named underscored commit = refl
plain block commands.Set setting served named underscored commit = refl
plain block commands.UnknownSetting setting served named underscored commit = absurd (setting refl)
plain block (commands.Show s) setting served named underscored commit = refl
plain block (commands.Deallocate token) setting served named underscored commit = absurd (named token refl)
plain block commands.DeallocateUnderscored setting served named underscored commit = absurd (underscored refl)
plain block commands.DeallocateAll setting served named underscored commit = refl
plain block commands.DiscardAll setting served named underscored commit = refl
plain block commands.ResetAll setting served named underscored commit = refl
plain block commands.CloseAll setting served named underscored commit = refl
plain block commands.UnlistenAll setting served named underscored commit = refl
plain block commands.UnlockAll setting served named underscored commit = refl
plain block commands.Version setting served named underscored commit = refl
plain block commands.CurrentSchema setting served named underscored commit = refl
plain block commands.One setting served named underscored commit = refl
plain block commands.Unserved setting served named underscored commit = absurd (served refl)

-- COMMIT is, where the block has not failed
pub plain_commit : (block : Status) → (block ≡ statuses.InFailedTransaction → ⊥) → is_plain_command block commands.Commit ≡ true
plain_commit statuses.Idle other = refl
plain_commit statuses.InTransaction other = refl
plain_commit statuses.InFailedTransaction other = absurd (other refl)

module _ {A : Type 0} (p : A → Bool) where
  any_found : (xs : List A) → list_any p xs ≡ is_some (find p xs)
  any_found [] = refl
  any_found (x ∷ xs) = pick (p x) (any_found xs)
    where
      pick : (b : Bool) → list_any p xs ≡ is_some (find p xs) → (b || list_any p xs) ≡ is_some (cond b (Some x) (find p xs))
      pick true e = refl
      pick false e = e

  -- what one passes is found
  pub found : (xs : List A) → list_any p xs ≡ true → find p xs ≡ None → ⊥
  found xs any none = let e : false ≡ true = sym (ap is_some none) ∙ (sym (any_found xs) ∙ any) in cc

  pub not_found : (xs : List A) → list_any p xs ≡ false → find p xs ≡ None
  not_found xs any = none_left (find p xs) (sym (any_found xs) ∙ any)
    where
      none_left : (o : Option A) → is_some o ≡ false → o ≡ None
      none_left None e = refl
      none_left (Some x) e = let f : true ≡ false = e in cc
